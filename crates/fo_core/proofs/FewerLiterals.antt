-- Fewer literals and fewer variables make no query heavier.
use Rattle.std.proofs.Common.{◌≡◌, ℕ, ◌+◌, ◌≤◌, true, List, [], ◌∷◌, ◌++◌, length, map, refl, sym, ap, subst, ◌∙◌, append_assoc, arith}
use Rattle.std.specs.List.{All}
use Rattle.fo_core.specs.declared.signature.Sig.{Sig}
use Rattle.fo_core.specs.declared.signature.Symbol.{Symbol}
use Rattle.fo_core.specs.declared.formula.Formula.{Formula}
use Rattle.fo_core.specs.Literals.{IsLiteral, IsSubMultiset, cube_claim}
use Rattle.fo_core.specs.QueryWeight.{cut, signature_weight, query_weight, IsNoHeavier}
use Rattle.fo_core.specs.Skolems.{skolem, skolem_symbols_list, extended}
use Rattle.fo_core.specs.TermCounts.{term_counts}
use Rattle.fo_core.specs.Universal.{IsUniversal}
use Rattle.fo_core.specs.Weights.{nodes, claim_nodes}
use Rattle.fo_core.proofs.CubeClaims.{cube-skolems, skolems-append, cube-nodes, literals-nodes, literals-skolems, universal-skolems}
use Rattle.fo_core.proofs.GrowingCounts.{AtMost, added-append, term_counts-le}
use Rattle.fo_core.proofs.GrowingWeight.{signature-le, claims-le}
use Rattle.fo_core.proofs.SubMultisets.{length-le}

module _ (sig : Sig) (copies : ℕ) where
  -- the weight of claims whose Skolem functions are these
  weigh : List Formula → List Symbol → ℕ
  weigh fs more = let U = term_counts (extended sig more) copies in cut (claim_nodes U fs + signature_weight sig copies U)

  weigh-query : (fs : List Formula) →
      query_weight sig (record { copies = copies; claims = fs }) ≡ weigh fs (skolem_symbols_list true fs [])
  unfolding weigh
  weigh-query fs = refl

  cut-le : (a b c d e : ℕ) → a ≤ b → b ≤ c → d ≤ e → cut (a + d) ≤ cut (c + e)
  cut-le a b c d e p q r = omega arith

  weighed : (U V : List ℕ) (fs gs : List Formula) → AtMost U V →
      claim_nodes U fs ≤ claim_nodes U gs →
      cut (claim_nodes U fs + signature_weight sig copies U) ≤ cut (claim_nodes V gs + signature_weight sig copies V)
  weighed U V fs gs h le = cut-le (claim_nodes U fs) (claim_nodes U gs) (claim_nodes V gs) _ _ le (claims-le U V h gs) (signature-le U V h sig copies)

  -- fewer constants among the Skolem functions, and fewer nodes however many terms there are
  pub weight-le : (front back : List Symbol) (ts ss : List ℕ) (fs gs : List Formula) →
      IsSubMultiset ts ss → skolem_symbols_list true fs [] ≡ front ++ (map (skolem []) ts ++ back) →
      skolem_symbols_list true gs [] ≡ front ++ (map (skolem []) ss ++ back) →
      ((U : List ℕ) → claim_nodes U fs ≤ claim_nodes U gs) → query_weight sig (record { copies = copies; claims = fs }) ≤ query_weight sig (record { copies = copies; claims = gs })
  unfolding weigh
  weight-le front back ts ss fs gs fewer less more few =
      let U = term_counts (extended sig (front ++ (map (skolem []) ts ++ back))) copies in
      let V = term_counts (extended sig (front ++ (map (skolem []) ss ++ back))) copies in
      let le : weigh fs (front ++ (map (skolem []) ts ++ back)) ≤ weigh gs (front ++ (map (skolem []) ss ++ back)) = weighed U V fs gs (term_counts-le sig copies front back ts ss fewer) (few U) in
      subst (λ n. n ≤ query_weight sig (record { copies = copies; claims = gs })) (sym (weigh-query fs ∙ ap (weigh fs) less))
      (subst (λ n. weigh fs (front ++ (map (skolem []) ts ++ back)) ≤ n) (sym (weigh-query gs ∙ ap (weigh gs) more)) le)

module _ (before after : List Formula) where
  abbrev with_claim : Formula → List Formula
  with_claim f = before ++ f ∷ after

  claim-nodes : (U : List ℕ) (f : Formula) →
      claim_nodes U (with_claim f) ≡ claim_nodes U before + (nodes U true f [] + claim_nodes U after)
  claim-nodes U f = added-append (λ f. nodes U true f []) before (f ∷ after)

  -- the Skolem functions of the claims before a cube, its constants, and those of what follows them
  module _ (fs : List Formula) where
    front : List Symbol
    front = skolem_symbols_list true before []

    back : List Symbol
    back = skolem_symbols_list true fs [] ++ skolem_symbols_list true after []

    claim-skolems : (ss : List ℕ) →
        skolem_symbols_list true (with_claim (cube_claim ss fs)) [] ≡ front ++ (map (skolem []) ss ++ back)
    unfolding front back
    claim-skolems ss =
        skolems-append before (cube_claim ss fs ∷ after)
        ∙ ap (λ xs. front ++ (xs ++ skolem_symbols_list true after [])) (cube-skolems ss fs)
        ∙ ap (λ xs. front ++ xs)
        (append_assoc (map (skolem []) ss) (skolem_symbols_list true fs []) (skolem_symbols_list true after []))

  same-back : (fs gs : List Formula) →
      skolem_symbols_list true gs [] ≡ skolem_symbols_list true fs [] → back gs ≡ back fs
  unfolding back
  same-back fs gs same = ap (λ xs. xs ++ skolem_symbols_list true after []) same

  same-front : (fs gs : List Formula) → front gs ≡ front fs
  unfolding front
  same-front fs gs = refl

module _ (ss ts : List ℕ) (fs gs : List Formula) (fewer : IsSubMultiset ts ss) where
  cube-nodes-le : (U : List ℕ) → claim_nodes U gs ≤ claim_nodes U fs →
      nodes U true (cube_claim ts gs) [] ≤ nodes U true (cube_claim ss fs) []
  cube-nodes-le U less = omega (arith, cube-nodes U ts gs, cube-nodes U ss fs, length-le ts ss fewer)

  -- where the formulas that are left out have no Skolem functions
  pub cube-le : skolem_symbols_list true gs [] ≡ skolem_symbols_list true fs [] →
      ((U : List ℕ) → claim_nodes U gs ≤ claim_nodes U fs) →
      IsNoHeavier (cube_claim ts gs) (cube_claim ss fs)
  cube-le same less = λ sig copies before after.
      weight-le sig copies (front before after fs) (back before after fs) ts ss
      (with_claim before after (cube_claim ts gs)) (with_claim before after (cube_claim ss fs)) fewer
      (claim-skolems before after gs ts
      ∙ ap (λ xs. xs ++ (map (skolem []) ts ++ back before after gs)) (same-front before after fs gs)
      ∙ ap (λ xs. front before after fs ++ (map (skolem []) ts ++ xs)) (same-back before after fs gs same))
      (claim-skolems before after fs ss)
      (λ U. omega (
        arith,
        claim-nodes before after U (cube_claim ts gs),
        claim-nodes before after U (cube_claim ss fs),
        cube-nodes-le U (less U),
      ))

pub fewer_literals : (ss ts : List ℕ) (fs gs : List Formula) →
    IsSubMultiset ts ss → All IsLiteral fs → All IsLiteral gs → length gs ≤ length fs →
    IsNoHeavier (cube_claim ts gs) (cube_claim ss fs)
fewer_literals ss ts fs gs fewer all others less =
    cube-le ss ts fs gs fewer (literals-skolems gs others ∙ sym (literals-skolems fs all))
    (λ U. omega (arith, literals-nodes U gs others, literals-nodes U fs all))

pub fewer_formulas : (ss ts : List ℕ) (front part back : List Formula) →
    IsSubMultiset ts ss → All (IsUniversal true) part →
    IsNoHeavier (cube_claim ts (front ++ back)) (cube_claim ss (front ++ (part ++ back)))
fewer_formulas ss ts front part back fewer none =
    cube-le ss ts (front ++ (part ++ back)) (front ++ back) fewer same
    (λ U. omega (
      arith,
      added-append (λ f. nodes U true f []) front back,
      added-append (λ f. nodes U true f []) front (part ++ back),
      added-append (λ f. nodes U true f []) part back,
    ))
  where
    without_part : skolem_symbols_list true (part ++ back) [] ≡ skolem_symbols_list true back []
    without_part =
        skolems-append part back ∙ ap (λ xs. xs ++ skolem_symbols_list true back []) (universal-skolems part none)

    same : skolem_symbols_list true (front ++ back) [] ≡ skolem_symbols_list true (front ++ (part ++ back)) []
    same =
        skolems-append front back
        ∙ ap (λ xs. skolem_symbols_list true front [] ++ xs) (sym without_part)
        ∙ sym (skolems-append front (part ++ back))
