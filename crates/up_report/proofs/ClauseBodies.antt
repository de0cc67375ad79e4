-- All denials of a clause are read exactly.
use Rattle.std.proofs.Common.{◌≡◌, ℕ, ◌+◌, ◌^◌, ◌<◌, inl, inr, Bool, true, false, cond, List, [], ◌∷◌, ◌++◌, length, map, flat_map, codes, Ok, refl, sym, ap, subst, ◌∙◌, append_assoc, length-append, arith}
use Rattle.std.specs.Prelude.{⊤}
use Rattle.std.specs.List.{AllByRecursion}
use Rattle.std.proofs.lemmas.List.{append-nil}
use Rattle.fo_core.specs.declared.signature.Sig.{Sig}
use Rattle.fo_core.specs.declared.names.Names.{Names}
use Rattle.fo_text.specs.Reading.{Read, choose}
use Rattle.fo_text.proofs.Exact.{Exact, exact_done, exact_map, exact_then}
use Rattle.fo_text.proofs.Choices.{Among, exact_choose}
use Rattle.up_diagram.specs.declared.cube.Flat.{Flat}
use Rattle.up_diagram.specs.Cubes.{IsFlat}
use Rattle.up_report.specs.declared.clause_heads.Head.{Head}
use Rattle.up_report.specs.declared.clause_heads.Head.TheVariants.{Forall, Nothing, Equal, Applied}
use Rattle.up_report.specs.ClauseTexts.{CanName, denial_text, denials_text}
use Rattle.up_report.specs.ClauseReading.{heads, head_text, denied_at, denial_at, denials_after, denials_from, body_from, body_at, chain}
use Rattle.up_report.proofs.ClauseHeads.{IsDenialHead, body_good, heads_apart, from_heads}
use Rattle.up_report.proofs.ClauseArguments.{end_text}
use Rattle.up_report.proofs.ClauseChains.{ChainFits, chain_text, AreItems, exact_chain}
use Rattle.up_report.proofs.ClauseLiterals.{head_of, rest_text, denial_line, Follows, rest, line_words, head_in, exact_denied, exact_denial}

-- the denials up to the end of the line
abbrev pub body_line : Names → List Flat → List ℕ
body_line names lits = denials_text names lits ++ codes "\n"

module _ (sig : Sig) (names : Names) (named : CanName sig names) (sorts : List ℕ) (few : length sorts < 2 ^ 64) where
  abbrev heading : Head → List ℕ
  heading = head_text sig names

  abbrev item : ℕ → List ℕ → Read (Flat × Bool)
  item k = denial_at sig names sorts

  abbrev ItemFits : ℕ → Flat × Bool → Type 0
  ItemFits k y = IsFlat sig sorts y.0

  abbrev item_text : ℕ → Flat × Bool → List ℕ
  item_text k y = denial_line names y

  end_long : (last : Bool) → 0 < length (end_text last)
  end_long true = omega arith
  end_long false = omega arith

  line_long : (y : Flat × Bool) → 0 < length (denial_line names y)
  line_long y = omega (arith, length-append (denial_text names y.0) (end_text y.1), end_long y.1)

  are_items : (lit : Flat) → IsFlat sig sorts lit → AreItems ItemFits item_text item
  are_items lit flat = record { exact = λ k. exact_denial sig names named sorts few lit flat; long = λ k y f. line_long y; ends = λ k. (lit, flat) }

  abbrev Chain : List Flat → Type 0
  Chain = ChainFits ItemFits item_text item 0

  abbrev chained : List Flat → List ℕ
  chained = chain_text ItemFits item_text item 0

  -- ---- what follows the first denial

  abbrev TailOf : Flat → Bool → List Flat → Type 0
  TailOf lit true lits = lits ≡ lit ∷ []
  TailOf lit false lits = (more : List Flat) × Chain more × (lit ∷ more ≡ lits)

  abbrev others : List Flat → List ℕ
  others [] = []
  others (l ∷ ls) = chained ls

  abbrev tail_text : Bool → List Flat → List ℕ
  tail_text last lits = cond last [] (others lits)

  abbrev tail_at : Flat → Bool → List ℕ → Read (List Flat)
  tail_at lit last bytes = cond last (Ok (lit ∷ [], bytes)) (denials_after sig names sorts (lit ∷ []) bytes)

  exact_tail : (lit : Flat) (last : Bool) → IsFlat sig sorts lit → Exact (TailOf lit last) (tail_text last) (tail_at lit last)
  exact_tail lit true flat = exact_done (lit ∷ [])
  exact_tail lit false flat =
      exact_map Chain chained (chain item 0) (TailOf lit false) (tail_text false) (tail_at lit false) (λ more. lit ∷ more)
      (λ bytes. refl) (λ more c. ((more, c, refl), refl)) (λ lits t. (t.0, t.1, t.2))
      (exact_chain ItemFits item_text item (are_items lit flat) 0)

  -- ---- the denials from this head on

  abbrev FromHead : Head → List Flat → Type 0
  FromHead h [] = ⊥
  FromHead h (lit ∷ []) = Follows sig names named sorts few h (lit, true)
  FromHead h (lit ∷ l ∷ ls) = Follows sig names named sorts few h (lit, false) × Chain (l ∷ ls)

  abbrev from_text : List Flat → List ℕ
  from_text [] = []
  from_text (lit ∷ []) = rest_text lit true
  from_text (lit ∷ l ∷ ls) = rest_text lit false ++ chained (l ∷ ls)

  more_joined : (h : Head) (lit : Flat) (more : List Flat) → Follows sig names named sorts few h (lit, false) → Chain more → FromHead h (lit ∷ more) × (from_text (lit ∷ more) ≡ rest_text lit false ++ others (lit ∷ more))
  more_joined h lit [] f c = absurd c
  more_joined h lit (l ∷ ls) f c = ((f, c), refl)

  from_joins : (h : Head) (lit : Flat) (last : Bool) (lits : List Flat) → Follows sig names named sorts few h (lit, last) → TailOf lit last lits → FromHead h lits × (from_text lits ≡ rest_text lit last ++ tail_text last lits)
  from_joins h lit true lits f t = subst (λ (ls : List Flat). FromHead h ls × (from_text ls ≡ rest_text lit true ++ [])) (sym t) (f, sym (append-nil (rest_text lit true)))
  from_joins h lit false lits f t = subst (λ (ls : List Flat). FromHead h ls × (from_text ls ≡ rest_text lit false ++ others ls)) t.2 (more_joined h lit t.0 f t.1)

  from_parts : (h : Head) (lits : List Flat) → FromHead h lits → (y : Flat × Bool) × Follows sig names named sorts few h y × TailOf y.0 y.1 lits
  from_parts h [] f = absurd f
  from_parts h (lit ∷ []) f = ((lit, true), f, refl)
  from_parts h (lit ∷ l ∷ ls) f = ((lit, false), f.0, (l ∷ ls, f.1, refl))

  exact_from : (h : Head) → IsDenialHead sig names sorts h → Exact (FromHead h) from_text (denials_from sig names sorts h)
  unfolding denials_from
  exact_from h d =
      exact_then (Follows sig names named sorts few h) (rest sig names named sorts few) (denied_at sig sorts h) (λ y. TailOf y.0 y.1) (λ y. tail_text y.1) (λ y. tail_at y.0 y.1)
      (FromHead h) from_text (denials_from sig names sorts h) (λ bytes. refl)
      (λ y lits f t. from_joins h y.0 y.1 lits f t) (from_parts h) (exact_denied sig names named sorts few h d) (λ y f. exact_tail y.0 y.1 f.0)

  -- ---- with a line that denies nothing

  abbrev pub BodyHead : Head → Type 0
  BodyHead Forall = ⊥
  BodyHead Nothing = ⊤
  BodyHead (Equal i) = IsDenialHead sig names sorts (Equal i)
  BodyHead (Applied sign k last) = IsDenialHead sig names sorts (Applied sign k last)

  abbrev pub BodyThen : Head → List Flat → Type 0
  BodyThen Forall lits = ⊥
  BodyThen Nothing lits = lits ≡ []
  BodyThen (Equal i) lits = FromHead (Equal i) lits
  BodyThen (Applied sign k last) lits = FromHead (Applied sign k last) lits

  abbrev pub body_rest : Head → List Flat → List ℕ
  body_rest Forall lits = []
  body_rest Nothing lits = []
  body_rest (Equal i) lits = from_text lits
  body_rest (Applied sign k last) lits = from_text lits

  abbrev no_lits : List Flat
  no_lits = []

  pub exact_body_from : (h : Head) → BodyHead h → Exact (BodyThen h) (body_rest h) (body_from sig names sorts h)
  exact_body_from Forall d = absurd d
  exact_body_from Nothing d = exact_done no_lits
  exact_body_from (Equal i) d = exact_from (Equal i) d
  exact_body_from (Applied sign k last) d = exact_from (Applied sign k last) d

  body_head_by : (h : Head) → IsDenialHead sig names sorts h → BodyHead h
  body_head_by Forall d = d
  body_head_by Nothing d = tt
  body_head_by (Equal i) d = d
  body_head_by (Applied sign k last) d = d

  pub body_head : (h : Head) → Among (Nothing ∷ heads sig sorts) h → BodyHead h
  body_head h a = elim a [
    | inl e ↦ subst BodyHead e tt
    | inr l ↦ body_head_by h (from_heads sig names sorts h l)
  ]

  -- ---- the line's text

  pub lits_words : (k : ℕ) (lit : Flat) (lits : List Flat) → body_line names (lit ∷ lits) ≡ chain_text ItemFits item_text item k (lit ∷ lits)
  lits_words k lit [] = ap (λ (l : List ℕ). l ++ codes "\n") (append-nil (denial_text names lit))
  lits_words k lit (l ∷ ls) =
      append_assoc (denial_text names lit) (codes " | " ++ (denial_text names l ++ flat_map (λ u. codes " | " ++ u) (map (denial_text names) ls))) (codes "\n")
      ∙ ap (λ (t : List ℕ). denial_text names lit ++ (codes " | " ++ t)) (lits_words (k + 1) l ls)
      ∙ sym (append_assoc (denial_text names lit) (codes " | ") (chain_text ItemFits item_text item (k + 1) (l ∷ ls)))

  abbrev pub IsBody : List Flat → Type 0
  IsBody = AllByRecursion (IsFlat sig sorts)

  flats_of : (k : ℕ) (lits : List Flat) → ChainFits ItemFits item_text item k lits → IsBody lits
  flats_of k [] c = absurd c
  flats_of k (lit ∷ []) c = (c, tt)
  flats_of k (lit ∷ l ∷ ls) c = (c.0, flats_of (k + 1) (l ∷ ls) c.1)

  of_flats : (k : ℕ) (lit : Flat) (lits : List Flat) → IsBody (lit ∷ lits) → ChainFits ItemFits item_text item k (lit ∷ lits)
  of_flats k lit [] b = b.0
  of_flats k lit (l ∷ ls) b = (b.0, of_flats (k + 1) l ls b.1)

  headed_line : (h : Head) (lit : Flat) (last : Bool) → Follows sig names named sorts few h (lit, last) → denial_line names (lit, last) ≡ heading h ++ rest_text lit last
  headed_line h lit last f = line_words sig names named sorts few lit last f.0 ∙ ap (λ (x : Head). heading x ++ rest_text lit last) f.1

  line_joins : (h : Head) (lits : List Flat) → FromHead h lits → IsBody lits × (body_line names lits ≡ heading h ++ from_text lits)
  line_joins h [] f = absurd f
  line_joins h (lit ∷ []) f = ((f.0, tt), lits_words 0 lit [] ∙ headed_line h lit true f)
  line_joins h (lit ∷ l ∷ ls) f = (
    (f.0.0, flats_of 0 (l ∷ ls) f.1),
    lits_words 0 lit (l ∷ ls)
        ∙ ap (λ (t : List ℕ). denial_line names (lit, false) ++ t) (sym (lits_words 1 l ls) ∙ lits_words 0 l ls)
        ∙ ap (λ (t : List ℕ). t ++ chained (l ∷ ls)) (headed_line h lit false f.0)
        ∙ append_assoc (heading h) (rest_text lit false) (chained (l ∷ ls)),
  )

  pub body_joins : (h : Head) (lits : List Flat) → BodyThen h lits → IsBody lits × (body_line names lits ≡ heading h ++ body_rest h lits)
  body_joins Forall lits t = absurd t
  body_joins Nothing lits t = subst (λ (ls : List Flat). IsBody ls × (body_line names ls ≡ codes "false\n" ++ [])) (sym t) (tt, refl)
  body_joins (Equal i) lits t = line_joins (Equal i) lits t
  body_joins (Applied sign k last) lits t = line_joins (Applied sign k last) lits t

  then_by : (h : Head) (lits : List Flat) → IsDenialHead sig names sorts h → FromHead h lits → BodyThen h lits
  then_by Forall lits d f = absurd d
  then_by Nothing lits d f = absurd d
  then_by (Equal i) lits d f = f
  then_by (Applied sign k last) lits d f = f

  in_body : (h : Head) (lits : List Flat) → Among (heads sig sorts) h → FromHead h lits → (g : Head) × Among (Nothing ∷ heads sig sorts) g × BodyThen g lits
  in_body h lits a f = (h, inr a, then_by h lits (from_heads sig names sorts h a) f)

  pub body_parts : (lits : List Flat) → IsBody lits → (h : Head) × Among (Nothing ∷ heads sig sorts) h × BodyThen h lits
  body_parts [] b = (Nothing, inl refl, refl)
  body_parts (lit ∷ []) b = in_body (head_of lit true) (lit ∷ []) (head_in sig names named sorts few lit true b.0) (b.0, refl)
  body_parts (lit ∷ l ∷ ls) b = in_body (head_of lit false) (lit ∷ l ∷ ls) (head_in sig names named sorts few lit false b.0) ((b.0, refl), of_flats 0 l ls b.1)

  pub exact_body : Exact IsBody (body_line names) (body_at sig names sorts)
  unfolding body_at
  exact_body =
      exact_then (Among (Nothing ∷ heads sig sorts)) heading (choose heading (Nothing ∷ heads sig sorts)) BodyThen body_rest (body_from sig names sorts)
      IsBody (body_line names) (body_at sig names sorts) (λ bytes. refl)
      (λ h lits a t. body_joins h lits t) body_parts
      (exact_choose heading Nothing (heads sig sorts) (heads_apart sig names named sorts few (Nothing ∷ heads sig sorts) (body_good sig names sorts)))
      (λ h a. exact_body_from h (body_head h a))
