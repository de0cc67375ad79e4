-- The nodes and the Skolem functions of claims that some elements meet several formulas.
use Rattle.std.proofs.Common.{◌≡◌, ℕ, suc, Bool, true, false, not, ◌+◌, List, [], ◌∷◌, ◌++◌, length, map, refl, sym, ap, ◌∙◌, append_assoc, true≢false, arith}
use Rattle.std.specs.List.{All}
use Rattle.std.proofs.lemmas.Bool.{false≢true}
use Rattle.std.proofs.lemmas.List.Elements.{All-head, All-tail, All-weaker}
use denote.Hole.Carrier.{hidden}
use Rattle.fo_core.specs.declared.formula.Formula.{Formula, True, False, Rel, Eq, Not', And', Or', All', Ex', Row_of-Formula, end_of-Formula, more_of-Formula, items-the_row-Formula, items_hidden-the_row-Formula-1}
use Rattle.fo_core.specs.declared.formula.Formula.TheBlock.{shape-the_row-Formula-0, hidden-the_row-Formula-0}
use Rattle.fo_core.specs.declared.formula.Formula.TheVariants as F
use Rattle.fo_core.specs.Literals.{IsAtom, IsLiteral, cube_claim}
use Rattle.fo_core.specs.Skolems.{skolem, skolem_symbols, skolem_symbols_row, skolem_symbols_list}
use Rattle.fo_core.specs.Universal.{IsUniversal, AreUniversal}
use Rattle.fo_core.specs.Weights.{added, power, nodes, nodes_row, claim_nodes}
use Rattle.fo_core.proofs.Rows.{row_of}

skolems-Ex : (s : ℕ) (f : Formula) (us : List ℕ) →
    skolem_symbols true (F.Ex s f) us ≡ skolem us s ∷ skolem_symbols true f us
unfolding shape-the_row-Formula-0 hidden-the_row-Formula-0 hidden
skolems-Ex s f us = refl

skolems-row : (us : List ℕ) (n : _) (row : Row_of-Formula n) →
    skolem_symbols_row true row us ≡ skolem_symbols_list true (items-the_row-Formula n row) us
skolems-row us n end_of-Formula = refl
skolems-row us n (more_of-Formula f rest) = ap (λ xs. skolem_symbols true f us ++ xs) (skolems-row us _ rest)

skolems-And : (fs : List Formula) (us : List ℕ) →
    skolem_symbols true (F.And fs) us ≡ skolem_symbols_list true fs us
skolems-And fs us =
    let row = row_of (F.And fs) in
    skolems-row us row.0 row.1 ∙ ap (λ gs. skolem_symbols_list true gs us) (items_hidden-the_row-Formula-1 fs)

-- a constant for each sort, and what the formulas have
pub cube-skolems : (ss : List ℕ) (fs : List Formula) →
    skolem_symbols true (cube_claim ss fs) [] ≡ map (skolem []) ss ++ skolem_symbols_list true fs []
cube-skolems [] fs = skolems-And fs []
cube-skolems (s ∷ ss) fs = skolems-Ex s (cube_claim ss fs) [] ∙ ap (λ xs. skolem [] s ∷ xs) (cube-skolems ss fs)

pub skolems-append : (fs gs : List Formula) →
    skolem_symbols_list true (fs ++ gs) [] ≡ skolem_symbols_list true fs [] ++ skolem_symbols_list true gs []
skolems-append [] gs = refl
skolems-append (f ∷ fs) gs =
    ap (λ xs. skolem_symbols true f [] ++ xs) (skolems-append fs gs)
    ∙ sym (append_assoc (skolem_symbols true f []) (skolem_symbols_list true fs []) (skolem_symbols_list true gs []))

module _ (U : List ℕ) where
  nodes-Ex : (s : ℕ) (f : Formula) (us : List ℕ) →
      nodes U true (F.Ex s f) us ≡ power U us + nodes U true f us
  unfolding shape-the_row-Formula-0 hidden-the_row-Formula-0 hidden
  nodes-Ex s f us = refl

  nodes-row : (us : List ℕ) (n : _) (row : Row_of-Formula n) →
      nodes_row U true row us ≡ added (λ g. nodes U true g us) (items-the_row-Formula n row)
  nodes-row us n end_of-Formula = refl
  nodes-row us n (more_of-Formula f rest) = ap (λ m. nodes U true f us + m) (nodes-row us _ rest)

  nodes-And : (fs : List Formula) (us : List ℕ) →
      nodes U true (F.And fs) us ≡ power U us + added (λ g. nodes U true g us) fs
  nodes-And fs us =
      let row = row_of (F.And fs) in
      ap (λ m. power U us + m) (nodes-row us row.0 row.1 ∙ ap (added (λ g. nodes U true g us)) (items_hidden-the_row-Formula-1 fs))

  -- a node for each sort, one for the conjunction, and those of the formulas
  pub cube-nodes : (ss : List ℕ) (fs : List Formula) →
      nodes U true (cube_claim ss fs) [] ≡ length ss + (1 + claim_nodes U fs)
  cube-nodes [] fs = nodes-And fs [] ∙ (let e : 1 + claim_nodes U fs ≡ 0 + (1 + claim_nodes U fs) = omega arith in e)
  cube-nodes (s ∷ ss) fs = nodes-Ex s (cube_claim ss fs) [] ∙ ap (λ n. 1 + n) (cube-nodes ss fs) ∙ one_more (length ss) (1 + claim_nodes U fs)
    where
      one_more : (m n : ℕ) → 1 + (m + n) ≡ suc m + n
      one_more m n = omega arith

  atom-nodes : (b : Bool) (f : Formula) → IsAtom f → nodes U b f [] ≡ 1
  atom-nodes b (Rel r d args) h = refl
  atom-nodes b (Eq x y) h = refl
  atom-nodes b f h = absurd h

  literal-nodes : (f : Formula) → IsLiteral f → nodes U true f [] ≡ 1
  literal-nodes (Rel r d args) h = refl
  literal-nodes (Eq x y) h = refl
  literal-nodes (Not' _ (more_of-Formula f _)) h = atom-nodes false f h
  literal-nodes f h = absurd h

  -- a literal is one node
  pub literals-nodes : (fs : List Formula) → All IsLiteral fs → claim_nodes U fs ≡ length fs
  literals-nodes [] h = refl
  literals-nodes (f ∷ fs) h = omega (arith, literal-nodes f (All-head IsLiteral f fs h), literals-nodes fs (All-tail IsLiteral f fs h))

mutual
  none_there : (b : Bool) (f : Formula) (us : List ℕ) → IsUniversal b f → skolem_symbols b f us ≡ []
  none_there true True us h = refl
  none_there false True us h = refl
  none_there true False us h = refl
  none_there false False us h = refl
  none_there b (Rel r d args) us h = refl
  none_there b (Eq x y) us h = refl
  none_there b (Not' _ (more_of-Formula f _)) us h = none_there (not b) f us h
  none_there b (And' _ row) us h = none_in_row b row us h
  none_there b (Or' _ row) us h = none_in_row b row us h
  none_there true (All' s _ (more_of-Formula f _)) us h = none_there true f (us ++ s ∷ []) h.1
  none_there false (All' s _ (more_of-Formula f _)) us h = absurd (false≢true h.0)
  none_there true (Ex' s _ (more_of-Formula f _)) us h = absurd (true≢false h.0)
  none_there false (Ex' s _ (more_of-Formula f _)) us h = none_there false f (us ++ s ∷ []) h.1

  none_in_row : {n : _} (b : Bool) (row : Row_of-Formula n) (us : List ℕ) → AreUniversal b row →
      skolem_symbols_row b row us ≡ []
  none_in_row b end_of-Formula us h = refl
  none_in_row b (more_of-Formula f rest) us h = ap (λ xs. xs ++ skolem_symbols_row b rest us) (none_there b f us h.0) ∙ none_in_row b rest us h.1

-- universal formulas have no Skolem function
pub universal-skolems : (fs : List Formula) → All (IsUniversal true) fs →
    skolem_symbols_list true fs [] ≡ []
universal-skolems [] h = refl
universal-skolems (f ∷ fs) h =
    ap (λ xs. xs ++ skolem_symbols_list true fs []) (none_there true f [] (All-head (IsUniversal true) f fs h))
    ∙ universal-skolems fs (All-tail (IsUniversal true) f fs h)

atom-universal : (b : Bool) (f : Formula) → IsAtom f → IsUniversal b f
atom-universal b (Rel r d args) h = tt
atom-universal b (Eq x y) h = tt
atom-universal b f h = absurd h

pub literal-universal : (f : Formula) → IsLiteral f → IsUniversal true f
literal-universal (Rel r d args) h = tt
literal-universal (Eq x y) h = tt
literal-universal (Not' _ (more_of-Formula f _)) h = atom-universal false f h
literal-universal f h = absurd h

pub literals-skolems : (fs : List Formula) → All IsLiteral fs → skolem_symbols_list true fs [] ≡ []
literals-skolems fs h = universal-skolems fs (All-weaker IsLiteral (IsUniversal true) literal-universal fs h)
