-- What formulas under lists of quantifiers say, and the variables that they bind.
use Rattle.std.proofs.Common.{◌≡◌, ℕ, zero, suc, true, false, ◌+◌, ◌<◌, ◌≤◌, ◌⊎◌, inl, inr, List, [], ◌∷◌, ◌++◌, length, get_or, map, refl, sym, ap, subst, ◌∙◌, arith, true≢false, append_assoc, append-nil, length-append}
use Rattle.std.proofs.lemmas.Bool.{cases_lt}
use Rattle.std.proofs.lemmas.List.{length-map, get_or-map}
use Rattle.std.proofs.lemmas.List.{get_or-append-add, get_or_append_left, get_or_push, ext_get_or}
use Rattle.std.specs.List.{All, AllZip}
use Rattle.std.proofs.lemmas.List.Elements.{All-head, All-tail}
use Rattle.fo_core.specs.declared.signature.Sig.{Sig}
use Rattle.fo_core.specs.declared.term.Term.{Term, Var}
use Rattle.fo_core.specs.declared.formula.Formula.{Formula}
use Rattle.fo_core.specs.declared.formula.Formula.TheVariants as F
use Rattle.fo_core.specs.declared.world.World.{World}
use Rattle.fo_core.specs.Truth.{value, Truth}
use Rattle.fo_core.specs.Runs.{AreElements}
use Rattle.fo_core.specs.Sorted.{IsTerm, IsFormula}
use Rattle.fo_core.specs.SortGraph.{HasExistential, FormulaEdge}
use Rattle.fo_core.proofs.Rows.{truth-All, truth-Ex, sorted-All, sorted-Ex}
use Rattle.fo_core.proofs.EdgeRows.{existential-All, edge-All, edge-Ex}
use Rattle.fo_core.proofs.Zips.{AllZip-each}
use Rattle.fo_core.proofs.ListFacts.{cast, back}
use Rattle.fo_core.specs.Over.{all_over, some_over, variables}

joined : (vs : List ℕ) (x : ℕ) (xs : List ℕ) → (vs ++ x ∷ []) ++ xs ≡ vs ++ x ∷ xs
joined vs x xs = append_assoc vs (x ∷ []) xs

module _ (sig : Sig) (w : World) (c : ℕ) where
  -- one quantifier more, outermost
  module _ (s : ℕ) (ss : List ℕ) (f : Formula) (vs : List ℕ) where
    all_there : ((x : ℕ) → Truth sig w c (all_over ss f) (vs ++ x ∷ []) → (xs : List ℕ) → AreElements w.sizes xs ss → Truth sig w c f ((vs ++ x ∷ []) ++ xs)) →
        Truth sig w c (F.All s (all_over ss f)) vs → (xs : List ℕ) → AreElements w.sizes xs (s ∷ ss) → Truth sig w c f (vs ++ xs)
    all_there inner h [] e = absurd e
    all_there inner h (x ∷ xs) e = subst (Truth sig w c f) (joined vs x xs) (inner x (cast (truth-All sig w c s (all_over ss f) vs) h x e.0) xs e.1)

    some_back : ((x : ℕ) (xs : List ℕ) → AreElements w.sizes xs ss → Truth sig w c f ((vs ++ x ∷ []) ++ xs) → Truth sig w c (some_over ss f) (vs ++ x ∷ [])) →
        (xs : List ℕ) → AreElements w.sizes xs (s ∷ ss) → Truth sig w c f (vs ++ xs) → Truth sig w c (F.Ex s (some_over ss f)) vs
    some_back inner [] e t = absurd e
    some_back inner (x ∷ xs) e t = back (truth-Ex sig w c s (some_over ss f) vs) (x, e.0, inner x xs e.1 (subst (Truth sig w c f) (sym (joined vs x xs)) t))

  none_there : (f : Formula) (vs : List ℕ) → Truth sig w c f vs → (xs : List ℕ) → AreElements w.sizes xs [] → Truth sig w c f (vs ++ xs)
  none_there f vs h [] e = subst (Truth sig w c f) (sym (append-nil vs)) h
  none_there f vs h (x ∷ xs) e = absurd e

  none_back : (f : Formula) (vs xs : List ℕ) → AreElements w.sizes xs [] → Truth sig w c f (vs ++ xs) → Truth sig w c f vs
  none_back f vs [] e t = subst (Truth sig w c f) (append-nil vs) t
  none_back f vs (x ∷ xs) e t = absurd e

  pub all_over-from : (ss : List ℕ) (f : Formula) (vs : List ℕ) → Truth sig w c (all_over ss f) vs → (xs : List ℕ) → AreElements w.sizes xs ss → Truth sig w c f (vs ++ xs)
  all_over-from [] f vs h = none_there f vs h
  all_over-from (s ∷ ss) f vs h = all_there s ss f vs (λ x. all_over-from ss f (vs ++ x ∷ [])) h

  pub all_over-to : (ss : List ℕ) (f : Formula) (vs : List ℕ) → ((xs : List ℕ) → AreElements w.sizes xs ss → Truth sig w c f (vs ++ xs)) → Truth sig w c (all_over ss f) vs
  all_over-to [] f vs h = none_back f vs [] tt (h [] tt)
  all_over-to (s ∷ ss) f vs h =
      back (truth-All sig w c s (all_over ss f) vs)
      (λ x lt. all_over-to ss f (vs ++ x ∷ []) (λ xs e. subst (Truth sig w c f) (sym (joined vs x xs)) (h (x ∷ xs) (lt, e))))

  pub some_over-from : (ss : List ℕ) (f : Formula) (vs : List ℕ) → Truth sig w c (some_over ss f) vs → (xs : List ℕ) × AreElements w.sizes xs ss × Truth sig w c f (vs ++ xs)
  some_over-from [] f vs h = ([], tt, none_there f vs h [] tt)
  some_over-from (s ∷ ss) f vs h =
      let e = cast (truth-Ex sig w c s (some_over ss f) vs) h in
      let rest = some_over-from ss f (vs ++ e.0 ∷ []) e.2 in
      (e.0 ∷ rest.0, (e.1, rest.1), subst (Truth sig w c f) (joined vs e.0 rest.0) rest.2)

  pub some_over-to : (ss : List ℕ) (f : Formula) (vs xs : List ℕ) → AreElements w.sizes xs ss → Truth sig w c f (vs ++ xs) → Truth sig w c (some_over ss f) vs
  some_over-to [] f vs xs e t = none_back f vs xs e t
  some_over-to (s ∷ ss) f vs xs e t = some_back s ss f vs (λ x. some_over-to ss f (vs ++ x ∷ [])) xs e t

-- the variables behind others
pub variables-length : (n count : ℕ) → length (variables n count) ≡ count
variables-length n zero = refl
variables-length n (suc count) = omega (arith, variables-length n count, length-append (variables n count) (Var (n + count) ∷ []))

pub variables-at : (n count i : ℕ) (d : Term) → i < count → get_or (variables n count) i d ≡ Var (n + i)
variables-at n zero i d lt = absurd (omega arith)
variables-at n (suc count) i d lt = by_case (λ below. variables-at n count i d below) (cases_lt i count)
  where
    len : length (variables n count) ≡ count
    len = variables-length n count

    by_case : (i < count → get_or (variables n count) i d ≡ Var (n + i)) → (i < count) ⊎ (count ≤ i) → get_or (variables n count ++ Var (n + count) ∷ []) i d ≡ Var (n + i)
    by_case before (inl below) = get_or_append_left (variables n count) (Var (n + count) ∷ []) d i (omega (arith, len)) ∙ before below
    by_case before (inr le) =
        let last : i ≡ count = omega arith in
        get_or_push (variables n count) (Var (n + count)) d i (omega (arith, len)) ∙ ap (λ m. Var (n + m)) (sym last)

-- under values, of which the last ones are ys, the variables behind the others have these
pub variables-values : (sig : Sig) (w : World) (c : ℕ) (vs ys : List ℕ) (count : ℕ) → count ≡ length ys → map (λ t. value sig w c t (vs ++ ys)) (variables (length vs) count) ≡ ys
variables-values sig w c vs ys count same = ext_get_or 0 (map (λ t. value sig w c t (vs ++ ys)) (variables (length vs) count)) ys (length-map (variables (length vs) count) (λ t. value sig w c t (vs ++ ys)) ∙ len ∙ same) each
  where
    len : length (variables (length vs) count) ≡ count
    len = variables-length (length vs) count

    each : (i : ℕ) → i < length (map (λ t. value sig w c t (vs ++ ys)) (variables (length vs) count)) → get_or (map (λ t. value sig w c t (vs ++ ys)) (variables (length vs) count)) i 0 ≡ get_or ys i 0
    each i lt =
        let below : i < count = omega (arith, len, length-map (variables (length vs) count) (λ t. value sig w c t (vs ++ ys))) in
        get_or-map (λ t. value sig w c t (vs ++ ys)) (variables (length vs) count) i (Var 0) 0 (omega (arith, len))
        ∙ ap (λ t. value sig w c t (vs ++ ys)) (variables-at (length vs) count i (Var 0) below)
        ∙ get_or-append-add vs ys i 0

-- and they are terms of their sorts
pub variables-sorted : (sig : Sig) (n : ℕ) (ps rs : List ℕ) → AllZip (λ t s. IsTerm sig n t (ps ++ rs) s) (variables (length ps) (length rs)) rs
variables-sorted sig n ps rs = AllZip-each (λ t s. IsTerm sig n t (ps ++ rs) s) (variables (length ps) (length rs)) rs (Var 0) 0 len each
  where
    len : length (variables (length ps) (length rs)) ≡ length rs
    len = variables-length (length ps) (length rs)

    each : (i : ℕ) → i < length (variables (length ps) (length rs)) → IsTerm sig n (get_or (variables (length ps) (length rs)) i (Var 0)) (ps ++ rs) (get_or rs i 0)
    each i lt =
        subst (λ t. IsTerm sig n t (ps ++ rs) (get_or rs i 0)) (sym (variables-at (length ps) (length rs) i (Var 0) (omega (arith, len))))
        (omega (arith, len, length-append ps rs), get_or-append-add ps rs i 0)

module _ (sig : Sig) (n : ℕ) where
  pub all_over-sorted : (rs : List ℕ) (f : Formula) (ss : List ℕ) → All (λ s. s < sig.sorts) rs → IsFormula sig n f (ss ++ rs) → IsFormula sig n (all_over rs f) ss
  all_over-sorted [] f ss known h = subst (IsFormula sig n f) (append-nil ss) h
  all_over-sorted (s ∷ rs) f ss known h =
      back (sorted-All sig n s (all_over rs f) ss)
      (All-head (λ s. s < sig.sorts) s rs known, all_over-sorted rs f (ss ++ s ∷ []) (All-tail (λ s. s < sig.sorts) s rs known) (subst (IsFormula sig n f) (sym (joined ss s rs)) h))

  pub some_over-sorted : (rs : List ℕ) (f : Formula) (ss : List ℕ) → All (λ s. s < sig.sorts) rs → IsFormula sig n f (ss ++ rs) → IsFormula sig n (some_over rs f) ss
  some_over-sorted [] f ss known h = subst (IsFormula sig n f) (append-nil ss) h
  some_over-sorted (s ∷ rs) f ss known h =
      back (sorted-Ex sig n s (some_over rs f) ss)
      (All-head (λ s. s < sig.sorts) s rs known, some_over-sorted rs f (ss ++ s ∷ []) (All-tail (λ s. s < sig.sorts) s rs known) (subst (IsFormula sig n f) (sym (joined ss s rs)) h))

-- universals over a formula that has no existential add no edge, and outermost existentials none
module _ (b : ℕ) where
  pub all_over-existential : (ss : List ℕ) (f : Formula) → HasExistential b (all_over ss f) true → HasExistential b f true
  all_over-existential [] f h = h
  all_over-existential (s ∷ ss) f h = by_case (λ e. all_over-existential ss f e) (cast (existential-All b s (all_over ss f) true) h)
    where
      by_case : (HasExistential b (all_over ss f) true → HasExistential b f true) → ((true ≡ false) × (s ≡ b)) ⊎ HasExistential b (all_over ss f) true → HasExistential b f true
      by_case more (inl e) = absurd (true≢false e.0)
      by_case more (inr e) = more e

module _ (a b : ℕ) where
  pub all_over-edge : (ss : List ℕ) (f : Formula) → ¬ HasExistential b f true → FormulaEdge a b (all_over ss f) true → FormulaEdge a b f true
  all_over-edge [] f none h = h
  all_over-edge (s ∷ ss) f none h = by_case (λ e. all_over-edge ss f none e) (cast (edge-All a b s (all_over ss f) true) h)
    where
      by_case : (FormulaEdge a b (all_over ss f) true → FormulaEdge a b f true) → ((true ≡ true) × (s ≡ a) × HasExistential b (all_over ss f) true) ⊎ FormulaEdge a b (all_over ss f) true → FormulaEdge a b f true
      by_case more (inl e) = absurd (none (all_over-existential b ss f e.2))
      by_case more (inr e) = more e

  pub some_over-edge : (ss : List ℕ) (f : Formula) → FormulaEdge a b (some_over ss f) true → FormulaEdge a b f true
  some_over-edge [] f h = h
  some_over-edge (s ∷ ss) f h = by_case (λ e. some_over-edge ss f e) (cast (edge-Ex a b s (some_over ss f) true) h)
    where
      by_case : (FormulaEdge a b (some_over ss f) true → FormulaEdge a b f true) → ((true ≡ false) × (s ≡ a) × HasExistential b (some_over ss f) true) ⊎ FormulaEdge a b (some_over ss f) true → FormulaEdge a b f true
      by_case more (inl e) = absurd (true≢false e.0)
      by_case more (inr e) = more e
