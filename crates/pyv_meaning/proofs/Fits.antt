-- What is meant is well-sorted, and no place of it stands under more than 64 binders.
use Rattle.std.proofs.Common.{◌≡◌, ℕ, suc, ◌+◌, ◌-◌, ◌<◌, ◌≤◌, ◌++◌, ◌&&◌, Bool, true, false, cond, List, [], ◌∷◌, length, refl, sym, ap, ap₂, ◌∙◌, subst, inl, inr, ◌⊎◌, arith}
use Rattle.std.specs.Prelude.{Option, Some, None, option_map, slice_index}
use Rattle.std.specs.List.{All, AllZip}
use Rattle.std.specs.Str.{bytes_eq}
use Rattle.std.proofs.lemmas.List.Elements.{All-nil, All-cons}
use Rattle.fo_core.specs.Sorted.{IsSymbol, IsTerm, IsFormula, binders}
use Rattle.fo_core.specs.Tables.{symbol_at}
use Rattle.fo_core.specs.declared.names.Names.{Names}
use Rattle.fo_core.specs.declared.signature.Sig.{Sig}
use Rattle.fo_core.specs.declared.term.Term.{Term}
use Rattle.fo_core.specs.declared.formula.Formula.{Formula}
use Rattle.fo_core.proofs.Rows.{And-sorted, App-sorted, And-binders}
use Rattle.pyv_meaning.specs.declared.variable.Meaning.{Meaning}
use Rattle.pyv_meaning.specs.declared.variable.Meaning.TheVariants.{Variable, Symbol, Unknown}
use Rattle.pyv_meaning.specs.declared.variable.Use.{Use}
use Rattle.pyv_meaning.specs.declared.variable.Use.TheVariants.{Binder as Binds}
use Rattle.pyv_meaning.specs.Builds.{differ, copy_of}
use Rattle.pyv_meaning.specs.Gets.{Among}
use Rattle.pyv_meaning.specs.Means.{one_sort, NameMeansTerm, NameMeans, MeansTerm, MeanTerms, Means, EachMeans}
use Rattle.pyv_meaning.specs.Scope.{number, or_zero, lookup, resolve, variable_or, symbol_or_unknown}
use Rattle.pyv_meaning.specs.Uses.{uses, each_uses, binder_uses}
use Rattle.pyv_meaning.specs.Tree.{Name, Tree, Trees, Truth, Named, New, Distinct, Not, Joined, Connected, Compared, Quantified, If, none, more, count, bound_names}
use Rattle.pyv_meaning.proofs.Basics.{true_or_false, among_left, among_right}
use Rattle.pyv_meaning.proofs.Complete.{inner_length, bound_length}
use Rattle.pyv_meaning.proofs.Congruent.{told_bound}
use Rattle.pyv_meaning.proofs.Forms.{sorts_in, sorts_both, truth_fits, not_fits, joined_fits, connected_fits, conditional_fits, compared_fits, differ_fits, closed_fits, truth_low, not_low, joined_low, connected_low, conditional_low, compared_low, differ_low, closed_binders}
use Rattle.pyv_meaning.proofs.Resolved.{at_level, same_level}

-- ---- names

pub number_below : (ws : List (List ℕ)) (w : List ℕ) (k : ℕ) → number ws w ≡ Some k → k < length ws
number_below [] w k h = absurd (cc)
number_below (v ∷ ws) w k h =
    elim (true_or_false (bytes_eq v w)) [
      | inl t ↦ let z : Some 0 ≡ some_number k = rw t at h in let e = same_number 0 k z in omega (arith, e)
      | inr t ↦ later ws w k (number ws w) refl (rw t at h) (λ n e. number_below ws w n e)
    ]
  where
    some_number : ℕ → Option ℕ
    some_number k = Some k

    same_number : (a b : ℕ) → Some a ≡ some_number b → a ≡ b
    same_number a b h = ap or_zero h

    later : (ws : List (List ℕ)) (w : List ℕ) (k : ℕ) (o : Option ℕ) → number ws w ≡ o → option_map suc o ≡ Some k → ((n : ℕ) → number ws w ≡ Some n → n < length ws) → k < length (w ∷ ws)
    later ws w k None e h f = absurd (cc)
    later ws w k (Some n) e h f = let below : n < length ws = f n e in let next : suc n ≡ k = ap or_zero h in omega (arith, below, next)

symbol_resolves : (names : Names) (scope : List Name) (w : List ℕ) (k : ℕ) → resolve names scope w ≡ Symbol k → number names.symbols w ≡ Some k
unfolding resolve
symbol_resolves names scope w k h = both (lookup None 0 scope w) (number names.symbols w) k h
  where
    both : (o : Option (ℕ × ℕ)) (m : Option ℕ) (k : ℕ) → variable_or o (symbol_or_unknown m) ≡ Symbol k → m ≡ Some k
    both None None k h = absurd (cc)
    both None (Some n) k h = let e : n ≡ k = cc in ap (λ (z : ℕ). Some z) e
    both (Some p) m k h = absurd (cc)

-- the variable that is found stands on its level
found_at : (sort_of : ℕ → ℕ) (found : Option (ℕ × ℕ)) (k : ℕ) (scope : List Name) (w : List ℕ) (v l : ℕ) → lookup found k scope w ≡ at_level v l
    → (found ≡ at_level v l) ⊎ ((i : ℕ) × (k + i ≡ l) × (i < length (sorts_in sort_of scope)) × (slice_index (sorts_in sort_of scope) i ≡ sort_of v))
found_at sort_of found k [] w v l h = inl h
found_at sort_of found k (n ∷ ns) w v l h =
    elim (found_at sort_of (cond (bytes_eq n.word w) (Some (n.place, k)) found) (k + 1) ns w v l h) [
      | inr r ↦ inr (suc r.0, omega (arith, r.1), omega (arith, r.2), r.3)
      | inl e ↦ elim (true_or_false (bytes_eq n.word w)) [
        | inl t ↦ let s = same_level n.place k v l (rw t at e) in inr (0, omega (arith, s.1), omega arith, ap sort_of s.0)
        | inr t ↦ inl (rw t at e)
      ]
    ]

variable_resolves : (names : Names) (scope : List Name) (w : List ℕ) (v l : ℕ) → resolve names scope w ≡ Variable v l → lookup None 0 scope w ≡ at_level v l
unfolding resolve
variable_resolves names scope w v l h = both (lookup None 0 scope w) (number names.symbols w) v l h
  where
    both : (o : Option (ℕ × ℕ)) (m : Option ℕ) (v l : ℕ) → variable_or o (symbol_or_unknown m) ≡ Variable v l → o ≡ at_level v l
    both None None v l h = absurd (cc)
    both None (Some n) v l h = absurd (cc)
    both (Some p) m v l h =
        let one : p.0 ≡ v = cc in
        let two : p.1 ≡ l = cc in
        ap₂ (λ (a b : ℕ). at_level a b) one two

-- ---- expressions

-- a transition's body speaks of copies 0 and 1
abbrev pub copies_of : Bool → ℕ
copies_of step = cond step 2 1

module _ (names : Names) (sig : Sig) (step : Bool) (sort_of : ℕ → ℕ) (known : (w : List ℕ) (k : ℕ) → number names.symbols w ≡ Some k → k < length sig.symbols) where
  -- `new` stands in transitions alone
  abbrev IsAhead : Bool → Type 0
  IsAhead ahead = ahead ≡ true → step ≡ true

  copy_below : (ahead mutable : Bool) → IsAhead ahead → cond (ahead && mutable) 1 0 < cond mutable (copies_of step) 1
  copy_below true true h = rw (h refl) (omega arith)
  copy_below true false h = omega arith
  copy_below false true h = some_copy step
    where
      some_copy : (s : Bool) → 0 < copies_of s
      some_copy true = omega arith
      some_copy false = omega arith
  copy_below false false h = omega arith

  is_symbol : (scope : List Name) (w : List ℕ) (ahead relation : Bool) (k : ℕ) → IsAhead ahead → resolve names scope w ≡ Symbol k → (symbol_at sig k).relation ≡ relation → IsSymbol sig (copies_of step) relation k (copy_of sig ahead k)
  is_symbol scope w ahead relation k a h r = record { within = known w k (symbol_resolves names scope w k h); kind = r; copy = copy_below ahead (symbol_at sig k).mutable a }

  abbrev FitTerms : List Name → List ℕ → List Term → Type 0
  FitTerms scope ss ts = AllZip (λ t s. IsTerm sig (copies_of step) t (sorts_in sort_of scope) s) ts ss

  named_fits : (m : Meaning) (w : List ℕ) (b : Bool) (n : ℕ) (P : List ℕ → List Term → Type 0) (ahead : Bool) (scope : List Name) (s : ℕ) (t : Term) → IsAhead ahead → resolve names scope w ≡ m
      → NameMeansTerm names sig step sort_of m b n P ahead s t → ((ss : List ℕ) (ts : List Term) → P ss ts → FitTerms scope ss ts) → IsTerm sig (copies_of step) t (sorts_in sort_of scope) s
  named_fits (Variable v l) w b n P ahead scope s t a e h args =
      subst (λ (z : Term). IsTerm sig (copies_of step) z (sorts_in sort_of scope) s) (sym h.2)
      (elim (found_at sort_of None 0 scope w v l (variable_resolves names scope w v l e)) [
        | inl q ↦ absurd (none_at v l q)
        | inr r ↦ let same : l ≡ r.0 = omega (arith, r.1) in (omega (arith, r.1, r.2), ap (slice_index (sorts_in sort_of scope)) same ∙ r.3 ∙ h.1)
      ])
    where
      none_at : (v l : ℕ) → None ≡ at_level v l → ⊥
      none_at v l h = absurd (cc)
  named_fits (Symbol k) w b n P ahead scope s t a e h args =
      subst (λ (z : Term). IsTerm sig (copies_of step) z (sorts_in sort_of scope) s) (sym h.4)
      (App-sorted sig (copies_of step) k (copy_of sig ahead k) h.2 (sorts_in sort_of scope) s (is_symbol scope w ahead false k a e h.0) h.1 (args (symbol_at sig k).args h.2 h.3))
  named_fits Unknown w b n P ahead scope s t a e h args = absurd h

  mutual
    term_fits : (x : Tree) (ahead : Bool) (scope : List Name) (s : ℕ) (t : Term) → IsAhead ahead → MeansTerm names sig step sort_of x ahead scope s t → IsTerm sig (copies_of step) t (sorts_in sort_of scope) s
    term_fits (Named n b xs) ahead scope s t a h = named_fits (resolve names scope n.word) n.word b (count xs) _ ahead scope s t a refl h (λ ss ts m. terms_fit xs ahead scope ss ts a m)
    term_fits (New p x) ahead scope s t a h = term_fits x true scope s t (λ e. h.0) h.2
    term_fits (Truth p b) ahead scope s t a h = absurd h
    term_fits (Distinct p xs) ahead scope s t a h = absurd h
    term_fits (Not p x) ahead scope s t a h = absurd h
    term_fits (Joined p j xs) ahead scope s t a h = absurd h
    term_fits (Connected p c x y) ahead scope s t a h = absurd h
    term_fits (Compared p e x y) ahead scope s t a h = absurd h
    term_fits (Quantified p q bs x) ahead scope s t a h = absurd h
    term_fits (If p x y z) ahead scope s t a h = absurd h

    terms_fit : (xs : Trees) (ahead : Bool) (scope : List Name) (ss : List ℕ) (ts : List Term) → IsAhead ahead → MeanTerms names sig step sort_of xs ahead scope ss ts → FitTerms scope ss ts
    terms_fit none ahead scope [] [] a h = tt
    terms_fit none ahead scope [] (t ∷ ts) a h = absurd h
    terms_fit none ahead scope (s ∷ ss) ts a h = absurd h
    terms_fit (more x xs) ahead scope [] ts a h = absurd h
    terms_fit (more x xs) ahead scope (s ∷ ss) [] a h = absurd h
    terms_fit (more x xs) ahead scope (s ∷ ss) (t ∷ ts) a h = (term_fits x ahead scope s t a h.0, terms_fit xs ahead scope ss ts a h.1)

  alike_fit : (xs : Trees) (ahead : Bool) (scope : List Name) (s : ℕ) (ts : List Term) → IsAhead ahead → MeanTerms names sig step sort_of xs ahead scope (one_sort xs s) ts → All (λ t. IsTerm sig (copies_of step) t (sorts_in sort_of scope) s) ts
  alike_fit none ahead scope s [] a h = All-nil (λ t. IsTerm sig (copies_of step) t (sorts_in sort_of scope) s)
  alike_fit none ahead scope s (t ∷ ts) a h = absurd h
  alike_fit (more x xs) ahead scope s [] a h = absurd h
  alike_fit (more x xs) ahead scope s (t ∷ ts) a h = All-cons (λ t. IsTerm sig (copies_of step) t (sorts_in sort_of scope) s) t ts (term_fits x ahead scope s t a h.0) (alike_fit xs ahead scope s ts a h.1)

  -- what is bound has sorts of the signature
  abbrev pub OkOn : List Use → Type 0
  OkOn us = (v : ℕ) → Among (Binds v) us → sort_of v < sig.sorts

  ok_left : (us vs : List Use) → OkOn (us ++ vs) → OkOn us
  ok_left us vs h v m = h v (among_left _ us vs m)

  ok_right : (us vs : List Use) → OkOn (us ++ vs) → OkOn vs
  ok_right us vs h v m = h v (among_right _ us vs m)

  -- well-sorted, and so deep below the scope that at most 64 binders stand above any place
  abbrev pub IsFine : List Name → Formula → Type 0
  IsFine scope y = IsFormula sig (copies_of step) y (sorts_in sort_of scope) × ((m : ℕ) → length scope + m ≡ 64 → binders y ≤ m)

  name_fits : (r : Meaning) (w : List ℕ) (P : List ℕ → List Term → Type 0) (ahead : Bool) (scope : List Name) (y : Formula) → IsAhead ahead → resolve names scope w ≡ r
      → NameMeans names sig step sort_of r P ahead y → ((ss : List ℕ) (ts : List Term) → P ss ts → FitTerms scope ss ts) → IsFine scope y
  name_fits (Variable v l) w P ahead scope y a e h args = absurd h
  name_fits (Symbol k) w P ahead scope y a e h args =
      subst (IsFine scope) (sym h.3) ((is_symbol scope w ahead true k a e h.0, args (symbol_at sig k).args h.1 h.2), λ m q. omega arith)
  name_fits Unknown w P ahead scope y a e h args = absurd h

  mutual
    pub fine : (x : Tree) (ahead : Bool) (scope : List Name) (y : Formula) → IsAhead ahead → OkOn (uses names sig x scope) → Means names sig step sort_of x ahead scope y → IsFine scope y
    fine (Truth p b) ahead scope y a o h = subst (IsFine scope) (sym h) (truth_fits sig (copies_of step) (sorts_in sort_of scope) b, λ m q. truth_low m b)
    fine (Named n b xs) ahead scope y a o h = name_fits (resolve names scope n.word) n.word _ ahead scope y a refl h (λ ss ts m. terms_fit xs ahead scope ss ts a m)
    fine (New p x) ahead scope y a o h = fine x true scope y (λ e. h.0) o h.2
    fine (Distinct p xs) ahead scope y a o h =
        subst (IsFine scope) (sym h.4) (
          And-sorted sig (copies_of step) (differ h.2) (sorts_in sort_of scope) (differ_fits sig (copies_of step) (sorts_in sort_of scope) h.1 h.2 (alike_fit xs ahead scope h.1 h.2 a h.3)),
          λ m q. And-binders (differ h.2) m (differ_low m h.2),
        )
    fine (Not p x) ahead scope y a o h =
        let k = fine x ahead scope h.0 a o h.1 in
        subst (IsFine scope) (sym h.2) (not_fits sig (copies_of step) (sorts_in sort_of scope) h.0 k.0, λ m q. not_low m h.0 (k.1 m q))
    fine (Joined p j xs) ahead scope y a o h =
        let k = each_fine xs ahead scope h.0 a o h.1 in
        subst (IsFine scope) (sym h.2) (joined_fits sig (copies_of step) (sorts_in sort_of scope) j h.0 k.0, λ m q. joined_low m j h.0 (k.1 m q))
    fine (Connected p c x z) ahead scope y a o h =
        let k = fine x ahead scope h.0 a (ok_left _ _ o) h.2 in
        let l = fine z ahead scope h.1 a (ok_right (uses names sig x scope) _ o) h.3 in
        subst (IsFine scope) (sym h.4) (connected_fits sig (copies_of step) (sorts_in sort_of scope) c h.0 h.1 k.0 l.0, λ m q. connected_low m c h.0 h.1 (k.1 m q) (l.1 m q))
    fine (Compared p e x z) ahead scope y a o h =
        subst (IsFine scope) (sym h.5) (
          compared_fits sig (copies_of step) (sorts_in sort_of scope) e h.0 h.1 h.2 (term_fits x ahead scope h.0 h.1 a h.3) (term_fits z ahead scope h.0 h.2 a h.4),
          λ m q. compared_low m e h.1 h.2,
        )
    fine (Quantified p q bs x) ahead scope y a o h =
        let k = fine x ahead (scope ++ bound_names bs) h.2 a (ok_right (binder_uses names bs) _ o) h.3 in
        subst (IsFine scope) (sym h.4) (
          closed_fits sig (copies_of step) sort_of q (bound_names bs) h.2 (sorts_in sort_of scope) (λ n m. o n.place (among_left _ _ _ (told_bound names bs n m)))
              (subst (IsFormula sig (copies_of step) h.2) (sorts_both sort_of scope (bound_names bs)) k.0),
          λ m e.
              let few = h.0 in
              let same = bound_length bs in
              let inner = inner_length scope bs in
              let rest : ℕ = m - length bs in
              let low : binders h.2 ≤ rest = k.1 rest (omega (arith, e, few, same, inner)) in
              let all = closed_binders sort_of q (bound_names bs) h.2 in
              omega (arith, e, few, same, low, all),
        )
    fine (If p x z w) ahead scope y a o h =
        let b = ok_right (uses names sig x scope) _ o in
        let k = fine x ahead scope h.0 a (ok_left _ _ o) h.3 in
        let l = fine z ahead scope h.1 a (ok_left _ _ b) h.4 in
        let n = fine w ahead scope h.2 a (ok_right (uses names sig z scope) _ b) h.5 in
        subst (IsFine scope) (sym h.6) (conditional_fits sig (copies_of step) (sorts_in sort_of scope) h.0 h.1 h.2 k.0 l.0 n.0, λ m q. conditional_low m h.0 h.1 h.2 (k.1 m q) (l.1 m q) (n.1 m q))

    each_fine : (xs : Trees) (ahead : Bool) (scope : List Name) (ys : List Formula) → IsAhead ahead → OkOn (each_uses names sig xs scope) → EachMeans names sig step sort_of xs ahead scope ys
        → All (λ y. IsFormula sig (copies_of step) y (sorts_in sort_of scope)) ys × ((m : ℕ) → length scope + m ≡ 64 → All (λ y. binders y ≤ m) ys)
    each_fine none ahead scope [] a o h = (All-nil (λ y. IsFormula sig (copies_of step) y (sorts_in sort_of scope)), λ m q. All-nil (λ y. binders y ≤ m))
    each_fine none ahead scope (y ∷ ys) a o h = absurd h
    each_fine (more x xs) ahead scope [] a o h = absurd h
    each_fine (more x xs) ahead scope (y ∷ ys) a o h =
        let k = fine x ahead scope y a (ok_left _ _ o) h.0 in
        let l = each_fine xs ahead scope ys a (ok_right (uses names sig x scope) _ o) h.1 in
        (All-cons (λ y. IsFormula sig (copies_of step) y (sorts_in sort_of scope)) y ys k.0 l.0, λ m q. All-cons (λ y. binders y ≤ m) y ys (k.1 m q) (l.1 m q))
