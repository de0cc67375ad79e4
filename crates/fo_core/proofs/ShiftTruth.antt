-- A moved formula is true where the formula is true that many copies on.
use Rattle.std.proofs.Common.{◌≡◌, ℕ, zero, suc, length, get_or, Bool, true, false, cond, ◌+◌, ◌<◌, ◌↔◌, ◌⊎◌, inl, inr, List, [], ◌∷◌, ◌++◌, map, refl, sym, ap, subst, ◌∙◌, arith}
use Rattle.std.specs.List.{All, Any}
use Rattle.std.specs.Prelude.{slice_index, slice_index_or}
use Rattle.fo_core.specs.declared.signature.Sig.{Sig}
use Rattle.fo_core.specs.declared.term.Term.{Term, Var, App', Row_of-Term, end_of-Term, more_of-Term}
use Rattle.fo_core.specs.declared.formula.Formula.{Formula, True, False, Rel, Eq, Not', And', Or', All', Ex', Row_of-Formula, end_of-Formula, more_of-Formula}
use Rattle.fo_core.specs.declared.formula.Formula.TheVariants as F
use Rattle.fo_core.specs.declared.world.Table.{Table}
use Rattle.fo_core.specs.declared.world.World.{World}
use Rattle.fo_core.specs.Tables.{no_table, symbol_at, arg_sizes, place, rank, entry}
use Rattle.fo_core.specs.Truth.{value, values, Truth, EachTrue, SomeTrue}
use Rattle.fo_core.specs.Shift.{moved, shift_term, shift_terms, shift, shift_row}
use Rattle.std.proofs.lemmas.List.Elements.{All-nil, All-cons, All-head, All-tail}
use Rattle.fo_core.proofs.Rows.{value-App, truth-Not, truth-And, truth-Or, truth-All, truth-Ex}

pub either_way : {P Q R S : Type 0} → (P → Q) → (R → S) → P ⊎ R → Q ⊎ S
either_way h k (inl p) = inl (h p)
either_way h k (inr p) = inr (k p)

module _ {X : Type 0} (P : X → Type 0) (x : X) (xs : List X) where
  pub any_cases : Any P (x ∷ xs) → P x ⊎ Any P xs
  any_cases h = at h.0 h.1 h.2 h.3 h.4
    where
      at : (k : ℕ) (y : X) → k < length (x ∷ xs) → get_or (x ∷ xs) k y ≡ y → P y → P x ⊎ Any P xs
      at zero y lt e p = inl (subst P (sym e) p)
      at (suc k) y lt e p = inr (k, y, omega arith, e, p)

  pub any_made : P x ⊎ Any P xs → Any P (x ∷ xs)
  any_made (inl p) = (0, x, omega arith, refl, p)
  any_made (inr a) = (suc a.0, a.1, omega (arith, a.2), a.3, a.4)

module _ (sig : Sig) (w : World) (c by : ℕ) where
  -- an entry after the move is the entry that many copies on
  entry-moved : (k d : ℕ) (xs : List ℕ) → entry sig w (c + moved sig by k d) k xs ≡ entry sig w (c + by + d) k xs
  entry-moved k d xs = ap (λ (t : Table). slice_index t.values (place (arg_sizes w.sizes (symbol_at sig k)) xs)) (by_kind (symbol_at sig k).mutable)
    where
      by_kind : (b : Bool) → cond b (slice_index_or (slice_index_or w.copies (c + cond b (d + by) d) []) (rank sig k) no_table) (slice_index_or w.fixed (rank sig k) no_table)
          ≡ cond b (slice_index_or (slice_index_or w.copies (c + by + d) []) (rank sig k) no_table) (slice_index_or w.fixed (rank sig k) no_table)
      by_kind true = let same : c + (d + by) ≡ c + by + d = omega arith in ap (λ n. slice_index_or (slice_index_or w.copies n []) (rank sig k) no_table) same
      by_kind false = refl

  mutual
    pub value-moved : (t : Term) (vs : List ℕ) → value sig w c (shift_term sig by t) vs ≡ value sig w (c + by) t vs
    value-moved (Var i) vs = refl
    value-moved (App' f d _ args) vs =
        value-App sig w c f (moved sig by f d) (shift_terms sig by args) vs ∙ entry-moved f d _ ∙ ap (entry sig w (c + by + d) f) (values-moved args vs)

    values-moved : {n : _} (row : Row_of-Term n) (vs : List ℕ) → map (λ t. value sig w c t vs) (shift_terms sig by row) ≡ values sig w (c + by) row vs
    values-moved end_of-Term vs = refl
    values-moved (more_of-Term t rest) vs = ap (λ x. x ∷ map (λ t. value sig w c t vs) (shift_terms sig by rest)) (value-moved t vs) ∙ ap (λ xs. value sig w (c + by) t vs ∷ xs) (values-moved rest vs)

  each_of : (fs : List Formula) (vs : List ℕ) → Truth sig w c (F.And fs) vs ↔ All (λ f. Truth sig w c f vs) fs
  each_of fs vs = truth-And sig w c fs vs

  list-moved : (ts : List Term) (vs : List ℕ) → map (λ t. value sig w c t vs) (map (shift_term sig by) ts) ≡ map (λ t. value sig w (c + by) t vs) ts
  list-moved [] vs = refl
  list-moved (t ∷ ts) vs = ap (λ x. x ∷ map (λ t. value sig w c t vs) (map (shift_term sig by) ts)) (value-moved t vs) ∙ ap (λ xs. value sig w (c + by) t vs ∷ xs) (list-moved ts vs)

  mutual
    pub truth-moved : (f : Formula) (vs : List ℕ) → Truth sig w c (shift sig by f) vs ↔ Truth sig w (c + by) f vs
    truth-moved True vs = (λ h. h, λ h. h)
    truth-moved False vs = (λ h. h, λ h. h)
    truth-moved (Rel r d args) vs =
        let same = entry-moved r d (map (λ t. value sig w c t vs) (map (shift_term sig by) args)) ∙ ap (entry sig w (c + by + d) r) (list-moved args vs) in
        (λ h. sym same ∙ h, λ h. same ∙ h)
    truth-moved (Eq a b) vs = (λ h. sym (value-moved a vs) ∙ h ∙ value-moved b vs, λ h. value-moved a vs ∙ h ∙ sym (value-moved b vs))
    truth-moved (Not' _ (more_of-Formula f _)) vs =
        let r = truth-moved f vs in
        let at = truth-Not sig w c (shift sig by f) vs in
        (λ h p. subst (λ (A : Type 0). A) at h (r.1 p), λ np. subst (λ (A : Type 0). A) (sym at) (λ p. np (r.0 p)))
    truth-moved (And' _ fs) vs =
        let r = each-moved fs vs in
        let at = truth-And sig w c (shift_row sig by fs) vs in
        (λ h. r.0 (at.0 h), λ h. at.1 (r.1 h))
    truth-moved (Or' _ fs) vs =
        let r = some-moved fs vs in
        let at = truth-Or sig w c (shift_row sig by fs) vs in
        (λ h. r.0 (at.0 h), λ h. at.1 (r.1 h))
    truth-moved (All' s _ (more_of-Formula f _)) vs =
        let at = truth-All sig w c s (shift sig by f) vs in
        (λ h x lt. (truth-moved f (vs ++ x ∷ [])).0 (subst (λ (A : Type 0). A) at h x lt), λ h. subst (λ (A : Type 0). A) (sym at) (λ x lt. (truth-moved f (vs ++ x ∷ [])).1 (h x lt)))
    truth-moved (Ex' s _ (more_of-Formula f _)) vs =
        let at = truth-Ex sig w c s (shift sig by f) vs in
        (λ h. let e = subst (λ (A : Type 0). A) at h in (e.0, e.1, (truth-moved f (vs ++ e.0 ∷ [])).0 e.2), λ e. subst (λ (A : Type 0). A) (sym at) (e.0, e.1, (truth-moved f (vs ++ e.0 ∷ [])).1 e.2))

    each-moved : {n : _} (row : Row_of-Formula n) (vs : List ℕ) → All (λ f. Truth sig w c f vs) (shift_row sig by row) ↔ EachTrue sig w (c + by) row vs
    each-moved end_of-Formula vs = (λ h. tt, λ h. All-nil (λ f. Truth sig w c f vs))
    each-moved (more_of-Formula f rest) vs =
        let r = truth-moved f vs in
        let rs = each-moved rest vs in (
          λ h. (r.0 (All-head (λ f. Truth sig w c f vs) (shift sig by f) (shift_row sig by rest) h), rs.0 (All-tail (λ f. Truth sig w c f vs) (shift sig by f) (shift_row sig by rest) h)),
          λ h. All-cons (λ f. Truth sig w c f vs) (shift sig by f) (shift_row sig by rest) (r.1 h.0) (rs.1 h.1),
        )

    some-moved : {n : _} (row : Row_of-Formula n) (vs : List ℕ) → Any (λ f. Truth sig w c f vs) (shift_row sig by row) ↔ SomeTrue sig w (c + by) row vs
    some-moved end_of-Formula vs = (λ h. absurd (omega (arith, h.2)), λ h. absurd h)
    some-moved (more_of-Formula f rest) vs = (
      λ h. either_way (truth-moved f vs).0 (some-moved rest vs).0 (any_cases (λ f. Truth sig w c f vs) (shift sig by f) (shift_row sig by rest) h),
      λ h. any_made (λ f. Truth sig w c f vs) (shift sig by f) (shift_row sig by rest) (either_way (truth-moved f vs).1 (some-moved rest vs).1 h),
    )
