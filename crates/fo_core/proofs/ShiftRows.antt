-- What a move says at each constructor, over lists, and that it keeps formulas well-sorted.
use Rattle.std.proofs.Common.{◌≡◌, ℕ, Bool, true, false, cond, List, [], ◌∷◌, ◌++◌, ◌+◌, ◌<◌, ◌≤◌, ◌^◌, length, map, refl, sym, ap, subst, ◌∙◌, arith}
use Rattle.std.specs.List.{All, AllZip}
use Rattle.std.proofs.lemmas.List.Elements.{All-nil, All-cons}
use denote.Hole.Carrier.{hidden}
use Rattle.fo_core.specs.declared.signature.Sig.{Sig}
use Rattle.fo_core.specs.declared.term.Term.{Term, Var, App', Row_of-Term, end_of-Term, more_of-Term, items-the_row-Term, items_hidden-the_row-Term-0}
use Rattle.fo_core.specs.declared.term.Term.TheVariants.{App}
use Rattle.fo_core.specs.declared.formula.Formula.{Formula, True, False, Rel, Eq, Not', And', Or', All', Ex', Row_of-Formula, end_of-Formula, more_of-Formula, items-the_row-Formula, items_hidden-the_row-Formula-1}
use Rattle.fo_core.specs.declared.formula.Formula.TheBlock.{shape-the_row-Formula-0, hidden-the_row-Formula-0}
use Rattle.fo_core.specs.declared.formula.Formula.TheVariants as F
use Rattle.fo_core.specs.Tables.{symbol_at}
use Rattle.fo_core.specs.Sorted.{IsSymbol, IsTerm, AreTerms, IsFormula, AreFormulas}
use Rattle.fo_core.specs.Shift.{moved, shift_term, shift_terms, shift, shift_row, CanShift, CanShiftTerm}
use Rattle.fo_core.proofs.Rows.{args_of, row_of, sorted-Not, sorted-And, sorted-Or, sorted-All, sorted-Ex, And-sorted, Or-sorted, sorted-App, App-sorted}

module _ (sig : Sig) (by : ℕ) where
  terms_map : (n : _) (row : Row_of-Term n) → shift_terms sig by row ≡ map (shift_term sig by) (items-the_row-Term n row)
  terms_map n end_of-Term = refl
  terms_map n (more_of-Term t rest) = ap (λ ts. shift_term sig by t ∷ ts) (terms_map _ rest)

  pub shift-App : (f d : ℕ) (args : List Term) → shift_term sig by (App f d args) ≡ App f (moved sig by f d) (map (shift_term sig by) args)
  shift-App f d args =
      let row = args_of (App f d args) in
      ap (App f (moved sig by f d)) (terms_map row.0 row.1 ∙ ap (map (shift_term sig by)) (items_hidden-the_row-Term-0 args))

  row_map : (n : _) (row : Row_of-Formula n) → shift_row sig by row ≡ map (shift sig by) (items-the_row-Formula n row)
  row_map n end_of-Formula = refl
  row_map n (more_of-Formula f rest) = ap (λ fs. shift sig by f ∷ fs) (row_map _ rest)

  pub shift-And : (fs : List Formula) → shift sig by (F.And fs) ≡ F.And (map (shift sig by) fs)
  shift-And fs =
      let row = row_of (F.And fs) in
      ap F.And (row_map row.0 row.1 ∙ ap (map (shift sig by)) (items_hidden-the_row-Formula-1 fs))

  pub shift-Or : (fs : List Formula) → shift sig by (F.Or fs) ≡ F.Or (map (shift sig by) fs)
  shift-Or fs =
      let row = row_of (F.Or fs) in
      ap F.Or (row_map row.0 row.1 ∙ ap (map (shift sig by)) (items_hidden-the_row-Formula-1 fs))

  pub shift-Not : (f : Formula) → shift sig by (F.Not f) ≡ F.Not (shift sig by f)
  unfolding shape-the_row-Formula-0 hidden-the_row-Formula-0 hidden
  shift-Not f = refl

  pub shift-All : (s : ℕ) (f : Formula) → shift sig by (F.All s f) ≡ F.All s (shift sig by f)
  unfolding shape-the_row-Formula-0 hidden-the_row-Formula-0 hidden
  shift-All s f = refl

  pub shift-Ex : (s : ℕ) (f : Formula) → shift sig by (F.Ex s f) ≡ F.Ex s (shift sig by f)
  unfolding shape-the_row-Formula-0 hidden-the_row-Formula-0 hidden
  shift-Ex s f = refl

  -- a formula that can be shifted, and its parts
  pub can-Not : (f : Formula) → CanShift sig by (F.Not f) → CanShift sig by f
  can-Not f h = record { copies = h.copies; sorts = h.sorts; sorted = subst (λ (A : Type 0). A) (sorted-Not sig h.copies f h.sorts) h.sorted; room = h.room }

  pub can-All : (s : ℕ) (f : Formula) → CanShift sig by (F.All s f) → CanShift sig by f
  can-All s f h = record { copies = h.copies; sorts = h.sorts ++ s ∷ []; sorted = (subst (λ (A : Type 0). A) (sorted-All sig h.copies s f h.sorts) h.sorted).1; room = h.room }

  pub can-Ex : (s : ℕ) (f : Formula) → CanShift sig by (F.Ex s f) → CanShift sig by f
  can-Ex s f h = record { copies = h.copies; sorts = h.sorts ++ s ∷ []; sorted = (subst (λ (A : Type 0). A) (sorted-Ex sig h.copies s f h.sorts) h.sorted).1; room = h.room }

  pub can-And : (fs : List Formula) → CanShift sig by (F.And fs) → All (CanShift sig by) fs
  can-And fs h k d lt = record { copies = h.copies; sorts = h.sorts; sorted = sorted-And sig h.copies fs h.sorts h.sorted k d lt; room = h.room }

  pub can-Or : (fs : List Formula) → CanShift sig by (F.Or fs) → All (CanShift sig by) fs
  can-Or fs h k d lt = record { copies = h.copies; sorts = h.sorts; sorted = sorted-Or sig h.copies fs h.sorts h.sorted k d lt; room = h.room }

  zip_each : (copies : ℕ) (sorts : List ℕ) → copies + by ≤ 2 ^ 32 → (ts : List Term) (rs : List ℕ) → AllZip (λ t s. IsTerm sig copies t sorts s) ts rs → All (CanShiftTerm sig by) ts
  zip_each copies sorts room [] rs h = All-nil (CanShiftTerm sig by)
  zip_each copies sorts room (t ∷ ts) [] h = absurd h
  zip_each copies sorts room (t ∷ ts) (r ∷ rs) h =
      All-cons (CanShiftTerm sig by) t ts (record { copies = copies; sorts = sorts; sort = r; sorted = h.0; room = room }) (zip_each copies sorts room ts rs h.1)

  in_room : (copies : ℕ) (relation : Bool) (k d : ℕ) → copies + by ≤ 2 ^ 32 → IsSymbol sig copies relation k d → (symbol_at sig k).mutable ≡ true → d + by < 2 ^ 32
  in_room copies relation k d room h is =
      let lt : d < copies = subst (λ b. d < cond b copies 1) is h.copy in
      omega arith

  pub can-Rel : (r d : ℕ) (args : List Term) → CanShift sig by (Rel r d args) → (r < length sig.symbols) × ((symbol_at sig r).mutable ≡ true → d + by < 2 ^ 32) × All (CanShiftTerm sig by) args
  can-Rel r d args h = (h.sorted.0.within, in_room h.copies true r d h.room h.sorted.0, zip_each h.copies h.sorts h.room args (symbol_at sig r).args h.sorted.1)

  pub can-App : (f d : ℕ) (args : List Term) → CanShiftTerm sig by (App f d args) → (f < length sig.symbols) × ((symbol_at sig f).mutable ≡ true → d + by < 2 ^ 32) × All (CanShiftTerm sig by) args
  can-App f d args h =
      let parts = sorted-App sig h.copies f d args h.sorts h.sort h.sorted in
      (parts.0.within, in_room h.copies false f d h.room parts.0, zip_each h.copies h.sorts h.room args (symbol_at sig f).args parts.2)

  pub can-Eq : (a b : Term) → CanShift sig by (Eq a b) → CanShiftTerm sig by a × CanShiftTerm sig by b
  can-Eq a b h = (
    record { copies = h.copies; sorts = h.sorts; sort = h.sorted.0; sorted = h.sorted.1; room = h.room },
    record { copies = h.copies; sorts = h.sorts; sort = h.sorted.0; sorted = h.sorted.2; room = h.room },
  )

  -- what is well-sorted stays so
  symbol-moved : (n : ℕ) (relation : Bool) (k d : ℕ) → IsSymbol sig n relation k d → IsSymbol sig (n + by) relation k (moved sig by k d)
  symbol-moved n relation k d h = record { within = h.within; kind = h.kind; copy = by_kind (symbol_at sig k).mutable h.copy }
    where
      by_kind : (b : Bool) → d < cond b n 1 → cond b (d + by) d < cond b (n + by) 1
      by_kind true lt = omega arith
      by_kind false lt = lt

  mutual
    pub term-sorted : (n : ℕ) (t : Term) (ss : List ℕ) (s : ℕ) → IsTerm sig n t ss s → IsTerm sig (n + by) (shift_term sig by t) ss s
    term-sorted n (Var i) ss s h = h
    term-sorted n (App' f d _ args) ss s h =
        App-sorted sig (n + by) f (moved sig by f d) (shift_terms sig by args) ss s (symbol-moved n false f d h.0) h.1 (terms-sorted n args ss (symbol_at sig f).args h.2)

    terms-sorted : (n : ℕ) {m : _} (row : Row_of-Term m) (ss rs : List ℕ) → AreTerms sig n row ss rs → AllZip (λ t s. IsTerm sig (n + by) t ss s) (shift_terms sig by row) rs
    terms-sorted n end_of-Term ss [] h = tt
    terms-sorted n end_of-Term ss (s ∷ rs) h = absurd h
    terms-sorted n (more_of-Term t rest) ss [] h = absurd h
    terms-sorted n (more_of-Term t rest) ss (s ∷ rs) h = (term-sorted n t ss s h.0, terms-sorted n rest ss rs h.1)

  list-sorted : (n : ℕ) (ts : List Term) (ss rs : List ℕ) → AllZip (λ t s. IsTerm sig n t ss s) ts rs → AllZip (λ t s. IsTerm sig (n + by) t ss s) (map (shift_term sig by) ts) rs
  list-sorted n [] ss [] h = tt
  list-sorted n [] ss (r ∷ rs) h = absurd h
  list-sorted n (t ∷ ts) ss [] h = absurd h
  list-sorted n (t ∷ ts) ss (r ∷ rs) h = (term-sorted n t ss r h.0, list-sorted n ts ss rs h.1)

  mutual
    pub shift-sorted : (n : ℕ) (f : Formula) (ss : List ℕ) → IsFormula sig n f ss → IsFormula sig (n + by) (shift sig by f) ss
    shift-sorted n True ss h = tt
    shift-sorted n False ss h = tt
    shift-sorted n (Rel r d args) ss h = (symbol-moved n true r d h.0, list-sorted n args ss (symbol_at sig r).args h.1)
    shift-sorted n (Eq a b) ss h = (h.0, term-sorted n a ss h.0 h.1, term-sorted n b ss h.0 h.2)
    shift-sorted n (Not' _ (more_of-Formula f _)) ss h = subst (λ (A : Type 0). A) (sym (sorted-Not sig (n + by) (shift sig by f) ss)) (shift-sorted n f ss h)
    shift-sorted n (And' _ row) ss h = And-sorted sig (n + by) (shift_row sig by row) ss (row-sorted n row ss h)
    shift-sorted n (Or' _ row) ss h = Or-sorted sig (n + by) (shift_row sig by row) ss (row-sorted n row ss h)
    shift-sorted n (All' s _ (more_of-Formula f _)) ss h = subst (λ (A : Type 0). A) (sym (sorted-All sig (n + by) s (shift sig by f) ss)) (h.0, shift-sorted n f (ss ++ s ∷ []) h.1)
    shift-sorted n (Ex' s _ (more_of-Formula f _)) ss h = subst (λ (A : Type 0). A) (sym (sorted-Ex sig (n + by) s (shift sig by f) ss)) (h.0, shift-sorted n f (ss ++ s ∷ []) h.1)

    row-sorted : (n : ℕ) {m : _} (row : Row_of-Formula m) (ss : List ℕ) → AreFormulas sig n row ss → All (λ f. IsFormula sig (n + by) f ss) (shift_row sig by row)
    row-sorted n end_of-Formula ss h = All-nil (λ f. IsFormula sig (n + by) f ss)
    row-sorted n (more_of-Formula f rest) ss h = All-cons (λ f. IsFormula sig (n + by) f ss) (shift sig by f) (shift_row sig by rest) (shift-sorted n f ss h.0) (row-sorted n rest ss h.1)
