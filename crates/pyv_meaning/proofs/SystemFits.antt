-- A system that is meant is well-sorted, its names fit, and no place of it stands under more than 64 binders.
use Rattle.std.proofs.Common.{◌≡◌, ℕ, ◌-◌, ◌<◌, ◌≤◌, false, List, [], ◌∷◌, length, sym, subst, arith, length-append}
use Rattle.std.specs.Prelude.{Some, None}
use Rattle.std.specs.List.{All}
use Rattle.std.proofs.lemmas.List.Elements.{All-nil, All-cons, All-head, All-tail}
use Rattle.fo_core.specs.Sorted.{IsFormula, binders}
use Rattle.fo_core.specs.declared.names.Names.{Names}
use Rattle.fo_core.specs.declared.signature.Sig.{Sig}
use Rattle.fo_core.specs.declared.formula.Formula.{Formula}
use Rattle.fo_core.specs.declared.formula.Formula.TheVariants as F
use Rattle.fo_core.proofs.Rows.{And-sorted, And-binders}
use Rattle.pyv_meaning.specs.declared.variable.Use.TheVariants.{Binder as Binds}
use Rattle.pyv_meaning.specs.Bodies.{params_of, closure_in, scope_in, part_uses, body_uses, PartMeans, PartsMean, BodyMeans, modifies_fault}
use Rattle.pyv_meaning.specs.Closing.{parts, whole}
use Rattle.pyv_meaning.specs.Gets.{Among, here, there, Gets}
use Rattle.pyv_meaning.specs.Gets as gets
use Rattle.pyv_meaning.specs.Items.{Body}
use Rattle.pyv_meaning.specs.Scope.{number}
use Rattle.pyv_meaning.specs.Uses.{uses, binder_uses}
use Rattle.pyv_meaning.specs.Tree.{Name, Tree, Joined, Conjunction, Universal}
use Rattle.pyv_meaning.proofs.Agree.{SortsAre, gets_ok}
use Rattle.pyv_meaning.proofs.Basics.{both_fine, among_left, among_right}
use Rattle.pyv_meaning.proofs.Closed.{scope_told}
use Rattle.pyv_meaning.proofs.Fits.{copies_of, IsFine, fine}
use Rattle.pyv_meaning.proofs.Forms.{sorts_in, sorts_both, closed_fits, closed_binders}
use Rattle.pyv_meaning.proofs.Top.{binder_in, each_at, body_holds, body_complete}

-- the members' formula, or the whole's
whole_all : (P : Formula → Type 0) (x : Tree) (fs : List Formula) → P F.True → (All P fs → P (F.And fs)) → All P fs → P (whole x fs)
whole_all P (Joined p Conjunction xs) fs t j h = j h
whole_all P x [] t j h = t
whole_all P x (f ∷ fs) t j h = All-head P f fs h

module _ (names : Names) (sig : Sig) (known : (w : List ℕ) (k : ℕ) → number names.symbols w ≡ Some k → k < length sig.symbols) (declared : SortsAre names sig (λ s. s < sig.sorts)) (b : Body) (sort_of : ℕ → ℕ) where
  abbrev Fine : Formula → Type 0
  Fine = IsFine names sig b.step sort_of known (params_of b)

  module _ (ok : (v : ℕ) → Among (Binds v) (body_uses names sig b) → sort_of v < sig.sorts) (told : (x : Tree) (n : Name) → Among n (scope_in names b x) → Among (Binds n.place) (body_uses names sig b)) where
    part_fine : (x : Tree) (f : Formula) → ((v : ℕ) → Among (Binds v) (uses names sig x (scope_in names b x)) → sort_of v < sig.sorts) → PartMeans names sig b sort_of x f → Fine f
    part_fine x f o h =
        let k = fine names sig b.step sort_of known x false (scope_in names b x) h.1 (λ e. absurd (cc)) o h.2 in
        subst Fine (sym h.3) (
          closed_fits sig (copies_of b.step) sort_of Universal (closure_in names b x) h.1 (sorts_in sort_of (params_of b)) (λ n m. ok n.place (told x n (among_right n (params_of b) _ m)))
              (subst (IsFormula sig (copies_of b.step) h.1) (sorts_both sort_of (params_of b) (closure_in names b x)) k.0),
          λ m e.
              let few = h.0 in
              let long = length-append (params_of b) (closure_in names b x) in
              let rest : ℕ = m - length (closure_in names b x) in
              let low : binders h.1 ≤ rest = k.1 rest (omega (arith, e, few, long)) in
              let all = closed_binders sort_of Universal (closure_in names b x) h.1 in
              omega (arith, e, few, long, low, all),
        )

    parts_fine : (xs : List Tree) (fs : List Formula) → ((v : ℕ) → Among (Binds v) (part_uses names sig b xs) → sort_of v < sig.sorts) → PartsMean names sig b sort_of xs fs → All Fine fs
    parts_fine [] [] o h = All-nil Fine
    parts_fine [] (f ∷ fs) o h = absurd h
    parts_fine (x ∷ xs) [] o h = absurd h
    parts_fine (x ∷ xs) (f ∷ fs) o h =
        All-cons Fine f fs (part_fine x f (λ v m. o v (among_left _ _ _ m)) h.0) (parts_fine xs fs (λ v m. o v (among_right _ (uses names sig x (scope_in names b x)) _ m)) h.1)

  all_then : (P Q : Formula → Type 0) (fs : List Formula) → ((f : Formula) → P f → Q f) → All P fs → All Q fs
  all_then P Q [] g h = All-nil Q
  all_then P Q (f ∷ fs) g h = All-cons Q f fs (g f (All-head P f fs h)) (all_then P Q fs g (All-tail P f fs h))

  module _ (y : Formula) (modifies : modifies_fault names sig b.modifies ≡ None) (meant : BodyMeans names sig b sort_of y) where
    -- the sorts of a body's variables are sorts of the signature
    pub sorts_ok : (v : ℕ) → Among (Binds v) (body_uses names sig b) → sort_of v < sig.sorts
    sorts_ok v m =
        gets_ok sort_of (λ s. s < sig.sorts) (body_uses names sig b) v (sort_of v) (body_holds names sig b sort_of (λ s. s < sig.sorts) declared y meant)
        (each_at (λ v. Gets (body_uses names sig b) v (sort_of v)) (gets.binders (body_uses names sig b)) v meant.gets (binder_in (body_uses names sig b) v m))

    pub body_fine : Fine y
    body_fine =
        let c = body_complete names sig b sort_of y modifies meant in
        let f = both_fine _ _ c.0 in
        let g = both_fine _ _ f.1 in
        let all = parts_fine sorts_ok (scope_told names sig b g.1) (parts b.tree) meant.part_formulas (λ v m. sorts_ok v (among_right _ (binder_uses names b.params) _ m)) meant.parts_mean in
        subst Fine (sym meant.is) (whole_all Fine b.tree meant.part_formulas (tt, λ m e. omega arith)
        (λ h. (
          And-sorted sig (copies_of b.step) meant.part_formulas (sorts_in sort_of (params_of b)) (all_then Fine _ meant.part_formulas (λ z k. k.0) h),
          λ m e. And-binders meant.part_formulas m (all_then Fine _ meant.part_formulas (λ z k. k.1 m e) h),
        )) all)
