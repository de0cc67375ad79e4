-- What a body means, and its first fault: one of the two, and one meaning.
use Rattle.std.proofs.Common.{◌≡◌, ℕ, ◌≤◌, false, List, [], ◌∷◌, length, refl, sym, ap, ap₂, ◌∙◌, inl, inr}
use Rattle.std.specs.Prelude.{Option, Some, None, IfSome}
use Rattle.std.specs.List.{AllByRecursion}
use Rattle.fo_core.specs.declared.names.Names.{Names}
use Rattle.fo_core.specs.declared.signature.Sig.{Sig}
use Rattle.fo_core.specs.declared.formula.Formula.{Formula}
use Rattle.pyv_meaning.specs.declared.fault.SortFault.{SortFault}
use Rattle.pyv_meaning.specs.declared.variable.Use.{Use}
use Rattle.pyv_meaning.specs.declared.variable.Use.TheVariants.{Binder as Binds, Is, Alike}
use Rattle.pyv_meaning.specs.Bodies.{params_of, closure_in, scope_in, part_uses, body_uses, PartsMean, BodyMeans, params_fault, modifies_fault, parts_fault, body_fault, parts_clash, body_clash, AreSorted, IsBodyFault, IsSound, part_formula, part_formulas_of, body_formula}
use Rattle.pyv_meaning.specs.Builds.{closed_over, formula_of}
use Rattle.pyv_meaning.specs.Closing.{parts, whole}
use Rattle.pyv_meaning.specs.Gets.{Among, here, there, Gets, itself, GetsOnly, IsFirstUnsorted, binders}
use Rattle.pyv_meaning.specs.Items.{Body}
use Rattle.pyv_meaning.specs.Means.{HaveSorts}
use Rattle.pyv_meaning.specs.NameFaults.{◌then◌, sort_fault}
use Rattle.pyv_meaning.specs.Scope.{number}
use Rattle.pyv_meaning.specs.Tree.{Name, Binder, Tree, Universal}
use Rattle.pyv_meaning.specs.Uses.{uses, binder_uses}
use Rattle.fo_core.specs.Tables.{symbol_at}
use Rattle.pyv_meaning.proofs.Agree.{SortsAre, Hold, hold_both, gets_same, binders_hold, agrees}
use Rattle.pyv_meaning.proofs.Basics.{both_fine, then_none, never, among_left, among_right}
use Rattle.pyv_meaning.proofs.Closed.{scope_told, scope_small, part_fine}
use Rattle.pyv_meaning.proofs.Complete.{bound_length, complete}
use Rattle.pyv_meaning.proofs.Congruent.{same_formula, same_closed, same_clash, told_bound}
use Rattle.pyv_meaning.proofs.Sound.{Agrees, agrees_left, agrees_right, have_sorts, sound}

-- ---- binders

pub binder_in : (us : List Use) (v : ℕ) → Among (Binds v) us → Among v (binders us)
binder_in _ v (here _ us) = here _ _
binder_in _ v (there _ (Binds w) us m) = there _ _ _ (binder_in us v m)
binder_in _ v (there _ (Is w s) us m) = binder_in us v m
binder_in _ v (there _ (Alike w x) us m) = binder_in us v m

pub each_at : {A : Type 0} (P : A → Type 0) (xs : List A) (x : A) → AllByRecursion P xs → Among x xs → P x
each_at {A = A} P _ x h (here _ xs) = h.0
each_at {A = A} P _ x h (there _ y xs m) = each_at P xs x h.1 m

pub each_then : {A : Type 0} (P Q : A → Type 0) (xs : List A) → ((x : A) → P x → Q x) → AllByRecursion P xs → AllByRecursion Q xs
each_then {A = A} P Q [] f h = tt
each_then {A = A} P Q (x ∷ xs) f h = (f x h.0, each_then P Q xs f h.1)

-- where each variable gets one sort, none is at fault
pub none_unsorted : (us : List Use) (sort_of : ℕ → ℕ) (vs : List ℕ) (f : SortFault) → AllByRecursion (λ v. GetsOnly us v (sort_of v)) vs → IsFirstUnsorted us vs f → ⊥
none_unsorted us sort_of [] f h k = k
none_unsorted us sort_of (v ∷ vs) f h k =
    elim k [
      | inl a ↦ a.1 (sort_of v) h.0.gets
      | inr r ↦ elim r [
        | inl a ↦ a.1.differ (h.0.only a.1.one a.1.gets_one ∙ sym (h.0.only a.1.other a.1.gets_other))
        | inr a ↦ none_unsorted us sort_of vs f h.1 a.1
      ]
    ]

-- nothing is asked of sorts
any_sorts : (names : Names) (sig : Sig) → SortsAre names sig (λ s. Unit {0})
any_sorts names sig = record { args = λ k. all (symbol_at sig k).args; result = λ k r. tt; told = λ w s e. tt }
  where
    all : (ss : List ℕ) → AllByRecursion (λ (s : ℕ). Unit {0}) ss
    all [] = tt
    all (s ∷ ss) = (tt, all ss)

module _ (names : Names) (sig : Sig) (b : Body) where
  one_sort_of : (f g : ℕ → ℕ) → AreSorted names sig b f → AreSorted names sig b g → (v : ℕ) → Among (Binds v) (body_uses names sig b) → f v ≡ g v
  one_sort_of f g h k v m =
      let q = binder_in (body_uses names sig b) v m in
      (each_at (λ v. GetsOnly (body_uses names sig b) v (g v)) _ v k q).only (f v) (each_at (λ v. GetsOnly (body_uses names sig b) v (f v)) _ v h q).gets

  sorts_agree : (sort_of : ℕ → ℕ) → AreSorted names sig b sort_of → Agrees sort_of (body_uses names sig b)
  sorts_agree sort_of h v s k m =
      let q = binder_in (body_uses names sig b) v k in
      sym ((each_at (λ v. GetsOnly (body_uses names sig b) v (sort_of v)) _ v h q).only s (itself v s m))

  -- ---- nothing at fault

  params_fine : (bs : List Binder) → params_fault names sig bs ≡ None → (p : Binder) → Among p bs → sort_fault names p.sort ≡ None
  params_fine _ f p (here _ bs) = let k = both_fine _ _ f in k.0
  params_fine _ f p (there _ q bs m) = let k = both_fine _ _ f in params_fine bs k.1 p m

  module _ (sort_of : ℕ → ℕ) where
    parts_sound : (xs : List Tree) → parts_fault names sig b xs ≡ None → ((x : Tree) → Among x xs → length (scope_in names b x) ≤ 64) → Agrees sort_of (part_uses names sig b xs) → parts_clash names sig b sort_of xs ≡ None
        → PartsMean names sig b sort_of xs (part_formulas_of names sig b sort_of xs)
    parts_sound [] f le a c = tt
    parts_sound (x ∷ xs) f le a c =
        let fine = both_fine _ _ f in
        let good = both_fine _ _ c in (
          (
            le x (here _ _),
            formula_of names sig sort_of x false (scope_in names b x),
            sound names sig b.step sort_of x false (scope_in names b x) (le x (here _ _)) fine.0 (agrees_left sort_of _ _ a) good.0,
            refl,
          ),
          parts_sound xs fine.1 (λ y m. le y (there _ _ _ m)) (agrees_right sort_of (uses names sig x (scope_in names b x)) _ a) good.1,
        )

    -- Where nothing is at fault, the body means what is built.
    pub body_sound : length b.params ≤ 64 → body_fault names sig b ≡ None → AreSorted names sig b sort_of → body_clash names sig b sort_of ≡ None → BodyMeans names sig b sort_of (body_formula names sig b sort_of)
    body_sound le f h c =
        let fine = both_fine _ _ f in
        let rest = both_fine _ _ fine.1 in
        let a = sorts_agree sort_of h in
        let small : length (params_of b) ≤ 64 = rw (bound_length b.params) le in
        record {
          gets = each_then (λ v. GetsOnly (body_uses names sig b) v (sort_of v)) _ _ (λ v g. g.gets) h;
          params_sorted = have_sorts names sort_of b.params (params_fine b.params fine.0) (agrees_left sort_of (binder_uses names b.params) _ a);
          part_formulas = part_formulas_of names sig b sort_of (parts b.tree);
          parts_mean = parts_sound (parts b.tree) rest.1 (λ x m. scope_small names sig b small x (part_fine names sig b (parts b.tree) x rest.1 m)) (agrees_right sort_of (binder_uses names b.params) _ a) c;
          is = refl;
        }

    -- ---- a meaning

    params_none : (bs : List Binder) → HaveSorts names sort_of bs → params_fault names sig bs ≡ None
    params_none [] h = refl
    params_none (p ∷ bs) h = then_none _ _ (told p.sort p.name.place h.0) (params_none bs h.1)
      where
        told : (d : Option Name) (v : ℕ) → IfSome d (λ (n : Name). number names.sorts n.word ≡ Some (sort_of v)) → sort_fault names d ≡ None
        told None v h = refl
        told (Some n) v h = rw h refl

    module _ (Ok : ℕ → Type 0) (sorts : SortsAre names sig Ok) where
      parts_hold : (xs : List Tree) (fs : List Formula) → PartsMean names sig b sort_of xs fs → Hold sort_of Ok (part_uses names sig b xs)
      parts_hold [] [] h = tt
      parts_hold [] (f ∷ fs) h = absurd h
      parts_hold (x ∷ xs) [] h = absurd h
      parts_hold (x ∷ xs) (f ∷ fs) h =
          hold_both sort_of Ok (uses names sig x (scope_in names b x)) _ (agrees names sig b.step sort_of Ok sorts x false (scope_in names b x) h.0.1 h.0.2) (parts_hold xs fs h.1)

      -- The sorts of a body's variables agree with all that it tells.
      pub body_holds : (y : Formula) → BodyMeans names sig b sort_of y → Hold sort_of Ok (body_uses names sig b)
      body_holds y h = hold_both sort_of Ok (binder_uses names b.params) _ (binders_hold names sig sort_of Ok sorts b.params h.params_sorted) (parts_hold (parts b.tree) h.part_formulas h.parts_mean)

    parts_complete : (xs : List Tree) (fs : List Formula) → PartsMean names sig b sort_of xs fs
        → (parts_fault names sig b xs ≡ None) × (parts_clash names sig b sort_of xs ≡ None) × (part_formulas_of names sig b sort_of xs ≡ fs)
    parts_complete [] [] h = (refl, refl, refl)
    parts_complete [] (f ∷ fs) h = absurd h
    parts_complete (x ∷ xs) [] h = absurd h
    parts_complete (x ∷ xs) (f ∷ fs) h =
        let one = complete names sig b.step sort_of x false (scope_in names b x) h.0.1 h.0.0 h.0.2 in
        let rest = parts_complete xs fs h.1 in
        let made : part_formula names sig b sort_of x ≡ f = ap (closed_over sort_of Universal (closure_in names b x)) one.2 ∙ sym h.0.3 in
        (then_none _ _ one.0 rest.0, then_none _ _ one.1 rest.1, ap₂ (λ (y : Formula) (ys : List Formula). y ∷ ys) made rest.2)

    -- Where the body means a formula, nothing is at fault, and it is the one that is built.
    pub body_complete : (y : Formula) → modifies_fault names sig b.modifies ≡ None → BodyMeans names sig b sort_of y
        → (body_fault names sig b ≡ None) × AreSorted names sig b sort_of × (body_clash names sig b sort_of ≡ None) × (y ≡ body_formula names sig b sort_of)
    body_complete y f h =
        let k = parts_complete (parts b.tree) h.part_formulas h.parts_mean in
        let holds = body_holds (λ s. Unit {0}) (any_sorts names sig) y h in (
          then_none _ _ (params_none b.params h.params_sorted) (then_none _ _ f k.0),
          each_then (λ v. Gets (body_uses names sig b) v (sort_of v)) _ _ (λ v g. record { gets = g; only = λ r q. sym (gets_same sort_of (λ s. Unit {0}) (body_uses names sig b) v r holds q) }) h.gets,
          k.1,
          h.is ∙ ap (whole b.tree) (sym k.2),
        )

  -- ---- one meaning

  module _ (f g : ℕ → ℕ) (fine : body_fault names sig b ≡ None) (h : AreSorted names sig b f) (k : AreSorted names sig b g) where
    parts_are_fine : parts_fault names sig b (parts b.tree) ≡ None
    parts_are_fine = let r = both_fine _ _ fine in let s = both_fine _ _ r.1 in s.1

    same_scope : (x : Tree) (n : Name) → Among n (scope_in names b x) → f n.place ≡ g n.place
    same_scope x n m = one_sort_of f g h k n.place (scope_told names sig b parts_are_fine x n m)

    pub same_params : (n : Name) → Among n (params_of b) → f n.place ≡ g n.place
    same_params n m = one_sort_of f g h k n.place (among_left _ _ _ (told_bound names b.params n m))

    same_parts : (xs : List Tree) → ((v : ℕ) → Among (Binds v) (part_uses names sig b xs) → f v ≡ g v)
        → (part_formulas_of names sig b f xs ≡ part_formulas_of names sig b g xs) × (parts_clash names sig b f xs ≡ parts_clash names sig b g xs)
    same_parts [] s = (refl, refl)
    same_parts (x ∷ xs) s =
        let rest = same_parts xs (λ v m. s v (among_right _ (uses names sig x (scope_in names b x)) _ m)) in
        let here_same = λ (v : ℕ) (m : Among (Binds v) (uses names sig x (scope_in names b x))). s v (among_left _ _ _ m) in (
          ap₂ (λ (y : Formula) (ys : List Formula). y ∷ ys)
              (same_closed names sig f g Universal (closure_in names b x) _ _ (λ n m. same_scope x n (among_right n (params_of b) _ m)) (same_formula names sig f g x false (scope_in names b x) here_same)) rest.0,
          ap₂ (λ (p q : Option SortFault). p then q) (same_clash names sig f g x None (scope_in names b x) (same_scope x) here_same) rest.1,
        )

    -- It doesn't matter which sorts are handed in.
    pub body_same : (body_formula names sig b f ≡ body_formula names sig b g) × (body_clash names sig b f ≡ body_clash names sig b g)
    body_same =
        let r = same_parts (parts b.tree) (λ v m. one_sort_of f g h k v (among_right _ (binder_uses names b.params) _ m)) in
        (ap (whole b.tree) r.0, r.1)

  -- A body that means something has no first fault.
  pub body_excluded : (sort_of : ℕ → ℕ) (y : Formula) (e : SortFault) → modifies_fault names sig b.modifies ≡ None → BodyMeans names sig b sort_of y → IsBodyFault names sig b e → ⊥
  body_excluded sort_of y e f m h =
      let c = body_complete sort_of y f m in
      elim h [
        | inl a ↦ never _ e c.0 a
        | inr r ↦ elim r [
          | inl a ↦ none_unsorted (body_uses names sig b) sort_of _ e c.1 a.1
          | inr a ↦ never _ e (sym (body_same sort_of a.1 c.0 c.1 a.2).1 ∙ c.2) a.3
        ]
      ]

  -- A body that is sound has no first fault, either.
  pub sound_excluded : (e : SortFault) → IsSound names sig b → IsBodyFault names sig b e → ⊥
  sound_excluded e s h =
      elim h [
        | inl a ↦ never _ e s.names_fine a
        | inr r ↦ elim r [
          | inl a ↦ none_unsorted (body_uses names sig b) s.sort_of _ e s.sorted a.1
          | inr a ↦ never _ e (sym (body_same s.sort_of a.1 s.names_fine s.sorted a.2).1 ∙ s.no_clash) a.3
        ]
      ]
