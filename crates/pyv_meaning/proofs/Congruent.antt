-- What is built, and what clashes, depends on the sorts of the variables in scope and those that are bound inside, alone.
use Rattle.std.proofs.Common.{◌≡◌, ℕ, ◌++◌, Bool, true, List, [], ◌∷◌, refl, sym, ap, ap₂, ◌∙◌, subst, inl, inr}
use Rattle.std.specs.Prelude.{Option, Some, None}
use Rattle.fo_core.specs.declared.names.Names.{Names}
use Rattle.fo_core.specs.declared.signature.Sig.{Sig}
use Rattle.fo_core.specs.declared.formula.Formula.{Formula}
use Rattle.fo_core.specs.declared.formula.Formula.TheVariants as F
use Rattle.pyv_meaning.specs.declared.fault.SortFault.{SortFault}
use Rattle.pyv_meaning.specs.declared.fault.SortFault.TheVariants.{SortClash}
use Rattle.pyv_meaning.specs.declared.variable.Meaning.{Meaning}
use Rattle.pyv_meaning.specs.declared.variable.Meaning.TheVariants.{Variable, Symbol, Unknown}
use Rattle.pyv_meaning.specs.declared.variable.Use.{Use}
use Rattle.pyv_meaning.specs.declared.variable.Use.TheVariants.{Binder as Binds}
use Rattle.pyv_meaning.specs.Builds.{joined, connected, conditional, quantified, closed_over, formula_of, formulas_of}
use Rattle.pyv_meaning.specs.Clashes.{suits, meaning_sort, term_sort, clash, each_clash, distinct_clash, argument_clash}
use Rattle.pyv_meaning.specs.Gets.{Among, here, there}
use Rattle.pyv_meaning.specs.NameFaults.{◌then◌, unless}
use Rattle.pyv_meaning.specs.Scope.{resolve}
use Rattle.pyv_meaning.specs.Uses.{declared_as, first_occurs, binder_uses, places, uses, each_uses, argument_uses, all_equated, sides, side, equated, stands}
use Rattle.pyv_meaning.specs.Tree.{Name, Binder, Tree, Trees, Truth, Named, New, Distinct, Not, Joined, Connected, Compared, Quantified, If, none, more, bound_names}
use Rattle.pyv_meaning.proofs.Basics.{among_left, among_right, among_either, first_or}
use Rattle.pyv_meaning.proofs.Resolved.{resolved}

pub told_bound : (names : Names) (bs : List Binder) (n : Name) → Among n (bound_names bs) → Among (Binds n.place) (binder_uses names bs)
told_bound names [] n m = elim m [ ]
told_bound names (b ∷ bs) n m =
    elim (first_or n b.name (bound_names bs) m) [
      | inl e ↦ subst (λ (z : Name). Among (Binds z.place) (binder_uses names (b ∷ bs))) (sym e) (here _ _)
      | inr q ↦ there _ _ _ (among_right _ (declared_as names b.name.place b.sort) _ (told_bound names bs n q))
    ]

module _ (names : Names) (sig : Sig) (f g : ℕ → ℕ) where
  -- they agree on what is bound in these uses
  abbrev pub SameOn : List Use → Type 0
  SameOn us = (v : ℕ) → Among (Binds v) us → f v ≡ g v

  -- they agree on the variables of the scope
  abbrev pub SameIn : List Name → Type 0
  SameIn ns = (n : Name) → Among n ns → f n.place ≡ g n.place

  on_left : (us vs : List Use) → SameOn (us ++ vs) → SameOn us
  on_left us vs h v m = h v (among_left _ us vs m)

  on_right : (us vs : List Use) → SameOn (us ++ vs) → SameOn vs
  on_right us vs h v m = h v (among_right _ us vs m)

  pub in_both : (a b : List Name) → SameIn a → SameIn b → SameIn (a ++ b)
  in_both a b h k n m = elim (among_either n a b m) [ inl q ↦ h n q | inr q ↦ k n q ]

  pub same_bound : (bs : List Binder) → SameOn (binder_uses names bs) → SameIn (bound_names bs)
  same_bound bs h n m = h n.place (told_bound names bs n m)

  pub same_closed : (q : _) (ns : List Name) (x y : Formula) → SameIn ns → x ≡ y → closed_over f q ns x ≡ closed_over g q ns y
  same_closed q [] x y h e = e
  same_closed q (n ∷ ns) x y h e = ap₂ (λ (s : ℕ) (z : Formula). quantified q s z) (h n (here _ _)) (same_closed q ns x y (λ k m. h k (there _ _ _ m)) e)

  mutual
    pub same_formula : (x : Tree) (ahead : Bool) (scope : List Name) → SameOn (uses names sig x scope) → formula_of names sig f x ahead scope ≡ formula_of names sig g x ahead scope
    same_formula (Truth p b) ahead scope h = refl
    same_formula (Named n b xs) ahead scope h = refl
    same_formula (New p x) ahead scope h = same_formula x true scope h
    same_formula (Distinct p xs) ahead scope h = refl
    same_formula (Not p x) ahead scope h = ap (λ (z : Formula). F.Not z) (same_formula x ahead scope h)
    same_formula (Joined p j xs) ahead scope h = ap (joined j) (same_formulas xs ahead scope h)
    same_formula (Connected p c x y) ahead scope h = ap₂ (connected c) (same_formula x ahead scope (on_left _ _ h)) (same_formula y ahead scope (on_right (uses names sig x scope) _ h))
    same_formula (Compared p e x y) ahead scope h = refl
    same_formula (Quantified p q bs x) ahead scope h =
        same_closed q (bound_names bs) _ _ (same_bound bs (on_left _ _ h)) (same_formula x ahead (scope ++ bound_names bs) (on_right (binder_uses names bs) _ h))
    same_formula (If p x y z) ahead scope h =
        let rest = on_right (uses names sig x scope) _ h in
        ap₂ (λ (a b : Formula). conditional a b (formula_of names sig f z ahead scope)) (same_formula x ahead scope (on_left _ _ h)) (same_formula y ahead scope (on_left _ _ rest))
        ∙ ap (λ (c : Formula). conditional (formula_of names sig g x ahead scope) (formula_of names sig g y ahead scope) c) (same_formula z ahead scope (on_right (uses names sig y scope) _ rest))

    pub same_formulas : (xs : Trees) (ahead : Bool) (scope : List Name) → SameOn (each_uses names sig xs scope) → formulas_of names sig f xs ahead scope ≡ formulas_of names sig g xs ahead scope
    same_formulas none ahead scope h = refl
    same_formulas (more x xs) ahead scope h = ap₂ (λ (a : Formula) (b : List Formula). a ∷ b) (same_formula x ahead scope (on_left _ _ h)) (same_formulas xs ahead scope (on_right (uses names sig x scope) _ h))

  same_meaning : (m : Meaning) → ((v l : ℕ) → m ≡ Variable v l → f v ≡ g v) → meaning_sort names sig f m ≡ meaning_sort names sig g m
  same_meaning (Variable v l) h = h v l refl
  same_meaning (Symbol k) h = refl
  same_meaning Unknown h = refl

  same_resolved : (scope : List Name) (w : List ℕ) → SameIn scope → meaning_sort names sig f (resolve names scope w) ≡ meaning_sort names sig g (resolve names scope w)
  same_resolved scope w h = same_meaning (resolve names scope w) (λ v l e. let r = resolved names scope w v l e in subst (λ n. f n ≡ g n) r.3 (h r.0 r.1))

  same_sort : (x : Tree) (scope : List Name) → SameIn scope → term_sort names sig f x scope ≡ term_sort names sig g x scope
  same_sort (Named n b xs) scope h = same_resolved scope n.word h
  same_sort (New p x) scope h = same_sort x scope h
  same_sort (Truth p b) scope h = refl
  same_sort (Distinct p xs) scope h = refl
  same_sort (Not p x) scope h = refl
  same_sort (Joined p j xs) scope h = refl
  same_sort (Connected p c x y) scope h = refl
  same_sort (Compared p e x y) scope h = refl
  same_sort (Quantified p q bs x) scope h = refl
  same_sort (If p x y z) scope h = refl

  mutual
    pub same_clash : (x : Tree) (want : Option ℕ) (scope : List Name) → SameIn scope → SameOn (uses names sig x scope) → clash names sig f x want scope ≡ clash names sig g x want scope
    same_clash (Truth p b) want scope i h = refl
    same_clash (Named n b xs) want scope i h =
        ap₂ (λ (s : ℕ) (r : Option SortFault). unless (suits want s) (SortClash n.place) then r) (same_resolved scope n.word i)
        (same_arguments xs (places names sig (resolve names scope n.word)) scope i (on_right (first_occurs (resolve names scope n.word) n.place) _ h))
    same_clash (New p x) want scope i h = same_clash x want scope i h
    same_clash (Distinct p xs) want scope i h = same_distinct xs scope i (on_right (all_equated (sides names sig xs scope)) _ h)
    same_clash (Not p x) want scope i h = same_clash x None scope i h
    same_clash (Joined p j xs) want scope i h = same_each xs None scope i h
    same_clash (Connected p c x y) want scope i h =
        ap₂ (λ (a b : Option SortFault). a then b) (same_clash x None scope i (on_left _ _ h)) (same_clash y None scope i (on_right (uses names sig x scope) _ h))
    same_clash (Compared p e x y) want scope i h =
        let rest = on_right (equated (side names sig x scope) (side names sig y scope)) _ h in
        ap₂ (λ (a b : Option SortFault). a then b) (same_clash x None scope i (on_left _ _ rest))
        (ap (λ (s : ℕ). clash names sig f y (Some s) scope) (same_sort x scope i) ∙ same_clash y (Some (term_sort names sig g x scope)) scope i (on_right (uses names sig x scope) _ rest))
    same_clash (Quantified p q bs x) want scope i h =
        same_clash x None (scope ++ bound_names bs) (in_both scope (bound_names bs) i (same_bound bs (on_left _ _ h))) (on_right (binder_uses names bs) _ h)
    same_clash (If p x y z) want scope i h =
        let rest = on_right (uses names sig x scope) _ h in
        ap₂ (λ (a b : Option SortFault). a then b) (same_clash x None scope i (on_left _ _ h))
        (ap₂ (λ (a b : Option SortFault). a then b) (same_clash y None scope i (on_left _ _ rest)) (same_clash z None scope i (on_right (uses names sig y scope) _ rest)))

    same_each : (xs : Trees) (want : Option ℕ) (scope : List Name) → SameIn scope → SameOn (each_uses names sig xs scope) → each_clash names sig f xs want scope ≡ each_clash names sig g xs want scope
    same_each none want scope i h = refl
    same_each (more x xs) want scope i h =
        ap₂ (λ (a b : Option SortFault). a then b) (same_clash x want scope i (on_left _ _ h)) (same_each xs want scope i (on_right (uses names sig x scope) _ h))

    same_distinct : (xs : Trees) (scope : List Name) → SameIn scope → SameOn (each_uses names sig xs scope) → distinct_clash names sig f xs scope ≡ distinct_clash names sig g xs scope
    same_distinct none scope i h = refl
    same_distinct (more x xs) scope i h =
        ap₂ (λ (a b : Option SortFault). a then b) (same_clash x None scope i (on_left _ _ h))
        (ap (λ (s : ℕ). each_clash names sig f xs (Some s) scope) (same_sort x scope i) ∙ same_each xs (Some (term_sort names sig g x scope)) scope i (on_right (uses names sig x scope) _ h))

    same_arguments : (xs : Trees) (ss : List ℕ) (scope : List Name) → SameIn scope → SameOn (argument_uses names sig xs ss scope) → argument_clash names sig f xs ss scope ≡ argument_clash names sig g xs ss scope
    same_arguments none ss scope i h = refl
    same_arguments (more x xs) [] scope i h = refl
    same_arguments (more x xs) (s ∷ ss) scope i h =
        let rest = on_right (stands (side names sig x scope) s) _ h in
        ap₂ (λ (a b : Option SortFault). a then b) (same_clash x (Some s) scope i (on_left _ _ rest)) (same_arguments xs ss scope i (on_right (uses names sig x scope) _ rest))
