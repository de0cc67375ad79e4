-- Faults in order, and members of lists.
use Rattle.std.proofs.Common.{◌≡◌, ℕ, ◌<◌, ◌++◌, ◌&&◌, Bool, true, false, not, List, [], ◌∷◌, refl, sym, ◌∙◌, subst, inl, inr, ◌⊎◌}
use Rattle.std.specs.Prelude.{Option, Some, None, nat_lt}
use Rattle.std.proofs.lemmas.Bool.{ltb-true, lt-ltb}
use Rattle.pyv_meaning.specs.declared.fault.SortFault.{SortFault}
use Rattle.pyv_meaning.specs.Gets.{Among, here, there}
use Rattle.pyv_meaning.specs.NameFaults.{◌then◌, unless}

-- nothing is at fault in either
pub both_fine : (f g : Option SortFault) → (f then g) ≡ None → (f ≡ None) × (g ≡ None)
both_fine None g h = (refl, h)
both_fine (Some e) g h = absurd (cc)

pub then_none : (f g : Option SortFault) → f ≡ None → g ≡ None → (f then g) ≡ None
then_none f g h k = rw h k

pub unless_fine : (b : Bool) (e : SortFault) → unless b e ≡ None → b ≡ true
unless_fine true e h = refl
unless_fine false e h = absurd (cc)

pub unless_none : (b : Bool) (e : SortFault) → b ≡ true → unless b e ≡ None
unless_none b e h = rw h refl

abbrev some : SortFault → Option SortFault
some e = Some e

pub no_fault : (e : SortFault) → None ≡ some e → ⊥
no_fault e h = absurd (cc)

-- a fault and none
pub never : (f : Option SortFault) (e : SortFault) → f ≡ None → f ≡ some e → ⊥
never f e h k = no_fault e (sym h ∙ k)

pub not_true : (b : Bool) → not b ≡ true → b ≡ false
not_true false h = refl
not_true true h = absurd (cc)

pub true_or_false : (b : Bool) → (b ≡ true) ⊎ (b ≡ false)
true_or_false true = inl refl
true_or_false false = inr refl

pub and_left : (a b : Bool) → (a && b) ≡ true → a ≡ true
and_left true b h = refl
and_left false b h = absurd (cc)

pub and_right : (a b : Bool) → (a && b) ≡ true → b ≡ true
and_right true b h = h
and_right false b h = absurd (cc)

pub below : (a b : ℕ) → nat_lt a b ≡ true → a < b
below a b h = ltb-true a b h

pub is_below : (a b : ℕ) → a < b → nat_lt a b ≡ true
is_below a b h = lt-ltb a b h

-- ---- members

pub among_left : {A : Type 0} (x : A) (xs ys : List A) → Among x xs → Among x (xs ++ ys)
among_left {A = A} x _ ys (here _ xs) = here x (xs ++ ys)
among_left {A = A} x _ ys (there _ y xs m) = there x y (xs ++ ys) (among_left x xs ys m)

pub among_right : {A : Type 0} (x : A) (xs ys : List A) → Among x ys → Among x (xs ++ ys)
among_right {A = A} x [] ys m = m
among_right {A = A} x (y ∷ xs) ys m = there x y (xs ++ ys) (among_right x xs ys m)

pub first_or : {A : Type 0} (x y : A) (ys : List A) → Among x (y ∷ ys) → (x ≡ y) ⊎ Among x ys
first_or {A = A} x _ ys (here _ _) = inl refl
first_or {A = A} x y ys (there _ _ _ m) = inr m

pub among_either : {A : Type 0} (x : A) (xs ys : List A) → Among x (xs ++ ys) → Among x xs ⊎ Among x ys
among_either {A = A} x [] ys m = inr m
among_either {A = A} x (y ∷ xs) ys m =
    elim (first_or x y (xs ++ ys) m) [
      | inl e ↦ inl (subst (λ z. Among x (z ∷ xs)) e (here x xs))
      | inr k ↦ elim (among_either x xs ys k) [ inl a ↦ inl (there x y xs a) | inr b ↦ inr b ]
    ]
