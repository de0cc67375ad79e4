-- The sorts of variables, class by class.
use Rattle.std.specs.Prelude.{◌≡◌, ℕ, ◌⊎◌, ◌==◌, nat_eq, cond, List, [], ◌∷◌, Option, Some, None}
use Rattle.std.specs.List.{AllByRecursion, position}
use Rattle.indexmap.specs.IndexMap.{IndexMap, get}
use Rattle.pyv_meaning.specs.declared.fault.SortFault.{SortFault}
use Rattle.pyv_meaning.specs.declared.fault.SortFault.TheVariants.{Memory}
use Rattle.pyv_meaning.specs.declared.variable.Use.{Use}
use Rattle.pyv_meaning.specs.declared.variable.Use.TheVariants.{Binder, Is, Alike}
use Rattle.pyv_meaning.specs.Scope.{or_zero}
use Rattle.pyv_meaning.specs.Gets.{Among, Gets, GetsOnly, IsFirstUnsorted, binders}
use Rattle.pyv_sorts.specs.declared.mark.Mark.{Mark}
use Rattle.pyv_sorts.specs.declared.mark.Mark.TheVariants.{Nothing, One, Two}

-- the variables that the uses name
abbrev pub named : List Use → List ℕ
named [] = []
named (Binder v ∷ us) = v ∷ named us
named (Is v s ∷ us) = v ∷ named us
named (Alike v w ∷ us) = v ∷ w ∷ named us

-- the place of a variable in a list that has it
abbrev pub place_in : List ℕ → ℕ → ℕ
place_in vs v = or_zero (position (nat_eq v) vs)

-- what is known of a class of variables once one of them gets a sort
abbrev pub add : Mark → ℕ → Mark
add Nothing s = One s
add (One r) s = cond (r == s) (One r) Two
add Two s = Two

-- the sorts that the variables of class c get by themselves, behind those of a mark
unfoldable pub mark : (ℕ → ℕ) → ℕ → Mark → List Use → Mark
mark class c m [] = m
mark class c m (Binder v ∷ us) = mark class c m us
mark class c m (Is v s ∷ us) = mark class c (cond (class v == c) (add m s) m) us
mark class c m (Alike v w ∷ us) = mark class c m us

-- Variables that are said to be alike are in one class but for those that are left, and only variables that get the same
-- sorts are.
pub record Classing (us rest : List Use) (vs : List ℕ) (class : ℕ → ℕ) : Type 0 where
  pub joins : (v w : ℕ) → Among (Alike v w) us → (class v ≡ class w) ⊎ Among (Alike v w) rest
  pub keeps : (v w : ℕ) → Among v vs → Among w vs → class v ≡ class w → (s : ℕ) → Gets us v s → Gets us w s

-- the sort that was found for a variable
abbrev pub sort_in : {S : Type 0} → IndexMap ℕ ℕ S → ℕ → ℕ
sort_in found v = or_zero (get nat_eq found v)

-- each variable has the one sort that it gets
abbrev pub AreSorted : List Use → (ℕ → ℕ) → Type 0
AreSorted us sort_of = AllByRecursion (λ v. GetsOnly us v (sort_of v)) (binders us)

-- want of memory is free
abbrev pub IsUnsorted : List Use → SortFault → Type 0
IsUnsorted us Memory = Unit {0}
IsUnsorted us f = IsFirstUnsorted us (binders us) f
