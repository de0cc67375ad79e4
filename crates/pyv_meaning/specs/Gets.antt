-- Which sorts the variables of a body get.
use Rattle.std.specs.Prelude.{◌≡◌, ℕ, ◌⊎◌, List, [], ◌∷◌}
use Rattle.pyv_meaning.specs.declared.fault.SortFault.{SortFault}
use Rattle.pyv_meaning.specs.declared.fault.SortFault.TheVariants.{NoSort, SortClash}
use Rattle.pyv_meaning.specs.declared.variable.Use.{Use}
use Rattle.pyv_meaning.specs.declared.variable.Use.TheVariants.{Binder, Is, Alike}

-- the variables, in order of their binders
abbrev pub binders : List Use → List ℕ
binders [] = []
binders (Binder v ∷ us) = v ∷ binders us
binders (Is v s ∷ us) = binders us
binders (Alike v w ∷ us) = binders us

pub data Among {A : Type 0} : A → List A → Type 0 where
  here : (x : A) (xs : List A) → Among x (x ∷ xs)
  there : (x y : A) (xs : List A) → Among x xs → Among x (y ∷ xs)

-- The variable gets the sort: by itself, or by an equality with a variable that gets it.
pub data Gets (us : List Use) : ℕ → ℕ → Type 0 where
  itself : (v s : ℕ) → Among (Is v s) us → Gets us v s
  along : (v w s : ℕ) → Among (Alike v w) us → Gets us w s → Gets us v s
  back : (v w s : ℕ) → Among (Alike v w) us → Gets us v s → Gets us w s

-- the one sort that the variable gets
pub record GetsOnly (us : List Use) (v s : ℕ) : Type 0 where
  pub gets : Gets us v s
  pub only : (r : ℕ) → Gets us v r → r ≡ s

abbrev pub GetsNone : List Use → ℕ → Type 0
GetsNone us v = (s : ℕ) → Gets us v s → ⊥

pub record GetsTwo (us : List Use) (v : ℕ) : Type 0 where
  pub one : ℕ
  pub other : ℕ
  pub gets_one : Gets us v one
  pub gets_other : Gets us v other
  pub differ : one ≡ other → ⊥

-- the first variable that doesn't get exactly one sort, and what it gets
abbrev pub IsFirstUnsorted : List Use → List ℕ → SortFault → Type 0
IsFirstUnsorted us [] f = ⊥
IsFirstUnsorted us (v ∷ vs) f = ((f ≡ NoSort v) × GetsNone us v) ⊎ ((f ≡ SortClash v) × GetsTwo us v) ⊎ (((s : ℕ) × GetsOnly us v s) × IsFirstUnsorted us vs f)
