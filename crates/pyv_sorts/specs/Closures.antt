-- The free variables of a body, and those that its parts name.
use Rattle.std.specs.Prelude.{◌≡◌, ℕ, ◌<◌, ◌++◌, Bool, true, nat_eq, List, [], ◌∷◌, length, map, slice_index_or, Option, Some, None}
use Rattle.std.specs.List.{filter, list_any}
use Rattle.fo_core.specs.declared.names.Names.{Names}
use Rattle.pyv_meaning.specs.Closing.{frees, firsts, names_word}
use Rattle.pyv_meaning.specs.Scope.{number}
use Rattle.pyv_meaning.specs.Tree.{Name, Tree, Trees, none, more}
use Rattle.pyv_sorts.specs.declared.part.Part.{Part}
use Rattle.pyv_sorts.specs.Placing.{names_in}

abbrev pub no_name : Name
no_name = record { place = 0; word = [] }

abbrev pub joined : List (List Name) → List Name
joined [] = []
joined (ns ∷ nss) = ns ++ joined nss

abbrev pub part_names : List Part → List (List Name)
part_names ps = map (λ (p : Part). names_in p.names.items) ps

-- the names of free variables where they stand, part by part
abbrev pub each_frees : Names → List Name → Trees → List (List Name)
each_frees names params none = []
each_frees names params (more x xs) = frees names x params ∷ each_frees names params xs

-- of the variables those that are named
abbrev pub named_of : List Name → List Name → List Name
named_of variables ns = filter (λ (n : Name). names_word ns n.word) variables

-- the variables of all parts that each part names
abbrev pub closures_of : List (List Name) → List (List Name)
closures_of nss = map (named_of (firsts [] (joined nss))) nss

abbrev pub put : Option ℕ → List ℕ → List ℕ
put None ks = ks
put (Some k) ks = k ∷ ks

-- the numbers of the names that have one
abbrev pub numbers_of : List (List ℕ) → List Name → List ℕ
numbers_of ws [] = []
numbers_of ws (n ∷ ns) = put (number ws n.word) (numbers_of ws ns)

-- each word has its place as its number
abbrev pub AreNumbered : List (List ℕ) → Type 0
AreNumbered ws = (k : ℕ) → k < length ws → number ws (slice_index_or ws k []) ≡ Some k

abbrev pub has : List ℕ → ℕ → Bool
has ks k = list_any (nat_eq k) ks

-- The numbers are the places in a list of what passes the test.
pub record Picks (P : Name → Bool) (variables : List Name) (ks : List ℕ) : Type 0 where
  pub within : (k : ℕ) → has ks k ≡ true → k < length variables
  pub passes : (k : ℕ) → has ks k ≡ true → P (slice_index_or variables k no_name) ≡ true
  pub all : (k : ℕ) → k < length variables → P (slice_index_or variables k no_name) ≡ true → has ks k ≡ true
