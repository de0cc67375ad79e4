-- The variables in scope, by their words.
use Rattle.std.specs.Prelude.{◌≡◌, ℕ, ◌++◌, Bool, List, ◌∷◌, map, Option, Some, None}
use Rattle.std.specs.Borrow.{Bor}
use Rattle.std.specs.Str.{bytes_eq}
use Rattle.indexmap.specs.IndexMap.{IndexMap, get}
use Rattle.pyv_meaning.specs.Scope.{lookup}
use Rattle.pyv_meaning.specs.Tree.{Name}
use Rattle.pyv_sorts.specs.Placing.{name_in}
use Rattle.pyv_sorts.specs.declared.entry.Entry.{Entry}

abbrev pub entry_names : List Entry → List Name
entry_names es = map (λ (e : Entry). name_in e.name) es

abbrev pub or_none : Option (Option (ℕ × ℕ)) → Option (ℕ × ℕ)
or_none None = None
or_none (Some o) = o

-- the table has for each word what it finds in the scope
abbrev pub Finds : {S : Type 0} → IndexMap (Bor (List ℕ)) (Option (ℕ × ℕ)) S → List Entry → Type 0
Finds m es = (q : Bor (List ℕ)) → or_none (get (λ (x y : Bor (List ℕ)). bytes_eq x.now y.now) m q) ≡ lookup None 0 (entry_names es) q.now

-- each variable has what its word finds among those before
abbrev pub Hides : List Entry → Type 0
Hides es = (a b : List Entry) (e : Entry) → es ≡ a ++ e ∷ b → e.hidden ≡ lookup None 0 (entry_names a) e.name.word.now
