-- What a name stands for.
use Rattle.std.specs.Prelude.{ℕ, suc, ◌+◌, cond, List, [], ◌∷◌, Option, Some, None, option_map}
use Rattle.std.specs.Str.{bytes_eq}
use Rattle.fo_core.specs.declared.names.Names.{Names}
use Rattle.pyv_meaning.specs.declared.variable.Meaning.{Meaning}
use Rattle.pyv_meaning.specs.declared.variable.Meaning.TheVariants as meaning
use Rattle.pyv_meaning.specs.Tree.{Name}

-- the place in a list of words of the first that is this word
abbrev pub number : List (List ℕ) → List ℕ → Option ℕ
number [] w = None
number (v ∷ vs) w = cond (bytes_eq v w) (Some 0) (option_map suc (number vs w))

abbrev pub or_zero : Option ℕ → ℕ
or_zero None = 0
or_zero (Some k) = k

-- The variable of this name that is bound last, by the place where it is bound, and how many are bound before it. A
-- scope has the variables in order of their binders; those before level k gave found.
abbrev pub lookup : Option (ℕ × ℕ) → ℕ → List Name → List ℕ → Option (ℕ × ℕ)
lookup found k [] w = found
lookup found k (e ∷ es) w = lookup (cond (bytes_eq e.word w) (Some (e.place, k)) found) (k + 1) es w

abbrev pub symbol_or_unknown : Option ℕ → Meaning
symbol_or_unknown None = meaning.Unknown
symbol_or_unknown (Some k) = meaning.Symbol k

abbrev pub variable_or : Option (ℕ × ℕ) → Meaning → Meaning
variable_or None m = m
variable_or (Some v) m = meaning.Variable v.0 v.1

-- the innermost variable of that name, else the symbol
unfoldable pub resolve : Names → List Name → List ℕ → Meaning
resolve names scope w = variable_or (lookup None 0 scope w) (symbol_or_unknown (number names.symbols w))
