-- What is noted of the declarations of a file.
use Rattle.std.specs.Prelude.{◌≡◌, ℕ, ◌++◌, Bool, is_none, option_to_list, List, [], ◌∷◌, map, Option, Some, None}
use Rattle.fo_core.specs.declared.signature.Symbol.{Symbol}
use Rattle.pyv_meaning.specs.declared.fault.SortFault.{SortFault}
use Rattle.pyv_meaning.specs.Declaring.{words, symbol_names, sorts_fault}
use Rattle.pyv_meaning.specs.Items.{Item, SymbolItem, sorts, symbols, transitions}
use Rattle.pyv_meaning.specs.Items as item
use Rattle.pyv_meaning.specs.NameFaults.{◌then◌, is_declared}
use Rattle.pyv_meaning.specs.Scope.{number, or_zero}
use Rattle.pyv_meaning.specs.Tree.{Name}
use Rattle.pyv_meaning.specs.View.{name_of, names_of}
use Rattle.pv_base.specs.declared.Span.{Span}
use Rattle.pyv_sorts.specs.Lists.{added}
use Rattle.pyv_sorts.specs.declared.declare.Declared.{Declared}

-- the words of the names, each once, behind those that are there
abbrev pub gathered : List (List ℕ) → List Name → List (List ℕ)
gathered ws [] = ws
gathered ws (n ∷ ns) = gathered (added ws n.word) ns

-- the first name that is none of the words
abbrev pub unknown_in : List (List ℕ) → List Name → Option SortFault
unknown_in ws [] = None
unknown_in ws (n ∷ ns) = is_declared (number ws n.word) n.place then unknown_in ws ns

-- the number of a name among the words
abbrev pub number_in : List (List ℕ) → Name → ℕ
number_in ws n = or_zero (number ws n.word)

abbrev pub result_in : List (List ℕ) → Option Name → ℕ
result_in ws None = 0
result_in ws (Some n) = number_in ws n

-- a symbol whose sorts are numbered so
abbrev pub symbol_by : List (List ℕ) → SymbolItem → Symbol
symbol_by ws s = record { relation = is_none s.result; mutable = s.mutable; args = map (number_in ws) s.args; result = result_in ws s.result }

-- what the declarations declare, where their sorts are numbered so
pub record IsNoted (ws : List (List ℕ)) (front : List Item) (d : Declared) : Type 0 where
  pub has_sorts : d.sorts ≡ words (sorts front)
  pub has_names : d.names ≡ words (symbol_names front)
  pub has_symbols : d.symbols ≡ map (symbol_by ws) (symbols front)
  pub has_steps : d.steps ≡ words (transitions front)

-- the words are the sorts that the declarations declare
abbrev pub Knows : List (List ℕ) → List Item → Type 0
Knows ws items = (ns : List Name) → unknown_in ws ns ≡ sorts_fault items ns

abbrev pub relation_item : List ℕ → Bool → Span → List Span → Item
relation_item bytes m s args = item.Symbol (record { name = name_of bytes s; mutable = m; args = names_of bytes args; result = None })

-- a function, or a constant where there are no arguments
abbrev pub function_item : List ℕ → Bool → Span → List Span → Span → Item
function_item bytes m s args r = item.Symbol (record { name = name_of bytes s; mutable = m; args = names_of bytes args; result = Some (name_of bytes r) })
