-- What a file declares: the names, the signature, and the first fault of its declarations.
use Rattle.std.specs.Prelude.{◌≡◌, ℕ, zero, suc, ◌≤◌, ◌++◌, ◌&&◌, ◌||◌, ◌==◌, ◌⊎◌, Bool, false, not, nat_lt, List, [], ◌∷◌, length, map, Option, Some, None, IfSome, is_none, option_to_list}
use Rattle.std.specs.List.{AllByRecursion, list_all, list_any}
use Rattle.std.specs.Str.{bytes_eq}
use Rattle.fo_core.specs.Named.{reserved_words, NamesFit}
use Rattle.fo_core.specs.declared.names.Names.{Names}
use Rattle.fo_core.specs.declared.signature.Sig.{Sig}
use Rattle.fo_core.specs.declared.signature.Symbol.{Symbol}
use Rattle.pyv_meaning.specs.declared.fault.SortFault.{SortFault}
use Rattle.pyv_meaning.specs.declared.fault.SortFault.TheVariants.{UnknownName, TwiceDeclared, TooMany}
use Rattle.pyv_meaning.specs.Gets.{Among}
use Rattle.pyv_meaning.specs.Items.{Item, SymbolItem, Body, sorts, symbols, transitions, steps}
use Rattle.pyv_meaning.specs.Items as item
use Rattle.pyv_meaning.specs.NameFaults.{◌then◌, unless, is_declared}
use Rattle.pyv_meaning.specs.Scope.{number, or_zero}
use Rattle.pyv_meaning.specs.Tree.{Name, bound_names}

abbrev pub words : List Name → List (List ℕ)
words ns = map (λ (n : Name). n.word) ns

-- ---- what is declared

abbrev pub symbol_names : List Item → List Name
symbol_names items = map (λ (s : SymbolItem). s.name) (symbols items)

-- names are numbered in order of declaration
abbrev pub names_in : List Item → Names
names_in items = record { sorts = words (sorts items); symbols = words (symbol_names items); steps = words (transitions items); definitions = [] }

-- the number of a declared sort
abbrev pub sort_number : List Item → Name → ℕ
sort_number items n = or_zero (number (words (sorts items)) n.word)

-- the sort of a function's values; 0 for a relation
abbrev pub result_number : List Item → Option Name → ℕ
result_number items None = 0
result_number items (Some n) = sort_number items n

abbrev pub symbol_in : List Item → SymbolItem → Symbol
symbol_in items s = record { relation = is_none s.result; mutable = s.mutable; args = map (sort_number items) s.args; result = result_number items s.result }

abbrev pub sig_in : List Item → Sig
sig_in items = record { sorts = length (sorts items); symbols = map (symbol_in items) (symbols items) }

-- a name that is declared
abbrev pub IsDeclaredName : List Item → Name → Type 0
IsDeclaredName items n = Among n (sorts items) ⊎ Among n (symbol_names items) ⊎ Among n (transitions items)

-- ---- when it is declared well

abbrev pub IsSort : List Item → Name → Type 0
IsSort items n = (k : ℕ) × (number (words (sorts items)) n.word ≡ Some k)

-- a symbol of at most 8 arguments, whose sorts are declared
pub record IsDeclared (items : List Item) (s : SymbolItem) : Type 0 where
  pub args : AllByRecursion (IsSort items) s.args
  pub result : IfSome s.result (IsSort items)
  pub few : length s.args ≤ 8

-- Names are words that aren't reserved, each declared once in its space; sorts of symbols are declared, before or behind them; and there are
-- at most 64 sorts, 256 symbols, 256 transitions, and 16 parameters of each.
pub record AreDeclared (items : List Item) : Type 0 where
  pub fit : NamesFit (sig_in items) (length (transitions items)) (names_in items)
  pub symbols_declared : AllByRecursion (IsDeclared items) (symbols items)
  pub few_sorts : length (sorts items) ≤ 64
  pub few_symbols : length (symbols items) ≤ 256
  pub few_transitions : length (transitions items) ≤ 256
  pub few_params : AllByRecursion (λ (b : Body). length b.params ≤ 16) (steps items)

-- ---- the first fault

abbrev pub begins_word : ℕ → Bool
begins_word b = (nat_lt 64 b && nat_lt b 91) || ((nat_lt 96 b && nat_lt b 123) || (b == 95))

abbrev pub continues_word : ℕ → Bool
continues_word b = begins_word b || (nat_lt 47 b && nat_lt b 58)

abbrev pub is_word : List ℕ → Bool
is_word [] = false
is_word (b ∷ bs) = begins_word b && list_all continues_word bs

-- a word that isn't reserved
abbrev pub is_name : List ℕ → Bool
is_name w = is_word w && not (list_any (bytes_eq w) reserved_words)

-- A name, declared after the known ones: it is a name, as each is that a text spells, and none of them.
abbrev pub fresh_fault : List Name → Name → Option SortFault
fresh_fault known n = unless (is_name n.word) (UnknownName n.place) then unless (not (list_any (λ (k : Name). bytes_eq k.word n.word) known)) (TwiceDeclared n.place)

-- the first name that is no sort's
abbrev pub sorts_fault : List Item → List Name → Option SortFault
sorts_fault items [] = None
sorts_fault items (n ∷ ns) = is_declared (number (words (sorts items)) n.word) n.place then sorts_fault items ns

-- the first of these names behind so many
abbrev pub past : ℕ → List Name → Option SortFault
past limit [] = None
past zero (n ∷ ns) = Some (TooMany n.place)
past (suc k) (n ∷ ns) = past k ns

-- A declaration behind the known ones: a name that isn't new, a sort that isn't declared in the file, or too many.
abbrev pub item_fault : List Item → List Item → Item → Option SortFault
item_fault items known (item.Sort n) = fresh_fault (sorts known) n then unless (nat_lt (length (sorts known)) 64) (TooMany n.place)
item_fault items known (item.Symbol s) =
    fresh_fault (symbol_names known) s.name then sorts_fault items (s.args ++ option_to_list s.result) then unless (nat_lt (length (symbols known)) 256) (TooMany s.name.place) then past 8 s.args
item_fault items known (item.Transition n params modifies x) =
    fresh_fault (transitions known) n then unless (nat_lt (length (transitions known)) 256) (TooMany n.place) then past 16 (bound_names params)
item_fault items known (item.Claim r x) = None
item_fault items known item.Trace = None

-- the first fault of declarations that stand behind the known ones
abbrev pub declared_fault : List Item → List Item → List Item → Option SortFault
declared_fault items known [] = None
declared_fault items known (x ∷ xs) = item_fault items known x then declared_fault items (known ++ x ∷ []) xs
