-- What is told of the faults of a model's text.
use Rattle.std.specs.Prelude.{ℕ, ◌-◌, List, ◌++◌, Option, None, Some, take, drop, codes}
use Rattle.pv_base.specs.declared.Span.{Span}
use Rattle.pyv_lex.specs.declared.token.LexFault.{LexFault}
use Rattle.pyv_lex.specs.declared.token.LexFault.TheVariants as lex
use Rattle.pyv_parse.specs.declared.fault.ParseFault.{ParseFault}
use Rattle.pyv_parse.specs.declared.fault.ParseFault.TheVariants as parse
use Rattle.pyv_meaning.specs.declared.fault.SortFault.{SortFault}
use Rattle.pyv_meaning.specs.declared.fault.SortFault.TheVariants as sorts
use Rattle.updr_told.specs.declared.status.Status.{Status}
use Rattle.updr_told.specs.declared.status.Status.TheVariants.{NotRead, Sorts, Unsupported}

-- the status, the byte at fault, and the words
pub record Telling : Type 0 where
  pub status : Status
  pub place : ℕ
  pub words : List ℕ

-- ---- the words of each fault, and its status; want of memory isn't told of a text

abbrev pub tells : Status → ℕ → List ℕ → Option Telling
tells status place words = Some (record { status = status; place = place; words = words })

-- a fault of tokens
abbrev pub lex_telling : LexFault → Option Telling
lex_telling (lex.NotUtf8 place) = tells NotRead place (codes "not UTF-8")
lex_telling (lex.BadChar place) = tells NotRead place (codes "bad character")
lex_telling (lex.TooMany place) = tells NotRead place (codes "too many")
lex_telling lex.Memory = None

-- the bytes of a text from and to these places
abbrev pub piece_of : List ℕ → Span → List ℕ
piece_of bytes span = take (span.to - span.from) (drop span.from bytes)

-- a fault of trees; of a part of the language that is left out the word is told
abbrev pub parse_telling : List ℕ → ParseFault → Option Telling
parse_telling bytes (parse.Syntax place) = tells NotRead place (codes "syntax")
parse_telling bytes (parse.TooDeep place) = tells NotRead place (codes "too deep")
parse_telling bytes (parse.Unsupported span) = tells Unsupported span.from (codes "unsupported " ++ piece_of bytes span)
parse_telling bytes parse.Memory = None

-- a fault of what a tree means
abbrev pub sort_telling : SortFault → Option Telling
sort_telling (sorts.UnknownName place) = tells Sorts place (codes "unknown name")
sort_telling (sorts.TwiceDeclared place) = tells Sorts place (codes "declared twice")
sort_telling (sorts.WrongArity place) = tells Sorts place (codes "wrong number of arguments")
sort_telling (sorts.SortClash place) = tells Sorts place (codes "sort clash")
sort_telling (sorts.NoSort place) = tells Sorts place (codes "no sort")
sort_telling (sorts.NotATerm place) = tells Sorts place (codes "not a term")
sort_telling (sorts.NotAFormula place) = tells Sorts place (codes "not a formula")
sort_telling (sorts.NewOutsideStep place) = tells Sorts place (codes "new outside a step")
sort_telling (sorts.NewTwice place) = tells Sorts place (codes "new inside new")
sort_telling (sorts.NotMutable place) = tells Sorts place (codes "not mutable")
sort_telling (sorts.TooMany place) = tells Sorts place (codes "too many")
sort_telling sorts.Memory = None
