-- Models that tokens spell, and the first fault where they spell none.
use Rattle.std.specs.Prelude.{◌≡◌, ℕ, ◌⊎◌, List, [], ◌∷◌, ◌++◌, length, slice_index, Result, Ok, Err}
use Rattle.pv_base.specs.declared.Span.{Span}
use Rattle.pyv_lex.specs.declared.token.Kind.{Kind}
use Rattle.pyv_lex.specs.declared.token.Kind.TheVariants as kind
use Rattle.pyv_lex.specs.declared.token.Token.{Token}
use Rattle.pyv_grammar.specs.declared.tree.Decl.{Decl}
use Rattle.pyv_grammar.specs.declared.tree.Model.{Model}
use Rattle.pyv_grammar.specs.Grammar.{Limits, Endless, Within, SpellsFile}
use Rattle.pyv_grammar.specs.Verdict.{Viable, Stops, GoesOn}
use Rattle.pyv_parse.specs.declared.fault.ParseFault.{ParseFault}
use Rattle.pyv_parse.specs.declared.fault.ParseFault.TheVariants as fault

-- how deep expressions may be nested, and how high `<->` and `if` may stand in each other
abbrev pub limits : Limits
limits = Within 200 6

-- the tokens spell these declarations within the limits
abbrev pub IsFile : List Decl → List Token → Type 0
IsFile decls tokens = SpellsFile limits decls tokens

-- the answer is this tree, unless memory ran out
abbrev pub IsUnlessMemory : Result Model ParseFault → List Decl → Type 0
IsUnlessMemory (Ok m) decls = m.decls ≡ decls
IsUnlessMemory (Err fault.Memory) decls = Unit {0}
IsUnlessMemory (Err (fault.Syntax place)) decls = ⊥
IsUnlessMemory (Err (fault.Unsupported span)) decls = ⊥
IsUnlessMemory (Err (fault.TooDeep place)) decls = ⊥

-- ---- parts of the language that are left out

-- their words, and numbers
pub data IsLeftOut : Kind → Type 0 where
  theorem : IsLeftOut kind.Theorem
  derived : IsLeftOut kind.Derived
  definition : IsLeftOut kind.Definition
  onestate : IsLeftOut kind.Onestate
  twostate : IsLeftOut kind.Twostate
  zerostate : IsLeftOut kind.Zerostate
  automaton : IsLeftOut kind.Automaton
  sketch : IsLeftOut kind.Sketch
  let_word : IsLeftOut kind.LetWord
  bool_word : IsLeftOut kind.BoolWord
  int_word : IsLeftOut kind.IntWord
  number : IsLeftOut kind.Number

-- a token of such a part: one of these kinds, or the sign `@`
abbrev pub IsUnsupported : List ℕ → Token → Type 0
IsUnsupported bytes t = IsLeftOut t.kind ⊎ ((t.kind ≡ kind.Other) × (slice_index bytes t.span.from ≡ 64))

-- ---- the token at which these tokens begin; the end of the text counts as one

abbrev pub Place : List ℕ → List Token → ℕ → Type 0
Place bytes [] place = place ≡ length bytes
Place bytes (t ∷ ts) place = place ≡ t.span.from

abbrev pub BeginsUnsupported : List ℕ → List Token → Type 0
BeginsUnsupported bytes [] = ⊥
BeginsUnsupported bytes (t ∷ ts) = IsUnsupported bytes t

abbrev pub BeginsWith : List Token → Span → Type 0
BeginsWith [] span = ⊥
BeginsWith (t ∷ ts) span = span ≡ t.span

-- ---- faults

-- Here the tokens fall into a front from which a file goes on, and a back by whose first token none does; the back is
-- as told.
pub record StopsAt (tokens : List Token) (Is : List Token → List Token → Type 0) : Type 0 where
  pub front : List Token
  pub back : List Token
  pub parts : tokens ≡ front ++ back
  pub viable : Viable limits front
  pub stops : Stops limits front back
  pub is : Is front back

-- what each fault says of the first token by which no tree goes on
abbrev pub IsParseFault : List ℕ → List Token → ParseFault → Type 0
IsParseFault bytes tokens (fault.Syntax place) = StopsAt tokens (λ front back. Place bytes back place × ¬ GoesOn Endless front back × ¬ BeginsUnsupported bytes back)
IsParseFault bytes tokens (fault.Unsupported span) = StopsAt tokens (λ front back. BeginsWith back span × ¬ GoesOn Endless front back × BeginsUnsupported bytes back)
IsParseFault bytes tokens (fault.TooDeep place) = StopsAt tokens (λ front back. Place bytes back place × GoesOn Endless front back × ¬ BeginsUnsupported bytes back)
IsParseFault bytes tokens fault.Memory = Unit {0}
