-- The texts of tokens.
use Rattle.std.specs.Prelude.{◌≡◌, ℕ, ◌≤◌, List, [], ◌∷◌, cond, zip}
use Rattle.std.specs.Str.{bytes_eq}
use Rattle.std.specs.List.{All}
use Rattle.fo_core.specs.Named.{BeginsWord, ContinuesWord, reserved_words}
use Rattle.pyv_lex.specs.declared.token.Kind.{Kind}
use Rattle.pyv_lex.specs.declared.token.Kind.TheVariants.{Sort, Mutable, Immutable, Relation, Constant, Function, Axiom, Init, Transition, Modifies, Safety, Invariant, Forall, Exists, New, True, False, Distinct, If, Then, Else, Sat, Unsat, Trace, Theorem, Derived, Definition, Onestate, Twostate, Zerostate, Automaton, Sketch, LetWord, BoolWord, IntWord, Iff, Implies, Unequal, Equal, Bang, Amp, Bar, RoundLeft, RoundRight, SquareLeft, SquareRight, CurlyLeft, CurlyRight, Comma, Dot, Colon, Word, Number, Other}

abbrev pub IsDigit : ℕ → Type 0
IsDigit b = (48 ≤ b) × (b ≤ 57)

-- the kinds of the reserved words, in the order of these
abbrev pub reserved_kinds : List Kind
reserved_kinds =
    Sort ∷ Mutable ∷ Immutable ∷ Relation ∷ Constant ∷ Function ∷ Axiom ∷ Init ∷ Transition ∷ Modifies
    ∷ Safety ∷ Invariant ∷ Forall ∷ Exists ∷ New ∷ True ∷ False ∷ Distinct ∷ If ∷ Then ∷ Else ∷ Sat
    ∷ Unsat ∷ Trace ∷ Theorem ∷ Derived ∷ Definition ∷ Onestate ∷ Twostate ∷ Zerostate ∷ Automaton
    ∷ Sketch ∷ LetWord ∷ BoolWord ∷ IntWord ∷ []

-- each reserved word with its kind
abbrev pub reserved : List (List ℕ × Kind)
reserved = zip reserved_words reserved_kinds

-- the kind of the first entry with this text, and Word where there is none
abbrev pub kind_in : List (List ℕ × Kind) → List ℕ → Kind
kind_in [] text = Word
kind_in (entry ∷ entries) text = cond (bytes_eq text entry.0) entry.1 (kind_in entries text)

-- the kind of a word
abbrev pub word_kind : List ℕ → Kind
word_kind = kind_in reserved

-- the signs
pub data Sign : Kind → List ℕ → Type 0 where
  iff : Sign Iff (60 ∷ 45 ∷ 62 ∷ [])
  implies : Sign Implies (45 ∷ 62 ∷ [])
  unequal : Sign Unequal (33 ∷ 61 ∷ [])
  equal : Sign Equal (61 ∷ [])
  bang : Sign Bang (33 ∷ [])
  amp : Sign Amp (38 ∷ [])
  bar : Sign Bar (124 ∷ [])
  round_left : Sign RoundLeft (40 ∷ [])
  round_right : Sign RoundRight (41 ∷ [])
  square_left : Sign SquareLeft (91 ∷ [])
  square_right : Sign SquareRight (93 ∷ [])
  curly_left : Sign CurlyLeft (123 ∷ [])
  curly_right : Sign CurlyRight (125 ∷ [])
  comma : Sign Comma (44 ∷ [])
  dot : Sign Dot (46 ∷ [])
  colon : Sign Colon (58 ∷ [])

-- a printable character of ASCII that begins no word, number, sign or comment
pub record IsOther (b : ℕ) : Type 0 where
  pub printable : (33 ≤ b) × (b ≤ 126)
  pub no_word : ¬ ContinuesWord b
  pub no_sign : (k : Kind) → ¬ Sign k (b ∷ [])
  pub no_comment : ¬ (b ≡ 35)

-- a text, all of it, as one token
pub data Spells : Kind → List ℕ → Type 0 where
  word : (b : ℕ) (bs : List ℕ) → BeginsWord b → All ContinuesWord bs → Spells (word_kind (b ∷ bs)) (b ∷ bs)
  number : (b : ℕ) (bs : List ℕ) → IsDigit b → All IsDigit bs → Spells Number (b ∷ bs)
  sign : (k : Kind) (text : List ℕ) → Sign k text → Spells k text
  other : (b : ℕ) → IsOther b → Spells Other (b ∷ [])
