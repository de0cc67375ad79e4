-- How a text is cut into tokens and the gaps between them.
use Rattle.std.specs.Prelude.{◌≡◌, ℕ, ◌+◌, ◌≤◌, ◌<◌, ◌⊎◌, List, [], ◌∷◌, ◌++◌, length, Option, None, Some}
use Rattle.std.specs.List.{All}
use Rattle.pyv_lex.specs.declared.token.Kind.{Kind}
use Rattle.pyv_lex.specs.declared.token.Token.{Token}
use Rattle.pyv_lex.specs.Spelling.{Spells}

-- space, tab, carriage return, line feed
abbrev pub IsBlank : ℕ → Type 0
IsBlank b = (b ≡ 32) ⊎ (b ≡ 9) ⊎ (b ≡ 13) ⊎ (b ≡ 10)

-- the end, or a line feed
abbrev pub EndsLine : List ℕ → Type 0
EndsLine [] = Unit {0}
EndsLine (b ∷ bs) = b ≡ 10

-- a blank, or a comment, which begins with `#` and takes all that stands before the end of its line
pub data IsGap : List ℕ → List ℕ → Type 0 where
  blank : (b : ℕ) (rest : List ℕ) → IsBlank b → IsGap (b ∷ []) rest
  comment : (body rest : List ℕ) → All (λ b. ¬ (b ≡ 10)) body → EndsLine rest → IsGap (35 ∷ body) rest

-- a character that may stand in comments alone begins here: a control character, or one past ASCII
abbrev pub BeginsBad : List ℕ → Type 0
BeginsBad [] = ⊥
BeginsBad (b ∷ bs) = ((b < 32) × ¬ IsBlank b) ⊎ (127 ≤ b)

-- no longer front of the same text is a token
abbrev pub IsLongest : List ℕ → List ℕ → Type 0
IsLongest text rest = (kind : Kind) (other after : List ℕ) → Spells kind other → text ++ rest ≡ other ++ after → length other ≤ length text

-- what may stand at the front of a text, before the rest: a token of a kind, or a gap
abbrev pub IsPiece : Option Kind → List ℕ → List ℕ → Type 0
IsPiece None text rest = IsGap text rest
IsPiece (Some kind) text rest = Spells kind text × IsLongest text rest

-- the token that a piece is, where it is one: its place, and how many bytes it takes
abbrev pub token_of : Option Kind → ℕ → ℕ → List Token
token_of None at len = []
token_of (Some kind) at len = record { kind = kind; span = record { from = at; to = at + len } } ∷ []

-- Cuts at text tokens end rest: the text, which begins at the place at, is cut into these tokens up to the place
-- end, where rest begins.
pub data Cuts : ℕ → List ℕ → List Token → ℕ → List ℕ → Type 0 where
  here : (at : ℕ) (text : List ℕ) → Cuts at text [] at text
  piece : (at : ℕ) (kind : Option Kind) (front after : List ℕ) (tokens : List Token) (end : ℕ) (rest : List ℕ) → IsPiece kind front after
      → Cuts (at + length front) after tokens end rest → Cuts at (front ++ after) (token_of kind at (length front) ++ tokens) end rest

-- all of the text is cut into these tokens
abbrev pub AreTokens : List ℕ → List Token → Type 0
AreTokens bytes tokens = Cuts 0 bytes tokens (length bytes) []
