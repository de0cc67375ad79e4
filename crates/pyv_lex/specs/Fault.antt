-- The first fault of a text.
use Rattle.std.specs.Prelude.{◌≡◌, ℕ, ◌≤◌, List, ◌++◌, length, Some, Result, Ok, Err}
use Rattle.std.specs.Str.{IsUtf8, IsValidUpTo}
use Rattle.pyv_lex.specs.declared.token.Kind.{Kind}
use Rattle.pyv_lex.specs.declared.token.Token.{Token}
use Rattle.pyv_lex.specs.declared.token.LexFault.{LexFault}
use Rattle.pyv_lex.specs.declared.token.LexFault.TheVariants.{NotUtf8, BadChar, TooMany, Memory}
use Rattle.pyv_lex.specs.Cutting.{IsPiece, Cuts, BeginsBad}

-- a token begins here
pub record BeginsToken (text : List ℕ) : Type 0 where
  pub kind : Kind
  pub front : List ℕ
  pub rest : List ℕ
  pub parts : text ≡ front ++ rest
  pub is : IsPiece (Some kind) front rest

-- the text is cut into few enough tokens up to a place, and the rest is as told
pub record CutsUpTo (bytes : List ℕ) (place : ℕ) (Follows : List Token → List ℕ → Type 0) : Type 0 where
  pub tokens : List Token
  pub rest : List ℕ
  pub cut : Cuts 0 bytes tokens place rest
  pub follows : Follows tokens rest

-- what each fault says of the text
abbrev pub IsLexFault : List ℕ → LexFault → Type 0
IsLexFault bytes (NotUtf8 place) = IsValidUpTo bytes place
IsLexFault bytes (BadChar place) = IsUtf8 bytes × CutsUpTo bytes place (λ tokens rest. (length tokens ≤ 200000) × BeginsBad rest)
IsLexFault bytes (TooMany place) = IsUtf8 bytes × CutsUpTo bytes place (λ tokens rest. (length tokens ≡ 200000) × BeginsToken rest)
IsLexFault bytes Memory = Unit {0}

-- the answer is these tokens, unless memory ran out
abbrev pub OkUnlessMemory : Result (List Token) LexFault → List Token → Type 0
OkUnlessMemory (Ok found) tokens = found ≡ tokens
OkUnlessMemory (Err Memory) tokens = Unit {0}
OkUnlessMemory (Err (NotUtf8 place)) tokens = ⊥
OkUnlessMemory (Err (BadChar place)) tokens = ⊥
OkUnlessMemory (Err (TooMany place)) tokens = ⊥
