-- When tokens are the declarations of a file, and where they stop being the front of one.
use Rattle.std.specs.Prelude.{◌≡◌, ℕ, Bool, true, false, List, [], ◌∷◌, ◌++◌, length}
use Rattle.pyv_lex.specs.declared.token.Token.{Token}
use Rattle.pyv_grammar.specs.declared.tree.Decl.{Decl}
use Rattle.pyv_grammar.specs.Grammar.{Limits, Endless, Within, SpellsFile}

-- some file goes on from these tokens
pub record Viable (limits : Limits) (front : List Token) : Type 0 where
  pub rest : List Token
  pub decls : List Decl
  pub spells : SpellsFile limits decls (front ++ rest)

-- no file goes on by the first of the tokens that follow, or ends where none follows
abbrev pub Stops : Limits → List Token → List Token → Type 0
Stops limits front [] = (decls : List Decl) → SpellsFile limits decls front → ⊥
Stops limits front (t ∷ after) = Viable limits (front ++ t ∷ []) → ⊥

-- a file goes on by the first of the tokens that follow
abbrev pub GoesOn : Limits → List Token → List Token → Type 0
GoesOn limits front [] = ⊥
GoesOn limits front (t ∷ after) = Viable limits (front ++ t ∷ [])
