-- When a text is accepted as the model of a search.
use Rattle.std.specs.Prelude.{ℕ, ◌≤◌, List, length}
use Rattle.std.specs.Str.{IsUtf8}
use Rattle.fo_core.specs.declared.names.Names.{Names}
use Rattle.fo_core.specs.declared.order.Purpose.TheVariants.{Infer}
use Rattle.fo_core.specs.declared.system.System.{System}
use Rattle.fo_core.specs.SortGraph.{IsStratified}
use Rattle.pyv_lex.specs.Cutting.{AreTokens}
use Rattle.pyv_lex.specs.declared.token.Token.{Token}
use Rattle.pyv_grammar.specs.declared.tree.Model.{Model}
use Rattle.pyv_parse.specs.Faults.{IsFile}
use Rattle.pyv_meaning.specs.Meaning.{MeansSystem}

-- The text is UTF-8, it is cut into tokens, which are not too many, a tree spells these within the
-- limits, and the tree means a system with names, which is stratified for a search.
pub record IsAccepted (bytes : List ℕ) : Type 0 where
  pub tokens : List Token
  pub text : IsUtf8 bytes
  pub cut : AreTokens bytes tokens
  pub few : length tokens ≤ 200000
  pub model : Model
  pub spells : IsFile model.decls tokens
  pub sys : System
  pub names : Names
  pub means : MeansSystem bytes model sys names
  pub stratified : IsStratified sys Infer
