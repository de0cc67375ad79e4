-- What the text of a model means, and its first fault.
use Rattle.std.specs.Prelude.{◌≡◌, ℕ, ◌≤◌, List, ◌++◌, Some, length, codes}
use Rattle.std.specs.Str.{IsUtf8}
use Rattle.fo_core.specs.declared.names.Names.{Names}
use Rattle.fo_core.specs.declared.system.System.{System}
use Rattle.fo_core.specs.Named.{NamesFit}
use Rattle.fo_core.specs.Sorted.{IsSystem, IsWithinDepth}
use Rattle.pyv_lex.specs.Cutting.{AreTokens}
use Rattle.pyv_lex.specs.Fault.{IsLexFault}
use Rattle.pyv_lex.specs.declared.token.Token.{Token}
use Rattle.pyv_lex.specs.declared.token.LexFault.{LexFault}
use Rattle.pyv_grammar.specs.declared.tree.Model.{Model}
use Rattle.pyv_parse.specs.Faults.{IsFile, IsParseFault}
use Rattle.pyv_parse.specs.declared.fault.ParseFault.{ParseFault}
use Rattle.pyv_meaning.specs.Meaning.{MeansSystem, IsSortFault}
use Rattle.pyv_meaning.specs.declared.fault.SortFault.{SortFault}
use Rattle.updr_told.specs.Ends.{End, refusal}
use Rattle.updr_told.specs.Places.{line_at, column_at, place_words}
use Rattle.updr_model.specs.Faults.{Telling, lex_telling, parse_telling, sort_telling}

-- ---- what it means

-- the text is UTF-8, and is cut into these tokens, which are not too many
pub record HasTokens (bytes : List ℕ) (tokens : List Token) : Type 0 where
  pub text : IsUtf8 bytes
  pub cut : AreTokens bytes tokens
  pub few : length tokens ≤ 200000

-- the text has tokens, and this tree spells them within the limits
pub record HasTree (bytes : List ℕ) (m : Model) : Type 0 where
  pub tokens : List Token
  pub has : HasTokens bytes tokens
  pub spells : IsFile m.decls tokens

-- it has a tree, which means this system with these names
pub record MeansText (bytes : List ℕ) (sys : System) (names : Names) : Type 0 where
  pub model : Model
  pub tree : HasTree bytes model
  pub means : MeansSystem bytes model sys names

-- ---- its first fault

-- this is told of the first fault: of the tokens, where the text has none; else of the tree, where no
-- tree spells them; else of what the tree means
pub data IsFault (bytes : List ℕ) (t : Telling) : Type 0 where
  of_tokens : (fault : LexFault) → IsLexFault bytes fault → lex_telling fault ≡ Some t → IsFault bytes t
  of_tree : (tokens : List Token) (fault : ParseFault) → HasTokens bytes tokens → IsParseFault bytes tokens fault → parse_telling bytes fault ≡ Some t → IsFault bytes t
  of_meaning : (m : Model) (fault : SortFault) → HasTree bytes m → IsSortFault bytes m fault → sort_telling fault ≡ Some t → IsFault bytes t

-- the place and the words
abbrev pub words_at : List ℕ → Telling → List ℕ
words_at bytes t = place_words (line_at bytes t.place) (column_at bytes t.place) ++ codes ": " ++ t.words

-- the end refuses the text by its first fault
pub record RefusesText {L : Type 0} (bytes : List ℕ) (end : End L) : Type 0 where
  pub telling : Telling
  pub fault : IsFault bytes telling
  pub is : end ≡ refusal telling.status (words_at bytes telling)

-- ---- what is known of each system that a text means

-- it is well-sorted, at most 64 binders stand above any place of it, and the names fit
pub record IsModel (sys : System) (names : Names) : Type 0 where
  pub system : IsSystem sys
  pub shallow : IsWithinDepth 64 sys
  pub named : NamesFit sys.sig (length sys.steps) names
