-- Answers that a finder keeps.
use Rattle.std.specs.Prelude.{◌≡◌, ℕ, ◌+◌, ◌<◌, List, [], ◌∷◌, ◌++◌, length, slice_index_or}
use Rattle.std.specs.List.{All}
use Rattle.fo_core.specs.declared.finder.Found.{Found}
use Rattle.fo_core.specs.declared.query.Query.{Query}
use Rattle.fo_core.specs.declared.signature.Sig.{Sig}
use Rattle.fo_core.specs.declared.system.System.{System}
use Rattle.fo_core.specs.Finds.{IsAnswer}
use Rattle.fo_solve.specs.declared.recorded.Answered.{Answered}

-- what contracts see of such a finder: its system and its limit, the queries that it keeps with
-- their answers, and how many of these answers it has handed out
pub record Record : Type 0 where
  pub sys : System
  pub limit : ℕ
  pub kept : List Answered
  pub given : ℕ

-- each is the answer to its query by a finder with this limit
abbrev pub AreAnswers : Sig → ℕ → List Answered → Type 0
AreAnswers sig limit kept = All (λ (a : Answered). IsAnswer sig a.query limit a.answer) kept

-- one more query is kept with its answer, after the others
abbrev pub with_answer : Record → Query → Found → Record
with_answer r q answer = record r { kept = r.kept ++ record { query = q; answer = answer } ∷ [] }

-- one more query is kept with an answer to it
abbrev pub KeepsOne : Record → Query → Record → Type 0
KeepsOne r q s = (answer : Found) × IsAnswer r.sys.sig q r.limit answer × (s ≡ with_answer r q answer)

-- the next answer that is to be handed out is this one, to this query for this system
pub record IsNext (r : Record) (sys : System) (q : Query) (answer : Found) : Type 0 where
  pub left : r.given < length r.kept
  pub system : sys ≡ r.sys
  pub next : (a : Answered) → slice_index_or r.kept r.given a ≡ record { query = q; answer = answer }

-- one more answer is handed out
abbrev pub with_one_given : Record → Record
with_one_given r = record r { given = r.given + 1 }
