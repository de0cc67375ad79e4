-- `updr MODEL --free`: the same search by workers that run freely. Which of them comes first is nobody's
-- choice, so the history isn't decided by the words and the files, and neither are the status and the
-- report. But they are by these and the history: all that is told is what the call came to.
use Rattle.std.specs.Prelude.{◌≡◌, ◌⊎◌, ℕ, ◌<◌, ◌≤◌, List, [], ◌∷◌, Some, codes, refl, slice_get, true}
use Rattle.std.proofs.Common.{◌∙◌, sym, arith}
use Rattle.clap.proofs.OnLiterals.{clap_on_literals}
use Rattle.fo_core.specs.declared.order.Purpose.TheVariants as purpose
use Rattle.up_core.specs.View.{CoreView}
use Rattle.up_free.specs.Crew.{IsFreeRun}
use Rattle.up_machine.specs.declared.event.Event.{Event}
use Rattle.updr_told.specs.Ends.{End}
use Rattle.updr_words.specs.Forms.{Form}
use Rattle.updr_words.specs.Jobs.{IsJob, Job}
use Rattle.updr_table.specs.Commands.{Command}
use Rattle.updr_table.specs.Outside.{Outside, Reading}
use Rattle.updr_table.specs.Rows.{Contents, Ends}
use Rattle.updr_table.specs.Table.{Answers, Call}
use Rattle.updr_model.specs.OnModel.{Given, IsSoundStratified}
use Rattle.updr_top.specs.Complete.{IsGoodCall, IsStratifiedFor}
use Rattle.updr_top.specs.Infer.{infer_form, limits_of, search_command, search_rows, search_text}
use Rattle.updr_top.specs.Searched.{HasShown}
use Rattle.updr_top.specs.Tellings.{HasOneHistory, Running, one_told}

-- ---- the words

-- the words of `updr`, and `--free`
abbrev pub free_form : Form
free_form = record infer_form { flags = codes "free" ∷ [] }

-- the words are those of `updr`, and `--free` is one of them
pub record AsksFree (words : List (List ℕ)) : Type 0 where
  pub named : slice_get words 0 ≡ Some free_form.name
  pub job : Job
  pub asked : IsJob free_form words job
  pub given : job.flags ≡ true ∷ []

-- ---- the command

-- the machine was run by workers who ran freely, and this is its history
abbrev pub RunsFreely : List Event → Running
RunsFreely history = λ sys order limits c. IsFreeRun sys order limits c × (c.history ≡ history)

-- what the search answers whose workers make this history
abbrev pub free_command : List Event → Command CoreView
free_command history = search_command free_form (RunsFreely history)

free_have_one : (history : List Event) → HasOneHistory (RunsFreely history)
free_have_one history sys limits first second c d good p q = p.1 ∙ sym q.1

pub free_sound : (history : List Event) → IsSoundStratified purpose.Infer free_form (search_rows (RunsFreely history))
unfolding clap_on_literals
free_sound history = record {
  simple = refl;
  model = omega arith;
  table = λ job. refl;
  exclusive = λ job g model. one_told (RunsFreely history) (free_have_one history) search_text (limits_of job) g model.system;
}

-- ---- how a call may end

-- the table of the search decides over this system, by some history
abbrev pub EndsOverFreely : Job → Given → End CoreView → Type 0
EndsOverFreely job g end = (history : List Event) × Ends (search_rows (RunsFreely history) job) g end

-- so it does over contents, by what the stages before it make of them
abbrev pub EndsFreely : Job → Contents → End CoreView → Type 0
EndsFreely job contents end =
    (history : List Event) × Ends ((free_command history).rows job) contents end

-- the words ask for it, the files are read in order, and then the table decides by some history
pub record MayEndFreely (o : Outside) (words : List (List ℕ)) (end : End CoreView) : Type 0 where
  pub asks : AsksFree words
  pub comes : Reading o asks.job.files (EndsFreely asks.job) end

-- ---- the promise

-- the machine was run by workers who ran freely: each event was legal when it came, the last is a Close,
-- frames hold at every moment, and what is told is so
abbrev pub IsFree : CoreView → Type 0
IsFree core = IsFreeRun core.sys core.order core.limits core

-- What is answered to words that ask for workers who run freely.
pub record IsFreelyServed (words : List (List ℕ)) (call : Call CoreView) : Type 0 where
  -- the history that the workers made; none, where they didn't begin
  pub history : List Event
  -- how the call may end, in the order of refusals; by that history, the table; what is told
  pub answers : Answers (free_command history ∷ []) words call
  -- good files, a stratified model and sinks that take all are answered by a report
  pub complete :
      IsGoodCall (free_command history) (IsStratifiedFor purpose.Infer) words call
      → (call.number ≤ 5) ⊎ (call.number ≡ 16)
  -- a call that ends with an answer leaves its machine
  pub leaves : call.number < 10 → (core : CoreView) × (call.left ≡ Some core)
  -- the machine that is left shows what its verdict says, and that is what was printed
  pub shows : (core : CoreView) → call.left ≡ Some core → HasShown free_form IsFree words call core
