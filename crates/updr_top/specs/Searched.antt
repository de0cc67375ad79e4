-- What a call of `updr` has shown by the machine that it leaves.
--
-- In short: for every accepted model and number of workers, the history is a run of the written
-- machine, frame i holds in every state that is reached within i steps, and the printed verdict
-- holds: a universal inductive invariant, a shortest violating run, a chain that no universal
-- invariant survives, or that the stated frames, steps or weight were spent.
use Rattle.std.specs.Prelude.{◌≡◌, ◌⊎◌, ℕ, ◌<◌, ◌≤◌, List, Some, length, slice_get, ⊤}
use Rattle.fo_core.specs.declared.names.Names.{Names}
use Rattle.fo_core.specs.declared.system.System.{System}
use Rattle.pv_base.specs.Written.{AppendsPrefix}
use Rattle.up_claims.specs.declared.verdict.Verdict.{Verdict}
use Rattle.up_claims.specs.declared.verdict.Verdict.TheVariants as verdict
use Rattle.up_machine.specs.declared.event.Event.{Event}
use Rattle.up_machine.specs.declared.limits.Limits.{Limits}
use Rattle.up_machine.specs.Rounds.{Rounds}
use Rattle.up_machine.specs.Told.{HoldsShortest, Told}
use Rattle.up_core.specs.View.{CoreView, now, numbers_of}
use Rattle.up_gen.specs.Models.{model_text_of}
use Rattle.up_report.specs.Texts.{report_text}
use Rattle.up_seats.specs.Sound.{IsSoundRun}
use Rattle.updr_told.specs.Statuses.{number_of}
use Rattle.updr_told.specs.Telling.{TakesAll}
use Rattle.updr_told.specs.declared.status.Status.{Status}
use Rattle.updr_told.specs.declared.status.Status.TheVariants.{WriteFault}
use Rattle.updr_words.specs.Forms.{Form}
use Rattle.updr_words.specs.Jobs.{IsJob, Job}
use Rattle.updr_table.specs.Commands.{IsNamed}
use Rattle.updr_table.specs.Outside.{AreContents, Outside}
use Rattle.updr_table.specs.Rows.{Contents, content_at}
use Rattle.updr_table.specs.Table.{Call}
use Rattle.updr_model.specs.Texts.{MeansText}
use Rattle.updr_top.specs.Demo.{demo_command, demo_form, demo_line, relations_of, usual_limits}
use Rattle.updr_top.specs.Infer.{infer_command, infer_form, limits_of, report_of}
use Rattle.updr_top.specs.OneStatus.{status_of}

-- ---- what was asked

-- The words are of this form of `updr`, and ask for a search in these limits; and the file that they
-- name was read, and its bytes mean this system, with these names. Where the files tell the content
-- of the name, these bytes are that content.
pub record AsksSearch (form : Form) (words : List (List ℕ)) (files : Outside) (limits : Limits)
    (sys : System) (names : Names) : Type 0 where
  pub named : slice_get words 0 ≡ Some form.name
  pub job : Job
  pub asked : IsJob form words job
  pub limits_are : limits ≡ limits_of job
  pub contents : Contents
  pub were_read : AreContents files job.files contents
  pub means : MeansText (content_at contents 0) sys names

-- The words are those of `demo`, and ask for a search of the model of so many relations in the usual
-- limits; and the text of that model means this system.
pub record AsksDemo (words : List (List ℕ)) (limits : Limits) (sys : System) (relations : ℕ) : Type 0
  where
    pub named : IsNamed demo_command words
    pub job : Job
    pub asked : IsJob demo_form words job
    pub relations_are : relations ≡ relations_of job
    pub limits_are : limits ≡ usual_limits
    pub names : Names
    pub means : MeansText (model_text_of relations) sys names

-- ---- the run

-- The events are those that rounds make of this system in these limits up to an end. Each of them is
-- legal where it comes; at every moment frames hold, each is a part of the next, and each is a part of
-- what it was at each earlier moment.
pub record IsWrittenRun (sys : System) (limits : Limits) (history : List Event) : Type 0 where
  pub rounds : Rounds sys limits history
  pub sound : IsSoundRun sys limits history

-- ---- the verdict

-- where a verdict says that the frames, the steps or the weight of a query were spent, it is so: the
-- last frame is the last that may be opened, no productive event is left, the query weighs more
abbrev pub IsSpent : Limits → Verdict → Type 0
IsSpent limits (verdict.Bounded last clauses leaves) = limits.frames ≤ last
IsSpent limits (verdict.Spent steps) = limits.steps ≤ steps
IsSpent limits (verdict.Over kind weight) = limits.weight < weight
IsSpent limits told = ⊤

-- The history tells the verdict, which holds: of a violating run also that none is shorter.
pub record IsProved (sys : System) (limits : Limits) (history : List Event) (told : Verdict) :
    Type 0 where
  pub tells : Told sys history told
  pub holds : HoldsShortest sys told
  pub spent : IsSpent limits told

-- `out` gained this text and no more, and the status is this one; or a put failed, and `out` gained
-- a prefix of the text
abbrev pub IsPrinted : Call CoreView → Status → List ℕ → Type 0
IsPrinted call status text =
    ((call.number ≡ number_of status) × TakesAll call.out text)
    ⊎ ((call.number ≡ number_of WriteFault)
    × AppendsPrefix call.out.written text call.out.written_after)

-- the line of `demo`: of the length of the model's text, this status, and how far the machine came
abbrev pub line_of : ℕ → Status → CoreView → List ℕ
line_of relations status core =
    demo_line relations (length (model_text_of relations)) status (numbers_of (now core))

-- ---- the headline

-- What a call of `updr` that left this machine has shown, by words of this form, whose searches are
-- runs of this kind.
pub record HasShown (form : Form) (Run : CoreView → Type 0) (words : List (List ℕ))
    (call : Call CoreView) (core : CoreView) : Type 0 where
  pub names : Names
  pub asked : AsksSearch form words call.files core.limits core.sys names
  pub run : Run core
  pub told : Verdict
  pub proved : IsProved core.sys core.limits core.history told
  pub printed :
      IsPrinted call (status_of told) (report_text core.sys.sig names (report_of core told))

-- The machine was run by rounds. Its history is the only one that rounds make of the system in the
-- limits, whatever the number of workers (laws of up_rounds and of this crate).
abbrev pub IsWritten : CoreView → Type 0
IsWritten core = IsWrittenRun core.sys core.limits core.history

-- What a call of `demo` that left this machine has shown: the same of the system that the text of
-- the model of n relations means, in the usual limits. Of the verdict its line tells the status.
pub record HasDemonstrated (words : List (List ℕ)) (call : Call CoreView) (core : CoreView) :
    Type 0 where
  pub relations : ℕ
  pub asked : AsksDemo words core.limits core.sys relations
  pub run : IsWritten core
  pub told : Verdict
  pub proved : IsProved core.sys core.limits core.history told
  pub printed : IsPrinted call (status_of told) (line_of relations (status_of told) core)

-- the words name a command that searches
abbrev pub NamesSearch : List (List ℕ) → Type 0
NamesSearch words = IsNamed infer_command words ⊎ IsNamed demo_command words

-- A call of `updr` or `demo` that ends with an answer leaves its machine, and whatever call leaves a
-- machine has shown by it what its verdict says.
pub record IsSearch (words : List (List ℕ)) (call : Call CoreView) : Type 0 where
  pub leaves :
      NamesSearch words → call.number < 10 → (core : CoreView) × (call.left ≡ Some core)
  pub shows :
      (core : CoreView) → call.left ≡ Some core →
      HasShown infer_form IsWritten words call core ⊎ HasDemonstrated words call core
