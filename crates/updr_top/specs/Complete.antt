-- What each command answers where nothing is refused.
use Rattle.std.specs.Prelude.{◌≡◌, ◌⊎◌, ℕ, ◌≤◌, List}
use Rattle.fo_core.specs.declared.names.Names.{Names}
use Rattle.fo_core.specs.declared.order.Purpose.{Purpose}
use Rattle.fo_core.specs.declared.order.Purpose.TheVariants as purpose
use Rattle.fo_core.specs.declared.system.System.{System}
use Rattle.fo_core.specs.SortGraph.{IsStratified}
use Rattle.pv_base.specs.Counts.{Rose}
use Rattle.up_claims.specs.declared.report.Report.{Report}
use Rattle.up_core.specs.View.{CoreView}
use Rattle.up_report.specs.Reports.{IsReport}
use Rattle.updr_words.specs.Jobs.{IsJob, Job}
use Rattle.updr_table.specs.Commands.{Command, IsNamed}
use Rattle.updr_table.specs.Rows.{Contents, content_at}
use Rattle.updr_table.specs.Table.{AreGood, Call}
use Rattle.updr_model.specs.Texts.{MeansText}
use Rattle.updr_top.specs.Bmc.{bmc_command}
use Rattle.updr_top.specs.Check.{check_command}
use Rattle.updr_top.specs.Demo.{demo_command, demo_form}
use Rattle.updr_top.specs.Infer.{infer_command}
use Rattle.updr_top.specs.Reported.{IsAsked}
use Rattle.updr_top.specs.Verify.{verify_command}

-- the command is named, its words are read, its files are good, no put failed, and the first file
-- means a system, of which P holds, with the contents of all files
pub record IsGoodCall {L : Type 0} (c : Command L) (P : System → Names → Contents → Type 0) (words : List (List ℕ)) (call : Call L) : Type 0 where
  pub job : Job
  pub contents : Contents
  pub sys : System
  pub names : Names
  pub named : IsNamed c words
  pub asked : IsJob c.form words job
  pub good : AreGood call.files job.files contents
  pub out_quiet : ¬ Rose call.out.faults call.out.faults_after
  pub err_quiet : ¬ Rose call.err.faults call.err.faults_after
  pub means : MeansText (content_at contents 0) sys names
  pub is : P sys names contents

-- the second file is a report over the model's signature, and where its verdict is judged by
-- queries, the system is stratified for them
abbrev pub HasJudgeable : System → Names → Contents → Type 0
HasJudgeable sys names contents =
    (r : Report) × IsReport sys.sig names (content_at contents 1) r
    × (IsAsked r.verdict → IsStratified sys purpose.Infer)

-- the system is stratified for this purpose
abbrev pub IsStratifiedFor : Purpose → System → Names → Contents → Type 0
IsStratifiedFor purpose sys names contents = IsStratified sys purpose

-- `demo` is named, its words are read, no read of a file failed, and no put failed; nothing is asked
-- of the model, since each that is made means a stratified system
pub record IsGoodDemo (words : List (List ℕ)) (call : Call CoreView) : Type 0 where
  pub named : IsNamed demo_command words
  pub job : Job
  pub asked : IsJob demo_form words job
  pub files_quiet : ¬ Rose call.files.before call.files.after
  pub out_quiet : ¬ Rose call.out.faults call.out.faults_after
  pub err_quiet : ¬ Rose call.err.faults call.err.faults_after

-- The statuses of good calls. Want of memory, 16, is always free.
pub record IsComplete (words : List (List ℕ)) (call : Call CoreView) : Type 0 where
  pub updr :
      IsGoodCall infer_command (IsStratifiedFor purpose.Infer) words call
      → (call.number ≤ 5) ⊎ (call.number ≡ 16)
  pub demo : IsGoodDemo words call → (call.number ≤ 5) ⊎ (call.number ≡ 16)
  pub check :
      IsGoodCall check_command HasJudgeable words call
      → (call.number ≡ 0) ⊎ (call.number ≡ 5) ⊎ (call.number ≡ 6) ⊎ (call.number ≡ 8)
      ⊎ (call.number ≡ 16)
  pub verify : IsGoodCall verify_command (IsStratifiedFor purpose.Verify) words call → (call.number ≡ 0) ⊎ (call.number ≡ 5) ⊎ (call.number ≡ 7) ⊎ (call.number ≡ 16)
  pub bmc : IsGoodCall bmc_command (IsStratifiedFor purpose.Infer) words call → (call.number ≡ 0) ⊎ (call.number ≡ 1) ⊎ (call.number ≡ 5) ⊎ (call.number ≡ 16)
