-- The command `updr`: a search for a universal inductive invariant; by rounds of the machine, where its
-- words don't ask for workers that run freely.
use Rattle.std.specs.Prelude.{ℕ, List, [], ◌∷◌, codes, refl, slice_index_or}
use Rattle.std.proofs.Common.{arith}
use Rattle.clap.proofs.OnLiterals.{clap_on_literals}
use Rattle.fo_core.specs.declared.order.Purpose.TheVariants as purpose
use Rattle.up_claims.specs.declared.report.Report.{Report}
use Rattle.up_claims.specs.declared.verdict.Verdict.{Verdict}
use Rattle.up_machine.specs.declared.limits.Limits.{Limits}
use Rattle.up_machine.specs.declared.limits.TheConstants.{MOST_WORKERS, MOST_SEATS, MOST_FRAMES, MOST_STEPS}
use Rattle.up_core.specs.View.{CoreView, now, numbers_of}
use Rattle.up_report.specs.Texts.{report_text}
use Rattle.up_rounds.specs.Courses.{IsRun}
use Rattle.updr_words.specs.declared.form.Giving.TheVariants.{ByOption}
use Rattle.updr_words.specs.Forms.{Form, Number}
use Rattle.updr_words.specs.Jobs.{Job}
use Rattle.updr_table.specs.Commands.{Command}
use Rattle.updr_table.specs.Rows.{Row}
use Rattle.updr_model.specs.OnModel.{Given, IsSoundStratified, if_stratified, model_command}
use Rattle.updr_top.specs.Options.{weight_option}
use Rattle.updr_top.specs.Tellings.{Printing, Running, one_told, rounds_have_one, search_table}

-- ---- the words

-- `--workers`, how many threads share the jobs of a round
abbrev pub workers_option : Number
workers_option = record { name = codes "workers"; giving = ByOption; usual = codes "4"; least = 1; most = MOST_WORKERS }

-- `--batch`, how many seats a round has
abbrev pub batch_option : Number
batch_option = record { name = codes "batch"; giving = ByOption; usual = codes "8"; least = 1; most = MOST_SEATS }

-- `--frames`, how far the frontier may go
abbrev pub frames_option : Number
frames_option = record { name = codes "frames"; giving = ByOption; usual = codes "20"; least = 1; most = MOST_FRAMES }

-- `--steps`, how many productive events there may be
abbrev pub steps_option : Number
steps_option = record { name = codes "steps"; giving = ByOption; usual = codes "20000"; least = 1; most = MOST_STEPS }

-- `updr MODEL --workers N --batch N --frames N --steps N --weight N`
abbrev pub infer_form : Form
infer_form = record {
  name = codes "updr";
  files = codes "MODEL" ∷ [];
  numbers =
      workers_option ∷ batch_option ∷ frames_option ∷ steps_option ∷ weight_option ∷ [];
  flags = [];
}

-- the number of the option at this place of the form
abbrev pub option_at : Job → ℕ → ℕ
option_at job place = slice_index_or job.numbers place 0

-- what the words let a search spend
abbrev pub limits_of : Job → Limits
limits_of job = record {
  workers = option_at job 0;
  batch = option_at job 1;
  frames = option_at job 2;
  steps = option_at job 3;
  weight = option_at job 4;
}

-- ---- what is printed

-- the report of a verdict, with the numbers of the machine that came to it
abbrev pub report_of : CoreView → Verdict → Report
report_of core verdict = record { verdict = verdict; numbers = numbers_of (now core) }

-- its text, over the names of the model
abbrev pub search_text : Printing
search_text e core verdict = report_text e.sys.sig e.names (report_of core verdict)

-- ---- the command

-- the rows of a search by machines that are run so, in the limits of the words
abbrev pub search_rows : Running → Job → List (Row Given CoreView)
search_rows Ran job = search_table Ran search_text (limits_of job)

-- the command of these words that searches so
abbrev pub search_command : Form → Running → Command CoreView
search_command form Ran = model_command form (λ job. if_stratified purpose.Infer (search_rows Ran job))

abbrev pub infer_command : Command CoreView
infer_command = search_command infer_form IsRun

pub infer_sound : IsSoundStratified purpose.Infer infer_form (search_rows IsRun)
unfolding clap_on_literals
infer_sound = record {
  simple = refl;
  model = omega arith;
  table = λ job. refl;
  exclusive = λ job g model. one_told IsRun rounds_have_one search_text (limits_of job) g model.system;
}
