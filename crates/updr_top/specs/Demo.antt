-- The command `demo`: the search of `updr`, in its usual limits, of a model that is made from a number.
use Rattle.std.specs.Prelude.{ℕ, List, [], ◌∷◌, ◌++◌, codes, decimal, length, refl, slice_index_or}
use Rattle.clap.proofs.OnLiterals.{clap_on_literals}
use Rattle.fo_core.specs.declared.order.Purpose.TheVariants as purpose
use Rattle.up_claims.specs.declared.report.Numbers.{Numbers}
use Rattle.up_machine.specs.declared.limits.Limits.{Limits}
use Rattle.up_core.specs.View.{CoreView, now, numbers_of}
use Rattle.up_gen.specs.Models.{model_text_of}
use Rattle.up_gen.specs.declared.models.TheConstants.{MOST_RELATIONS}
use Rattle.up_rounds.specs.Courses.{IsRun}
use Rattle.updr_told.specs.Statuses.{number_of}
use Rattle.updr_told.specs.declared.status.Status.{Status}
use Rattle.updr_words.specs.declared.form.Giving.TheVariants.{ByWord}
use Rattle.updr_words.specs.Forms.{Form, Number}
use Rattle.updr_words.specs.Jobs.{Job}
use Rattle.updr_table.specs.Commands.{Command, IsSound}
use Rattle.updr_table.specs.Rows.{Contents, Row}
use Rattle.updr_model.specs.OnModel.{Given, if_stratified, over_text}
use Rattle.updr_model.specs.Sound.{one_on_text, one_stratified}
use Rattle.updr_top.specs.OneStatus.{status_of}
use Rattle.updr_top.specs.Tellings.{Printing, one_told, rounds_have_one, search_table}

-- ---- the words

-- N, how many relations of nodes the model has
abbrev pub relations_word : Number
relations_word = record { name = codes "N"; giving = ByWord; usual = []; least = 1; most = MOST_RELATIONS }

-- `demo N`
abbrev pub demo_form : Form
demo_form = record {
  name = codes "demo";
  files = [];
  numbers = relations_word ∷ [];
  flags = [];
}

-- how many relations the words ask for
abbrev pub relations_of : Job → ℕ
relations_of job = slice_index_or job.numbers 0 0

-- what `updr` lets a search spend where its words give no option
abbrev pub usual_limits : Limits
usual_limits = record { workers = 4; batch = 8; frames = 20; steps = 20000; weight = 4000000 }

-- ---- the line

-- a word, and a number after it
abbrev pub field : List ℕ → ℕ → List ℕ
field word number = word ++ (codes " " ++ decimal number)

-- how many relations the model has, and how many bytes its text
abbrev pub model_words : ℕ → ℕ → List ℕ
model_words n bytes = field (codes "demo") n ++ field (codes " bytes") bytes

-- how far a search had come
abbrev pub numbers_words : Numbers → List ℕ
numbers_words numbers =
    field (codes " productive") numbers.productive
    ++ field (codes " frontier") numbers.frontier
    ++ field (codes " clauses") numbers.clauses

-- the line: the model, the number of the status, and the search
abbrev pub demo_line : ℕ → ℕ → Status → Numbers → List ℕ
demo_line n bytes status numbers =
    model_words n bytes ++ field (codes " status") (number_of status) ++ numbers_words numbers
    ++ codes "\n"

-- the line of a search of the model of n relations
abbrev pub demo_text : ℕ → Printing
demo_text n e core verdict =
    demo_line n (length (model_text_of n)) (status_of verdict) (numbers_of (now core))

-- ---- the command

-- the rows of `updr` in the usual limits, with that line as what is printed
abbrev pub demo_table : ℕ → List (Row Given CoreView)
demo_table n = search_table IsRun (demo_text n) usual_limits

-- over the system that the text of the model means, if that is stratified
abbrev pub demo_rows : ℕ → List (Row Contents CoreView)
demo_rows n = over_text (model_text_of n) (if_stratified purpose.Infer (demo_table n))

abbrev pub demo_command : Command CoreView
demo_command = record { form = demo_form; rows = λ job. demo_rows (relations_of job) }

pub demo_sound : IsSound demo_command
unfolding clap_on_literals
demo_sound = record {
  simple = refl;
  table = λ job. refl;
  exclusive = λ job.
      one_on_text (model_text_of (relations_of job)) (if_stratified purpose.Infer (demo_table (relations_of job)))
      (one_stratified purpose.Infer (demo_table (relations_of job)) (λ g is. one_told IsRun rounds_have_one (demo_text (relations_of job)) usual_limits g is.system));
}
