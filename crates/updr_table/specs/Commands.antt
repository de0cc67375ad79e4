-- Commands as values, and what a call of a list of them may end as.
use Rattle.std.specs.Prelude.{◌≡◌, ◌⊎◌, ◌≤◌, true, ℕ, List, [], ◌∷◌, Some, length, slice_get, ⊤}
use Rattle.std.specs.List.{All}
use Rattle.pv_base.specs.Reading.{limit}
use Rattle.updr_told.specs.Ends.{End, usage}
use Rattle.updr_words.specs.Forms.{Form, IsSimple}
use Rattle.updr_words.specs.Jobs.{AreInRange, IsJob, Job}
use Rattle.updr_table.specs.Outside.{Outside, Reading}
use Rattle.updr_table.specs.Rows.{AtMostOne, Contents, Ends, Row, is_table}

-- a command: its words, and its table for what they ask
pub record Command (L : Type 0) : Type 1 where
  pub form : Form
  pub rows : Job → List (Row Contents L)

-- the job has what the form names, each number in its range, and there is a content for each file, none of
-- which is longer than a file may be
pub record Suits (form : Form) (job : Job) (contents : Contents) : Type 0 where
  pub names : length job.files ≡ length form.files
  pub given : length job.numbers ≡ length form.numbers
  pub ranges : AreInRange form.numbers job.numbers
  pub flagged : length job.flags ≡ length form.flags
  pub all_read : length contents ≡ length form.files
  pub short : All (λ bytes. length bytes ≤ limit) contents

-- What each command has to meet: clap states what it reads by its form, no status stands twice in
-- its table or is reserved, and at most one row comes. All else is proved of all commands at once.
pub record IsSound {L : Type 0} (c : Command L) : Type 0 where
  pub simple : IsSimple c.form
  pub table : (job : Job) → is_table (c.rows job) ≡ true
  pub exclusive : (job : Job) (contents : Contents) → AtMostOne (c.rows job) contents

-- each of these commands meets it
abbrev pub AreSound : {L : Type 0} → List (Command L) → Type 0
AreSound [] = ⊤
AreSound (c ∷ cs) = IsSound c × AreSound cs

-- ---- calls

-- the first word is this command's name
abbrev pub IsNamed : {L : Type 0} → Command L → List (List ℕ) → Type 0
IsNamed c words = slice_get words 0 ≡ Some c.form.name

-- clap doesn't read the words by this command's form
abbrev pub AsksNothing : {L : Type 0} → Command L → List (List ℕ) → Type 0
AsksNothing c words = (job : Job) → ¬ IsJob c.form words job

-- What a call of this command may end as: its words are read, then its files in order, and then its
-- table decides over their contents.
abbrev pub MayEndBy : {L : Type 0} → Command L → Outside → List (List ℕ) → End L → Type 0
MayEndBy c o words end =
    (AsksNothing c words × (end ≡ usage))
    ⊎ ((job : Job) × IsJob c.form words job × Reading o job.files (Ends (c.rows job)) end)

-- What a call may end as: by the command that is named, or as usage where none is.
abbrev pub MayEnd : {L : Type 0} → List (Command L) → Outside → List (List ℕ) → End L → Type 0
MayEnd [] o words end = end ≡ usage
MayEnd (c ∷ cs) o words end =
    (IsNamed c words × MayEndBy c o words end) ⊎ ((¬ IsNamed c words) × MayEnd cs o words end)
