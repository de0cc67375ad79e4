-- What words ask of a command.
use Rattle.std.specs.Prelude.{◌≡◌, ◌≤◌, ℕ, Bool, List, [], Some, Ok, map, bytes_eq, unwrap_or, codes}
use Rattle.std.specs.List.{AllZip}
use Rattle.std.specs.Str.Parse.{ParsesUnsigned}
use Rattle.clap.specs.Words.{Row, Text, fault_of, first_of, matches_of, one_of}
use Rattle.updr_words.specs.Forms.{Form, Number, app_by, texts}
use Rattle.updr_words.specs.declared.reading.Job as code

-- the names of the files to read, the numbers, and whether each option without a value is given
pub record Job : Type 0 where
  pub files : List Text
  pub numbers : List ℕ
  pub flags : List Bool

-- what clap found has this word at this place
abbrev pub GivesFile : List Row → Text → Text → Type 0
GivesFile rows place word = first_of place rows ≡ Some word

-- it has this number, which lies in its range
pub record GivesNumber (rows : List Row) (n : Number) (value : ℕ) : Type 0 where
  pub text : Text
  pub given : one_of n.name rows ≡ Some text
  pub read : ParsesUnsigned {E = Unit {0}} 32 10 text (Ok value)
  pub low : n.least ≤ value
  pub high : value ≤ n.most

-- it has this option: clap gives each option without a value the text `true` or `false`
abbrev pub is_given : List Row → Text → Bool
is_given rows flag = bytes_eq (unwrap_or (first_of flag rows) []) (codes "true")

-- clap reads the words by this form, and what it finds in them is this job
pub record IsJob (form : Form) (words : List Text) (job : Job) : Type 0 where
  pub no_fault : fault_of (app_by form) words ≡ []
  pub files : AllZip (GivesFile (matches_of (app_by form) words)) form.files job.files
  pub numbers : AllZip (GivesNumber (matches_of (app_by form) words)) form.numbers job.numbers
  pub flags : job.flags ≡ map (is_given (matches_of (app_by form) words)) form.flags

-- each of these numbers lies in its range
abbrev pub AreInRange : List Number → List ℕ → Type 0
AreInRange = AllZip (λ n v. (n.least ≤ v) × (v ≤ n.most))

-- what the code holds
abbrev pub job_of : code.Job → Job
job_of j = record { files = texts j.files.items; numbers = j.numbers.items; flags = j.flags.items }
