-- The words of a command as data, and the command of clap that reads them.
use Rattle.std.specs.Prelude.{◌≡◌, ℕ, pos, true, List, [], ◌∷◌, map, Some}
use Rattle.std.specs.Borrow.{Bor}
use Rattle.clap.specs.Words.{App, Rule, Text, is_simple_and_free, new_app, new_rule, with_rule}
use Rattle.clap.specs.declared.builder.value_parser.ValueParser.TheVariants as parser
use Rattle.clap.specs.declared.builder.action.ArgAction.TheVariants.{Set, SetTrue}
use Rattle.updr_words.specs.declared.form.Form as code
use Rattle.updr_words.specs.declared.form.Giving.{Giving}
use Rattle.updr_words.specs.declared.form.Giving.TheVariants.{ByOption, ByWord}
use Rattle.updr_words.specs.declared.form.Number as code_number

-- a number that the words give: its name, whether by an option or by a word, what stands for it
-- where its option isn't given, and its range
pub record Number : Type 0 where
  pub name : Text
  pub giving : Giving
  pub usual : Text
  pub least : ℕ
  pub most : ℕ

-- a command's name, what stands for its files in the order in which they are read, its numbers, and
-- its options without a value
pub record Form : Type 0 where
  pub name : Text
  pub files : List Text
  pub numbers : List Number
  pub flags : List Text

-- ---- the command of clap

-- a word that has to be there
abbrev pub file_rule : Text → Rule
file_rule name = record (new_rule name) { required = true; action = Some Set }

-- a number in the range
abbrev pub range_rule : Number → Rule → Rule
range_rule n rule = record rule { parser = Some (parser.Signed (pos n.least) (pos n.most)) }

-- `--`, the name and a number in the range, or the usual one
abbrev pub option_rule : Number → Rule
option_rule n =
    range_rule n (record (new_rule n.name) { long = Some n.name; defaults = n.usual ∷ [] })

-- a number in the range, which has to be there
abbrev pub word_rule : Number → Rule
word_rule n = range_rule n (file_rule n.name)

abbrev pub rule_by : Giving → Number → Rule
rule_by ByOption n = option_rule n
rule_by ByWord n = word_rule n

abbrev pub number_rule : Number → Rule
number_rule n = rule_by n.giving n

-- `--` and the name
abbrev pub flag_rule : Text → Rule
flag_rule name = record (new_rule name) { long = Some name; action = Some SetTrue }

-- the command with more arguments behind its own
abbrev pub with_rules : App → List Rule → App
with_rules a [] = a
with_rules a (r ∷ rs) = with_rules (with_rule a r) rs

-- the places of the files in their order, and then the options
abbrev pub app_by : Form → App
app_by f =
    let with_files = with_rules (new_app f.name) (map file_rule f.files) in
    let with_numbers = with_rules with_files (map number_rule f.numbers) in
    with_rules with_numbers (map flag_rule f.flags)

-- clap states what it reads by this form: the command is simple, and no argument has a rule on
-- another
abbrev pub IsSimple : Form → Type 0
IsSimple f = is_simple_and_free (app_by f) ≡ true

-- ---- what the code holds

abbrev pub texts : List (Bor Text) → List Text
texts = map (λ s. s.now)

abbrev pub number_of : code_number.Number → Number
number_of n = record {
  name = n.name.now;
  giving = n.giving;
  usual = n.usual.now;
  least = n.least;
  most = n.most;
}

abbrev pub form_of : code.Form → Form
form_of f = record {
  name = f.name.now;
  files = texts f.files.now;
  numbers = map number_of f.numbers.now;
  flags = texts f.flags.now;
}
