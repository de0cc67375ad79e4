-- The table of statuses of a list of commands: when each comes, and what is told.
use Rattle.std.specs.Prelude.{◌≡◌, ◌⊎◌, ◌↔◌, ◌<◌, ◌≤◌, ℕ, List, [], ◌∷◌, Option, Some, None, length, ⊤}
use Rattle.std.specs.List.{AllZip}
use Rattle.pv_base.specs.Counts.{Rose}
use Rattle.pv_base.specs.Reading.{limit}
use Rattle.updr_told.specs.Ends.{End, cannot_read, is_longer}
use Rattle.updr_told.specs.Statuses.{number_of}
use Rattle.updr_told.specs.Telling.{IsAnswer, Sunk, TakesAll}
use Rattle.updr_told.specs.declared.status.Status.TheVariants.{Usage, ReadFault, WriteFault, OutOfMemory}
use Rattle.updr_words.specs.Jobs.{IsJob, Job}
use Rattle.updr_table.specs.Commands.{AsksNothing, Command, IsNamed, MayEnd}
use Rattle.updr_table.specs.Outside.{AreContents, IsReached, IsTooLong, IsUnread, Outside}
use Rattle.updr_table.specs.Rows.{Contents, Row, end_of}

-- what a call met, and what it came to: the number that it answers, and what is left
pub record Call (L : Type 0) : Type 0 where
  pub files : Outside
  pub out : Sunk
  pub err : Sunk
  pub number : ℕ
  pub left : Option L

abbrev pub met : {L : Type 0} → Outside → Sunk → Sunk → ℕ → Option L → Call L
met files out err number left = record {
  files = files;
  out = out;
  err = err;
  number = number;
  left = left;
}

-- a failed put or want of memory stands in place of what was meant
abbrev pub IsInPlace : ℕ → Type 0
IsInPlace number = (number ≡ number_of WriteFault) ⊎ (number ≡ number_of OutOfMemory)

-- usage, unless a failed put or want of memory stands in its place
abbrev pub IsUsage : ℕ → Type 0
IsUsage number = (number ≡ number_of Usage) ⊎ IsInPlace number

-- all of this end was told
pub record IsTold {L : Type 0} (call : Call L) (end : End L) : Type 0 where
  pub text : TakesAll call.out end.text
  pub line : TakesAll call.err end.line
  pub handed_on : call.left ≡ end.left

-- ---- files

-- a file of these names was reached, and refused by the cause that the line on `err` tells
abbrev pub IsReadFault : {L : Type 0} → Call L → List (List ℕ) → Type 0
IsReadFault {L = L} call names =
    (name : List ℕ) × IsReached call.files.contents names name
    × ((IsUnread call.files name × IsTold call (cannot_read {L = L} name))
    ⊎ (IsTooLong call.files name × IsTold call (is_longer {L = L} name)))

-- this content of the name is told, and is within the limit
abbrev pub IsShort : Outside → List ℕ → List ℕ → Type 0
IsShort o name content = (o.contents name ≡ Some content) × (length content ≤ limit)

-- this content of the name is told, and is past it
abbrev pub IsLong : Outside → List ℕ → List ℕ → Type 0
IsLong o name content = (o.contents name ≡ Some content) × (limit < length content)

-- the first file is longer than a file may be, and the files tell it; or a later one is, and those
-- before it aren't and were read
abbrev pub HasLong : Outside → List (List ℕ) → List ℕ → Type 0
HasLong o [] long = ⊥
HasLong o (name ∷ names) long =
    ((long ≡ name) × (content : List ℕ) × IsLong o name content)
    ⊎ (((content : List ℕ) × IsShort o name content)
    × (¬ Rose o.before o.after) × HasLong o names long)

-- a file that is too long is refused as that
abbrev pub LongIsRefused : {L : Type 0} → Call L → List (List ℕ) → Type 0
LongIsRefused {L = L} call names =
    (long : List ℕ) → HasLong call.files names long
    → ((call.number ≡ number_of ReadFault) × IsTold call (is_longer {L = L} long))
    ⊎ IsInPlace call.number

-- ---- a command's table

-- the row's status comes exactly where the row says so, and then what the row says is told
pub record Decides {L : Type 0} (r : Row Contents L) (contents : Contents) (call : Call L) : Type 0
  where
    pub exactly : (call.number ≡ number_of r.status) ↔ r.comes contents
    pub told :
        call.number ≡ number_of r.status
        → (bytes : List ℕ) × (left : Option L) × r.says contents bytes left
        × IsTold call (end_of r.status bytes left)

-- so does each row
abbrev pub AllDecide : {L : Type 0} → List (Row Contents L) → Contents → Call L → Type 0
AllDecide [] contents call = ⊤
AllDecide (r ∷ rs) contents call = Decides r contents call × AllDecide rs contents call

-- one of the rows comes, and its status is that of the call
abbrev pub IsOneOf : {L : Type 0} → List (Row Contents L) → Contents → ℕ → Type 0
IsOneOf [] contents number = ⊥
IsOneOf (r ∷ rs) contents number =
    (r.comes contents × (number ≡ number_of r.status)) ⊎ IsOneOf rs contents number

-- the files were read, and their contents decide by the command's rows
pub record IsDecided {L : Type 0} (rows : List (Row Contents L)) (names : List (List ℕ))
    (call : Call L) : Type 0 where
  pub contents : Contents
  pub are : AreContents call.files names contents
  pub each : AllDecide rows contents call
  pub one : IsOneOf rows contents call.number

-- What a command comes to for a job: a file is refused, a put failed, memory was refused; or the
-- files were read, and their contents decide.
pub record IsTabled {L : Type 0} (c : Command L) (job : Job) (call : Call L) : Type 0 where
  pub decided :
      (call.number ≡ number_of ReadFault) ⊎ IsInPlace call.number
      ⊎ IsDecided (c.rows job) job.files call
  pub no_usage : ¬ (call.number ≡ number_of Usage)
  pub read_fault : call.number ≡ number_of ReadFault → IsReadFault call job.files
  pub too_long : LongIsRefused call job.files

-- clap doesn't read the words by the command's form, and that is usage; or the command's table
-- holds
pub record IsServed {L : Type 0} (c : Command L) (words : List (List ℕ)) (call : Call L) : Type 0
  where
    pub unread : AsksNothing c words → IsUsage call.number
    pub read : (job : Job) → IsJob c.form words job → IsTabled c job call

-- ---- all commands

-- No command is named, or the one that is named isn't read: that is usage. Else the command's table
-- holds.
abbrev pub AreTabled : {L : Type 0} → List (Command L) → List (List ℕ) → Call L → Type 0
AreTabled [] words call = IsUsage call.number
AreTabled (c ∷ cs) words call =
    (IsNamed c words → IsServed c words call) × ((¬ IsNamed c words) → AreTabled cs words call)

-- the status is that of a write fault wherever a count is greater at the exit, and only where one
-- rose
pub record IsWriteFault {L : Type 0} (call : Call L) : Type 0 where
  pub wherever :
      (call.out.faults < call.out.faults_after) ⊎ (call.err.faults < call.err.faults_after)
      → call.number ≡ number_of WriteFault
  pub only :
      call.number ≡ number_of WriteFault
      → Rose call.out.faults call.out.faults_after ⊎ Rose call.err.faults call.err.faults_after

-- what holds of every call, whatever the command
pub record IsTelling {L : Type 0} (call : Call L) : Type 0 where
  -- an answer says nothing on `err`; a refusal, but for a write fault, prints and leaves nothing
  pub silent : call.number < 10 → TakesAll call.err []
  pub nothing :
      10 ≤ call.number → ¬ (call.number ≡ number_of WriteFault)
      → TakesAll call.out [] × (call.left ≡ None)
  pub write_fault : IsWriteFault call

-- ---- completeness

-- the files tell these contents, each within the limit, and no read failed
pub record AreGood (o : Outside) (names : List (List ℕ)) (contents : Contents) : Type 0 where
  pub told : AllZip (IsShort o) names contents
  pub quiet : ¬ Rose o.before o.after

-- none of the refusals comes
abbrev pub NoneRefuses : {L : Type 0} → List (Row Contents L) → Contents → Type 0
NoneRefuses [] contents = ⊤
NoneRefuses (r ∷ rs) contents =
    (10 ≤ number_of r.status → ¬ r.comes contents) × NoneRefuses rs contents

-- the files are good, no put failed, and no row refuses the contents
pub record IsUnhindered {L : Type 0} (rows : List (Row Contents L)) (names : List (List ℕ))
    (contents : Contents) (call : Call L) : Type 0 where
  pub good : AreGood call.files names contents
  pub out_quiet : ¬ Rose call.out.faults call.out.faults_after
  pub err_quiet : ¬ Rose call.err.faults call.err.faults_after
  pub unrefused : NoneRefuses rows contents

-- then an answer comes, or memory was refused
abbrev pub Completes : {L : Type 0} → Command L → List (List ℕ) → Call L → Type 0
Completes c words call =
    (job : Job) → IsJob c.form words job → (contents : Contents)
    → IsUnhindered (c.rows job) job.files contents call
    → (call.number ≡ number_of OutOfMemory)
    ⊎ ((call.number < 10) × IsOneOf (c.rows job) contents call.number)

-- so it is with the command that is named
abbrev pub AreComplete : {L : Type 0} → List (Command L) → List (List ℕ) → Call L → Type 0
AreComplete [] words call = ⊤
AreComplete (c ∷ cs) words call =
    (IsNamed c words → Completes c words call) × ((¬ IsNamed c words) → AreComplete cs words call)

-- ---- the whole

-- What these commands answer to the words.
pub record Answers {L : Type 0} (commands : List (Command L)) (words : List (List ℕ))
    (call : Call L) : Type 0 where
  -- the end comes by the command that is named, and is told
  pub answer : IsAnswer (MayEnd commands call.files words) call.out call.err call.number call.left
  -- each status comes exactly where the command's table says so, and what the table says is told
  pub table : AreTabled commands words call
  -- answers are silent, refusals print nothing, and a write fault comes of a failed put
  pub telling : IsTelling call
  -- over good files and sinks an answer comes, or memory was refused
  pub complete : AreComplete commands words call
