-- How an end is told to `out` and `err`.
use Rattle.std.specs.Prelude.{◌≡◌, ◌⊎◌, ℕ, List, Option}
use Rattle.pv_base.specs.Written.{Appends, AppendsPrefix}
use Rattle.pv_base.specs.Counts.{Rose}
use Rattle.updr_told.specs.Ends.{End, out_of_memory, cannot_write}
use Rattle.updr_told.specs.Statuses.{number_of}
use Rattle.updr_told.specs.declared.status.Status.{Status}
use Rattle.updr_told.specs.declared.status.Status.TheVariants.{WriteFault}

-- a sink from the entry of a call to its exit: the bytes that it tells, and its count of faults
pub record Sunk : Type 0 where
  pub written : Option (List ℕ)
  pub written_after : Option (List ℕ)
  pub faults : ℕ
  pub faults_after : ℕ

-- what a call met of a sink, by what the sink's type tells
abbrev pub sunk : {S : Type 0} → (S → Option (List ℕ)) → (S → ℕ) → S → S → Sunk
sunk written faults old new = record {
  written = written old;
  written_after = written new;
  faults = faults old;
  faults_after = faults new;
}

-- all of this went to the sink, and none of its puts failed
pub record TakesAll (sink : Sunk) (bytes : List ℕ) : Type 0 where
  pub appended : Appends sink.written bytes sink.written_after
  pub quiet : sink.faults_after ≡ sink.faults

-- a put failed, and a prefix of this went to the sink
pub record TakesPart (sink : Sunk) (bytes : List ℕ) : Type 0 where
  pub appended : AppendsPrefix sink.written bytes sink.written_after
  pub rose : Rose sink.faults sink.faults_after

-- `out` failed in the text, and then `err` has the line that says so or a prefix of it; or `err`
-- failed in the line
abbrev pub IsCutShort : List ℕ → List ℕ → Sunk → Sunk → Type 0
IsCutShort text line out err =
    (TakesPart out text × AppendsPrefix err.written cannot_write err.written_after)
    ⊎ (TakesAll out text × TakesPart err line)

-- the number tells this status, text and line: it is the status's where all was put, else that of a
-- write fault
abbrev pub TellsAs : Status → List ℕ → List ℕ → Sunk → Sunk → ℕ → Type 0
TellsAs status text line out err number =
    ((number ≡ number_of status) × TakesAll out text × TakesAll err line)
    ⊎ ((number ≡ number_of WriteFault) × IsCutShort text line out err)

-- it tells this end
abbrev pub Tells : {L : Type 0} → End L → Sunk → Sunk → ℕ → Type 0
Tells end = TellsAs end.status end.text end.line

-- The number and what is left answer a call that may end so; want of memory may come in place of
-- each end. What the end leaves is handed on also where a put failed.
pub record IsAnswer {L : Type 0} (MayEnd : End L → Type 0) (out err : Sunk) (number : ℕ)
    (left : Option L) : Type 0 where
  pub meant : End L
  pub comes : MayEnd meant ⊎ (meant ≡ out_of_memory)
  pub told : Tells meant out err number
  pub handed_on : left ≡ meant.left
