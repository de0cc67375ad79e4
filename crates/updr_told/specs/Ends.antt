-- How a call may end, before anything is put.
use Rattle.std.specs.Prelude.{ℕ, List, [], ◌++◌, Option, None, codes, decimal}
use Rattle.pv_base.specs.Reading.{limit}
use Rattle.updr_told.specs.declared.status.Status.{Status}
use Rattle.updr_told.specs.declared.status.Status.TheVariants as status

-- a status, the text for `out`, the line for `err`, and what the end leaves behind
pub record End (L : Type 0) : Type 0 where
  pub status : Status
  pub text : List ℕ
  pub line : List ℕ
  pub left : Option L

-- an answer prints this text, says nothing, and leaves this
abbrev pub printing : {L : Type 0} → Status → List ℕ → Option L → End L
printing status text left = record { status = status; text = text; line = []; left = left }

-- the line with these words
abbrev pub line_of : List ℕ → List ℕ
line_of words = codes "updr: " ++ words ++ codes "\n"

-- a refusal says these words, prints nothing, and leaves nothing
abbrev pub refusal : {L : Type 0} → Status → List ℕ → End L
refusal status words = record { status = status; text = []; line = line_of words; left = None }

-- ---- the refusals that belong to no command

-- the words are no command
abbrev pub usage : {L : Type 0} → End L
usage = refusal status.Usage (codes "usage")

-- a read of the file of this name failed
abbrev pub cannot_read : {L : Type 0} → List ℕ → End L
cannot_read name = refusal status.ReadFault (codes "cannot read " ++ name)

-- the file of this name has more bytes than a file may have
abbrev pub is_longer : {L : Type 0} → List ℕ → End L
is_longer name =
    let longer = codes " is longer than " ++ (decimal limit ++ codes " bytes") in
    refusal status.ReadFault (name ++ longer)

-- memory was refused
abbrev pub out_of_memory : {L : Type 0} → End L
out_of_memory = refusal status.OutOfMemory (codes "out of memory")

-- the line that tells of a failed put
abbrev pub cannot_write : List ℕ
cannot_write = line_of (codes "cannot write")
