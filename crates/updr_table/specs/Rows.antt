-- A table: a row for each status.
use Rattle.std.specs.Prelude.{◌≡◌, ◌⊎◌, ℕ, ◌==◌, ◌&&◌, ◌||◌, not, Bool, true, false, List, [], ◌∷◌, Option, if◌then◌else◌, slice_index_or, map, Vec, ⊤}
use Rattle.updr_told.specs.Ends.{End, printing, refusal}
use Rattle.updr_told.specs.Statuses.{is_answer, number_of}
use Rattle.updr_told.specs.declared.status.Status.{Status}
use Rattle.updr_told.specs.declared.status.Status.TheVariants as status

-- the contents of the files that a command reads
abbrev pub Contents : Type 0
Contents = List (List ℕ)

-- the content of the file at this place
abbrev pub content_at : Contents → ℕ → List ℕ
content_at contents place = slice_index_or contents place []

-- what the code holds
abbrev pub contents_of : {A : Type 0} → List (Vec ℕ A) → Contents
contents_of = map (λ bytes. bytes.items)

-- A status; for which x it comes; and what is then said: the text of an answer or the words of a
-- refusal, and what an answer leaves. The x of a command are the contents of its files, and those
-- of a stage what the stages before it made of them.
pub record Row (X L : Type 0) : Type 1 where
  pub status : Status
  pub comes : X → Type 0
  pub says : X → List ℕ → Option L → Type 0

-- an answer prints the bytes and leaves what is left; any other status is refused with the bytes as
-- words
abbrev pub end_of : {L : Type 0} → Status → List ℕ → Option L → End L
end_of status bytes left =
    if is_answer status then printing status bytes left else refusal status bytes

-- the end is one of this row
pub record EndsBy {X L : Type 0} (r : Row X L) (x : X) (end : End L) : Type 0 where
  pub comes : r.comes x
  pub bytes : List ℕ
  pub left : Option L
  pub says : r.says x bytes left
  pub is : end ≡ end_of r.status bytes left

-- the end is one of some row
abbrev pub Ends : {X L : Type 0} → List (Row X L) → X → End L → Type 0
Ends [] x end = ⊥
Ends (r ∷ rs) x end = EndsBy r x end ⊎ Ends rs x end

-- ---- what makes rows a table

-- none of these rows comes
abbrev pub NoneComes : {X L : Type 0} → List (Row X L) → X → Type 0
NoneComes [] x = ⊤
NoneComes (r ∷ rs) x = (¬ r.comes x) × NoneComes rs x

-- at most one of these rows comes
abbrev pub AtMostOne : {X L : Type 0} → List (Row X L) → X → Type 0
AtMostOne [] x = ⊤
AtMostOne (r ∷ rs) x = (r.comes x → NoneComes rs x) × AtMostOne rs x

-- the two statuses have one number
abbrev pub is_same : Status → Status → Bool
is_same a b = number_of a == number_of b

-- some row has this status
abbrev pub has_status : {X L : Type 0} → Status → List (Row X L) → Bool
has_status s [] = false
has_status s (r ∷ rs) = is_same r.status s || has_status s rs

-- usage, a read fault, a write fault and want of memory are no command's own
abbrev pub is_reserved : Status → Bool
is_reserved s =
    is_same s status.Usage
    || (is_same s status.ReadFault || (is_same s status.WriteFault || is_same s status.OutOfMemory))

-- no status stands twice, and none is reserved
abbrev pub is_table : {X L : Type 0} → List (Row X L) → Bool
is_table [] = true
is_table (r ∷ rs) = not (is_reserved r.status) && (not (has_status r.status rs) && is_table rs)
