-- What a put leaves of the bytes that a sink tells.
use Rattle.std.specs.Prelude.{◌≡◌, ℕ, List, ◌++◌, take, Option, Some, None, ⊤, Result, Ok, Err}
use Rattle.pv_base.specs.Counts.{raised}
use Rattle.pv_base.specs.declared.sink.Failed.{Failed}

-- the sink goes on telling or not telling, and where it tells, the new bytes are the old ones and then these
abbrev pub Appends : Option (List ℕ) → List ℕ → Option (List ℕ) → Type 0
Appends None bytes None = ⊤
Appends None bytes (Some new) = ⊥
Appends (Some old) bytes None = ⊥
Appends (Some old) bytes (Some new) = new ≡ old ++ bytes

-- some first part of these bytes was appended
abbrev pub AppendsPrefix : Option (List ℕ) → List ℕ → Option (List ℕ) → Type 0
AppendsPrefix old bytes new = (n : ℕ) × Appends old (take n bytes) new

-- the count of faults after a put with this answer
abbrev pub faults_after : ℕ → Result (Unit {0}) Failed → ℕ
faults_after before (Ok _) = before
faults_after before (Err _) = raised before
