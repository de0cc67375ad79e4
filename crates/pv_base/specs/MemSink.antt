-- A sink over memory of a fixed size, in which chosen puts fail.
use Rattle.std.specs.Prelude.{◌≡◌, ◌≤◌, ◌+◌, ◌/◌, ◌⊎◌, ◌++◌, ℕ, List, Result, Ok, Err, length, take, Contains}
use Rattle.pv_base.specs.declared.sink.Failed.{Failed}

-- the bytes that went in and the room for them, the numbers of the puts that are to fail, and how many puts there were
-- and how many failed
pub record SinkInMemory : Type 0 where
  pub bytes : List ℕ
  pub room : ℕ
  pub failing : List ℕ
  pub calls : ℕ
  pub faults : ℕ

-- these bytes go into what is left of the room
abbrev pub Fits : SinkInMemory → List ℕ → Type 0
Fits sink bytes = length sink.bytes + length bytes ≤ sink.room

-- the next put is to fail
abbrev pub IsToFail : SinkInMemory → Type 0
IsToFail sink = Contains sink.failing sink.calls

-- the first half of these bytes, rounded down
abbrev pub first_half : List ℕ → List ℕ
first_half bytes = take (length bytes / 2) bytes

-- the answer of a put of these bytes, and the bytes that are then in the sink
abbrev pub IsPut : SinkInMemory → List ℕ → Result (Unit {0}) Failed → List ℕ → Type 0
IsPut sink bytes (Ok _) after = Fits sink bytes × (¬ IsToFail sink) × (after ≡ sink.bytes ++ bytes)
IsPut sink bytes (Err _) after =
    ((¬ Fits sink bytes) × (after ≡ sink.bytes))
    ⊎ (Fits sink bytes × IsToFail sink × (after ≡ sink.bytes ++ first_half bytes))
