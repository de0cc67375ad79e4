-- The parts that texts are made of, and where bytes stop being one.
use Rattle.std.specs.Prelude.{◌≡◌, ℕ, ◌+◌, ◌-◌, ◌<◌, ◌≤◌, List, [], ◌∷◌, ◌++◌, length, take, decimal, ⊤, Result, Ok, Err}
use Rattle.fo_text.specs.declared.halt.Halt.{Halt}
use Rattle.fo_text.specs.declared.halt.Halt.TheVariants.{Memory, Fault}

-- the text begins with these bytes
abbrev pub StartsWith : List ℕ → List ℕ → Type 0
StartsWith text front = (rest : List ℕ) × (text ≡ front ++ rest)

abbrev pub IsBetween : ℕ → ℕ → ℕ → Type 0
IsBetween least most n = (least ≤ n) × (n ≤ most)

-- a number in decimal digits without leading zeros, and the byte that ends it
abbrev pub number_text : ℕ → ℕ → List ℕ
number_text ending n = decimal n ++ ending ∷ []

-- the bytes are such a number, the byte that ends it, and a rest
abbrev pub HasNumber : ℕ → ℕ → ℕ → List ℕ → ℕ × List ℕ → Type 0
HasNumber least most ending bytes x =
    IsBetween least most x.0 × (bytes ≡ number_text ending x.0 ++ x.1)

-- the text of some number from `least` to `most` begins with these bytes
abbrev pub BeginsNumber : ℕ → ℕ → ℕ → List ℕ → Type 0
BeginsNumber least most ending front =
    (n : ℕ) × IsBetween least most n × StartsWith (number_text ending n) front

-- the answer, seen by view, is this
abbrev pub IsOk : {X Y : Type 0} → (X → Y) → Result X Halt → Y → Type 0
IsOk view (Ok x) y = view x ≡ y
IsOk view (Err e) y = ⊥

-- Where this many bytes are left, no text goes on: the bytes before begin one, and with the byte
-- there, if there is one, they don't.
pub record StopsBefore (Begins : List ℕ → Type 0) (bytes : List ℕ) (left : ℕ) : Type 0 where
  pub within : left ≤ length bytes
  pub begins : Begins (take (length bytes - left) bytes)
  pub stops : 0 < left → ¬ Begins (take (length bytes - left + 1) bytes)

-- reading ended at a byte, and not for want of memory
abbrev pub HasPlace : Halt → Type 0
HasPlace Memory = ⊥
HasPlace (Fault left) = ⊤

-- reading ended at that byte
abbrev pub IsStop : (List ℕ → Type 0) → List ℕ → Halt → Type 0
IsStop Begins bytes Memory = ⊥
IsStop Begins bytes (Fault left) = StopsBefore Begins bytes left
