-- What reading a text answers.
use Rattle.std.specs.Prelude.{◌≡◌, ℕ, Result, Ok, Err, ⊤}
use Rattle.fo_core.specs.declared.world.World.{World}
use Rattle.fo_text.specs.declared.fault.TextFault.{TextFault}
use Rattle.fo_text.specs.declared.fault.TextFault.TheVariants.{Bad, Memory}

-- the answer is this world, unless memory ran out
abbrev pub IsUnlessMemory : World → Result World TextFault → Type 0
IsUnlessMemory w (Ok v) = v ≡ w
IsUnlessMemory w (Err (Bad p)) = ⊥
IsUnlessMemory w (Err Memory) = ⊤

-- where the answer is a fault at a place, P holds of the place
abbrev pub IfBad : Result World TextFault → (ℕ → Type 0) → Type 0
IfBad (Ok v) P = ⊤
IfBad (Err (Bad p)) P = P p
IfBad (Err Memory) P = ⊤
