-- What reading a report answers.
use Rattle.std.specs.Prelude.{◌≡◌, ℕ, Result, Ok, Err, ⊤}
use Rattle.up_claims.specs.declared.report.Report.{Report}
use Rattle.up_report.specs.declared.fault.ReportFault.{ReportFault}
use Rattle.up_report.specs.declared.fault.ReportFault.TheVariants.{Bad, Memory}

-- the answer is this report, unless memory ran out
abbrev pub IsUnlessMemory : Report → Result Report ReportFault → Type 0
IsUnlessMemory r (Ok s) = s ≡ r
IsUnlessMemory r (Err (Bad p)) = ⊥
IsUnlessMemory r (Err Memory) = ⊤

-- where the answer is a fault at a place, P holds of the place
abbrev pub IfBad : Result Report ReportFault → (ℕ → Type 0) → Type 0
IfBad (Ok r) P = ⊤
IfBad (Err (Bad p)) P = P p
IfBad (Err Memory) P = ⊤
