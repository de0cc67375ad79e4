-- What files keep of their reads.
use Rattle.std.specs.Prelude.{ℕ, List, Result, Ok, Err, Option, Some, None}
use Rattle.pv_base.specs.Counts.{raised}
use Rattle.pv_base.specs.declared.files.ReadFault.{ReadFault}
use Rattle.pv_base.specs.declared.files.ReadFault.TheVariants.{Failed, TooLong, Memory}

-- a name whose read was refused, with the fault that was answered: failed or too long
pub record Refusal : Type 0 where
  pub name : List ℕ
  pub fault : ReadFault

-- what a read of this name with this answer leaves as refused
abbrev pub refused_by : List ℕ → Result (Unit {0}) ReadFault → Option Refusal
refused_by name (Ok _) = None
refused_by name (Err Failed) = Some (record { name = name; fault = Failed })
refused_by name (Err TooLong) = Some (record { name = name; fault = TooLong })
refused_by name (Err Memory) = None

-- the count of faults after a read with this answer
abbrev pub faults_after : ℕ → Result (Unit {0}) ReadFault → ℕ
faults_after before (Ok _) = before
faults_after before (Err Failed) = raised before
faults_after before (Err TooLong) = before
faults_after before (Err Memory) = before

-- how many reads failed, and what the last read was refused for
pub record Noted : Type 0 where
  pub faults : ℕ
  pub refused : Option Refusal
