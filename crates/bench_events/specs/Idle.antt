-- A machine between two turns.
use Rattle.std.specs.Prelude.{◌≡◌, []}
use Rattle.up_machine.specs.declared.job.Job.TheVariants as J
use Rattle.up_machine.specs.declared.job.Task.TheVariants as T
use Rattle.up_machine.specs.Due.{IsDue}
use Rattle.up_core.specs.View.{CoreView, now}

-- no job is out
abbrev pub IsIdle : CoreView → Type 0
IsIdle c = (now c).jobs ≡ []

-- a worker who asks is to look for violating states
abbrev pub LookIsDue : CoreView → Type 0
LookIsDue c = IsDue c.sys c.limits (now c) (T.Job J.Look)
