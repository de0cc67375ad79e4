-- A worker whose job is solved.
use Rattle.std.specs.Prelude.{◌≡◌, ℕ, Some}
use Rattle.fo_core.specs.declared.system.System.{System}
use Rattle.up_machine.specs.declared.brief.Brief.{Brief}
use Rattle.up_machine.specs.declared.limits.Limits.{Limits}
use Rattle.up_machine.specs.Machine.{Given, Machine, held_by}
use Rattle.up_jobs.specs.declared.solved.Solved.{Solved}
use Rattle.up_jobs.specs.Solving.{IsBriefOf, IsSolved}

module _ (sys : System) (limits : Limits) (m : Machine) (w : ℕ) where
  -- the worker holds what it was given, and the search of its brief, by a finder with the machine's
  -- limit, answers this
  pub record HasAnswer (given : Given) (brief : Brief) (solved : Solved) : Type 0 where
    pub held : held_by m.jobs w ≡ Some given
    pub brief_is : IsBriefOf sys.sig given brief
    pub answer : IsSolved sys limits.weight brief solved
