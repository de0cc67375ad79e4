use Rattle.std.proofs.Common.{ℕ, ◌<◌, get_or}
use Rattle.fo_core.specs.declared.system.Step.{Step}
use Rattle.fo_core.specs.Sorted.{IsStepOf}
use Rattle.fo_core.proofs.system.are_steps_of.Given as goal

-- the transitions before this one are well-sorted
abbrev pub invariant-each : goal.invariant-each
invariant-each l = (k : ℕ) (d : Step) → k < l.step-index → IsStepOf l.sig (get_or l.steps k d)
