use Rattle.std.proofs.Common.{◌≡◌, ℕ, ◌<◌, length, get_or}
use Rattle.up_diagram.specs.declared.cube.Flat.{Flat}
use Rattle.up_diagram.specs.Cubes.{IsTrueFlat}
use Rattle.up_diagram.specs.Trying.{bound}
use Rattle.up_diagram.proofs.meeting.passes.Given as goal

-- the literals before this one are true
abbrev pub invariant-each : goal.invariant-each
invariant-each l = (k : ℕ) (d : Flat) → k < l.lit-index → bound (get_or l.lit-items k d) ≡ length l.picks → IsTrueFlat l.trial.sig.now l.trial.w.now l.trial.copy l.picks (get_or l.lit-items k d)
