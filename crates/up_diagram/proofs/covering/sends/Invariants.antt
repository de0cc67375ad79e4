use Rattle.std.proofs.Common.{◌≡◌, ℕ, ◌<◌, length, get_or}
use Rattle.up_diagram.specs.declared.cube.Flat.{Flat}
use Rattle.up_diagram.specs.Trying.{bound, BecomesOne}
use Rattle.up_diagram.proofs.covering.sends.Given as goal

-- the literals before this one become some of the others
abbrev pub invariant-each : goal.invariant-each
invariant-each l = (k : ℕ) (d : Flat) → k < l.lit-index → bound (get_or l.lit-items k d) ≡ length l.images → BecomesOne l.c.lits l.images (get_or l.lit-items k d)
