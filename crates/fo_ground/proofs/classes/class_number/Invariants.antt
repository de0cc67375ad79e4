use Rattle.std.proofs.Common.{◌≡◌, ℕ, ◌<◌, false, get_or}
use Rattle.prop_core.specs.Formula.{value_of}
use Rattle.fo_ground.specs.Layout.{same_by}
use Rattle.fo_ground.proofs.classes.class_number.Given as goal

-- the first terms before this one are of other classes
abbrev pub invariant-each : goal.invariant-each
invariant-each l = (k : ℕ) → k < l.i → same_by l.u l.lay (value_of l.values) (get_or l.heads k 0) l.p ≡ false
