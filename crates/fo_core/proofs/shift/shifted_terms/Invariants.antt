use Rattle.std.proofs.Common.{◌≡◌, map, take}
use Rattle.fo_core.specs.Shift.{shift_term}
use Rattle.fo_core.proofs.shift.shifted_terms.Given as goal

-- the terms before this one are moved
abbrev pub invariant-each : goal.invariant-each
invariant-each l = l.moved_terms ≡ map (shift_term l.sig l.by) (take l.t-index l.terms)
