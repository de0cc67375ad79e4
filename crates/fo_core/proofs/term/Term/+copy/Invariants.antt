use Rattle.std.proofs.Common.{◌≡◌, take}
use Rattle.fo_core.proofs.term.Term.+copy.Given as goal

-- the terms before this one are copied
abbrev pub invariant-each : goal.invariant-each
invariant-each l = l.copies ≡ take l.t-index l.t-items
