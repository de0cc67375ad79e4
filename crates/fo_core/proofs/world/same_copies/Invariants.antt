use Rattle.std.proofs.Common.{◌≡◌, ℕ, ◌<◌, List, get_or}
use Rattle.fo_core.specs.declared.world.Table.{Table}
use Rattle.fo_core.proofs.world.same_copies.Given as goal

-- all before this one are the same
abbrev pub invariant-each : goal.invariant-each
invariant-each l = (k : ℕ) (d : List Table) → k < l.i → get_or l.a k d ≡ get_or l.b k d
