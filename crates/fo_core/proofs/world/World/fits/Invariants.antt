use Rattle.std.proofs.Common.{ℕ, ◌<◌, List, true, get_or}
use Rattle.std.specs.List.{filter}
use Rattle.fo_core.specs.declared.world.Table.{Table}
use Rattle.fo_core.specs.Tables.{is_like, AreTables}
use Rattle.fo_core.proofs.world.World.fits.Given as goal

-- the copies before this one have their tables
abbrev pub invariant-each : goal.invariant-each
invariant-each l = (k : ℕ) (d : List Table) → k < l.copy-index → AreTables l.self.sizes (filter (is_like true) l.sig.symbols) (get_or l.copy-items k d)
