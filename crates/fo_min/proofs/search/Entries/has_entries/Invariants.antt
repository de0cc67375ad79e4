use Rattle.std.proofs.Common.{ℕ, ◌<◌}
use Rattle.std.specs.Prelude.{slice_index}
use Rattle.fo_min.specs.Known.{HasEntry}
use Rattle.fo_min.proofs.search.Entries.has_entries.Given as goal

abbrev pub invariant-each : goal.invariant-each
invariant-each l = (j : ℕ) → j < l.k → HasEntry l.self l.world l.names j (slice_index l.values j)
