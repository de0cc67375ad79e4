use Rattle.std.proofs.Common.{◌≡◌, ℕ, List, ◌*◌, ◌-◌, ◌^◌, ◌<◌, min, map, drop}
use Rattle.std.specs.Prelude.{slice_index}
use Rattle.fo_core.specs.Tables.{tuples}
use Rattle.fo_text.proofs.lines.entries.Given as goal

-- the number so far, times that of what is left
pub record Counts (sizes sorts : List ℕ) (entries i : ℕ) : Type 0 where
  pub fits : entries < 2 ^ 64
  pub same : min (entries * tuples (map (slice_index sizes) (drop i sorts))) (2 ^ 64 - 1) ≡ min (tuples (map (slice_index sizes) sorts)) (2 ^ 64 - 1)

abbrev pub invariant-each : goal.invariant-each
invariant-each l = Counts l.sizes l.sorts l.entries l.sort-index
