use Rattle.std.proofs.Common.{◌≡◌, ℕ, ◌<◌, length, take}
use Rattle.std.specs.Prelude.{slice_index}
use Rattle.std.specs.List.{sum}
use Rattle.up_diagram.proofs.describing.first_variables.Given as goal

-- the sorts before this one have their first variables
abbrev pub invariant-each : goal.invariant-each
invariant-each l = record {
  count : length l.firsts ≡ l.size-index;
  each : (s : ℕ) → s < l.size-index → slice_index l.firsts s ≡ sum (take s l.sizes);
  next : l.next ≡ sum (take l.size-index l.sizes);
}
