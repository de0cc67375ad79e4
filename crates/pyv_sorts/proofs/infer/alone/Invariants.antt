use Rattle.std.proofs.Common.{◌≡◌, ◌<◌, ℕ, length, slice_index_or}
use Rattle.pyv_sorts.proofs.infer.alone.Given as goal

abbrev pub invariant-each : goal.invariant-each
invariant-each l = record {
  long : length l.parents.items ≡ l.i;
  own : (k : ℕ) → k < l.i → slice_index_or l.parents.items k 0 ≡ k;
}
