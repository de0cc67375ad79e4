use Rattle.std.proofs.Common.{◌≡◌, replicate, length}
use Rattle.fo_min.proofs.search.zeros.Given as goal

abbrev pub invariant-each : goal.invariant-each
invariant-each l = record {
  zeros : l.numbers ≡ replicate l._i 0;
  count : length l.numbers ≡ l._i;
}
