use Rattle.std.proofs.Common.{ℕ, ◌≡◌, ◌<◌, [], length, get_or}
use Rattle.fo_terms.proofs.symbols.empty_lists.Given as goal

abbrev pub invariant-each : goal.invariant-each
invariant-each l = record {
  len : length l.lists.items ≡ l.counter;
  empty : (t : ℕ) → t < l.counter → get_or l.lists.items t [] ≡ [];
}
