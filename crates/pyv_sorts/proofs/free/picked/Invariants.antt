use Rattle.std.proofs.Common.{◌≡◌, ◌<◌, ◌≤◌, ℕ, Bool, length, take, get_or}
use Rattle.std.specs.List.{filter}
use Rattle.pyv_meaning.specs.Tree.{Name}
use Rattle.pyv_sorts.specs.Closures.{Picks}
use Rattle.pyv_sorts.specs.Placing.{names_in}
use Rattle.pyv_sorts.proofs.free.picked.Given as goal

abbrev pub invariant-each : goal.invariant-each
invariant-each l = record {
  within : l.next ≤ length l.variables;
  low : (m : ℕ) → m < l.number-index → get_or l.numbers m 0 < l.next;
  found : (P : Name → Bool) → Picks P (names_in l.variables) l.numbers → names_in l.found.items ≡ filter P (take l.next (names_in l.variables));
}
