use Rattle.std.proofs.Common.{◌≡◌, ◌-◌, ◌≤◌, take, length}
use Rattle.pyv_sorts.proofs.scope.Scope.leave.Given as goal

abbrev pub invariant-each : goal.invariant-each
invariant-each l = record {
  left : l.self ≡ take (length l.fn.self - (l.counter - l.level)) l.fn.self;
  start : l.len ≤ l.level → l.counter ≡ l.level;
}
