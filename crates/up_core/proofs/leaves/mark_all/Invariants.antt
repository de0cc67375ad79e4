use Rattle.std.proofs.Common.{◌≡◌, ℕ, ◌+◌, ◌≤◌, Option, Some, length, slice_get, drop}
use Rattle.std.specs.Option.{option_or}
use Rattle.up_core.specs.declared.leaves.Mark.{Mark}
use Rattle.up_core.specs.Telling.{mark_of}
use Rattle.up_core.proofs.leaves.mark_all.Given as goal

-- where no entry before this one has a level, the first one from here on has its mark
abbrev pub invariant-each : goal.invariant-each
invariant-each l = record {
  count : length l.marks ≡ length l.fn.marks;
  place : l.place ≤ l.k;
  marked : (k : ℕ) (mark : Option Mark) → slice_get l.marks k ≡ Some mark → option_or mark (mark_of (k + 1) l.place (drop l.k l.clauses)) ≡ mark_of (k + 1) 0 l.clauses;
}
