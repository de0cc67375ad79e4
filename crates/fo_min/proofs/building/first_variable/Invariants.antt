use Rattle.std.proofs.Common.{◌≡◌, ◌≤◌, sum, take}
use Rattle.fo_min.proofs.building.first_variable.Given as goal

-- the elements of the sorts before this one, which isn't after the one that is asked for
abbrev pub invariant-each : goal.invariant-each
invariant-each l = record {
  total : l.total ≡ sum (take l.s l.sizes);
  within : l.s ≤ l.sort;
}
