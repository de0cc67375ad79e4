use Rattle.std.proofs.Common.{◌≡◌, ◌<◌, ◌^◌, take}
use Rattle.std.specs.List.{sum}
use Rattle.up_diagram.proofs.describing.has_few_elements.Given as goal

-- the elements of the sorts before this one are counted
abbrev pub invariant-each : goal.invariant-each
invariant-each l = record {
  counted : l.count ≡ sum (take l.size-index l.size-items);
  few : l.count < 2 ^ 32;
}
