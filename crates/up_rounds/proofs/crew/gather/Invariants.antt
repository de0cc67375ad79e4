use Rattle.std.proofs.Common.{◌≡◌, ◌++◌, map, IsSome}
use Rattle.std.specs.List.{All, flat_map}
use Rattle.std.specs.Vec.Iter.{into_iter_items}
use Rattle.up_rounds.specs.Crew.{answers_of}
use Rattle.up_rounds.proofs.crew.gather.Given as goal

abbrev pub invariant-each : goal.invariant-each
invariant-each g l = record {
  parts : l.fn.cells.items ≡ l.yielded ++ into_iter_items l.cell-iterator;
  finders : l.crew.finders.items ≡ l.fn.crew.finders.items ++ map (λ cell. cell.finder) l.yielded;
  all : All (λ cell. IsSome cell.answers) l.yielded;
  in_order : l.all.items ≡ flat_map answers_of l.yielded;
}
