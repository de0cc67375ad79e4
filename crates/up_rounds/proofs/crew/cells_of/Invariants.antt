use Rattle.std.proofs.Common.{◌≡◌, ◌-◌, length, vec_len}
use Rattle.std.specs.List.{All}
use Rattle.up_rounds.proofs.crew.cells_of.Given as goal

abbrev pub invariant-each : goal.invariant-each
invariant-each g l = record {
  kept : All (λ f. g.M.One.Finder.limit f ≡ g.M.Finders.limit l.makers) l.crew.finders.items;
  limit : All (λ cell. g.M.One.Finder.limit cell.finder ≡ g.M.Finders.limit l.makers) l.cells.items;
  many : vec_len l.cells ≡ l._made;
  taken : length l.crew.finders.items ≡ length l.fn.crew.finders.items - l._made;
}
