use Rattle.std.proofs.Common.{◌≡◌, length, []}
use Rattle.fo_min.specs.Search.{HasSizes, AreSettled}
use Rattle.fo_min.proofs.search.Search.least_sizes.Given as goal

-- the sizes of the sorts before this one are settled, and the last world has them
abbrev pub invariant-each : goal.invariant-each
invariant-each g l = record {
  limit : g.F.Finder.limit l.f ≡ g.F.Finder.limit l.fn.f;
  each : length l.sizes ≡ l._s;
  settled : AreSettled l.self (g.F.Finder.limit l.fn.f) l.sizes [];
  world : HasSizes l.self l.sizes l.last;
}
