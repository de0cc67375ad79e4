use Rattle.std.proofs.Common.{◌≡◌, ℕ, ◌+◌, ◌<◌}
use Rattle.fo_min.proofs.SearchLemmas.{HasNoSize, AreLightSizes}
use Rattle.fo_min.proofs.search.Search.next_size.Given as goal

-- no world has a size that was tried
abbrev pub invariant-each : goal.invariant-each
invariant-each g l = record {
  limit : g.F.Finder.limit l.f ≡ g.F.Finder.limit l.fn.f;
  none : (j : ℕ) → j < l.m → HasNoSize l.self l.sizes (j + 1);
  light : AreLightSizes l.self (g.F.Finder.limit l.fn.f) l.sizes l.m;
}
