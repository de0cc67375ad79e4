use Rattle.std.proofs.Common.{◌≡◌, ℕ, ◌<◌}
use Rattle.fo_min.specs.Known.{HasNoNext}
use Rattle.fo_min.proofs.search.Entries.lesser.Given as goal

-- no world has a value that was tried
abbrev pub invariant-each : goal.invariant-each
invariant-each g l = record {
  limit : g.F.Finder.limit l.f ≡ g.F.Finder.limit l.fn.f;
  none : (u : ℕ) → u < l.v → HasNoNext l.self l.values u;
}
