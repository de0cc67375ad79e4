use Rattle.std.proofs.Common.{◌≡◌, ℕ, ◌<◌}
use Rattle.fo_min.proofs.SearchLemmas.{HasNoValue, AreLightValues}
use Rattle.fo_min.proofs.search.Entries.next_element.Given as goal

-- no world has a value that was tried
abbrev pub invariant-each : goal.invariant-each
invariant-each g l = record {
  limit : g.F.Finder.limit l.f ≡ g.F.Finder.limit l.fn.f;
  none : (u : ℕ) → u < l.v → HasNoValue l.self l.values u;
  light : AreLightValues l.self (g.F.Finder.limit l.fn.f) l.values l.v;
}
