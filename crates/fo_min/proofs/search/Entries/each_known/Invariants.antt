use Rattle.std.proofs.Common.{◌≡◌, length}
use Rattle.fo_min.specs.Known.{MayKnow}
use Rattle.fo_min.specs.Search.{AreValuesSettled}
use Rattle.fo_min.proofs.search.Entries.each_known.Given as goal

-- the values of the entries before this one are settled, and a world that is kept has them
abbrev pub invariant-each : goal.invariant-each
invariant-each g l = record {
  limit : g.F.Finder.limit l.f ≡ g.F.Finder.limit l.fn.f;
  each : length l.values ≡ l._k;
  settled : AreValuesSettled l.self (g.F.Finder.limit l.fn.f) l.values;
  known : MayKnow l.self l.values l.known;
}
