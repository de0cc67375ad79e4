use Rattle.std.proofs.Common.{◌≤◌, List, ◌++◌}
use Rattle.up_claims.specs.declared.verdict.Link.{Link}
use Rattle.up_core.specs.Telling.{AreLinksBy, CanLinkAt}
use Rattle.up_core.proofs.links.links_from.Given as goal

-- the next obligation may be linked, its level is at least as high as there were links, and its links
-- go on from those so far
abbrev pub invariant-each : goal.invariant-each
invariant-each l = record {
  next : CanLinkAt l.sig l.history l.obligations l.top l.origin l.place;
  high : l._level ≤ next.entry.level;
  rest : (more : List Link) → AreLinksBy l.sig l.history l.obligations l.origin l.place more → AreLinksBy l.sig l.history l.obligations l.start l.first (l.links ++ more);
}
