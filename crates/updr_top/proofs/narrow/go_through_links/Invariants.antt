use Rattle.std.proofs.Common.{ℕ, ◌<◌, get_or}
use Rattle.up_claims.specs.declared.verdict.Link.{Link}
use Rattle.updr_top.specs.Narrow.{IsNarrowLink}
use Rattle.updr_top.proofs.narrow.go_through_links.Given as goal

-- it is so of those before this one
abbrev pub invariant-each : goal.invariant-each
invariant-each l = (k : ℕ) (d : Link) → k < l.link-index → IsNarrowLink (get_or l.links k d)
