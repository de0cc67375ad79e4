use Rattle.std.proofs.Common.{◌≡◌, ◌++◌, take}
use Rattle.up_report.specs.Texts.{links_text}
use Rattle.up_report.proofs.writing.push_links.Given as goal

abbrev pub invariant-each : goal.invariant-each
invariant-each l = l.into.items ≡ l.fn.into.items ++ links_text l.sig l.names (take l.link-index l.links)
