use Rattle.std.proofs.Common.{◌≡◌, ◌++◌, take}
use Rattle.up_report.specs.Texts.{leaves_text}
use Rattle.up_report.proofs.writing.push_leaves.Given as goal

abbrev pub invariant-each : goal.invariant-each
invariant-each l = l.into.items ≡ l.fn.into.items ++ leaves_text l.sig l.names (take l.leave-index l.leaves)
