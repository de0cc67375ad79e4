use Rattle.std.proofs.Common.{◌≡◌, ◌++◌, drop}
use Rattle.fo_text.specs.Texts.{copies_text}
use Rattle.fo_text.proofs.writing.push_copies.Given as goal

abbrev pub invariant-each : goal.invariant-each
invariant-each l = l.into.items ++ copies_text l.names l.k (drop l.k l.copies) ≡ l.fn.into.items ++ copies_text l.names 0 l.copies
