use Rattle.std.proofs.Common.{◌≡◌, ◌++◌, take, flat_map}
use Rattle.fo_text.specs.Texts.{after_space}
use Rattle.fo_text.proofs.writing.push_table.Given as goal

abbrev pub invariant-each : goal.invariant-each
invariant-each l = l.into.items ≡ l.fn.into.items ++ l.fn.name ++ flat_map after_space (take l.value-index l.value-items)
