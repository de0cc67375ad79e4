use Rattle.std.proofs.Common.{◌≡◌, ◌++◌, take, flat_map, codes}
use Rattle.fo_text.specs.Texts.{after_space}
use Rattle.up_report.proofs.writing.push_map.Given as goal

abbrev pub invariant-each : goal.invariant-each
invariant-each l = l.into.items ≡ l.fn.into.items ++ codes "map " ++ l.name ++ flat_map after_space (take l.image-index l.images)
