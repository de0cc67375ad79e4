use Rattle.std.proofs.Common.{◌≡◌, drop}
use Rattle.pyv_meaning.specs.Closing.{firsts}
use Rattle.pyv_meaning.specs.Declaring.{words}
use Rattle.pyv_sorts.specs.Closures.{joined, part_names}
use Rattle.pyv_sorts.specs.Placing.{names_in}
use Rattle.pyv_sorts.proofs.free.note_parts.Given as goal

abbrev pub invariant-each : goal.invariant-each
invariant-each l = record {
  firsts : firsts (names_in l.firsts.items) (joined (part_names (drop l.part-index l.parts))) ≡ firsts (names_in l.fn.firsts.items) (joined (part_names l.parts));
  words : words (names_in l.firsts.items) ≡ l.words;
}
