use Rattle.std.proofs.Common.{◌≡◌, drop}
use Rattle.pyv_meaning.specs.Closing.{firsts}
use Rattle.pyv_meaning.specs.Declaring.{words}
use Rattle.pyv_sorts.specs.Placing.{names_in}
use Rattle.pyv_sorts.proofs.free.note_each.Given as goal

abbrev pub invariant-each : goal.invariant-each
invariant-each l = record {
  firsts : firsts (names_in l.firsts.items) (names_in (drop l.name-index l.names)) ≡ firsts (names_in l.fn.firsts.items) (names_in l.names);
  words : words (names_in l.firsts.items) ≡ l.words;
}
