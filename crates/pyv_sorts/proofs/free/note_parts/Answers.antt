use Rattle.std.proofs.Common.{◌≡◌, ◌∙◌, ap, sym}
use Rattle.pyv_meaning.specs.Closing.{firsts}
use Rattle.pyv_sorts.specs.Placing.{names_in}
use Rattle.pyv_sorts.proofs.Numbering.{firsts_more}
use Rattle.pyv_sorts.proofs.free.note_parts.Goals as goal

pub each-preserved : goal.each-preserved
each-preserved c = record {
  firsts = firsts_more (names_in c.each.firsts.items) (names_in c.note_each.new.firsts.items) c.args.parts.now c.each.part-index c.part-item.result (names_in c.args.firsts.now.items) c.each-test.true c.part-item.is (c.in_ok-note_each.ensures.firsts ∙ ap (λ ps. firsts (names_in c.each.firsts.items) (names_in ps)) c.as_slice.ensures.value) c.each.invariant.firsts;
  words = c.in_ok-note_each.ensures.words;
}
