use Rattle.pyv_sorts.proofs.Meant.{text_at}
use Rattle.pyv_sorts.proofs.model.texts_of.Goals as goal

pub text_of-requires : goal.text_of-requires
text_of-requires c = text_at c.args.words.now c.each.word-index _ c.each-test.true c.requires
