use Rattle.std.proofs.Common.{rules}
use Rattle.fo_text.proofs.Choices.{marked_is}
use Rattle.fo_text.proofs.choosing.marked.Goals as goal

pub returns-in_err-rest : goal.returns-in_err-rest
returns-in_err-rest c = rw (marked_is c.args.mark.now c.args.word.now c.args.text.now c.args.bytes.now) (search rules)

pub returns-in_err-rest-2 : goal.returns-in_err-rest-2
returns-in_err-rest-2 c = rw (marked_is c.args.mark.now c.args.word.now c.args.text.now c.args.bytes.now) (search rules)

pub returns : goal.returns
returns c = rw (marked_is c.args.mark.now c.args.word.now c.args.text.now c.args.bytes.now) (search rules)
