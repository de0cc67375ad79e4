use Rattle.std.proofs.Common.{◌-◌, arith}
use Rattle.up_block.proofs.Questioned.{shown-by}
use Rattle.up_block.proofs.question.Question.is_shown.Goals as goal

pub returns-then-meets-clause-shown : goal.returns-then-meets-clause-shown
returns-then-meets-clause-shown c is =
    shown-by c.args.sys.now.sig c.args.self.now c.args.cube.now c.requires.question.found
    c.as_slice-worlds.result.now c.as_slice-worlds.ensures.value (c.each.i - 1) c.index-worlds-i.result
    (let some = c.each-test.true in let within = c.each.auto.i in omega (arith, some, within))
    c.index-worlds-i.is (c.meets.ensures.met.0 c.if-meets.true)
