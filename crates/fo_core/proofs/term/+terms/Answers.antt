use Rattle.std.proofs.Common.{arith}
use Rattle.fo_core.proofs.Alike.{all_same}
use Rattle.fo_core.proofs.term.+terms.Goals as goal

pub same_terms-returns : goal.same_terms-returns
same_terms-returns t c = all_same c.args.a.now c.args.b.now c.each.i (omega (arith, c.if-a-b.false)) (omega (arith, c.each-test.false)) c.each.invariant
