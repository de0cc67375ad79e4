use Rattle.std.proofs.Common.{arith}
use Rattle.fo_core.proofs.Alike.{all_same}
use Rattle.fo_core.proofs.world.same_tables.Goals as goal

pub returns : goal.returns
returns c = all_same c.args.a.now c.args.b.now c.each.i (omega (arith, c.if-a-b.false)) (omega (arith, c.each-test.false)) c.each.invariant
