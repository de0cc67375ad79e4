use Rattle.fo_min.specs.Known.{element_of}
use Rattle.fo_min.proofs.NamingLemmas.{named-done}
use Rattle.fo_min.proofs.naming.named.Goals as goal

pub returns-then-i-xs : goal.returns-then-i-xs
returns-then-i-xs c = named-done (element_of c.args.names.now) c.args.sorts.now c.args.xs.now c.each.ys c.each.i c.if-i-xs.true c.each.invariant.named
