use Rattle.std.proofs.Common.{arith}
use Rattle.std.specs.List.{AllZip}
use Rattle.fo_core.proofs.Answered.{always}
use Rattle.fo_core.proofs.Zips.{AllZip-each}
use Rattle.up_diagram.specs.Cubes.{HasSort}
use Rattle.up_diagram.proofs.cube.have_sorts.Goals as goal

pub returns : goal.returns
returns c =
    always (AllZip (HasSort c.args.sorts.now) c.args.variables.now c.args.wanted.now)
    (AllZip-each (HasSort c.args.sorts.now) c.args.variables.now c.args.wanted.now 0 0 (omega arith) (λ i lt. c.each.invariant i (omega (arith, lt, c.each-test.false))))
