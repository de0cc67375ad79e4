use Rattle.std.proofs.Common.{sym, subst}
use Rattle.up_diagram.specs.Cubes.{IsCube}
use Rattle.up_block.proofs.DiagramSorted.{diagram-sorted}
use Rattle.up_block.proofs.blocking.block.Goals as goal

pub block_cube-requires-clause-cube : goal.block_cube-requires-clause-cube
block_cube-requires-clause-cube g c =
    subst (IsCube c.args.sys.now.sig) (sym c.in_ok-cube.ensures) (diagram-sorted c.args.sys.now.sig c.args.s.now c.args.copy c.requires.state)

pub block_cube-requires-2-clause-cube : goal.block_cube-requires-2-clause-cube
block_cube-requires-2-clause-cube g c =
    subst (IsCube c.args.sys.now.sig) (sym c.in_ok-cube.ensures) (diagram-sorted c.args.sys.now.sig c.args.s.now c.args.copy c.requires.state)
