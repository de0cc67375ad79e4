use Rattle.std.proofs.Common.{drop}
use Rattle.std.proofs.Math.ListN.{drop_of_length-le}
use Rattle.fo_core.specs.Tables.{is_like}
use Rattle.fo_core.proofs.TableLemmas.{all_left}
use Rattle.fo_core.proofs.world.are_tables.Goals as goal

pub returns : goal.returns
returns c =
    all_left c.args.sizes.now c.args.symbols.now (drop c.each.symbol-index c.args.symbols.now) c.args.tables.now (is_like c.args.mutable) c.each.at c.each.invariant.within (drop_of_length-le c.args.symbols.now c.each-test.false) c.each.invariant.left
