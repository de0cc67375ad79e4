use Rattle.std.proofs.Common.{arith}
use Rattle.up_core.proofs.OpenChosen.{seeds-split}
use Rattle.up_core.proofs.tasks.done_seeds.Goals as goal

pub overflow_sub-result : goal.overflow_sub-result
overflow_sub-result c = let both = seeds-split c.args.obligations.now.items in omega (arith, both, c.seeds.ensures.value, c.open_seeds.ensures)

pub returns-clause-value : goal.returns-clause-value
returns-clause-value c = let both = seeds-split c.args.obligations.now.items in omega (arith, both, c.seeds.ensures.value, c.open_seeds.ensures)
