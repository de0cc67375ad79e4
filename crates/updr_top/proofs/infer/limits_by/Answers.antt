use Rattle.std.proofs.Common.{◌∙◌}
use Rattle.updr_top.proofs.SearchEnds.{read_range}
use Rattle.updr_top.proofs.infer.limits_by.Goals as goal

pub returns-clause-in_range : goal.returns-clause-in_range
returns-clause-in_range c =
    read_range c.args.job.now.numbers.items c.requires.given c.requires.ranges _ _ _ _ _ _ _ _ _ _ c.index.ensures c.index-2.ensures c.index-3.ensures c.index-4.ensures (c.from.ensures ∙ c.index-5.ensures)
