use Rattle.up_block.proofs.passing.Pass.has_none.Goals as goal

pub ask-requires-clause-search : goal.ask-requires-clause-search
ask-requires-clause-search g c = c.requires.root.search c.args.cube.now c.requires.sorted

pub ask-requires-2-clause-search : goal.ask-requires-2-clause-search
ask-requires-2-clause-search g c = c.requires.before.search c.args.cube.now c.requires.sorted
