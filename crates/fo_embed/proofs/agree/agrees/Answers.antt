use Rattle.fo_core.specs.Tables.{no_symbol}
use Rattle.fo_core.proofs.Answered.{answered}
use Rattle.fo_embed.proofs.Comparing.{walk-symbol, block-here, block-there, agrees-as}
use Rattle.fo_embed.proofs.agree.agrees.Goals as goal

pub agree_from-requires-clause-walk : goal.agree_from-requires-clause-walk
agree_from-requires-clause-walk c =
    rw (c.as_slice.ensures, c.at-symbol.ensures no_symbol) (walk-symbol c.args.states.now.sig.now c.args.states.now.from.now c.args.states.now.from_copy c.args.states.now.to.now c.args.states.now.to_copy c.requires.compared c.args.symbol c.requires.within c.args.maps.now c.requires.part)

pub agree_from-requires-clause-here : goal.agree_from-requires-clause-here
agree_from-requires-clause-here c =
    rw (c.as_slice.ensures, c.at-symbol.ensures no_symbol, c.table-here.ensures) (block-here c.args.states.now.sig.now c.args.states.now.from.now c.args.states.now.from_copy c.args.states.now.to.now c.args.states.now.to_copy c.requires.compared c.args.symbol c.requires.within)

pub agree_from-requires-clause-there : goal.agree_from-requires-clause-there
agree_from-requires-clause-there c =
    rw (c.as_slice.ensures, c.at-symbol.ensures no_symbol, c.table-there.ensures) (block-there c.args.states.now.sig.now c.args.states.now.from.now c.args.states.now.from_copy c.args.states.now.to.now c.args.states.now.to_copy c.requires.compared c.args.symbol c.requires.within)

pub returns : goal.returns
returns c =
    let moved = agrees-as c.args.states.now.sig.now c.args.states.now.from.now c.args.states.now.from_copy c.args.states.now.to.now c.args.states.now.to_copy c.requires.compared c.args.maps.now c.args.symbol in
    answered moved.0 moved.1 (rw (c.as_slice.ensures, c.at-symbol.ensures no_symbol, c.table-here.ensures, c.table-there.ensures) at c.agree_from.ensures)
