use Rattle.bench_events.proofs.OneTurn.{holds_look, idle_again}
use Rattle.bench_events.proofs.turns.look.Goals as goal

pub brief-requires : goal.brief-requires
brief-requires c = holds_look c.args.core.now c.take.new.self c.requires.idle c.take.ensures.made

pub returns : goal.returns
returns c = idle_again c.args.core.now c.take.new.self c.give_back.new.self c.requires.idle c.take.ensures.made c.in-Ok.ensures.made
