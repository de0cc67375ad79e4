use Rattle.std.proofs.Common.{rules}
use mathlib.Core.Option.{none}
use Rattle.atomic_table.specs.Table.{step}
use Rattle.turnstile.proofs.Keeps.{joins, learns, learns_both}
use Rattle.turnstile.proofs.steps.merge.Goals as goal

pub join_seat-requires : goal.join_seat-requires
join_seat-requires g c = (search rules, search rules, search rules, search rules, joins _ _ _ _ _ _ _ _ c.requires.outside.0.0 c.requires.outside.1.0 c.requires.live c.requires.other_live c.requires.touch)

pub load-requires : goal.load-requires
load-requires g c = (search rules, search rules, learns _ _ _ _ _ _ _)

pub returns-clause-goes_on : goal.returns-clause-goes_on
returns-clause-goes_on g c = let K = g.S.KeptValue in learns_both K.base K.history K.number 0 (step c.args.steps.now.table_id.slots 0 0 0 none) _ _ c.load.result c.args.place.now.me.0 c.args.other.me.0 _ c.join_seat.ensures.2 c.load.ensures.2
