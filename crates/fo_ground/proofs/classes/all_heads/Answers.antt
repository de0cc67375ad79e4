use Rattle.std.proofs.Common.{sym, arith}
use Rattle.std.proofs.lemmas.List.FromFn.{map-range_with_len_more}
use Rattle.prop_core.specs.Formula.{value_of}
use Rattle.fo_ground.specs.Classes.{heads_of}
use Rattle.fo_ground.specs.Layout.{slot, same_by, fact_by}
use Rattle.fo_ground.proofs.classes.all_heads.Goals as goal

pub each-preserved : goal.each-preserved
each-preserved c = rw (c.in_ok-push.ensures.items, c.each.invariant, c.in_ok-heads.ensures) (sym (map-range_with_len_more (heads_of c.args.u.now.terms (slot c.args.u.now c.args.lay.now) (same_by c.args.u.now c.args.lay.now (value_of c.args.values.now)) (fact_by c.args.u.now c.args.lay.now (value_of c.args.values.now))) 0 c.each.sort c.each.sort (omega arith)))
