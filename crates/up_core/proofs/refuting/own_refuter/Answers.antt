use Rattle.std.proofs.Common.{refl, sym, ap, ◌∙◌}
use Rattle.up_core.specs.Refuting.{IsOwn, own_in}
use Rattle.up_core.proofs.refuting.own_refuter.Goals as goal

pub first_refuter-requires : goal.first_refuter-requires
first_refuter-requires c k e there =
    let s = c.args.state.now in
    let found = c.in-Some.ensures ∙ ap (λ os. own_in c.args.worker os c.as_slice.result.now) c.entries.ensures ∙ ap (own_in c.args.worker s.obligations.items) c.as_slice.ensures.value in
    let own : IsOwn c.args.history.now c.args.worker s c.in-Some-world_at.world.now c.in-Some.entry.level = record {
      entry = c.in-Some.entry;
      there = sym found;
      world_is = sym c.in-Some-world_at.ensures;
      level_is = refl;
    } in
    c.requires c.in-Some-world_at.world.now c.in-Some.entry.level own k e there
