use Rattle.std.proofs.Common.{◌≡◌, length}
use Rattle.fo_core.specs.declared.world.World.{World}
use Rattle.fo_core.specs.Tables.{Fits}
use Rattle.fo_core.specs.Least.{world_values}
use Rattle.fo_least.proofs.Built.{IsWorldOf}
use Rattle.fo_min.proofs.WorldLemmas.{cut-world, if-ok}
use Rattle.fo_min.proofs.world.world_from.Goals as goal

pub returns-clause-fits : goal.returns-clause-fits
returns-clause-fits c =
    if-ok (IsWorldOf c.args.sig.now c.args.copies c.args.sizes.now c.args.values.now) (Fits c.args.sig.now) c.cut_world.result (λ w is. is.fits)
    (cut-world c.args.sig.now c.args.copies c.args.sizes.now c.args.values.now c.cut_world.result c.cut_world.ensures.sizes (rw c.as_slice.ensures at c.cut_world.ensures.fixed) (rw c.as_slice.ensures at c.cut_world.ensures.copies)
    c.requires.sorts c.requires.positive c.requires.some c.requires.all c.requires.in_range)

pub returns-clause-copies : goal.returns-clause-copies
returns-clause-copies c =
    if-ok (IsWorldOf c.args.sig.now c.args.copies c.args.sizes.now c.args.values.now) (λ (w : World). length w.copies ≡ c.args.copies) c.cut_world.result (λ w is. is.copies_are)
    (cut-world c.args.sig.now c.args.copies c.args.sizes.now c.args.values.now c.cut_world.result c.cut_world.ensures.sizes (rw c.as_slice.ensures at c.cut_world.ensures.fixed) (rw c.as_slice.ensures at c.cut_world.ensures.copies)
    c.requires.sorts c.requires.positive c.requires.some c.requires.all c.requires.in_range)

pub returns-clause-values : goal.returns-clause-values
returns-clause-values c =
    if-ok (IsWorldOf c.args.sig.now c.args.copies c.args.sizes.now c.args.values.now) (λ (w : World). world_values w ≡ c.args.values.now) c.cut_world.result (λ w is. is.values_are)
    (cut-world c.args.sig.now c.args.copies c.args.sizes.now c.args.values.now c.cut_world.result c.cut_world.ensures.sizes (rw c.as_slice.ensures at c.cut_world.ensures.fixed) (rw c.as_slice.ensures at c.cut_world.ensures.copies)
    c.requires.sorts c.requires.positive c.requires.some c.requires.all c.requires.in_range)
