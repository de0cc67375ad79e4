use Rattle.std.proofs.Common.{below_more}
use Rattle.std.specs.Prelude.{slice_index}
use Rattle.fo_min.specs.Known.{HasEntry}
use Rattle.fo_min.proofs.search.Entries.has_entries.Goals as goal

pub each-preserved : goal.each-preserved
each-preserved c =
    below_more (λ j. HasEntry c.args.self.now c.args.world.now c.args.names.now j (slice_index c.args.values.now j)) c.each.k c.each.invariant
    (c.in_ok-has.ensures c.if-not-has.false)
