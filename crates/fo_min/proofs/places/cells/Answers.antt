use Rattle.std.proofs.Common.{true, false}
use Rattle.std.specs.List.{flat_map}
use Rattle.fo_core.specs.Cells.{cells_in, numbers_like}
use Rattle.fo_min.proofs.ListLemmas.{copy-added}
use Rattle.fo_min.proofs.places.cells.Goals as goal

pub each-preserved : goal.each-preserved
each-preserved c =
    copy-added (λ d. flat_map (cells_in c.args.sig.now c.args.sizes.now d) (numbers_like c.args.sig.now c.args.sizes.now true)) c.each.d
    (flat_map (cells_in c.args.sig.now c.args.sizes.now 0) (numbers_like c.args.sig.now c.args.sizes.now false))
    c.each.cells _ c.each.invariant c.in_ok-add_tables-2.ensures
