use Rattle.std.proofs.Common.{sym, subst, ◌∙◌}
use Rattle.fo_min.specs.Cut.{AreInRange}
use Rattle.fo_min.specs.Search.{sig_of, query_of, AreValuesFound}
use Rattle.fo_min.proofs.SearchLemmas.{values-in-range, world-found}
use Rattle.fo_min.proofs.search.Search.least_with.Goals as goal

pub world_from-requires-clause-in_range : goal.world_from-requires-clause-in_range
world_from-requires-clause-in_range g c =
    let s = c.args.self.now in
    let can = c.requires.search in
    let limit = g.F.Finder.limit c.args.f.now in
    let values = subst (AreValuesFound s limit c.args.sizes.now) c.in-Found.is c.in_ok-values.ensures.found in
    subst (AreInRange (sig_of s) (query_of s).copies c.args.sizes.now) (sym c.as_slice.ensures)
    (values-in-range (sig_of s) (query_of s) limit can.sig can.query c.args.sizes.now c.in-Found.values c.requires.sorts values.1 values.0)

pub returns-clause-found : goal.returns-clause-found
returns-clause-found g c =
    let s = c.args.self.now in
    let can = c.requires.search in
    let limit = g.F.Finder.limit c.args.f.now in
    let values = subst (AreValuesFound s limit c.args.sizes.now) c.in-Found.is c.in_ok-values.ensures.found in
    world-found (sig_of s) (query_of s) limit can.sig can.query c.args.sizes.now c.in-Found.values c.requires.sorts values.1 values.0
    c.in_ok-least.least c.in_ok-least.ensures.fits c.in_ok-least.ensures.copies
    c.in_ok-least.ensures.sizes (c.in_ok-least.ensures.values ∙ c.as_slice.ensures)
