use Rattle.std.proofs.Common.{List, ℕ, refl, sym, subst, ap, length, []}
use Rattle.fo_min.specs.Search.{sig_of, query_of, HasSizes, AreSettled}
use Rattle.fo_min.proofs.SearchLemmas.{settled-start, world-start}
use Rattle.fo_min.proofs.search.Search.least_sizes.Goals as goal

pub each-init : goal.each-init
each-init g c =
    let s = c.args.self.now in
    let limit = g.F.Finder.limit c.args.f.now in
    let can = c.requires.search in
    let none_yet = sym c.new-sizes.ensures in
    let start = settled-start (sig_of s) (query_of s) limit can.sig can.query (c.args.world, c.requires.world) c.requires.light in
    let has = world-start (sig_of s) (query_of s) limit can.sig can.query c.args.world c.requires.world in
    record {
      limit = refl;
      each = ap length c.new-sizes.ensures;
      settled = subst (λ (ns : List ℕ). AreSettled s limit ns []) none_yet start;
      world = subst (λ (ns : List ℕ). HasSizes s ns c.args.world) none_yet has;
    }
