use Rattle.std.proofs.Common.{List, ℕ, sym, subst, ap, length, ◌∙◌, []}
use Rattle.fo_min.specs.Search.{sig_of, query_of, AreSettled}
use Rattle.fo_min.proofs.KnownLemmas.{trial-meets}
use Rattle.fo_min.proofs.SearchLemmas.{sizes-found}
use Rattle.fo_min.proofs.search.Search.least_world.Goals as goal

pub least_with-requires-clause-sorts : goal.least_with-requires-clause-sorts
least_with-requires-clause-sorts g c =
    let found = sizes-found c.args.self.now (g.F.Finder.limit c.args.f.now) c.in_ok-found.found c.in-Found.sizes c.in-Found.last c.in-Found.is c.in_ok-found.ensures.found in
    ap (λ (ns : List ℕ). length ns) c.as_slice.ensures ∙ found.1

pub least_with-requires-clause-settled : goal.least_with-requires-clause-settled
least_with-requires-clause-settled g c =
    let s = c.args.self.now in
    let limit = g.F.Finder.limit c.args.f.now in
    let found = sizes-found s limit c.in_ok-found.found c.in-Found.sizes c.in-Found.last c.in-Found.is c.in_ok-found.ensures.found in
    subst (λ (ns : List ℕ). AreSettled s (g.F.Finder.limit c.least_sizes.new.f) ns []) (sym c.as_slice.ensures)
    (subst (λ n. AreSettled s n c.in-Found.sizes []) (sym c.in_ok-found.ensures.limit) found.0)

pub least_with-requires-clause-world : goal.least_with-requires-clause-world
least_with-requires-clause-world g c =
    let s = c.args.self.now in
    let found = sizes-found s (g.F.Finder.limit c.args.f.now) c.in_ok-found.found c.in-Found.sizes c.in-Found.last c.in-Found.is c.in_ok-found.ensures.found in
    trial-meets (sig_of s) (query_of s) c.in-Found.sizes [] c.in-Found.last found.2
