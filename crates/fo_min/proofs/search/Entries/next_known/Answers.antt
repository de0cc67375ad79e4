use Rattle.std.proofs.Common.{List, ℕ, length, ap, subst, ◌∙◌, arith}
use Rattle.std.proofs.lemmas.List.{length_push}
use Rattle.fo_min.specs.Known.{MayKnow}
use Rattle.fo_min.specs.Search.{sig_of, query_of}
use Rattle.fo_min.proofs.KnownLemmas.{some-range, last-below, lesser-met, lesser-none, trial-meets, met-next, last-next}
use Rattle.fo_min.proofs.search.Entries.next_known.Goals as goal

pub tried-requires-clause-some : goal.tried-requires-clause-some
tried-requires-clause-some g c =
    some-range c.args.self.now c.requires.entries (g.F.Finder.limit c.args.f.now) c.args.values.now c.requires.more c.requires.settled

pub lesser-requires-clause-in_range : goal.lesser-requires-clause-in_range
lesser-requires-clause-in_range g c =
    last-below c.args.self.now c.args.values.now c.in_ok-tried.tried.most c.in_ok-tried.tried.known c.in_ok-tried.ensures

pub keep-requires-clause-meets : goal.keep-requires-clause-meets
keep-requires-clause-meets g c =
    let e = c.args.self.now in
    let met = lesser-met e c.args.values.now c.in_ok-tried.tried.most c.in-Met.value c.in-Met.world c.in_ok-found.found c.in-Met.is c.in_ok-found.ensures.lesser in
    trial-meets (sig_of e.search) (query_of e.search) e.sizes.now _ c.in-Met.world met.2

pub keep-requires-clause-enough : goal.keep-requires-clause-enough
keep-requires-clause-enough g c =
    let one_more = ap (λ (ns : List ℕ). length ns) (c.as_slice.ensures ∙ c.in_ok-more-in-Met.ensures) in
    omega (arith, one_more, length_push c.args.values.now c.in-Met.value, c.requires.more)

pub returns-in_ok-known-in-Met-clause-found : goal.returns-in_ok-known-in-Met-clause-found
returns-in_ok-known-in-Met-clause-found g c =
    let e = c.args.self.now in
    let met = lesser-met e c.args.values.now c.in_ok-tried.tried.most c.in-Met.value c.in-Met.world c.in_ok-found.found c.in-Met.is c.in_ok-found.ensures.lesser in
    met-next e c.requires.entries (g.F.Finder.limit c.args.f.now) c.args.values.now c.requires.more c.requires.settled c.requires.light
    c.in_ok-tried.tried.most c.in-Met.value c.in-Met.world c.in_ok-known-in-Met.known
    (last-below e c.args.values.now c.in_ok-tried.tried.most c.in_ok-tried.tried.known c.in_ok-tried.ensures) met.0 met.1 met.2
    (subst (λ (vs : List ℕ). MayKnow e vs c.in_ok-known-in-Met.known) (c.as_slice.ensures ∙ c.in_ok-more-in-Met.ensures) c.in_ok-known-in-Met.ensures)

pub returns-in-Nothing-clause-found : goal.returns-in-Nothing-clause-found
returns-in-Nothing-clause-found g c =
    let e = c.args.self.now in
    last-next e c.requires.entries (g.F.Finder.limit c.args.f.now) c.args.values.now c.requires.more c.requires.settled c.requires.light
    c.in_ok-tried.tried.most c.in_ok-tried.tried.known c.in_ok-tried.ensures
    (lesser-none e c.args.values.now c.in_ok-tried.tried.most c.in_ok-found.found c.in-Nothing.is c.in_ok-found.ensures.lesser)
