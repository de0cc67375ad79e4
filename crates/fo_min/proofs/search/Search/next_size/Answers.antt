use Rattle.std.proofs.Common.{◌<◌, ◌∙◌, arith}
use Rattle.fo_min.proofs.SearchLemmas.{met-size, no-size, over-size, some-size}
use Rattle.fo_min.proofs.search.Search.next_size.Goals as goal

pub returns-in-Met-clause-found : goal.returns-in-Met-clause-found
returns-in-Met-clause-found g c =
    met-size c.args.self.now (g.F.Finder.limit c.args.f.now) c.requires.search c.args.sizes.now c.requires.more c.requires.settled
    c.each.m c.each.invariant.none c.each.invariant.light (g.F.Finder.limit c.each.f) c.each.invariant.limit c.in_ok-own.field-0 c.in_ok-own.ensures.answer
    c.in-Met.own c.in-Met.is

pub returns-in-Over-clause-found : goal.returns-in-Over-clause-found
returns-in-Over-clause-found g c =
    over-size c.args.self.now (g.F.Finder.limit c.args.f.now) c.requires.search c.args.sizes.now c.requires.more c.requires.settled
    c.each.m c.each.invariant.none c.each.invariant.light (g.F.Finder.limit c.each.f) c.each.invariant.limit c.in_ok-own.field-0 c.in_ok-own.ensures.answer
    c.in-Over.excess c.in-Over.is

pub each-preserved : goal.each-preserved
each-preserved g c =
    let tried =
    no-size c.args.self.now (g.F.Finder.limit c.args.f.now) c.requires.search c.args.sizes.now c.requires.more c.requires.settled
    c.each.m c.each.invariant.none c.each.invariant.light (g.F.Finder.limit c.each.f) c.each.invariant.limit c.in_ok-own.field-0 c.in_ok-own.ensures.answer
    c.in-Nothing.is in
    record { limit = c.in_ok-own.ensures.limit ∙ c.each.invariant.limit; none = tried.0; light = tried.1 }

pub unreachable-requires : goal.unreachable-requires
unreachable-requires g c =
    some-size c.args.self.now (g.F.Finder.limit c.args.f.now) c.requires.search c.args.sizes.now c.requires.more c.args.world.now c.requires.world
    (λ j lt. let below : j < c.each.m = omega (arith, c.at-most.ensures 0, c.each-test.false) in c.each.invariant.none j below)
