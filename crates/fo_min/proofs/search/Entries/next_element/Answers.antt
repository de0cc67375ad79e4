use Rattle.std.proofs.Common.{◌<◌, ◌∙◌, arith}
use Rattle.fo_min.proofs.SearchLemmas.{met-element, no-element, over-value, some-value, not_true}
use Rattle.fo_min.proofs.search.Entries.next_element.Goals as goal

pub returns-in-Met-clause-found : goal.returns-in-Met-clause-found
returns-in-Met-clause-found g c =
    met-element c.args.self.now (g.F.Finder.limit c.args.f.now) c.requires.entries c.args.values.now c.requires.more c.requires.settled
    c.each.v c.each.invariant.none c.each.invariant.light (g.F.Finder.limit c.each.f) c.each.invariant.limit c.in_ok-ask_value.field-0 c.in_ok-ask_value.ensures.answer
    c.requires.function c.in-Met.field-0 c.in-Met.is

pub returns-in-Over-clause-found : goal.returns-in-Over-clause-found
returns-in-Over-clause-found g c =
    over-value c.args.self.now (g.F.Finder.limit c.args.f.now) c.requires.entries c.args.values.now c.requires.more c.requires.settled
    c.each.v c.each.invariant.none c.each.invariant.light (g.F.Finder.limit c.each.f) c.each.invariant.limit c.in_ok-ask_value.field-0 c.in_ok-ask_value.ensures.answer
    (not_true _ _ c.requires.function) c.in-Over.excess c.in-Over.is

pub each-preserved : goal.each-preserved
each-preserved g c =
    let tried =
    no-element c.args.self.now (g.F.Finder.limit c.args.f.now) c.requires.entries c.args.values.now c.requires.more c.requires.settled
    c.each.v c.each.invariant.none c.each.invariant.light (g.F.Finder.limit c.each.f) c.each.invariant.limit c.in_ok-ask_value.field-0 c.in_ok-ask_value.ensures.answer
    c.in-Nothing.is in
    record { limit = c.in_ok-ask_value.ensures.limit ∙ c.each.invariant.limit; none = tried.0; light = tried.1 }

pub unreachable-requires : goal.unreachable-requires
unreachable-requires g c =
    some-value c.args.self.now (g.F.Finder.limit c.args.f.now) c.requires.entries c.args.values.now c.requires.more c.requires.settled
    (λ u lt. let below : u < c.each.v = omega (arith, c.requires.size, c.each-test.false) in c.each.invariant.none u below)
