use Rattle.std.proofs.Common.{◌<◌, ◌∙◌, arith}
use Rattle.fo_min.proofs.KnownLemmas.{met-lesser, none-lesser, never-over}
use Rattle.fo_min.proofs.search.Entries.lesser.Goals as goal

pub returns-in-Met-clause-lesser : goal.returns-in-Met-clause-lesser
returns-in-Met-clause-lesser g c =
    met-lesser c.args.self.now c.requires.entries (g.F.Finder.limit c.args.f.now) c.args.values.now c.requires.more c.requires.settled c.requires.light
    c.each.v c.each.invariant.none (g.F.Finder.limit c.each.f) c.each.invariant.limit c.in_ok-world.field-0 c.in_ok-world.ensures.answer
    c.args.most c.in-Met.world c.each-test.true c.in-Met.is

pub each-preserved : goal.each-preserved
each-preserved g c = record {
  limit = c.in_ok-world.ensures.limit ∙ c.each.invariant.limit;
  none =
      none-lesser c.args.self.now c.requires.entries (g.F.Finder.limit c.args.f.now) c.args.values.now c.requires.more c.requires.settled c.requires.light
      c.each.v c.each.invariant.none (g.F.Finder.limit c.each.f) c.each.invariant.limit c.in_ok-world.field-0 c.in_ok-world.ensures.answer
      c.in-Nothing.is;
}

pub unreachable-requires : goal.unreachable-requires
unreachable-requires g c =
    never-over c.args.self.now c.requires.entries (g.F.Finder.limit c.args.f.now) c.args.values.now c.requires.more c.requires.settled c.requires.light
    c.each.v c.each.invariant.none (g.F.Finder.limit c.each.f) c.each.invariant.limit c.in_ok-world.field-0 c.in_ok-world.ensures.answer
    c.in-Over.field-0 c.in-Over.is

pub returns-clause-lesser : goal.returns-clause-lesser
returns-clause-lesser g c = λ u lt. let below : u < c.each.v = omega (arith, c.each-test.false) in c.each.invariant.none u below
