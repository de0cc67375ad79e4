use Rattle.fo_min.proofs.SearchLemmas.{met-truth, no-truth, over-truth}
use Rattle.fo_min.proofs.search.Entries.next_truth.Goals as goal

pub returns-in-Met-clause-found : goal.returns-in-Met-clause-found
returns-in-Met-clause-found g c =
    met-truth c.args.self.now (g.F.Finder.limit c.args.f.now) c.requires.entries c.args.values.now c.requires.more c.requires.settled
    c.requires.relation c.in_ok-ask_value.field-0 c.in_ok-ask_value.ensures.answer
    c.in-Met.field-0 c.in-Met.is

pub returns-in-Nothing-clause-found : goal.returns-in-Nothing-clause-found
returns-in-Nothing-clause-found g c =
    no-truth c.args.self.now (g.F.Finder.limit c.args.f.now) c.requires.entries c.args.values.now c.requires.more c.requires.settled
    c.requires.relation c.in_ok-ask_value.field-0 c.in_ok-ask_value.ensures.answer
    c.in-Nothing.is

pub returns-clause-found : goal.returns-clause-found
returns-clause-found g c =
    over-truth c.args.self.now (g.F.Finder.limit c.args.f.now) c.requires.entries c.args.values.now c.requires.more c.requires.settled
    c.requires.relation c.in_ok-ask_value.field-0 c.in_ok-ask_value.ensures.answer
    c.in-Over.excess c.in-Over.is
