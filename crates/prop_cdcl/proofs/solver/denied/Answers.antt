use Rattle.prop_cdcl.proofs.Asked.{within_denial}
use Rattle.prop_cdcl.proofs.solver.denied.Goals as goal

pub follows_from_learnt-requires : goal.follows_from_learnt-requires
follows_from_learnt-requires c = within_denial _ _ _ c.requires c.in_ok-clause.ensures

pub returns-then-branch-clause-reply : goal.returns-then-branch-clause-reply
returns-then-branch-clause-reply c =
    (c.in_ok-clause.ensures, c.in_ok-follows_from_learnt.ensures.sound c.if-branch.true)
