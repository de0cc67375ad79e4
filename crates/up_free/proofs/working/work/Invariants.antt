use Rattle.std.proofs.Common.{◌≡◌}
use Rattle.up_core.specs.View.{now}
use Rattle.up_visits.specs.GivingUp.{NoneGivesUp}
use Rattle.up_visits.specs.Passes.{GoesOn, IsIdle, IsReady, own_events, seen_core}
use Rattle.up_free.proofs.working.work.Given as goal

abbrev pub invariant-visits : goal.invariant-visits
invariant-visits g l = record {
  ready : IsReady l.shared l.pass;
  idle : IsIdle (now (seen_core l.shared l.pass)) l.pass.from;
  none : NoneGivesUp (own_events l.pass);
  goes_on : GoesOn l.fn.pass l.pass;
  limit : g.M.One.Finder.limit l.finder ≡ g.M.Finders.limit l.makers;
}
