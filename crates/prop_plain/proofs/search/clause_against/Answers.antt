use Rattle.prop_plain.proofs.Paths.{against_more}
use Rattle.prop_plain.proofs.search.clause_against.Goals as goal

pub loop-i-preserved : goal.loop-i-preserved
loop-i-preserved c = against_more _ _ _ _ _ c.loop-i-test.true c.loop-i.invariant c.in_ok-push.ensures.ok
