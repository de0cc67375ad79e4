use Rattle.up_claims.proofs.UnrollLemmas.{denied-all}
use Rattle.up_claims.proofs.unroll.some_safety_fails.Goals as goal

pub returns : goal.returns
returns c = denied-all c.args.sys.now.sig c.args.copy c.args.sys.now.safeties c.as_slice.result.now _ _ _ c.new-safeties.ensures c.as_slice.ensures c.in_ok-add.ensures c.in_ok-new.ensures
