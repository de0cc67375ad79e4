use Rattle.up_cert.proofs.WorldLemmas.{has-state}
use Rattle.up_cert.proofs.chain.has_state.Goals as goal

pub returns-clause-shown : goal.returns-clause-shown
returns-clause-shown c =
    has-state c.args.sys.now c.args.link.now c.is_state.result (c.is_lone_state.ensures.shown.0 c.if-not-is_lone_state.false)
    (rw c.last_copy.ensures at c.is_state.ensures.truth)
