use Rattle.up_claims.proofs.HoldingLemmas.{in-frame, no-run-within}
use Rattle.up_claims.proofs.verdict_laws.frames_of_a_bounded_verdict_hold.Goals as goal

pub returns-clause-frames : goal.returns-clause-frames
returns-clause-frames c = in-frame

pub returns-clause-runs : goal.returns-clause-runs
returns-clause-runs c = no-run-within
