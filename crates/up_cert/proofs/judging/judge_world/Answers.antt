use Rattle.up_cert.proofs.LookLemmas.{run-judged}
use Rattle.up_cert.proofs.judging.judge_world.Goals as goal

pub returns : goal.returns
returns c = λ limit. rw c.looked.ensures (run-judged c.args.sys.now c.args.w.now limit c.judge_run.result c.judge_run.ensures.holds c.judge_run.ensures.first)
