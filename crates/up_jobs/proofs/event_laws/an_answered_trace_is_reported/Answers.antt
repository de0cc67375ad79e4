use Rattle.up_jobs.proofs.Events.{may-close-unsafe, may-close-no-universal, trace-over}
use Rattle.up_jobs.proofs.event_laws.an_answered_trace_is_reported.Goals as goal

pub returns-clause-run : goal.returns-clause-run
returns-clause-run c sys limits m brief w k steps run = may-close-unsafe sys limits m brief w k steps run

pub returns-clause-none : goal.returns-clause-none
returns-clause-none c sys limits m brief w k steps = may-close-no-universal sys limits m brief w k steps

pub returns-clause-over : goal.returns-clause-over
returns-clause-over c sys limits m brief w k steps = trace-over sys limits m brief w k steps
