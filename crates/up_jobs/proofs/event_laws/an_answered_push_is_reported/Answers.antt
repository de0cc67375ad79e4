use Rattle.up_jobs.proofs.Events.{may-raise, may-fail, may-refute-fail, push-over}
use Rattle.up_jobs.proofs.event_laws.an_answered_push_is_reported.Goals as goal

pub returns-clause-holds : goal.returns-clause-holds
returns-clause-holds c sys limits m brief w k level frame cube = may-raise sys limits m brief w k level frame cube

pub returns-clause-fails : goal.returns-clause-fails
returns-clause-fails c sys limits m brief w k level frame cube p = may-fail sys limits m brief w k level frame cube p

pub returns-clause-refuted : goal.returns-clause-refuted
returns-clause-refuted c sys limits m brief w k level frame cube p n = may-refute-fail sys limits m brief w k level frame cube p n

pub returns-clause-over : goal.returns-clause-over
returns-clause-over c sys limits m brief w k level frame cube = push-over sys limits m brief w k level frame cube
