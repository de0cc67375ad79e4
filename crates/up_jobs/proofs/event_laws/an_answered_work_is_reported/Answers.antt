use Rattle.up_jobs.proofs.Events.{may-learn, may-root, may-precede, may-refute-step, work-over}
use Rattle.up_jobs.proofs.event_laws.an_answered_work_is_reported.Goals as goal

pub returns-clause-learn : goal.returns-clause-learn
returns-clause-learn c sys limits m brief w k level below world cube = may-learn sys limits m brief w k level below world cube

pub returns-clause-root : goal.returns-clause-root
returns-clause-root c sys limits m brief w k level below world u = may-root sys limits m brief w k level below world u

pub returns-clause-step : goal.returns-clause-step
returns-clause-step c sys limits m brief w k level below world p = may-precede sys limits m brief w k level below world p

pub returns-clause-refuted : goal.returns-clause-refuted
returns-clause-refuted c sys limits m brief w k level below world p n = may-refute-step sys limits m brief w k level below world p n

pub returns-clause-over : goal.returns-clause-over
returns-clause-over c sys limits m brief w k level below world = work-over sys limits m brief w k level below world
