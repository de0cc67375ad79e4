use Rattle.up_jobs.proofs.Events.{may-seed, may-refute-seed, may-secure, may-find-no-more, look-over}
use Rattle.up_jobs.proofs.event_laws.an_answered_look_is_reported.Goals as goal

pub returns-clause-seed : goal.returns-clause-seed
returns-clause-seed c sys limits m brief w level frame avoid done s = may-seed sys limits m brief w level frame avoid done s

pub returns-clause-refuted : goal.returns-clause-refuted
returns-clause-refuted c sys limits m brief w level frame avoid done s k = may-refute-seed sys limits m brief w level frame avoid done s k

pub returns-clause-secure : goal.returns-clause-secure
returns-clause-secure c sys limits m brief w level frame avoid done = may-secure sys limits m brief w level frame avoid done

pub returns-clause-no_more : goal.returns-clause-no_more
returns-clause-no_more c sys limits m brief w level frame avoid done = may-find-no-more sys limits m brief w level frame avoid done

pub returns-clause-over : goal.returns-clause-over
returns-clause-over c sys limits m brief w level frame avoid done = look-over sys limits m brief w level frame avoid done
