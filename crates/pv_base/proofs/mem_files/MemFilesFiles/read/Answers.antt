use Rattle.pv_base.proofs.mem_files.MemFilesFiles.read.Goals as goal

pub returns-clause-cause : goal.returns-clause-cause
returns-clause-cause c = rw (← c.self.view_is) (rw c.get-call.ensures at c.answer-answer.ensures.cause)
