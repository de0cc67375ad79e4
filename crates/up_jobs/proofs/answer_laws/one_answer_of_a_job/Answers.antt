use Rattle.up_jobs.proofs.OneAnswer.{one-answer}
use Rattle.up_jobs.proofs.answer_laws.one_answer_of_a_job.Goals as goal

pub returns : goal.returns
returns c sys limit given a b is fit = one-answer sys is limit given fit a b
