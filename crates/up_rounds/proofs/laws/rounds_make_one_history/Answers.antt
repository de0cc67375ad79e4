use Rattle.up_rounds.proofs.OneCourse.{course_one}
use Rattle.up_rounds.proofs.laws.rounds_make_one_history.Goals as goal

pub returns : goal.returns
returns c = course_one
