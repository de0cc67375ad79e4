use Rattle.up_rounds.proofs.Resting.{rest_start, rest_advance, rest_retire}
use Rattle.up_rounds.proofs.rest_laws.rest_is_kept.Goals as goal

pub returns-clause-begins : goal.returns-clause-begins
returns-clause-begins c = rest_start

pub returns-clause-advances : goal.returns-clause-advances
returns-clause-advances c = rest_advance

pub returns-clause-retires : goal.returns-clause-retires
returns-clause-retires c = rest_retire
