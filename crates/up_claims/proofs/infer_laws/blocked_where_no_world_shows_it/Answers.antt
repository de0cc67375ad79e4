use Rattle.up_claims.proofs.BlockedLemmas.{initial-by-query, step-by-query, blocked-by-queries}
use Rattle.up_claims.proofs.infer_laws.blocked_where_no_world_shows_it.Goals as goal

pub returns-clause-initial : goal.returns-clause-initial
returns-clause-initial c sys cube is known = initial-by-query sys is cube known

pub returns-clause-step : goal.returns-clause-step
returns-clause-step c sys frame cube is framed known = step-by-query sys is frame cube framed known

pub returns-clause-blocked : goal.returns-clause-blocked
returns-clause-blocked c sys frame cube is framed known = blocked-by-queries sys is frame cube framed known
