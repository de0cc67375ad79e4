use Rattle.pyv_parse.proofs.Curly.{at_end}
use Rattle.pyv_parse.proofs.decls.behind_brace.Goals as goal

pub returns-clause-gives : goal.returns-clause-gives
returns-clause-gives c = rw (c.bad.ensures, ← c.tokens.invariant.same) (at_end c.tokens.«open» c.tokens.rest.now c.in_default.ensures.cases)
