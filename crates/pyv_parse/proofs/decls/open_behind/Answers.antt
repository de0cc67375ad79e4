use Rattle.pyv_parse.proofs.Curly.{opening_at, other_at, closes_at}
use Rattle.pyv_parse.proofs.decls.open_behind.Goals as goal

pub returns-in-Some-clause-is : goal.returns-in-Some-clause-is
returns-in-Some-clause-is c = opening_at c.args.depth c.args.tokens.now _ c.in-Some.ensures.is

pub returns-in_default-eat-clause-is : goal.returns-in_default-eat-clause-is
returns-in_default-eat-clause-is c = other_at c.args.depth c.args.tokens.now c.in_default.ensures.is c.in_default-eat.ensures.is

pub returns-clause-is : goal.returns-clause-is
returns-clause-is c = closes_at c.args.depth c.args.tokens.now _ c.checked_sub.result c.in_default.ensures.is c.in-Some-eat.ensures.is c.checked_sub.ensures
