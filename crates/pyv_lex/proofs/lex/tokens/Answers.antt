use Rattle.pyv_lex.proofs.Lexing.{only}
use Rattle.pyv_lex.proofs.lex.tokens.Goals as goal

pub returns-clause-only : goal.returns-clause-only
returns-clause-only c = only c.args.bytes.now c.cut.result c.cut.ensures.found c.cut.ensures.fault
