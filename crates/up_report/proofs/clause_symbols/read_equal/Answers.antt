use Rattle.std.proofs.Common.{rules, codes, decimal}
use Rattle.fo_text.proofs.Choices.{marked_is}
use Rattle.up_report.proofs.clause_symbols.read_equal.Goals as goal

pub returns-in_err-rest : goal.returns-in_err-rest
returns-in_err-rest c = rw (marked_is (codes "V") (decimal c.args.v) (codes " = V") c.args.bytes.now) (search rules)

pub returns-in_err-rest-2 : goal.returns-in_err-rest-2
returns-in_err-rest-2 c = rw (marked_is (codes "V") (decimal c.args.v) (codes " = V") c.args.bytes.now) (search rules)

pub returns : goal.returns
returns c = rw (marked_is (codes "V") (decimal c.args.v) (codes " = V") c.args.bytes.now) (search rules)
