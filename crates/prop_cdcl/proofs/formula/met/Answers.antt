use Rattle.std.proofs.Common.{◌∙◌, sym}
use Rattle.prop_cdcl.proofs.Found.{met}
use Rattle.prop_cdcl.proofs.formula.met.Goals as goal

pub returns-then-is_met-clause-answer : goal.returns-then-is_met-clause-answer
returns-then-is_met-clause-answer c =
    met _ _ _ _ _ (c.is_met.ensures.0 c.if-is_met.true) c.as_slice.ensures.value c.from_vec.ensures (sym c.args.values.ok.0 ∙ sym c.len.ensures ∙ c.if-len-cnf.true)
