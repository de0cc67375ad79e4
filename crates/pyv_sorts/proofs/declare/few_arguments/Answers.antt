use Rattle.pyv_sorts.proofs.Noted.{few_names}
use Rattle.pyv_sorts.proofs.declare.few_arguments.Goals as goal

pub returns : goal.returns
returns c = λ bytes. few_names bytes c.args.names.now 8 c.if-names-gt-MOST_ARGUMENTS.false
