use Rattle.up_machine.proofs.OneValid.{one_valid}
use Rattle.up_machine.proofs.one_laws.one_failed_push_is_valid.Goals as goal

pub returns : goal.returns
returns c = one_valid
