use Rattle.pyv_sorts.proofs.Noted.{few_bounds, past_bounds}
use Rattle.pyv_sorts.proofs.declare.few_parameters.Goals as goal

pub returns-then-params-gt-MOST_PARAMETERS : goal.returns-then-params-gt-MOST_PARAMETERS
returns-then-params-gt-MOST_PARAMETERS c = λ bytes. past_bounds bytes c.args.params.now 16 _ c.if-params-gt-MOST_PARAMETERS.true

pub returns : goal.returns
returns c = λ bytes. few_bounds bytes c.args.params.now 16 c.if-params-gt-MOST_PARAMETERS.false
