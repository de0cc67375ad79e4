use Rattle.prop_core.proofs.Soundness.{steps_sound}
use Rattle.prop_core.proofs.laws.derivation_is_sound.Goals as goal

pub returns : goal.returns
returns c = steps_sound
