use Rattle.up_machine.proofs.FrameEvents.{history_sound}
use Rattle.up_machine.proofs.sound_laws.what_frames_rest_on_is_so.Goals as goal

pub returns : goal.returns
returns c = history_sound
