use Rattle.up_seats.proofs.SoundHistories.{closed_sound}
use Rattle.up_seats.proofs.sound_laws.closed_histories_are_sound.Goals as goal

pub returns : goal.returns
returns c = closed_sound
