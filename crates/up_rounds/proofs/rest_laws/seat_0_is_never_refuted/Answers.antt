use Rattle.up_rounds.proofs.FirstSeat.{never_refuted}
use Rattle.up_rounds.proofs.rest_laws.seat_0_is_never_refuted.Goals as goal

pub returns : goal.returns
returns c = never_refuted
