use Rattle.fo_core.proofs.ShiftTruth.{truth-moved}
use Rattle.fo_core.proofs.laws.shifted_moves_copies.Goals as goal

pub returns : goal.returns
returns c = λ sig w c by. truth-moved sig w c by
