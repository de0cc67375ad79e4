-- What the machine in code promises at all times, as far as reports rest on it.
use Rattle.std.proofs.Common.{◌≡◌, ℕ, ◌<◌, ◌≤◌, Some, arith}
use Rattle.std.specs.Prelude.{◌^◌}
use Rattle.fo_core.specs.Sorted.{IsSystem}
use Rattle.up_claims.specs.Inferring.{CanInfer}
use Rattle.up_machine.specs.Legal.{Legal}
use Rattle.up_machine.specs.Machine.{Given, held_by}
use Rattle.up_machine.specs.Ranges.{AreInRange}
use Rattle.up_machine.specs.Sound.{IsFitGiven}
use Rattle.up_machine.proofs.Fit.{given_fit, history_fit}
use Rattle.up_core.specs.View.{CoreView, now}

pub record IsSoundCore (c : CoreView) : Type 0 where
  pub system : IsSystem c.sys
  pub in_range : AreInRange c.limits
  pub legal : Legal c.sys c.limits c.history

pub sound-of : (c : CoreView) → CanInfer c.sys c.order → AreInRange c.limits → Legal c.sys c.limits c.history → IsSoundCore c
sound-of c infer in_range legal = record { system = infer.system; in_range = in_range; legal = legal }

module _ (c : CoreView) (sound : IsSoundCore c) where
  pub fit-held : (seat : ℕ) (given : Given) → held_by (now c).jobs seat ≡ Some given → IsFitGiven c.sys.sig given
  fit-held seat given held = given_fit c.sys sound.system (now c) (history_fit c.sys c.limits c.history sound.system sound.legal) seat given held

  pub low-weight : c.limits.weight < 18446744073709551615
  low-weight = let most = sound.in_range.weight.high in omega (arith, most)

  pub few-of : (n : ℕ) → n ≤ c.limits.weight → n < 2 ^ 32
  few-of n le = let most = sound.in_range.weight.high in omega (arith, le, most)
