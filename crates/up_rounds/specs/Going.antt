-- A run that goes on by rounds.
use Rattle.std.specs.Prelude.{◌≡◌, ℕ, suc, ◌<◌, Bool, true, false, List, [], Option, None, Some}
use Rattle.up_machine.specs.declared.end.End.{End}
use Rattle.up_machine.specs.declared.event.Event.{Event}
use Rattle.up_core.specs.View.{CoreView, now}
use Rattle.up_rounds.specs.Coming.{left_of}
use Rattle.up_seats.specs.Making.{HasMade}
use Rattle.up_rounds.specs.OneRound.{AreRounds, IsRound}
use Rattle.up_rounds.specs.Settling.{HasEnded, IsResting}

-- one whole round has come, after which less is left to come, or the run has ended
pub record HasGoneOn (before after : CoreView) : Type 0 where
  pub round : List Event
  pub made : HasMade before round after
  pub is : IsRound before.sys before.limits (now before) round
  pub resting : IsResting after
  pub less : (now after).ending ≡ None →
      left_of before.limits (now after) < left_of before.limits (now before)

-- the run has ended before the round, or the round has come
abbrev pub HasTurned : CoreView → Bool → CoreView → Type 0
HasTurned before true after = HasMade before [] after × HasEnded after
HasTurned before false after = HasGoneOn before after

-- the history is whole rounds, after which the machine is at rest, if the run hasn't ended
pub record IsUnderWay (c : CoreView) : Type 0 where
  pub rounds : AreRounds c.sys c.limits c.history
  pub resting : IsResting c

-- the system, the order and the limits are the same
pub record IsOfSame (before after : CoreView) : Type 0 where
  pub sys : after.sys ≡ before.sys
  pub order : after.order ≡ before.order
  pub limits : after.limits ≡ before.limits

-- whole rounds have come up to the end
pub record HasRun (before after : CoreView) : Type 0 where
  pub same : IsOfSame before after
  pub rounds : AreRounds after.sys after.limits after.history
  pub ended : HasEnded after

-- how much is left until the end: nothing after it
abbrev pub left_until : Option End → ℕ → ℕ
left_until None left = suc left
left_until (Some end) left = 0

-- how much is left of a run
abbrev pub left_in : CoreView → ℕ
left_in c = left_until (now c).ending (left_of c.limits (now c))
