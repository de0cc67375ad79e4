-- What seat 0 does at the begin of a round, before seats take jobs.
use Rattle.std.specs.Prelude.{◌≡◌, Bool, true, false, [], ◌∷◌, Some, None, ◌⊎◌}
use Rattle.up_machine.specs.declared.end.End.{End}
use Rattle.up_machine.specs.declared.event.Event.{Event}
use Rattle.up_machine.specs.declared.job.Job.{Job}
use Rattle.up_machine.specs.declared.job.Task.TheVariants as T
use Rattle.up_machine.specs.Due.{IsDue}
use Rattle.up_machine.specs.Rounds.{Retires, Settles}
use Rattle.up_core.specs.View.{CoreView, now}
use Rattle.up_rounds.specs.declared.settling.Begun.{Begun}
use Rattle.up_rounds.specs.declared.settling.Begun.TheVariants as B
use Rattle.up_seats.specs.Making.{HasMade}
use Rattle.up_rounds.specs.OneRound.{IsAtRest}

-- the run has ended
abbrev pub HasEnded : CoreView → Type 0
HasEnded c = (end : End) × ((now c).ending ≡ Some end)

-- until the end the machine is at rest
abbrev pub IsResting : CoreView → Type 0
IsResting c = (now c).ending ≡ None → IsAtRest c.limits (now c)

-- seat 0 settles nothing
abbrev pub SettlesNothing : CoreView → Type 0
SettlesNothing c = (e : Event) → ¬ Settles c.sys c.limits (now c) e

-- and retires nothing
abbrev pub RetiresNothing : CoreView → Type 0
RetiresNothing c = (e : Event) → ¬ Retires c.sys c.limits (now c) e

-- seat 0 has retired the first clause that may be, if it did
abbrev pub HasRetired : CoreView → Bool → CoreView → Type 0
HasRetired before true after =
    (e : Event) × HasMade before (e ∷ []) after × Retires before.sys before.limits (now before) e
HasRetired before false after = (after ≡ before) × RetiresNothing before

-- seat 0 has settled what is due, or else retired a clause
pub record HasSettled (before after : CoreView) : Type 0 where
  pub event : Event
  pub made : HasMade before (event ∷ []) after
  pub is : Settles before.sys before.limits (now before) event
      ⊎ SettlesNothing before × Retires before.sys before.limits (now before) event

-- seat 0 settles and retires nothing, and a job is due
pub record IsForJobs (c : CoreView) : Type 0 where
  pub not_settled : SettlesNothing c
  pub not_retired : RetiresNothing c
  pub job : Job
  pub due : IsDue c.sys c.limits (now c) (T.Job job)

-- how the round has begun; nothing has come where the run has ended or seats are to take jobs
abbrev pub HasBegun : CoreView → Begun → CoreView → Type 0
HasBegun before B.Ended after = HasMade before [] after × HasEnded after
HasBegun before B.Settled after = HasSettled before after
HasBegun before B.Jobs after = HasMade before [] after × IsForJobs after
