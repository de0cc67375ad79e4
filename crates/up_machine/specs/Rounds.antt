-- The one history that rounds make.
use Rattle.std.specs.Prelude.{◌≡◌, ℕ, suc, ◌<◌, ◌≤◌, List, [], ◌∷◌, None, Some, ◌⊎◌, ⊤}
use Rattle.fo_core.specs.declared.system.System.{System}
use Rattle.up_machine.specs.declared.limits.Limits.{Limits}
use Rattle.up_machine.specs.declared.job.Job.{Job}
use Rattle.up_machine.specs.declared.job.Short.{Short}
use Rattle.up_machine.specs.declared.job.Short.TheVariants as S
use Rattle.up_machine.specs.declared.job.Task.TheVariants as T
use Rattle.up_machine.specs.declared.event.Why.TheVariants as Y
use Rattle.up_machine.specs.declared.end.End.{End}
use Rattle.up_machine.specs.declared.end.End.TheVariants as N
use Rattle.up_machine.specs.declared.event.Event.{Event}
use Rattle.up_machine.specs.declared.event.Event.TheVariants as E
use Rattle.up_machine.specs.Machine.{Machine, start}
use Rattle.up_machine.specs.Replay.{happens, replay, worker_of}
use Rattle.up_machine.specs.Due.{Else, IsDue}
use Rattle.up_machine.specs.Legal.{IsCover, IsLegal}

-- an end without a job
abbrev pub end_of : Short → End
end_of (S.Safe i) = N.Safe i
end_of S.Bounded = N.Bounded
end_of S.Spent = N.Spent

abbrev pub IsOver : Event → Type 0
IsOver (E.Close w (N.Over kind excess)) = ⊤
IsOver _ = ⊥

-- The reports that rounds make: an answer to the worker's job. None is that memory was wanting; and
-- once the productive events have come to this limit, a refuted answer isn't put back any more.
abbrev pub IsRoundReport : Machine → ℕ → Event → Type 0
IsRoundReport m steps (E.Take w job) = ⊥
IsRoundReport m steps (E.Advance w) = ⊥
IsRoundReport m steps (E.Retire w gone by) = ⊥
IsRoundReport m steps (E.Return w Y.Spent) = ⊥
IsRoundReport m steps (E.Return w Y.NoMemory) = ⊥
IsRoundReport m steps (E.Return w (Y.Refuted p c)) = m.productive < steps
IsRoundReport m steps (E.Close w (N.Safe i)) = ⊥
IsRoundReport m steps (E.Close w N.Bounded) = ⊥
IsRoundReport m steps (E.Close w N.Spent) = ⊥
IsRoundReport m steps _ = ⊤

-- the first pair, by the clause that goes and then by its cover, that may be retired
pub record IsFirstCover (m : Machine) (gone by : ℕ) : Type 0 where
  pub not_ended : m.ending ≡ None
  pub cover : IsCover m gone by
  pub first : (g b : ℕ) → IsCover m g b → (gone < g) ⊎ (gone ≡ g) × (by ≤ b)

module _ (sys : System) (limits : Limits) where
  -- what a seat reports: an answer that is legal, and that a query of its job is too heavy, where
  -- one is
  pub record IsReport (m : Machine) (seat : ℕ) (e : Event) : Type 0 where
    pub by_seat : worker_of e ≡ seat
    pub kind : IsRoundReport m limits.steps e
    pub legal : IsLegal sys limits m e
    pub over_first : (f : Event) → worker_of f ≡ seat → IsOver f → IsLegal sys limits m f → IsOver e

  -- a seat is asked and takes the job that is due
  pub record Takes (m : Machine) (seat : ℕ) (e : Event) : Type 0 where
    pub job : Job
    pub in_batch : seat < limits.batch
    pub due : IsDue sys limits m (T.Job job)
    pub is : e ≡ E.Take seat job

  -- seat 0 advances or finishes where that is due
  abbrev pub Settles : Machine → Event → Type 0
  Settles m e =
      IsDue sys limits m T.Advance × (e ≡ E.Advance 0)
      ⊎ ((s : Short) × IsDue sys limits m (T.Finish s) × (e ≡ E.Close 0 (end_of s)))

  -- seat 0 retires the first clause that may be
  abbrev pub Retires : Machine → Event → Type 0
  Retires m e = (gone by : ℕ) × IsFirstCover m gone by × (e ≡ E.Retire 0 gone by)

  -- a round begins: seat 0 settles what is due, else retires a clause, else takes a job
  abbrev pub Begins : Machine → Event → Type 0
  Begins m = Else (Settles m) (Else (Retires m) (Takes m 0))

  -- a seat reports if it can; where it can't, none after it does, and the next round begins
  abbrev pub GoesOnAt : Machine → ℕ → Event → Type 0
  GoesOnAt m seat = Else (IsReport m seat) (Begins m)

  -- The event that comes after this one, at the machine after it: seats take jobs up to the first
  -- that gets none, and then they report in order.
  abbrev pub IsNext : Event → Machine → Event → Type 0
  IsNext (E.Take seat job) m e = Else (Takes m (suc seat)) (GoesOnAt m 0) e
  IsNext (E.Advance w) m e = Begins m e
  IsNext (E.Retire w gone by) m e = Begins m e
  IsNext (E.Close w end) m e = ⊥
  IsNext last m e = GoesOnAt m (suc (worker_of last)) e

  abbrev pub AreNext : Event → Machine → List Event → Type 0
  AreNext last m [] = ⊤
  AreNext last m (e ∷ es) = IsNext last m e × AreNext e (happens m e) es

  abbrev pub IsClosed : List Event → Type 0
  IsClosed history = (end : End) × ((replay history).ending ≡ Some end)

  -- the history of the rounds
  abbrev pub Rounds : List Event → Type 0
  Rounds [] = ⊥
  Rounds (e ∷ es) = Begins start e × AreNext e (happens start e) es × IsClosed (e ∷ es)

-- how many Retires a history has
abbrev pub retires_of : List Event → ℕ
retires_of [] = 0
retires_of (E.Retire w gone by ∷ es) = suc (retires_of es)
retires_of (e ∷ es) = retires_of es
