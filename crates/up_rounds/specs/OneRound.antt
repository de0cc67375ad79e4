-- One round, as what the machine does from its begin to the begin of the next. A round is one
-- event of seat 0 that settles or retires; or seats take jobs, in order, and then report, in
-- order. That the jobs of a round are solved beside each other shows in no event: each is solved
-- as it was given at its take, and a seat's report is looked at only once all seats before it
-- have reported.
--
-- A loop that follows the rounds keeps a history of whole rounds, and ends where it is closed. At
-- the begin of each round the machine is at rest (IsAtRest). There, till the end, some event
-- begins a round: idle isn't due. Each seat that is asked is free, so its take is legal. A seat
-- whose job is solved can report while steps are left, so the reports stop where no seat is left
-- that took a job, where the run ends, or where the steps are spent and the next report would
-- cost one.
--
-- That rounds come to an end: seat 0 is the first to report, with no more productive events made
-- than at the begin of its round and the same clauses as at its take, so that it can pay, and
-- what it found isn't refuted. So a round of jobs makes a productive event or ends the run, or a
-- look of seat 0 finds nothing further, after which none is due until a further seed is done. A
-- round of one event makes a productive event, ends the run, or retires a live clause. A
-- productive event costs a step, and makes at most one live clause. So with each round that
-- doesn't end the run this number falls: three times the steps that are left, and the live
-- clauses, and one more where the calm isn't how many seeds are done.
use Rattle.std.specs.Prelude.{◌≡◌, ℕ, suc, ◌+◌, ◌≤◌, List, [], ◌∷◌, ◌++◌, length, None, ◌⊎◌, ⊤}
use Rattle.fo_core.specs.declared.system.System.{System}
use Rattle.up_machine.specs.declared.event.Event.{Event}
use Rattle.up_machine.specs.declared.event.Event.TheVariants as E
use Rattle.up_machine.specs.declared.limits.Limits.{Limits}
use Rattle.up_machine.specs.Due.{TraceIsOut}
use Rattle.up_machine.specs.Machine.{Machine, held_by}
use Rattle.up_machine.specs.Replay.{happens, run, replay}
use Rattle.up_machine.specs.Rounds.{IsReport, Takes, Begins}

-- What holds at the begin of a round: seat 0 has no job; and nor has any other, or the steps are
-- spent, so that some couldn't report any more, but no trace is out.
pub record IsAtRest (limits : Limits) (m : Machine) : Type 0 where
  pub free : held_by m.jobs 0 ≡ None
  pub jobs : (m.jobs ≡ []) ⊎ (limits.steps ≤ m.productive) × ¬ TraceIsOut m

-- In a round of jobs that has come to this machine seat 0 has reported; and so has each seat that
-- took a job, or else the steps are spent.
pub record HaveReported (limits : Limits) (m : Machine) (takes reports : List Event) : Type 0 where
  pub first : 1 ≤ length reports
  pub others : (length reports ≡ length takes) ⊎ (limits.steps ≤ m.productive)

module _ (sys : System) (limits : Limits) where
  -- the seats from this one on take jobs, in order
  abbrev pub AreTakes : Machine → ℕ → List Event → Type 0
  AreTakes m seat [] = ⊤
  AreTakes m seat (e ∷ es) = Takes sys limits m seat e × AreTakes (happens m e) (suc seat) es

  -- the seats from this one on report, in order
  abbrev pub AreReports : Machine → ℕ → List Event → Type 0
  AreReports m seat [] = ⊤
  AreReports m seat (e ∷ es) = IsReport sys limits m seat e × AreReports (happens m e) (suc seat) es

  -- The seats from this one on take jobs, up to the first that gets none; and then the seats
  -- report, from seat 0 up to the first that can't.
  pub record AreJobs (m : Machine) (seat : ℕ) (events : List Event) : Type 0 where
    pub takes : List Event
    pub reports : List Event
    pub parts : events ≡ takes ++ reports
    pub taken : AreTakes m seat takes
    pub no_more : (e : Event) → ¬ Takes sys limits (run m takes) (seat + length takes) e
    pub reported : AreReports (run m takes) 0 reports
    pub no_other : (e : Event) →
        ¬ IsReport sys limits (run (run m takes) reports) (length reports) e

  -- What comes after a round's first event, at the machine after it: after a take of seat 0 the
  -- takes of the others and the reports, and after another event nothing.
  abbrev pub IsRest : Event → Machine → List Event → Type 0
  IsRest (E.Take seat job) m es = AreJobs m (suc seat) es
  IsRest first m es = es ≡ []

  -- the events are one whole round of the machine
  abbrev pub IsRound : Machine → List Event → Type 0
  IsRound m [] = ⊥
  IsRound m (e ∷ es) = Begins sys limits m e × IsRest e (happens m e) es

  -- the history is whole rounds, one after another
  pub data AreRounds : List Event → Type 0 where
    none : AreRounds []
    one_more : (before round : List Event) → AreRounds before → IsRound (replay before) round →
        AreRounds (before ++ round)
