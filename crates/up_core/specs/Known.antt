-- What a caller of an event call knows, what the call tests, and why it may refuse. Legality is
-- what is known and what is tested: where what was found is to lie in a frame, that frame is looked
-- at as it stands now, and only the call can tell.
use Rattle.std.specs.Prelude.{◌≡◌, ℕ, ◌-◌, ◌<◌, ◌≤◌, true, None, Some, is_some, ⊤}
use Rattle.fo_core.specs.declared.world.World.{World}
use Rattle.up_diagram.specs.declared.cube.Cube.{Cube}
use Rattle.up_machine.specs.declared.end.End.{End}
use Rattle.up_machine.specs.declared.end.End.TheVariants as N
use Rattle.up_machine.specs.declared.event.Event.{Event}
use Rattle.up_machine.specs.declared.event.Event.TheVariants as E
use Rattle.up_machine.specs.declared.event.Origin.TheVariants as O
use Rattle.up_machine.specs.declared.not_now.NotNow.{NotNow}
use Rattle.up_machine.specs.declared.not_now.NotNow.TheVariants as W
use Rattle.up_machine.specs.Finding.{HoldsWork, HoldsLook, HoldsPush}
use Rattle.up_machine.specs.Legal.{IsLeastSeed, IsLeastRoot, IsLeastStep, IsFoundStep, IsFoundCube, IsAllowed}
use Rattle.up_machine.specs.Machine.{IsIn, IsFirstRefuter}
use Rattle.up_machine.specs.Replay.{is_productive}
use Rattle.up_core.specs.View.{CoreView, now}

-- the ends that a job tells
abbrev pub IsJobEnd : End → Type 0
IsJobEnd (N.Unsafe run) = ⊤
IsJobEnd N.NoUniversal = ⊤
IsJobEnd (N.Over kind excess) = ⊤
IsJobEnd (N.Safe i) = ⊥
IsJobEnd N.Bounded = ⊥
IsJobEnd N.Spent = ⊥

module _ (c : CoreView) where
  -- What a search found, of what its worker was given.
  pub record KnowsSeed (w : ℕ) (s : World) : Type 0 where
    pub look : HoldsLook (now c) w
    pub found : IsLeastSeed c.sys look.frame look.avoid s

  pub record KnowsCube (w : ℕ) (cube : Cube) : Type 0 where
    pub work : HoldsWork (now c) w
    pub found : IsFoundCube c.sys work.below work.world cube

  pub record KnowsRoot (w : ℕ) (u : World) : Type 0 where
    pub work : HoldsWork (now c) w
    pub found : IsLeastRoot c.sys work.world u

  pub record KnowsStep (w : ℕ) (p : World) : Type 0 where
    pub work : HoldsWork (now c) w
    pub found : IsFoundStep c.sys work.below work.world p

  pub record KnowsFail (w : ℕ) (p : World) : Type 0 where
    pub push : HoldsPush (now c) w
    pub found : IsLeastStep c.sys (Some push.frame) push.cube p

  -- the part of an event's legality that its caller knows: all but what lies in a frame now
  abbrev pub IsKnown : Event → Type 0
  IsKnown (E.Seed w s) = KnowsSeed w s
  IsKnown (E.Learn w cube) = KnowsCube w cube
  IsKnown (E.Before w (O.Initial u)) = KnowsRoot w u
  IsKnown (E.Before w (O.Step p)) = KnowsStep w p
  IsKnown (E.Fail w p) = KnowsFail w p
  IsKnown (E.Take w job) = IsAllowed c.sys c.limits (now c) (E.Take w job)
  IsKnown (E.Return w why) = IsAllowed c.sys c.limits (now c) (E.Return w why)
  IsKnown (E.Drop w k) = IsAllowed c.sys c.limits (now c) (E.Drop w k)
  IsKnown (E.Raise w) = IsAllowed c.sys c.limits (now c) (E.Raise w)
  IsKnown (E.Secure w) = IsAllowed c.sys c.limits (now c) (E.Secure w)
  IsKnown (E.Advance w) = IsAllowed c.sys c.limits (now c) (E.Advance w)
  IsKnown (E.Close w end) = IsAllowed c.sys c.limits (now c) (E.Close w end)
  IsKnown (E.Retire w gone by) = IsAllowed c.sys c.limits (now c) (E.Retire w gone by)

  -- the state of the obligation that is worked on lies in the frame of its level
  abbrev pub OwnIsIn : ℕ → Type 0
  OwnIsIn w = (work : HoldsWork (now c) w) → IsIn c.sys (now c) work.level work.world 0

  -- a step before that obligation begins in the frame below
  abbrev pub StepIsIn : ℕ → World → Type 0
  StepIsIn w p = (work : HoldsWork (now c) w) → IsIn c.sys (now c) (work.level - 1) p 0

  -- a step out of the frame of the clause that is pushed begins in that frame
  abbrev pub FailIsIn : ℕ → World → Type 0
  FailIsIn w p = (push : HoldsPush (now c) w) → IsIn c.sys (now c) push.level p 0

  -- what the event's states are to lie in
  abbrev pub IsInPlace : Event → Type 0
  IsInPlace (E.Seed w s) = IsIn c.sys (now c) (now c).frontier s 0
  IsInPlace (E.Learn w cube) = OwnIsIn w
  IsInPlace (E.Before w (O.Initial u)) = OwnIsIn w
  IsInPlace (E.Before w (O.Step p)) = OwnIsIn w × StepIsIn w p
  IsInPlace (E.Fail w p) = FailIsIn w p
  IsInPlace _ = ⊤

  -- there is no end, and the event can be paid
  pub record IsOpenFor (e : Event) : Type 0 where
    pub not_ended : (now c).ending ≡ None
    pub affordable : is_productive e ≡ true → (now c).productive < c.limits.steps

  -- the event can be made now
  pub record IsNow (e : Event) : Type 0 where
    pub open_for : IsOpenFor e
    pub in_place : IsInPlace e

  -- clause k is the first that refutes the state of the obligation that the worker works on
  pub record RefutesOwn (w k : ℕ) : Type 0 where
    pub work : HoldsWork (now c) w
    pub refuter : IsFirstRefuter c.sys (now c) work.level work.world 0 k

  -- clause k is the first that refutes the step before that obligation, whose own state is in place
  pub record RefutesStep (w : ℕ) (p : World) (k : ℕ) : Type 0 where
    pub work : HoldsWork (now c) w
    pub inside : IsIn c.sys (now c) work.level work.world 0
    pub refuter : IsFirstRefuter c.sys (now c) (work.level - 1) p 0 k

  -- clause k is the first that refutes the step out of the frame of the clause that is pushed
  pub record RefutesFail (w : ℕ) (p : World) (k : ℕ) : Type 0 where
    pub push : HoldsPush (now c) w
    pub refuter : IsFirstRefuter c.sys (now c) push.level p 0 k

  -- the events that ask that the obligation's own state is in place
  abbrev pub OwnIsRefutedBy : Event → ℕ → Type 0
  OwnIsRefutedBy (E.Learn w cube) k = RefutesOwn w k
  OwnIsRefutedBy (E.Before w origin) k = RefutesOwn w k
  OwnIsRefutedBy _ k = ⊥

  -- clause k is the first that refutes what was found, in the frame that it is to lie in
  abbrev pub FoundIsRefutedBy : Event → ℕ → Type 0
  FoundIsRefutedBy (E.Seed w s) k = IsFirstRefuter c.sys (now c) (now c).frontier s 0 k
  FoundIsRefutedBy (E.Before w (O.Step p)) k = RefutesStep w p k
  FoundIsRefutedBy (E.Fail w p) k = RefutesFail w p k
  FoundIsRefutedBy _ k = ⊥

  -- why the event can't be made now: after an end; without steps left; or, where neither is so,
  -- since a clause, the first such one, refutes what is to be in place
  abbrev pub IsNotNow : Event → NotNow → Type 0
  IsNotNow e W.Closed = is_some (now c).ending ≡ true
  IsNotNow e W.Spent =
      ((now c).ending ≡ None) × (is_productive e ≡ true) × (c.limits.steps ≤ (now c).productive)
  IsNotNow e (W.Own k) = IsOpenFor e × OwnIsRefutedBy e k
  IsNotNow e (W.Refuted k) = IsOpenFor e × FoundIsRefutedBy e k
