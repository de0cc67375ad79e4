-- What an event call answers is the seat's report, or that there is none.
use Rattle.std.proofs.Common.{◌≡◌, ◌≢◌, ℕ, zero, suc, ◌-◌, ◌⊎◌, inl, inr, Bool, true, false, None, Result, Ok, Err, sym, ap, subst, ◌∙◌, true≢false, arith}
use Rattle.std.specs.Option.{is_some}
use Rattle.std.specs.Result.{MatchResult, OnOk, OnErr, is_ok}
use Rattle.fo_core.specs.declared.system.System.{System}
use Rattle.fo_core.specs.declared.world.World.{World}
use Rattle.up_machine.specs.declared.event.Event.{Event}
use Rattle.up_machine.specs.declared.event.Event.TheVariants as E
use Rattle.up_machine.specs.declared.event.Origin.TheVariants as O
use Rattle.up_machine.specs.declared.not_now.NotNow.{NotNow}
use Rattle.up_machine.specs.declared.not_now.NotNow.TheVariants as W
use Rattle.up_machine.specs.Machine.{Machine, IsIn, IsFirstRefuter}
use Rattle.up_machine.proofs.Frames.{avoids-each}
use Rattle.up_core.specs.Known.{IsKnown, IsNow, IsNotNow, OwnIsRefutedBy, FoundIsRefutedBy}
use Rattle.up_core.specs.View.{CoreView, now, with_event}
use Rattle.up_core.proofs.NextCores.{legal-now}
use Rattle.up_seats.specs.Seats.{IsReported}
use Rattle.up_seats.specs.Telling.{IsToTell}

module _ (c after : CoreView) (seat : ℕ) where
  -- the event has come
  pub has-told : (e : Event) → IsToTell c seat e → IsNow c e → after ≡ with_event c e → IsReported c seat true after
  has-told e told is_now same = (
    e,
    record {
      sys = ap (λ (v : CoreView). v.sys) same;
      order = ap (λ (v : CoreView). v.order) same;
      limits = ap (λ (v : CoreView). v.limits) same;
      history = ap (λ (v : CoreView). v.history) same;
    },
    record {
      by_seat = told.by_seat;
      kind = told.kind;
      legal = legal-now c e told.known is_now;
      over_first = told.over_first;
    },
  )

  -- nothing comes after the end
  pub has-ended : is_some (now c).ending ≡ true → after ≡ c → IsReported c seat false after
  has-ended ended same =
      let over : (now c).ending ≢ None = λ none. true≢false (sym ended ∙ ap is_some none) in
      (same, λ e r. over r.legal.not_ended, inl over)

  -- and nothing that costs a step once the steps are spent
  pub is-spent : (e : Event) → IsToTell c seat e → IsNotNow c e W.Spent → after ≡ c → IsReported c seat false after
  is-spent e told spent same =
      let costs = told.costs spent.1 in
      (same, costs.none_spent spent.2, inr (spent.2, costs.no_trace))

-- no clause refutes what the event rests on
abbrev pub IsUnrefuted : CoreView → Event → Type 0
IsUnrefuted c e = (k : ℕ) → ¬ (OwnIsRefutedBy c e k ⊎ FoundIsRefutedBy c e k)

-- of an event that rests on no state
pub plain : (k : ℕ) → ¬ (⊥ ⊎ ⊥)
plain k (inl h) = h
plain k (inr h) = h

-- a state that is in a frame now, and a live clause that refutes it there
in-clash : (sys : System) (m : Machine) (i : ℕ) (w : World) (k : ℕ) → IsIn sys m i w 0 → ¬ IsFirstRefuter sys m i w 0 k
in-clash sys m zero w k here r = let told = r.refutes.told in absurd (omega (arith, told))
in-clash sys m (suc i) w k here r =
    let c = r.refutes in
    avoids-each sys m.clauses (suc i) w 0 here.1 k c.clause c.there c.live c.level c.meets

-- of an event that can be made now
pub now-unrefuted : (c : CoreView) (e : Event) → IsNow c e → IsUnrefuted c e
now-unrefuted c (E.Seed w s) n k (inr h) = in-clash c.sys (now c) (now c).frontier s k n.in_place h
now-unrefuted c (E.Learn w cube) n k (inl h) = in-clash c.sys (now c) h.work.level h.work.world k (n.in_place h.work) h.refuter
now-unrefuted c (E.Before w (O.Initial u)) n k (inl h) = in-clash c.sys (now c) h.work.level h.work.world k (n.in_place h.work) h.refuter
now-unrefuted c (E.Before w (O.Step p)) n k (inl h) = in-clash c.sys (now c) h.work.level h.work.world k (n.in_place.0 h.work) h.refuter
now-unrefuted c (E.Before w (O.Step p)) n k (inr h) = in-clash c.sys (now c) (h.work.level - 1) p k (n.in_place.1 h.work) h.refuter
now-unrefuted c (E.Fail w p) n k (inr h) = in-clash c.sys (now c) h.push.level p k (n.in_place h.push) h.refuter
now-unrefuted c e n k (inl h) = h
now-unrefuted c e n k (inr h) = h

module _ {T : Type 0} (after : CoreView) (e : Event) (r : Result T NotNow) (b : Bool) where
  -- the call's clauses, and whether it answers that it was made
  pub record Answers (c : CoreView) : Type 0 where
    pub made : OnOk r (after ≡ with_event c e)
    pub same : OnErr r (after ≡ c)
    pub when : MatchResult r (λ _. IsNow c e) (λ why. IsNotNow c e why)
    pub is : b ≡ is_ok r

pub has-answered : {T : Type 0} (c after : CoreView) (seat : ℕ) (e : Event) (r : Result T NotNow) (b : Bool) → IsToTell c seat e → IsUnrefuted c e → Answers after e r b c → IsReported c seat b after
has-answered c after seat e (Ok x) b told unrefuted a = subst (λ v. IsReported c seat v after) (sym a.is) (has-told c after seat e told a.when a.made)
has-answered c after seat e (Err W.Closed) b told unrefuted a = subst (λ v. IsReported c seat v after) (sym a.is) (has-ended c after seat a.when a.same)
has-answered c after seat e (Err W.Spent) b told unrefuted a = subst (λ v. IsReported c seat v after) (sym a.is) (is-spent c after seat e told a.when a.same)
has-answered c after seat e (Err (W.Own k)) b told unrefuted a = absurd (unrefuted k (inl a.when.1))
has-answered c after seat e (Err (W.Refuted k)) b told unrefuted a = absurd (unrefuted k (inr a.when.1))

-- after a test, which changes nothing
pub has-answered-then : {T : Type 0} (c mid after : CoreView) (seat : ℕ) (e : Event) (r : Result T NotNow) (b : Bool) → mid ≡ c → IsToTell c seat e → IsUnrefuted c e → Answers after e r b mid → IsReported c seat b after
has-answered-then c mid after seat e r b same told unrefuted a = has-answered c after seat e r b told unrefuted (subst (Answers after e r b) same a)

-- what is known where the test was made is known after it
pub known-then : (c mid : CoreView) (seat : ℕ) (e : Event) → mid ≡ c → IsToTell c seat e → IsKnown mid e
known-then c mid seat e same told = subst (λ v. IsKnown v e) (sym same) told.known
