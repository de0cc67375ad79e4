-- What a pass has seen when its worker leaves.
use Rattle.std.proofs.Common.{◌≡◌, inl, inr, ℕ, ◌+◌, ◌≤◌, Bool, true, false, cond, nat_eq, List, [], ◌∷◌, ◌++◌, length, refl, sym, ap, subst, ◌∙◌, arith}
use Rattle.std.specs.List.{filter}
use Rattle.std.proofs.lemmas.List.{append-nil, length-append}
use Rattle.std.proofs.lemmas.List.Elements.{filter-append}
use Rattle.turnstile.specs.History.{AddsAtMostOne, Continues}
use Rattle.turnstile.specs.Views.{HasNumbers, IsOf, IsOutside}
use Rattle.turnstile.proofs.Histories.{IsPrefixOf-trans, entries_of-append}
use Rattle.up_machine.specs.declared.brief.Brief.{Brief}
use Rattle.up_machine.specs.declared.event.Event.{Event}
use Rattle.up_machine.specs.Legal.{Legal}
use Rattle.up_machine.specs.Replay.{worker_of}
use Rattle.up_core.specs.Shared.{basis_of}
use Rattle.up_core.specs.View.{CoreView, now}
use Rattle.up_seats.specs.Seats.{IsBriefed}
use Rattle.up_core.specs.declared.kept_value.Basis.{Basis}
use Rattle.up_visits.specs.declared.asking.Asked.{Asked}
use Rattle.up_visits.specs.declared.asking.Asked.TheVariants as A
use Rattle.up_visits.specs.GivingUp.{gives_up, NoneGivesUp, GivesUpLast}
use Rattle.up_visits.specs.Passes.{CorePass, CoreTurnstile, IsIdle, IsReady, IsVisit, own_events, events_of, seen_core}
use Rattle.up_visits.specs.Visits.{HasActed, IsAtMostOneOf, IsTold}
use Rattle.up_visits.proofs.Entering.{found_own}

-- 1. Events by which nobody gives up.

none_both : (xs ys : List Event) → NoneGivesUp xs → NoneGivesUp ys → NoneGivesUp (xs ++ ys)
none_both xs ys h k = filter-append gives_up xs ys ∙ (ap (λ l. l ++ filter gives_up ys) h ∙ k)

own_of_one : (b : Bool) (e : Event) → gives_up e ≡ false → NoneGivesUp (cond b (e ∷ []) [])
own_of_one true e h = ap (λ s. cond s (e ∷ []) []) h
own_of_one false e h = refl

short_one : (b : Bool) (e : Event) → length (cond b (e ∷ []) []) ≤ 1
short_one true e = omega arith
short_one false e = omega arith

own_short : (w v : ℕ) (es : List Event) → IsAtMostOneOf v es → length (events_of w es) ≤ 1
own_short w v es (inl none) = subst (λ l. length (events_of w l) ≤ 1) (sym none) (omega arith)
own_short w v es (inr (e, is, by)) = subst (λ l. length (events_of w l) ≤ 1) (sym is) (short_one (nat_eq (worker_of e) w) e)

first_false : (b : Bool) (e : Event) → cond b (e ∷ []) [] ≡ [] → b ≡ false
first_false true e h = let l = ap length h in absurd (omega (arith, l))
first_false false e h = refl

own_none : (w v : ℕ) (es : List Event) → IsAtMostOneOf v es → NoneGivesUp es → NoneGivesUp (events_of w es)
own_none w v es (inl none) h = subst (λ l. NoneGivesUp (events_of w l)) (sym none) refl
own_none w v es (inr (e, is, by)) h =
    let quiet : NoneGivesUp (e ∷ []) = subst NoneGivesUp is h in
    subst (λ l. NoneGivesUp (events_of w l)) (sym is) (own_of_one (nat_eq (worker_of e) w) e (first_false (gives_up e) e quiet))

pub none_is_last : (xs : List Event) → NoneGivesUp xs → GivesUpLast xs
none_is_last xs h = record { front = xs; last = []; parts = sym (append-nil xs); none = h; one = omega arith }

-- 2. The machine in code, as a pass sees it.

abbrev bare : CoreView → CoreView
bare c = record { sys = c.sys; order = c.order; limits = c.limits; history = c.history; spare = 0; variables = 0 }

abbrev core_of : Basis → List Event → CoreView
core_of b h = record { sys = b.sys; order = b.order; limits = b.limits; history = h; spare = 0; variables = 0 }

bare_briefed : (c : CoreView) (w : ℕ) (brief : Brief) → IsBriefed c w brief → IsBriefed (bare c) w brief
bare_briefed c w brief b = record { given = b.given; held = b.held; brief_is = b.brief_is; solvable = b.solvable }

bare_told : (c : CoreView) (w : ℕ) (asked : Asked) → IsTold c w asked → IsTold (bare c) w asked
bare_told c w (A.Job brief) h = bare_briefed c w brief h
bare_told c w A.Unbriefed h = h
bare_told c w A.Made h = h
bare_told c w A.Idle h = h
bare_told c w A.Ended h = h
bare_told c w A.NoMemory h = h

-- 3. A visit, of a worker that found the machine c and leaves it as d.

module _ (t : CoreTurnstile) (p : CorePass) (c d : CoreView) (w : ℕ) (base : basis_of c ≡ t.base) (goes : Continues worker_of p.from p.to p.seen c.history) (one : p.to ≡ p.from + 1) (worker : w ≡ p.from) (acted : HasActed c w d) where
  pub left_base : basis_of d ≡ t.base
  left_base =
      let m = acted.made in
      ap (λ x. let b : Basis = record { sys = x; order = d.order; limits = d.limits } in b) m.sys
      ∙ (ap (λ x. let b : Basis = record { sys = c.sys; order = x; limits = d.limits } in b) m.order
      ∙ (ap (λ x. let b : Basis = record { sys = c.sys; order = c.order; limits = x } in b) m.limits ∙ base))

  pub left_adds : AddsAtMostOne worker_of p.from p.to c.history d.history
  left_adds = elim acted.one [
    | inl none ↦ inl (acted.made.history ∙ (ap (λ l. c.history ++ l) none ∙ append-nil c.history))
    | inr one_more ↦ inr (
      one_more.0,
      acted.made.history ∙ ap (λ l. c.history ++ l) one_more.1,
      (let by : worker_of one_more.0 ≡ p.from = one_more.2 ∙ worker in omega (arith, by)),
      (let by : worker_of one_more.0 ≡ p.from = one_more.2 ∙ worker in omega (arith, by, one)),
    )
  ]

  module _ (q : CorePass) (numbers : HasNumbers q p.from p.to) (seen : q.seen ≡ d.history) where
    left_core : bare d ≡ seen_core t q
    left_core = ap (λ b. core_of b d.history) left_base ∙ ap (core_of t.base) (sym seen)

    number_is : w ≡ q.from
    number_is = worker ∙ sym numbers.0

    pub left_legal : Legal d.sys d.limits d.history → Legal t.base.sys t.base.limits q.seen
    left_legal legal = subst (λ (x : CoreView). Legal x.sys x.limits x.history) left_core legal

    pub left_ready : IsReady t p → IsOf t q → IsOutside q → Legal d.sys d.limits d.history → IsReady t q
    left_ready ready own outside legal =
        let from = numbers.0 in
        let to = numbers.1 in
        let low = ready.worker in
        record { own = own; outside = outside; one = omega (arith, from, to, one); worker = omega (arith, from, low); legal = left_legal legal }

    pub left_told : (asked : Asked) → IsTold d w asked → IsTold (seen_core t q) q.from asked
    left_told asked told = subst (λ v. IsTold (seen_core t q) v asked) number_is (subst (λ x. IsTold x w asked) left_core (bare_told d w asked told))

    pub left_idle : IsIdle (now d) w → IsIdle (now (seen_core t q)) q.from
    left_idle idle = left_told A.Made idle

    -- the worker's events are those before, and those of this visit
    left_own : own_events q ≡ own_events p ++ events_of p.from acted.events
    left_own =
        ap (λ v. events_of v q.seen) numbers.0
        ∙ (ap (events_of p.from) (seen ∙ acted.made.history)
        ∙ (entries_of-append worker_of p.from c.history acted.events
        ∙ ap (λ l. l ++ events_of p.from acted.events) (found_own t p c w base goes one worker)))

    pub left_visit : IsVisit p q
    left_visit =
        let few = own_short p.from w acted.events acted.one in
        let many = ap length left_own ∙ length-append (own_events p) (events_of p.from acted.events) in
        record {
          goes_on = record {
            same = numbers;
            grows = IsPrefixOf-trans p.seen c.history q.seen goes.begins (acted.events, seen ∙ acted.made.history);
            made = (events_of p.from acted.events, left_own);
          };
          one = omega (arith, few, many);
        }

    pub left_none : NoneGivesUp acted.events → NoneGivesUp (own_events p) → NoneGivesUp (own_events q)
    left_none quiet none = subst NoneGivesUp (sym left_own) (none_both (own_events p) (events_of p.from acted.events) none (own_none p.from w acted.events acted.one quiet))

    pub left_last : NoneGivesUp (own_events p) → GivesUpLast (own_events q)
    left_last none = record { front = own_events p; last = events_of p.from acted.events; parts = left_own; none = none; one = own_short p.from w acted.events acted.one }
