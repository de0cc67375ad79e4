-- The machine in code after an event.
use Rattle.std.proofs.Common.{◌≡◌, ℕ, suc, ◌-◌, ◌^◌, ◌<◌, ◌≤◌, Bool, true, false, cond, not, List, [], ◌∷◌, ◌++◌, length, find, nat_eq, Option, None, Some, refl, sym, subst, ◌∙◌, arith, inl, inr, ◌⊎◌}
use Rattle.std.specs.Global.{Vec}
use Rattle.std.specs.Vec.{vec_len}
use Rattle.fo_core.specs.declared.order.Order.{Order}
use Rattle.fo_core.specs.declared.system.System.{System}
use Rattle.up_claims.specs.declared.report.Numbers.{Numbers}
use Rattle.up_claims.specs.Inferring.{CanInfer}
use Rattle.up_machine.specs.declared.end.End.{End}
use Rattle.up_machine.specs.declared.event.Event.{Event}
use Rattle.up_machine.specs.declared.event.Event.TheVariants as E
use Rattle.up_machine.specs.declared.event.Origin.TheVariants as O
use Rattle.up_machine.specs.declared.job.Short.TheVariants as S
use Rattle.up_machine.specs.declared.job.Task.{Task}
use Rattle.up_machine.specs.declared.job.Task.TheVariants as T
use Rattle.up_machine.specs.declared.limits.Limits.{Limits}
use Rattle.up_machine.specs.Due.{IsDue, by_end}
use Rattle.up_machine.specs.Legal.{IsLegal, IsAllowed, Legal}
use Rattle.up_machine.specs.Machine.{Given, Held, Machine, start, held_by}
use Rattle.up_machine.specs.Ranges.{AreInRange}
use Rattle.up_machine.specs.Replay.{happens, replay, released}
use Rattle.up_machine.proofs.FrameEvents.{history_sound}
use Rattle.up_machine.proofs.Histories.{legal-push, replay-push}
use Rattle.up_machine.proofs.Holding.{held-at}
use Rattle.up_machine.proofs.Lists.{none_is_some, get-lt, mapped_some}
use Rattle.up_core.specs.declared.state.State.{State}
use Rattle.up_core.specs.Choice.{IsSmall}
use Rattle.up_core.specs.Holding.{IsCore}
use Rattle.up_core.specs.Known.{IsKnown, IsInPlace, IsNow}
use Rattle.up_core.specs.Mirror.{Pairs, IsClauseOf, IsObligationOf, IsJobOf, IsMirror}
use Rattle.up_core.specs.Room.{HasRoom, HasSpare, HaveSameLists, IsRoomy}
use Rattle.up_core.specs.View.{CoreView, now, numbers_of}
use Rattle.up_core.proofs.Chosen.{none-of}
use Rattle.up_core.proofs.Counts.{history_few}
use Rattle.up_core.proofs.Pairing.{pairs-length}
use Rattle.up_core.proofs.Roomy.{roomy-more, start-roomy}

-- a worker that holds something has a job less when it is done
fewer_step : (w : ℕ) (h : Held) (hs : List Held) (x : Held) → (find (λ (y : Held). nat_eq y.worker w) hs ≡ Some x → suc (length (released w hs)) ≤ length hs) →
    length (released w hs) ≤ length hs →
    (b : Bool) → cond b (Some h) (find (λ (y : Held). nat_eq y.worker w) hs) ≡ Some x → suc (length (cond (not b) (h ∷ released w hs) (released w hs))) ≤ suc (length hs)
fewer_step w h hs x rest low true e = omega (arith, low)
fewer_step w h hs x rest low false e = let r = rest e in omega (arith, r)

low_step : (w : ℕ) (h : Held) (hs : List Held) → length (released w hs) ≤ length hs → (b : Bool) → length (cond (not b) (h ∷ released w hs) (released w hs)) ≤ suc (length hs)
low_step w h hs low true = omega (arith, low)
low_step w h hs low false = omega (arith, low)

released-low : (w : ℕ) (hs : List Held) → length (released w hs) ≤ length hs
released-low w [] = omega arith
released-low w (h ∷ hs) = low_step w h hs (released-low w hs) (nat_eq h.worker w)

released-found : (w : ℕ) (hs : List Held) (x : Held) → find (λ (y : Held). nat_eq y.worker w) hs ≡ Some x → suc (length (released w hs)) ≤ length hs
released-found w [] x e = none_is_some x e
released-found w (h ∷ hs) x e = fewer_step w h hs x (released-found w hs x) (released-low w hs) (nat_eq h.worker w) e

pub released-fewer : (w : ℕ) (hs : List Held) (g : Given) → held_by hs w ≡ Some g → suc (length (released w hs)) ≤ length hs
released-fewer w hs g e = let r = mapped_some (λ (h : Held). h.given) (find (λ (h : Held). nat_eq h.worker w) hs) g e in released-found w hs r.0 r.1

-- a task but that there is none comes before the end
pub due-open : (sys : System) (limits : Limits) (m : Machine) (t : Task) → ¬ (t ≡ T.Ended) → IsDue sys limits m t → m.ending ≡ None
due-open sys limits m t other (inl h) = absurd (ended t other h)
  where
    ended : (t : Task) → ¬ (t ≡ T.Ended) → ¬ by_end sys limits m t
    ended T.Ended n h = n refl
    ended _ n h = h
due-open sys limits m t other (inr h) = none_is m.ending (λ e is. h.0 T.Ended (e, is))
  where
    none_is : (o : Option End) → ((e : End) → ¬ (o ≡ Some e)) → o ≡ None
    none_is None n = refl
    none_is (Some e) n = absurd (n e refl)

-- the frontier moves on only where a step can be paid
pub due-paid : (sys : System) (limits : Limits) (m : Machine) → IsDue sys limits m T.Advance → m.productive < limits.steps
due-paid sys limits m due = omega (arith, unspent due)
  where
    unspent : IsDue sys limits m T.Advance → ¬ (limits.steps ≤ m.productive)
    unspent (inl h) = absurd h
    unspent (inr (_, inl h)) = absurd h
    unspent (inr (_, inr (_, inl h))) = absurd h
    unspent (inr (_, inr (_, inr (_, inl h)))) = absurd h
    unspent (inr (_, inr (_, inr (_, inr (n, h))))) = n (T.Finish S.Spent)

numbers-same : {a b c d e f : ℕ} → a ≡ d → b ≡ e → c ≡ f →
    (let x : Numbers = record { productive = a; frontier = b; clauses = c } in let y : Numbers = record { productive = d; frontier = e; clauses = f } in x ≡ y)
numbers-same p q r = λ i. record { productive = p i; frontier = q i; clauses = r i }

-- the numbers are the same in other rooms
mirror-same : (sys : System) (history : List Event) (m : Machine) (s t : State) → IsMirror sys history m s → HaveSameLists s t → IsMirror sys history m t
mirror-same sys history m s t h same = record {
  clauses = subst (λ xs. Pairs m.clauses xs (λ k c x. IsClauseOf history sys m k c x)) (sym same.clauses) h.clauses;
  obligations = subst (λ xs. Pairs m.obligations xs (λ k o x. IsObligationOf history o x)) (sym same.obligations) h.obligations;
  jobs = subst (λ xs. Pairs m.jobs xs (λ k j x. IsJobOf j x)) (sym same.jobs) h.jobs;
  frontier = h.frontier ∙ sym same.frontier;
  secure = h.secure ∙ sym same.secure;
  calm = h.calm ∙ sym same.calm;
  productive = h.productive ∙ sym same.productive;
  ended = h.ended ∙ sym same.ended;
}

-- what the caller knows and what the call tests make the event legal
module _ (c : CoreView) where
  allowed : (e : Event) → IsKnown c e → IsInPlace c e → IsAllowed c.sys c.limits (now c) e
  allowed (E.Seed w s) k p = record { look = k.look; found = k.found; inside = p }
  allowed (E.Learn w cube) k p = record { work = k.work; found = k.found; inside = p k.work }
  allowed (E.Before w (O.Initial u)) k p = record { work = k.work; found = k.found; inside = p k.work }
  allowed (E.Before w (O.Step s)) k p = record { work = k.work; found = k.found; inside = p.0 k.work; before_inside = p.1 k.work }
  allowed (E.Fail w s) k p = record { push = k.push; found = k.found; inside = p k.push }
  allowed (E.Take w job) k p = k
  allowed (E.Return w why) k p = k
  allowed (E.Drop w x) k p = k
  allowed (E.Raise w) k p = k
  allowed (E.Secure w) k p = k
  allowed (E.Advance w) k p = k
  allowed (E.Close w end) k p = k
  allowed (E.Retire w gone by) k p = k

  pub legal-now : (e : Event) → IsKnown c e → IsNow c e → IsLegal c.sys c.limits (now c) e
  legal-now e k n = record { not_ended = n.open_for.not_ended; affordable = n.open_for.affordable; allowed = allowed e k n.in_place }

module _ (sys : System) (order : Order) (limits : Limits) (history : Vec Event) (s : State) (spare picks variables widest : ℕ) (core : IsCore sys order limits history s spare picks variables widest) where
  abbrev here : Machine
  here = replay history.items

  pub small-of : IsSmall s
  small-of =
      let few = history_few sys limits history.items core.legal in
      let most = core.in_range.steps.high in
      let cs = pairs-length here.clauses s.clauses.items _ core.mirror.clauses in
      let os = pairs-length here.obligations s.obligations.items _ core.mirror.obligations in
      record { clauses = omega (arith, few.clauses, few.steps); obligations = omega (arith, few.obligations, few.steps); secure = near (history_sound sys limits history.items core.legal).secure_near }
    where
      near : (here.secure ≡ here.frontier) ⊎ (suc here.secure ≡ here.frontier) → s.secure ≤ s.clauses.frontier
      near (inl e) = let a = core.mirror.secure in let b = core.mirror.frontier in omega (arith, a, b, e)
      near (inr e) = let a = core.mirror.secure in let b = core.mirror.frontier in omega (arith, a, b, e)

  pub steps-low : limits.steps < 2 ^ 32 - 1
  steps-low = let most = core.in_range.steps.high in omega arith

  pub open-of : s.ended ≡ false → here.ending ≡ None
  open-of off = none-of here.ending (core.mirror.ended ∙ off)

  -- a worker that holds a job can report until the end
  pub report-room : (w : ℕ) (g : Given) → held_by here.jobs w ≡ Some g → s.ended ≡ false → 1 ≤ spare
  report-room w g held off =
      let at = held-at here.jobs w g held in
      let lt = get-lt here.jobs at.place at.held at.there in
      omega (arith, lt, core.room.enough (open-of off))

  -- one more legal event
  pub core-next : (e : Event) (h : Vec Event) (t : State) (p : ℕ) → IsLegal sys limits here e → h.items ≡ history.items ++ e ∷ [] → HasRoom p h → HasSpare p t →
      IsMirror sys (history.items ++ e ∷ []) (happens here e) t → ((happens here e).ending ≡ None → length (happens here e).jobs ≤ p) →
      (wide : ℕ) → IsRoomy variables wide (happens here e) → IsCore sys order limits h t p picks variables wide
  core-next e h t p legal items events entries mirror enough wide roomy =
      let is = replay-push history.items e in
      record {
        infer = core.infer;
        in_range = core.in_range;
        legal = subst (Legal sys limits) (sym items) (legal-push sys limits history.items e core.legal legal);
        mirror = subst (λ es. IsMirror sys es (replay es) t) (sym items) (subst (λ n. IsMirror sys (history.items ++ e ∷ []) n t) (sym is) mirror);
        room = record {
          events = events;
          entries = entries;
          enough = subst (λ es. (replay es).ending ≡ None → length (replay es).jobs ≤ p) (sym items) (subst (λ (n : Machine). n.ending ≡ None → length n.jobs ≤ p) (sym is) enough);
        };
        picks_for = record {
          picks_are = core.picks_for.picks_are;
          roomy = subst (λ es. IsRoomy variables wide (replay es)) (sym items) (subst (IsRoomy variables wide) (sym is) roomy);
        };
      }

  -- only the room changes
  pub core-more : (h : Vec Event) (t : State) (p q x : ℕ) → h.items ≡ history.items → HasRoom p h → HasSpare p t → HaveSameLists s t → spare ≤ p → q ≡ x → variables ≤ x →
      IsCore sys order limits h t p q x widest
  core-more h t p q x items events entries same more picks_are wider = record {
    infer = core.infer;
    in_range = core.in_range;
    legal = subst (Legal sys limits) (sym items) core.legal;
    mirror = subst (λ es. IsMirror sys es (replay es) t) (sym items) (mirror-same sys history.items here s t core.mirror same);
    room = record {
      events = events;
      entries = entries;
      enough = subst (λ es. (replay es).ending ≡ None → length (replay es).jobs ≤ p) (sym items) (λ open_one. let le = core.room.enough open_one in omega (arith, le, more));
    };
    picks_for = record {
      picks_are = picks_are;
      roomy = subst (λ es. IsRoomy x widest (replay es)) (sym items) (roomy-more variables widest x widest here wider (omega arith) core.picks_for.roomy);
    };
  }

  pub jobs-are : length here.jobs ≡ vec_len s.jobs
  jobs-are = pairs-length here.jobs s.jobs.items _ core.mirror.jobs ∙ sym s.jobs.ok.0

  pub numbers-are : (n last : ℕ) → n ≡ length s.clauses.items → last ≡ s.clauses.frontier → numbers_of here ≡ record { productive = s.productive; frontier = last; clauses = n }
  numbers-are n last is last_is = numbers-same core.mirror.productive (core.mirror.frontier ∙ sym last_is) (pairs-length here.clauses s.clauses.items _ core.mirror.clauses ∙ sym is)

-- a machine before any event
pub core-new : (sys : System) (order : Order) (limits : Limits) (history : Vec Event) (s : State) (picks : ℕ) → CanInfer sys order → AreInRange limits → history.items ≡ [] → vec_len history ≡ 0 →
    ((sys : System) → IsMirror sys [] start s) → HasSpare 0 s → picks ≡ 0 → IsCore sys order limits history s 0 picks 0 0
core-new sys order limits history s picks infer in_range items len mirror entries none = record {
  infer = infer;
  in_range = in_range;
  legal = subst (Legal sys limits) (sym items) tt;
  mirror = subst (λ es. IsMirror sys es (replay es) s) (sym items) (mirror sys);
  room = record {
    events = omega (arith, len);
    entries = entries;
    enough = subst (λ es. (replay es).ending ≡ None → length (replay es).jobs ≤ 0) (sym items) (λ _. omega arith);
  };
  picks_for = record { picks_are = none; roomy = subst (λ es. IsRoomy 0 0 (replay es)) (sym items) (start-roomy 0 0) };
}
