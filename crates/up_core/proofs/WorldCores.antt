-- The machine in code after an event that brings a world or makes a clause go.
use Rattle.std.proofs.Common.{◌≡◌, ℕ, ◌+◌, ◌-◌, ◌<◌, ◌≤◌, true, false, [], ◌∷◌, ◌++◌, length, sum, None, Some, is_some, refl, sym, ap, subst, ◌∙◌, arith}
use Rattle.std.specs.Global.{Vec}
use Rattle.std.specs.Vec.{vec_len, vec_capacity}
use Rattle.std.specs.Option.{option_to_list}
use Rattle.std.specs.Prelude.{Result, Ok, Err, MatchResult}
use Rattle.fo_core.specs.declared.order.Order.{Order}
use Rattle.fo_core.specs.declared.system.System.{System}
use Rattle.fo_core.specs.declared.world.World.{World}
use Rattle.up_machine.specs.declared.event.Event.{Event}
use Rattle.up_machine.specs.declared.event.Event.TheVariants as E
use Rattle.up_machine.specs.declared.event.Origin.{Origin}
use Rattle.up_machine.specs.declared.event.Origin.TheVariants as O
use Rattle.up_machine.specs.declared.limits.Limits.{Limits}
use Rattle.up_machine.specs.Legal.{IsLegal}
use Rattle.up_machine.specs.Machine.{Given, Machine, held_by}
use Rattle.up_machine.specs.Replay.{change_at, happens, replay, released, is_productive}
use Rattle.up_machine.proofs.Lists.{none_is_some, some_injective}
use Rattle.up_core.specs.declared.state.State.{State}
use Rattle.up_core.specs.declared.state.Progress.TheVariants as P
use Rattle.up_core.specs.Becoming.{IsState, IsPreceded}
use Rattle.up_core.specs.Holding.{IsCore}
use Rattle.up_core.specs.Known.{IsKnown, IsNow}
use Rattle.up_core.specs.Mirror.{IsMirror}
use Rattle.up_core.specs.Room.{HasRoom, HasSpare}
use Rattle.up_core.specs.Steps.{change_where, with_progress, entry_before, failed_entry, gone_entry, work_in, push_in, others_of}
use Rattle.up_core.specs.View.{CoreView, elements_in}
use Rattle.up_core.proofs.Brought.{seed-next, root-next, precede-next, fail-next, retire-next}
use Rattle.up_core.proofs.EventCores.{IsLonger, spare-down}
use Rattle.up_core.proofs.Marks.{clauses-go}
use Rattle.up_core.proofs.NextCores.{core-next, report-room, legal-now, released-fewer}
use Rattle.up_core.proofs.Roomy.{BringsFit, roomy-next, roomy-more}
use Rattle.up_core.proofs.Tried.{sound}

-- what is so where a call wasn't refused
pub ok-of : {T F : Type 0} {P : Type 0} (Q : F → Type 0) (r : Result T F) → MatchResult r (λ _. P) Q → ((e : F) → ¬ (r ≡ Err e)) → P
ok-of Q (Ok x) h n = h
ok-of Q (Err e) h n = absurd (n e refl)

module _ (sys : System) (order : Order) (limits : Limits) (history : Vec Event) (s : State) (spare picks variables widest : ℕ) (core : IsCore sys order limits history s spare picks variables widest) where
  abbrev here : Machine
  here = replay history.items

  abbrev view : CoreView
  view = record { sys = sys; order = order; limits = limits; history = history.items; spare = spare; variables = variables }

  abbrev pub KeepsRoom : State → Type 0
  KeepsRoom t = (n : ℕ) → HasSpare (n + 1) s → HasSpare n t

  pub off-of : (e : Event) → IsNow view e → s.ended ≡ false
  off-of e now_is = sym core.mirror.ended ∙ ap is_some now_is.open_for.not_ended

  pub paid-low : s.productive < limits.steps → s.productive + 1 < 4294967296
  paid-low lt = let most = core.in_range.steps.high in omega (arith, lt)

  -- what an event that can be made now finds
  pub now-paid : (e : Event) → is_productive e ≡ true → IsNow view e → s.productive + 1 < 4294967296
  now-paid e paid now_is = paid-low (subst (λ n. n < limits.steps) core.mirror.productive (now_is.open_for.affordable paid))

  pub now-some : (e : Event) (w : ℕ) (g : Given) → held_by here.jobs w ≡ Some g → IsNow view e → 1 ≤ spare
  now-some e w g held now_is = report-room sys order limits history s spare picks variables widest core w g held (off-of e now_is)

  pub now-spare : (e : Event) (w : ℕ) (g : Given) → held_by here.jobs w ≡ Some g → IsNow view e → HasSpare 1 s
  now-spare e w g held now_is = spare-down spare 1 s (now-some e w g held now_is) core.room.entries

  pub now-push : (e : Event) (w : ℕ) (g : Given) → held_by here.jobs w ≡ Some g → IsNow view e → vec_len history < vec_capacity history
  now-push e w g held now_is = let some = now-some e w g held now_is in omega (arith, core.room.events, some)

  step : (e : Event) (h : Vec Event) (t : State) (wide : ℕ) → widest ≤ wide → BringsFit variables wide here e → 1 ≤ spare → IsLegal sys limits here e → IsLonger history e h → KeepsRoom t →
      IsMirror sys (history.items ++ e ∷ []) (happens here e) t → ((happens here e).ending ≡ None → length (happens here e).jobs ≤ spare - 1) → IsCore sys order limits h t (spare - 1) picks variables wide
  step e h t wide wider brings some legal longer room mirror enough =
      let a = longer.len in
      let b = longer.capacity in
      let events : HasRoom (spare - 1) h = omega (arith, core.room.events, a, b) in
      core-next sys order limits history s spare picks variables widest core e h t (spare - 1) legal longer.items events (room (spare - 1) (spare-down spare (spare - 1 + 1) s (omega arith) core.room.entries)) mirror enough wide
      (roomy-next variables wide here e (roomy-more variables widest variables wide here (omega arith) wider core.picks_for.roomy) brings)

  -- a report that is known to be possible now
  pub report : (e : Event) (w : ℕ) (g : Given) (h : Vec Event) (t : State) (wide : ℕ) → widest ≤ wide → BringsFit variables wide here e → held_by here.jobs w ≡ Some g → IsKnown view e → IsNow view e →
      (happens here e).jobs ≡ released w here.jobs → IsLonger history e h → KeepsRoom t → IsMirror sys (history.items ++ e ∷ []) (happens here e) t → IsCore sys order limits h t (spare - 1) picks variables wide
  report e w g h t wide wider brings held known now_is jobs longer room mirror =
      step e h t wide wider brings (report-room sys order limits history s spare picks variables widest core w g held (off-of e now_is)) (legal-now view e known now_is) longer room mirror
      (λ _.
      let fewer = released-fewer w here.jobs g held in
      let enough = core.room.enough now_is.open_for.not_ended in
      let same = ap length jobs in
      omega (arith, fewer, enough, same))

  abbrev found : ℕ
  found = length history.items

  pub seed-core : (w : ℕ) (world : World) (h : Vec Event) (t : State) (wide : ℕ) → widest ≤ wide → sum world.sizes ≤ wide → IsKnown view (E.Seed w world) → IsNow view (E.Seed w world) → IsLonger history (E.Seed w world) h → KeepsRoom t →
      IsState t s.clauses.items (s.obligations.items ++ record { level = s.clauses.frontier; found = found; parent = None; progress = P.Ready } ∷ []) (others_of w s.jobs.items) s.clauses.frontier s.secure s.calm (s.productive + 1) s.ended →
      IsCore sys order limits h t (spare - 1) picks variables wide
  seed-core w world h t wide wider fits known now_is longer room is =
      report (E.Seed w world) w _ h t wide wider
      (record { cubes = λ c e. none_is_some c e; states = λ o e. subst (λ (x : World). sum x.sizes ≤ wide) (some_injective world o e) fits; taken = tt }) known.look.held known now_is refl longer room
      (seed-next sys history.items here s t core.mirror w world is)

  root-core : (w : ℕ) (u : World) (h : Vec Event) (t : State) (wide : ℕ) → widest ≤ wide → IsKnown view (E.Before w (O.Initial u)) → IsNow view (E.Before w (O.Initial u)) → IsLonger history (E.Before w (O.Initial u)) h → KeepsRoom t →
      IsState t s.clauses.items (change_where (work_in w s.jobs.items) (with_progress (P.Rooted found)) s.obligations.items) (others_of w s.jobs.items) s.clauses.frontier s.secure s.calm (s.productive + 1) s.ended →
      IsCore sys order limits h t (spare - 1) picks variables wide
  root-core w u h t wide wider known now_is longer room is =
      report (E.Before w (O.Initial u)) w _ h t wide wider (record { cubes = λ c e. none_is_some c e; states = λ o e. none_is_some o e; taken = tt }) known.work.held known now_is refl longer room
      (root-next sys history.items here s t core.mirror w u known.work is)

  precede-core : (w : ℕ) (p : World) (h : Vec Event) (t : State) (wide : ℕ) → widest ≤ wide → sum p.sizes ≤ wide → IsKnown view (E.Before w (O.Step p)) → IsNow view (E.Before w (O.Step p)) → IsLonger history (E.Before w (O.Step p)) h → KeepsRoom t →
      IsState t s.clauses.items (change_where (work_in w s.jobs.items) (with_progress P.Waiting) s.obligations.items ++ option_to_list (entry_before s.obligations.items (work_in w s.jobs.items) found)) (others_of w s.jobs.items) s.clauses.frontier s.secure s.calm (s.productive + 1) s.ended →
      IsCore sys order limits h t (spare - 1) picks variables wide
  precede-core w p h t wide wider fits known now_is longer room is =
      report (E.Before w (O.Step p)) w _ h t wide wider
      (record { cubes = λ c e. none_is_some c e; states = λ o e. subst (λ (x : World). sum x.sizes ≤ wide) (some_injective p o e) fits; taken = tt }) known.work.held known now_is refl longer room
      (precede-next sys history.items here s t core.mirror w p known.work (sound sys order limits history s spare picks variables widest core) is)

  pub before-core : (w : ℕ) (o : Origin) (h : Vec Event) (t : State) (wide : ℕ) → widest ≤ wide → elements_in o ≤ wide → IsKnown view (E.Before w o) → IsNow view (E.Before w o) → IsLonger history (E.Before w o) h → KeepsRoom t →
      IsPreceded o w found s t → IsCore sys order limits h t (spare - 1) picks variables wide
  before-core w (O.Initial u) h t wide wider fits known now_is longer room is = root-core w u h t wide wider known now_is longer room is
  before-core w (O.Step p) h t wide wider fits known now_is longer room is = precede-core w p h t wide wider fits known now_is longer room is

  pub fail-core : (w : ℕ) (p : World) (h : Vec Event) (t : State) → IsKnown view (E.Fail w p) → IsNow view (E.Fail w p) → IsLonger history (E.Fail w p) h → KeepsRoom t →
      IsState t (change_where (push_in w s.jobs.items) (failed_entry found) s.clauses.items) s.obligations.items (others_of w s.jobs.items) s.clauses.frontier s.secure s.calm (s.productive + 1) s.ended →
      IsCore sys order limits h t (spare - 1) picks variables widest
  fail-core w p h t known now_is longer room is =
      report (E.Fail w p) w _ h t widest (omega arith) (record { cubes = λ c e. none_is_some c e; states = λ o e. none_is_some o e; taken = tt }) known.push.held known now_is refl longer room
      (fail-next sys history.items here s t core.mirror w p known.push (sound sys order limits history s spare picks variables widest core) (now_is.in_place known.push) is)

  pub retire-core : (w gone by : ℕ) (h : Vec Event) (t : State) → length here.jobs + 1 ≤ spare → IsLegal sys limits here (E.Retire w gone by) → IsLonger history (E.Retire w gone by) h → KeepsRoom t →
      IsState t (change_at gone gone_entry s.clauses.items) s.obligations.items s.jobs.items s.clauses.frontier s.secure s.calm s.productive s.ended →
      IsCore sys order limits h t (spare - 1) picks variables widest
  retire-core w gone by h t some legal longer room is =
      step (E.Retire w gone by) h t widest (omega arith) (record { cubes = λ c e. none_is_some c e; states = λ o e. none_is_some o e; taken = tt }) (omega (arith, some)) legal longer room
      (retire-next sys history.items here s t core.mirror w gone by (clauses-go sys limits history.items w gone by core.legal legal s.clauses.items core.mirror.clauses) is)
      (λ _. omega (arith, some))

  -- the same, where the place of the event is told as it was found
  pub seed-core-at : (n : ℕ) → n ≡ found → (w : ℕ) (world : World) (h : Vec Event) (t : State) (wide : ℕ) → widest ≤ wide → sum world.sizes ≤ wide → IsKnown view (E.Seed w world) → IsNow view (E.Seed w world) → IsLonger history (E.Seed w world) h → KeepsRoom t →
      IsState t s.clauses.items (s.obligations.items ++ record { level = s.clauses.frontier; found = n; parent = None; progress = P.Ready } ∷ []) (others_of w s.jobs.items) s.clauses.frontier s.secure s.calm (s.productive + 1) s.ended →
      IsCore sys order limits h t (spare - 1) picks variables wide
  seed-core-at n e w world h t wide wider fits known now_is longer room is =
      seed-core w world h t wide wider fits known now_is longer room
      (subst (λ n. IsState t s.clauses.items (s.obligations.items ++ record { level = s.clauses.frontier; found = n; parent = None; progress = P.Ready } ∷ []) (others_of w s.jobs.items) s.clauses.frontier s.secure s.calm (s.productive + 1) s.ended) e is)

  pub before-core-at : (n : ℕ) → n ≡ found → (w : ℕ) (o : Origin) (h : Vec Event) (t : State) (wide : ℕ) → widest ≤ wide → elements_in o ≤ wide → IsKnown view (E.Before w o) → IsNow view (E.Before w o) → IsLonger history (E.Before w o) h → KeepsRoom t →
      IsPreceded o w n s t → IsCore sys order limits h t (spare - 1) picks variables wide
  before-core-at n e w o h t wide wider fits known now_is longer room is = before-core w o h t wide wider fits known now_is longer room (subst (λ n. IsPreceded o w n s t) e is)

  pub fail-core-at : (n : ℕ) → n ≡ found → (w : ℕ) (p : World) (h : Vec Event) (t : State) → IsKnown view (E.Fail w p) → IsNow view (E.Fail w p) → IsLonger history (E.Fail w p) h → KeepsRoom t →
      IsState t (change_where (push_in w s.jobs.items) (failed_entry n) s.clauses.items) s.obligations.items (others_of w s.jobs.items) s.clauses.frontier s.secure s.calm (s.productive + 1) s.ended →
      IsCore sys order limits h t (spare - 1) picks variables widest
  fail-core-at n e w p h t known now_is longer room is =
      fail-core w p h t known now_is longer room (subst (λ n. IsState t (change_where (push_in w s.jobs.items) (failed_entry n) s.clauses.items) s.obligations.items (others_of w s.jobs.items) s.clauses.frontier s.secure s.calm (s.productive + 1) s.ended) e is)
