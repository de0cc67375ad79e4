-- The machine in code after a clause is learnt or rises.
use Rattle.std.proofs.Common.{◌≡◌, ℕ, ◌+◌, ◌-◌, ◌<◌, ◌≤◌, true, length, Some, slice_get, refl, sym, ap, subst, ◌∙◌, arith}
use Rattle.std.specs.Global.{Vec}
use Rattle.std.specs.Option.{option_and_then}
use Rattle.fo_core.specs.declared.order.Order.{Order}
use Rattle.fo_core.specs.declared.system.System.{System}
use Rattle.fo_core.specs.declared.world.World.{World}
use Rattle.fo_core.specs.Tables.{Fits}
use Rattle.up_diagram.specs.declared.cube.Cube.{Cube}
use Rattle.up_diagram.specs.Cubes.{IsCube}
use Rattle.up_claims.specs.Blocked.{IsBlocked}
use Rattle.up_machine.specs.declared.event.Event.{Event}
use Rattle.up_machine.specs.declared.event.Event.TheVariants as E
use Rattle.up_machine.specs.declared.limits.Limits.{Limits}
use Rattle.up_machine.specs.Machine.{Clause, Given, Work, Push, Machine}
use Rattle.up_machine.specs.Replay.{clauses_after, replay}
use Rattle.up_machine.specs.Sound.{IsFit, IsFrameSound, AreSoundFails}
use Rattle.up_machine.proofs.Fails.{history_fails}
use Rattle.up_machine.proofs.Fit.{history_fit, event_fit}
use Rattle.up_machine.proofs.FrameEvents.{given_sound, history_sound}
use Rattle.up_machine.proofs.Holding.{held-at}
use Rattle.up_machine.proofs.Lists.{none_is_some, some_injective}
use Rattle.up_machine.proofs.Waiting.{get-last}
use Rattle.up_core.specs.declared.state.ClauseEntry.{ClauseEntry}
use Rattle.up_core.specs.declared.state.State.{State}
use Rattle.up_core.specs.Becoming.{IsState}
use Rattle.up_core.specs.Holding.{IsCore}
use Rattle.up_core.specs.Known.{IsKnown, IsNow}
use Rattle.up_core.specs.Lapsing.{AreLapsable, CanHit, CanRise, IsLearnt, IsRaised}
use Rattle.up_core.specs.Mirror.{IsValidPush, IsValidAt, IsClauseOf}
use Rattle.up_core.specs.Refuting.{pushed_in}
use Rattle.up_core.specs.Room.{IsRoomyFor}
use Rattle.up_core.specs.Steps.{finished, work_in, push_in, others_of}
use Rattle.up_core.specs.View.{CoreView}
use Rattle.up_core.proofs.Counts.{history_few}
use Rattle.up_core.proofs.EventCores.{IsLonger}
use Rattle.up_core.proofs.Mirrors.{has-entry, push-is}
use Rattle.up_core.proofs.Narrow.{learnt-narrow}
use Rattle.up_core.proofs.NextCores.{legal-now}
use Rattle.up_core.proofs.Pairing.{pairs-left, pairs-right}
use Rattle.up_core.proofs.Taught.{learn-next, raise-next}
use Rattle.up_core.proofs.WorldCores.{KeepsRoom, report}

module _ (sys : System) (order : Order) (limits : Limits) (history : Vec Event) (s : State) (spare picks variables widest : ℕ) (core : IsCore sys order limits history s spare picks variables widest) where
  abbrev here : Machine
  here = replay history.items

  abbrev view : CoreView
  view = record { sys = sys; order = order; limits = limits; history = history.items; spare = spare; variables = variables }

  fit : IsFit sys here
  fit = history_fit sys limits history.items core.infer.system core.legal

  sound : IsFrameSound sys here
  sound = history_sound sys limits history.items core.legal

  fails : AreSoundFails sys here
  fails = history_fails sys limits history.items core.infer.system core.legal

  -- the world of a valid failed push may be tried against a well-sorted cube
  can-meet : (cube : Cube) → IsCube sys.sig cube → (k : ℕ) (e : ClauseEntry) → slice_get s.clauses.items k ≡ Some e → (place : ℕ) → e.failed ≡ Some place → CanHit history.items sys.sig cube place
  can-meet cube sorted k e there place failed world at =
      let r = pairs-left here.clauses s.clauses.items (λ k c x. IsClauseOf history.items sys here k c x) core.mirror.clauses k e there in
      let p : IsValidAt history.items sys here k r.0 place = subst (IsValidPush history.items sys here k r.0) failed r.2.failed in
      let f = fails p.number p.failed p.there in
      let is = some_injective p.failed.step world (sym p.step ∙ at) in
      record {
        signature = core.infer.system.signature;
        fits = subst (Fits sys.sig) is f.fits;
        copy = subst (λ (w : World). 0 < length w.copies) is (omega (arith, f.copies));
        sorted = sorted;
      }

  -- and its clause is live
  still-live : (k : ℕ) (e : ClauseEntry) → slice_get s.clauses.items k ≡ Some e → (place : ℕ) → e.failed ≡ Some place → e.live ≡ true
  still-live k e there place failed =
      let r = pairs-left here.clauses s.clauses.items (λ k c x. IsClauseOf history.items sys here k c x) core.mirror.clauses k e there in
      let p : IsValidAt history.items sys here k r.0 place = subst (IsValidPush history.items sys here k r.0) failed r.2.failed in
      sym r.2.live ∙ p.valid.live

  lapsable : (cube : Cube) (low high : ℕ) → IsCube sys.sig cube → AreLapsable history.items sys.sig cube low high s.clauses.items
  lapsable cube low high sorted k e there = record { meet = can-meet cube sorted k e there; live = still-live k e there }

  -- what is learnt is well-sorted and narrow
  module _ (w : ℕ) (cube : Cube) (known : IsKnown view (E.Learn w cube)) (now_is : IsNow view (E.Learn w cube)) where
    abbrev given : Given
    given = Work known.work.obligation known.work.level known.work.below known.work.world

    learnt-sorted : IsCube sys.sig cube
    learnt-sorted =
        let after = event_fit sys core.infer.system here fit limits (E.Learn w cube) (legal-now view (E.Learn w cube) known now_is) in
        let new : Clause = record { cube = cube; level = known.work.level; live = true } in
        after.cubes (length here.clauses) new
        (subst (λ j. slice_get (clauses_after (E.Learn w cube) j here.clauses) (length here.clauses) ≡ Some new) (sym known.work.held) (get-last here.clauses new))

    pub learnt-fits : length cube.sorts ≤ variables
    learnt-fits =
        let narrow = learnt-narrow (IsBlocked sys known.work.below) sys.sig known.work.world cube known.found.pass in
        let at = held-at here.jobs w given known.work.held in
        let roomy : IsRoomyFor variables given = subst (IsRoomyFor variables) at.given (core.picks_for.roomy.works at.place at.held at.there) in
        omega (arith, narrow, roomy)

    pub learnt-picks : length cube.sorts ≤ picks
    learnt-picks = let fits = learnt-fits in let is = core.picks_for.picks_are in omega (arith, fits, is)

    pub learn-lapsable : (high : ℕ) → AreLapsable history.items sys.sig cube 0 high s.clauses.items
    learn-lapsable high = lapsable cube 0 high learnt-sorted

    pub learn-core : (h : Vec Event) (t : State) (level n : ℕ) → known.work.level ≡ level → n ≡ length history.items → IsLonger history (E.Learn w cube) h → KeepsRoom sys order limits history s spare picks variables widest core t →
        IsLearnt history.items sys.sig cube level n s.clauses.items t.clauses.items →
        IsState t t.clauses.items (finished (work_in w s.jobs.items) s.obligations.items) (others_of w s.jobs.items) s.clauses.frontier s.secure s.calm (s.productive + 1) s.ended →
        IsCore sys order limits h t (spare - 1) picks variables widest
    learn-core h t level n level_is found_is longer room learnt is =
        report sys order limits history s spare picks variables widest core (E.Learn w cube) w given h t widest (omega arith)
        (record { cubes = λ c e. subst (λ (x : Cube). length x.sorts ≤ variables) (some_injective cube c e) learnt-fits; states = λ o e. none_is_some o e; taken = tt }) known.work.held known now_is refl longer room
        (learn-next sys limits history.items s t core.infer.system core.legal core.mirror w cube known.work level level_is (subst (λ n. IsLearnt history.items sys.sig cube level n s.clauses.items t.clauses.items) found_is learnt) is)

  -- what rises
  module _ (w : ℕ) (known : IsKnown view (E.Raise w)) where
    abbrev pushed : Given
    pushed = Push known.push.clause known.push.level known.push.frame known.push.cube

    pub can-rise : (x : ClauseEntry) → pushed_in w s.clauses.items s.jobs.items ≡ Some x → CanRise history.items sys.sig picks s.clauses.items x
    can-rise x is =
        let k = known.push.clause in
        let given = given_sound sys here sound w pushed known.push.held in
        let entry = has-entry w pushed here.jobs s.jobs.items core.mirror.jobs known.push.held in
        let pair = pairs-right here.clauses s.clauses.items (λ k c x. IsClauseOf history.items sys here k c x) core.mirror.clauses k given.clause given.there in
        let same = some_injective pair.0 x (sym (ap (option_and_then (slice_get s.clauses.items)) (push-is w pushed s.jobs.items entry) ∙ pair.1) ∙ is) in
        let own : IsClauseOf history.items sys here k given.clause x = subst (IsClauseOf history.items sys here k given.clause) same pair.2 in
        let few = history_few sys limits history.items core.legal in
        let most = core.in_range.steps.high in
        record {
          level = omega (arith, own.level, given.level_is, given.high, few.frontier, few.steps);
          meet = λ cube at. subst (λ q. AreLapsable history.items sys.sig q (x.level + 1) (x.level + 1) s.clauses.items) (some_injective given.clause.cube cube (sym own.cube ∙ at)) (lapsable given.clause.cube (x.level + 1) (x.level + 1) (fit.cubes k given.clause given.there));
          fits = λ cube at. subst (λ (q : Cube). length q.sorts ≤ picks) (some_injective given.clause.cube cube (sym own.cube ∙ at)) (subst (λ n. length given.clause.cube.sorts ≤ n) (sym core.picks_for.picks_are) (core.picks_for.roomy.cubes k given.clause given.there));
        }

    pub raise-core : (h : Vec Event) (t : State) → IsNow view (E.Raise w) → IsLonger history (E.Raise w) h → KeepsRoom sys order limits history s spare picks variables widest core t →
        ((x : ClauseEntry) → pushed_in w s.clauses.items s.jobs.items ≡ Some x → IsRaised history.items sys.sig (push_in w s.jobs.items) s.clauses.items t.clauses.items x) →
        IsState t t.clauses.items s.obligations.items (others_of w s.jobs.items) s.clauses.frontier s.secure s.calm (s.productive + 1) s.ended →
        IsCore sys order limits h t (spare - 1) picks variables widest
    raise-core h t now_is longer room rises is =
        report sys order limits history s spare picks variables widest core (E.Raise w) w pushed h t widest (omega arith)
        (record { cubes = λ c e. none_is_some c e; states = λ o e. none_is_some o e; taken = tt }) known.push.held known now_is refl longer room
        (raise-next sys limits history.items s t core.infer.system core.legal core.mirror w known.push rises is)
