-- What the tests of events find.
use Rattle.std.proofs.Common.{◌≡◌, ℕ, suc, ◌-◌, ◌<◌, ◌≤◌, length, Option, None, Some, slice_get, refl, sym, ap, subst, ◌∙◌, arith, ◌⊎◌, inl, inr}
use Rattle.std.proofs.lemmas.Bool.{cases_lt}
use Rattle.std.specs.Global.{Vec}
use Rattle.std.specs.Option.{option_and_then}
use Rattle.fo_core.specs.declared.order.Order.{Order}
use Rattle.fo_core.specs.declared.system.System.{System}
use Rattle.fo_core.specs.declared.world.World.{World}
use Rattle.fo_core.specs.Runs.{IsState}
use Rattle.fo_core.specs.Tables.{Fits}
use Rattle.up_claims.specs.Finding.{IsSeed, IsStepInto}
use Rattle.up_claims.specs.Frames.{IsInFrame}
use Rattle.up_machine.specs.declared.event.Event.{Event}
use Rattle.up_machine.specs.declared.event.Event.TheVariants as E
use Rattle.up_machine.specs.declared.event.Origin.{Origin}
use Rattle.up_machine.specs.declared.event.Origin.TheVariants as O
use Rattle.up_machine.specs.declared.limits.Limits.{Limits}
use Rattle.up_machine.specs.Finding.{HoldsWork, state_cube, state_cubes}
use Rattle.up_machine.specs.Machine.{Obligation, Given, Work, Look, Push, Trace, Machine, IsIn, IsFirstRefuter}
use Rattle.up_machine.specs.Replay.{replay}
use Rattle.up_machine.specs.Sound.{IsFit, IsFrameSound, IsSoundOrigin}
use Rattle.up_machine.proofs.Fit.{history_fit}
use Rattle.up_machine.proofs.FrameEvents.{given_sound, history_sound}
use Rattle.up_machine.proofs.Lists.{some_injective, none_is_some}
use Rattle.up_machine.proofs.Origins.{found_seed, found_step, found_fail, history_origins}
use Rattle.up_core.specs.declared.state.ClauseEntry.{ClauseEntry}
use Rattle.up_core.specs.declared.state.ObligationEntry.{ObligationEntry}
use Rattle.up_core.specs.declared.state.State.{State}
use Rattle.up_core.specs.Holding.{IsCore}
use Rattle.up_core.specs.Known.{IsKnown, IsInPlace, FoundIsRefutedBy, KnowsSeed, KnowsStep, KnowsFail, OwnIsIn, StepIsIn, FailIsIn, RefutesOwn, RefutesStep, RefutesFail}
use Rattle.up_core.specs.Mirror.{IsWorldAt, IsObligationOf, IsClauseOf}
use Rattle.up_core.specs.Refuting.{AreTriable, AreTriableForOwn, IsFirstMet, IsFirstOwn, IsOwn, IsFirstBelow, IsFirstPushed, own_in, pushed_in}
use Rattle.up_core.specs.View.{CoreView, now}
use Rattle.up_core.proofs.Grounded.{grounded}
use Rattle.up_core.proofs.Mirrors.{has-entry, work-is, push-is}
use Rattle.up_core.proofs.Pairing.{pairs-right}
use Rattle.up_core.proofs.Refuters.{refuter-of, inside-of, triable}

pub none-left : (o : Option ℕ) → ((k : ℕ) → ¬ (o ≡ Some k)) → o ≡ None
none-left None n = refl
none-left (Some k) n = absurd (n k refl)

-- the level that a job was given
abbrev level_of : Given → ℕ
level_of (Work k level below world) = level
level_of (Look level cubes avoid done) = level
level_of (Push k level cubes cube) = level
level_of (Trace k steps) = steps

module _ (sys : System) (order : Order) (limits : Limits) (history : Vec Event) (s : State) (spare picks variables widest : ℕ) (core : IsCore sys order limits history s spare picks variables widest) where
  abbrev here : Machine
  here = replay history.items

  abbrev view : CoreView
  view = record { sys = sys; order = order; limits = limits; history = history.items; spare = spare; variables = variables }

  fit : IsFit sys here
  fit = history_fit sys limits history.items core.infer.system core.legal

  pub sound : IsFrameSound sys here
  sound = history_sound sys limits history.items core.legal

  -- the world fits, and its copy 0 may be tried against all clauses
  tries : (w : World) (n : ℕ) → Fits sys.sig w → length w.copies ≡ suc n → AreTriable history.items sys.sig w picks s.clauses.items
  tries w n fits copies =
      subst (λ p. AreTriable history.items sys.sig w p s.clauses.items) (sym core.picks_for.picks_are)
      (triable sys history.items here s core.mirror w variables widest core.infer.system fit core.picks_for.roomy fits (omega (arith, copies)))

  -- Seed
  module _ (w : ℕ) (world : World) (known : KnowsSeed view w world) where
    abbrev seed : IsSeed sys known.look.frame (state_cubes sys.sig known.look.avoid) world
    seed = found_seed sys core.infer.system here fit w known.look world known.found

    pub seed-tries : AreTriable history.items sys.sig world picks s.clauses.items
    seed-tries = tries world 0 seed.fits seed.copies

    pub seed-inside : IsFirstMet history.items sys.sig world s.clauses.frontier s.clauses.items None → IsIn sys here here.frontier world 0
    seed-inside none = subst (λ i. IsIn sys here i world 0) (sym core.mirror.frontier) (inside-of sys history.items here s core.mirror world s.clauses.frontier (subst (λ i. 1 ≤ i) core.mirror.frontier sound.begun) seed.state none)

    pub seed-refuted : (k : ℕ) → IsFirstMet history.items sys.sig world s.clauses.frontier s.clauses.items (Some k) → IsFirstRefuter sys here here.frontier world 0 k
    seed-refuted k first = subst (λ i. IsFirstRefuter sys here i world 0 k) (sym core.mirror.frontier) (refuter-of sys history.items here s core.mirror world s.clauses.frontier k (subst (λ i. 1 ≤ i) core.mirror.frontier sound.begun) first)

  -- what is found before an obligation is found by a work
  pub known-work : (w : ℕ) (o : Origin) → IsKnown view (E.Before w o) → HoldsWork (now view) w
  known-work w (O.Initial u) known = known.work
  known-work w (O.Step p) known = known.work

  -- a work's obligation, by its entry
  pub record HasOwn (w : ℕ) (work : HoldsWork (now view) w) : Type 0 where
    pub entry : ObligationEntry
    pub obligation : Obligation
    pub there : slice_get here.obligations work.obligation ≡ Some obligation
    pub own : own_in w s.obligations.items s.jobs.items ≡ Some entry
    pub is : IsObligationOf history.items obligation entry
    pub world_is : obligation.world ≡ work.world
    pub level_is : entry.level ≡ work.level
    pub low : 1 ≤ work.level

  pub has-own : (w : ℕ) (work : HoldsWork (now view) w) → HasOwn w work
  has-own w work =
      let g = Work work.obligation work.level work.below work.world in
      let given = given_sound sys here sound w g work.held in
      let entry = has-entry w g here.jobs s.jobs.items core.mirror.jobs work.held in
      let pair = pairs-right here.obligations s.obligations.items (λ k o x. IsObligationOf history.items o x) core.mirror.obligations work.obligation given.obligation given.there in
      record {
        entry = pair.0;
        obligation = given.obligation;
        there = given.there;
        own = ap (option_and_then (slice_get s.obligations.items)) (work-is w g s.jobs.items entry) ∙ pair.1;
        is = pair.2;
        world_is = given.world_is;
        level_is = sym pair.2.level ∙ given.level_is;
        low = given.low;
      }

  own-world : (w : ℕ) (work : HoldsWork (now view) w) → IsOwn history.items w s work.world work.level
  own-world w work =
      let h = has-own w work in
      record { entry = h.entry; there = h.own; world_is = subst (IsWorldAt history.items h.entry.found) h.world_is h.is.world; level_is = h.level_is }

  origin-of : (w : ℕ) (work : HoldsWork (now view) w) → IsSoundOrigin sys here.obligations (has-own w work).obligation
  origin-of w work = history_origins sys limits history.items core.infer.system core.legal work.obligation (has-own w work).obligation (has-own w work).there

  -- the obligation's own state
  pub own-tries : (w : ℕ) (work : HoldsWork (now view) w) → AreTriableForOwn history.items sys.sig w picks s
  own-tries w work world level own =
      let h = has-own w work in
      let same = some_injective own.entry h.entry (sym own.there ∙ h.own) in
      let at = subst (λ (e : ObligationEntry). IsWorldAt history.items e.found world) same own.world_is in
      let is = some_injective h.obligation.world world (sym h.is.world ∙ at) in
      let origin = origin-of w work in
      let fits = subst (Fits sys.sig) is origin.fits in
      subst (λ p. AreTriable history.items sys.sig world p s.clauses.items) (sym core.picks_for.picks_are)
      (triable sys history.items here s core.mirror world variables widest core.infer.system fit core.picks_for.roomy fits (omega (arith, fits.copies)))

  pub own-inside : (w : ℕ) → IsFirstOwn history.items sys.sig w s None → OwnIsIn view w
  own-inside w none work =
      let h = has-own w work in
      let state = subst (λ x. IsState sys x 0) h.world_is (origin-of w work).state in
      inside-of sys history.items here s core.mirror work.world work.level h.low state (none work.world work.level (own-world w work))

  pub own-refuted : (w k : ℕ) → HoldsWork (now view) w → IsFirstOwn history.items sys.sig w s (Some k) → RefutesOwn view w k
  own-refuted w k work first = record { work = work; refuter = refuter-of sys history.items here s core.mirror work.world work.level k (has-own w work).low (first work.world work.level (own-world w work)) }

  -- Before with a step
  module _ (w : ℕ) (p : World) (known : KnowsStep view w p) where
    abbrev stepping : IsStepInto sys known.work.below (state_cube sys.sig known.work.world) p
    stepping = found_step sys core.infer.system here fit w known.work p known.found.least

    pub step-tries : AreTriable history.items sys.sig p picks s.clauses.items
    step-tries = tries p 1 stepping.fits stepping.copies

    -- two works of a worker are one
    same-work : (work : HoldsWork (now view) w) → Work known.work.obligation known.work.level known.work.below known.work.world ≡ Work work.obligation work.level work.below work.world
    same-work work = some_injective _ _ (sym known.work.held ∙ work.held)

    step-in : IsFirstBelow history.items sys.sig p w s None → IsIn sys here (known.work.level - 1) p 0
    step-in none = by (cases_lt known.work.level 2)
      where
        h : HasOwn w known.work
        h = has-own w known.work

        by : (known.work.level < 2) ⊎ (2 ≤ known.work.level) → IsIn sys here (known.work.level - 1) p 0
        by (inr le) =
            inside-of sys history.items here s core.mirror p (known.work.level - 1) (omega (arith, le)) stepping.step.state
            (subst (λ i. IsFirstMet history.items sys.sig p (i - 1) s.clauses.items None) h.level_is (none.high h.entry h.own (omega (arith, le, h.level_is))))
        by (inl lt) =
            let zero_is : known.work.level - 1 ≡ 0 = omega (arith, lt) in
            let below = grounded sys limits history.items core.legal w _ known.work.held zero_is in
            subst (λ i. IsIn sys here i p 0) (sym zero_is) (subst (λ b. IsInFrame sys b p 0) below stepping.in_frame)

    pub step-inside : IsFirstBelow history.items sys.sig p w s None → StepIsIn view w p
    step-inside none work = subst (λ n. IsIn sys here (n - 1) p 0) (ap level_of (same-work work)) (step-in none)

    pub step-refuted : (k : ℕ) → IsIn sys here known.work.level known.work.world 0 → IsFirstBelow history.items sys.sig p w s (Some k) → RefutesStep view w p k
    step-refuted k inside first = by (cases_lt known.work.level 2)
      where
        h : HasOwn w known.work
        h = has-own w known.work

        by : (known.work.level < 2) ⊎ (2 ≤ known.work.level) → RefutesStep view w p k
        by (inr le) = record {
          work = known.work;
          inside = inside;
          refuter =
              refuter-of sys history.items here s core.mirror p (known.work.level - 1) k (omega (arith, le))
              (subst (λ i. IsFirstMet history.items sys.sig p (i - 1) s.clauses.items (Some k)) h.level_is (first.high h.entry h.own (omega (arith, le, h.level_is))));
        }
        by (inl lt) = none_is_some k (sym (first.low h.entry h.own (omega (arith, lt, h.level_is))))

  -- Before, by what was found
  pub step-known : (w : ℕ) (o : Origin) (p : World) → o ≡ O.Step p → IsKnown view (E.Before w o) → KnowsStep view w p
  step-known w o p is known = subst (λ x. IsKnown view (E.Before w x)) is known

  pub before-refuted : (w : ℕ) (o : Origin) (p : World) (k : ℕ) → o ≡ O.Step p → IsKnown view (E.Before w o) → IsFirstOwn history.items sys.sig w s None → IsFirstBelow history.items sys.sig p w s (Some k) →
      FoundIsRefutedBy view (E.Before w o) k
  before-refuted w o p k is known own first =
      let kn = step-known w o p is known in
      subst (λ x. FoundIsRefutedBy view (E.Before w x) k) (sym is) (step-refuted w p kn k (own-inside w own kn.work) first)

  pub before-step : (w : ℕ) (o : Origin) (p : World) → o ≡ O.Step p → IsKnown view (E.Before w o) → IsFirstOwn history.items sys.sig w s None → IsFirstBelow history.items sys.sig p w s None → IsInPlace view (E.Before w o)
  before-step w o p is known own first = subst (λ x. IsInPlace view (E.Before w x)) (sym is) (own-inside w own, step-inside w p (step-known w o p is known) first)

  pub before-initial : (w : ℕ) (o : Origin) → ((p : World) → ¬ (o ≡ O.Step p)) → IsFirstOwn history.items sys.sig w s None → IsInPlace view (E.Before w o)
  before-initial w (O.Initial u) other own = own-inside w own
  before-initial w (O.Step p) other own = absurd (other p refl)

  -- Fail
  module _ (w : ℕ) (p : World) (known : KnowsFail view w p) where
    abbrev failing : IsStepInto sys (Some known.push.frame) known.push.cube p
    failing = found_fail sys core.infer.system here fit w known.push p known.found

    pub fail-tries : AreTriable history.items sys.sig p picks s.clauses.items
    fail-tries = tries p 1 failing.fits failing.copies

    pub record HasPushed : Type 0 where
      pub entry : ClauseEntry
      pub pushed : pushed_in w s.clauses.items s.jobs.items ≡ Some entry
      pub level_is : entry.level ≡ known.push.level
      pub low : 1 ≤ known.push.level

    has-pushed : HasPushed
    has-pushed =
        let push = known.push in
        let g = Push push.clause push.level push.frame push.cube in
        let given = given_sound sys here sound w g push.held in
        let entry = has-entry w g here.jobs s.jobs.items core.mirror.jobs push.held in
        let pair = pairs-right here.clauses s.clauses.items (λ k c x. IsClauseOf history.items sys here k c x) core.mirror.clauses push.clause given.clause given.there in
        record {
          entry = pair.0;
          pushed = ap (option_and_then (slice_get s.clauses.items)) (push-is w g s.jobs.items entry) ∙ pair.1;
          level_is = sym pair.2.level ∙ given.level_is;
          low = subst (λ n. 1 ≤ n) given.level_is (sound.each_clause push.clause given.clause given.there).low;
        }

    fail-first : (o : Option ℕ) → IsFirstPushed history.items sys.sig p w s o → IsFirstMet history.items sys.sig p known.push.level s.clauses.items o
    fail-first o first = let h = has-pushed in subst (λ i. IsFirstMet history.items sys.sig p i s.clauses.items o) h.level_is (first h.entry h.pushed)

    pub fail-in : IsFirstPushed history.items sys.sig p w s None → IsIn sys here known.push.level p 0
    fail-in none = inside-of sys history.items here s core.mirror p known.push.level has-pushed.low failing.step.state (fail-first None none)

    pub fail-inside : IsFirstPushed history.items sys.sig p w s None → FailIsIn view w p
    fail-inside none push = subst (λ n. IsIn sys here n p 0) (ap level_of (some_injective _ _ (sym known.push.held ∙ push.held))) (fail-in none)

    pub fail-refuted : (k : ℕ) → IsFirstPushed history.items sys.sig p w s (Some k) → RefutesFail view w p k
    fail-refuted k first = record { push = known.push; refuter = refuter-of sys history.items here s core.mirror p known.push.level k has-pushed.low (fail-first (Some k) first) }
