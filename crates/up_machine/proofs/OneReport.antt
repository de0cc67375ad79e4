-- A seat has at most one report.
use Rattle.std.proofs.Common.{◌≡◌, ℕ, zero, suc, ◌-◌, ◌<◌, ◌≤◌, ◌≢◌, ◌⊎◌, inl, inr, List, [], Option, Some, refl, sym, ap, ap₂, subst, ◌∙◌, arith}
use Rattle.std.specs.List.{All}
use Rattle.std.proofs.lemmas.Bool.{cases_order}
use Rattle.fo_core.specs.declared.system.System.{System}
use Rattle.fo_core.specs.declared.world.World.{World}
use Rattle.fo_core.specs.Least.{IsLeast}
use Rattle.fo_core.specs.Sorted.{IsSystem}
use Rattle.fo_core.specs.Tables.{Fits}
use Rattle.fo_core.proofs.ListFacts.{all_mapped, all_as}
use Rattle.fo_least.proofs.OneLeast.{one_least}
use Rattle.fo_min.specs.declared.found.Excess.{Excess}
use Rattle.up_diagram.specs.declared.cube.Cube.{Cube}
use Rattle.up_diagram.specs.Cubes.{IsCube}
use Rattle.up_claims.specs.declared.kind.Kind.{Kind}
use Rattle.up_claims.specs.Blocked.{NoInitial, NoStep, IsBlocked}
use Rattle.up_claims.specs.Frames.{IsFrame}
use Rattle.up_claims.specs.InferAsked.{IsFirstAbove}
use Rattle.up_claims.specs.InferQueries.{seed_query, root_query, before_query}
use Rattle.up_claims.specs.RunQueries.{run_query, HasNoRunOf, IsLeastRun}
use Rattle.up_claims.proofs.InferLemmas.{asks-seed, asks-root, asks-before}
use Rattle.up_claims.proofs.PassLemmas.{one-pass}
use Rattle.up_claims.proofs.UnrollLemmas.{meaning-unroll}
use Rattle.up_machine.specs.declared.limits.Limits.{Limits}
use Rattle.up_machine.specs.declared.event.Why.TheVariants as Y
use Rattle.up_machine.specs.declared.event.Origin.TheVariants as O
use Rattle.up_machine.specs.declared.end.End.TheVariants as N
use Rattle.up_machine.specs.declared.event.Event.{Event}
use Rattle.up_machine.specs.declared.event.Event.TheVariants as E
use Rattle.up_machine.specs.Machine.{Given, Work, Look, Push, Trace, Machine, IsIn, IsFirstRefuter, held_by}
use Rattle.up_machine.specs.Replay.{replay}
use Rattle.up_machine.specs.Finding.{state_cube, state_cubes, asked_by}
use Rattle.up_machine.specs.Legal.{IsLeastSeed, HasNoSeed, IsLeastRoot, IsLeastStep, IsFoundStep, IsFoundCube, MayRefute, of_seed, of_step, of_fail, IsLegal, Legal}
use Rattle.up_machine.specs.Rounds.{IsOver, IsReport}
use Rattle.up_machine.specs.Sound.{IsFitGiven, IsFit}
use Rattle.up_machine.proofs.Lists.{some_injective}
use Rattle.up_machine.proofs.Frames.{avoids-each}
use Rattle.up_machine.proofs.Fit.{state_sorted, given_fit, history_fit}
use Rattle.up_machine.proofs.OneAbove.{above_one}
use Rattle.up_machine.proofs.OneDue.{IsOne, neither_below}

module _ (sys : System) (good : IsSystem sys) (m : Machine) (fit : IsFit sys m) where
  -- a search that found nothing, and one that found something
  root_clash : {A : Type 0} (world u : World) → Fits sys.sig world → NoInitial sys (state_cube sys.sig world) → IsLeastRoot sys world u → A
  root_clash world u fits none least =
      let r = ((asks-root sys (state_cube sys.sig world) good (state_sorted sys good m fit world fits)).meaning u).0 least.meets in
      absurd (none u 0 r.fits (omega (arith, r.copies)) r.initial r.meets)

  step_clash : {A : Type 0} (frame : Option (List Cube)) (cube : Cube) (p : World) → IsFrame sys.sig frame → IsCube sys.sig cube → NoStep sys frame cube → IsLeastStep sys frame cube p → A
  step_clash frame cube p framed sorted none least =
      let s = ((asks-before sys frame cube good framed sorted).meaning p).0 least.meets in
      absurd (none p 0 s.fits (omega (arith, s.copies)) s.in_frame s.step s.meets)

  seed_clash : {A : Type 0} (cubes : List Cube) (avoid : List World) (s : World) → All (IsCube sys.sig) cubes → All (Fits sys.sig) avoid → HasNoSeed sys cubes avoid → IsLeastSeed sys cubes avoid s → A
  seed_clash cubes avoid s sorted fits none least =
      let apart = all_mapped (IsCube sys.sig) (state_cube sys.sig) avoid (all_as (Fits sys.sig) (λ w. IsCube sys.sig (state_cube sys.sig w)) avoid (λ w f. state_sorted sys good m fit w f) fits) in
      let x = ((asks-seed sys cubes (state_cubes sys.sig avoid) good sorted apart).meaning s).0 least.meets in
      absurd (none s 0 x.fits (omega (arith, x.copies)) x.state x.in_frame x.violates x.avoids)

  -- there is one least run
  least_of_query : (steps k : ℕ) (w : World) → IsLeastRun sys steps k w → IsLeast sys.sig (run_query sys k) w
  least_of_query steps k w r = record {
    meets = (meaning-unroll sys k (run_query sys k) refl refl w).1 r.run;
    first = λ v meets. r.first v ((meaning-unroll sys k (run_query sys k) refl refl v).0 meets);
  }

  run_one : (steps k l : ℕ) (v w : World) → IsLeastRun sys steps k v → IsLeastRun sys steps l w → v ≡ w
  run_one steps k l v w r s = by_order (cases_order k l)
    where
      by_order : (k ≡ l) ⊎ ((k < l) ⊎ (l < k)) → v ≡ w
      by_order (inl same) = one_least sys.sig (run_query sys l) v w (subst (λ n. IsLeast sys.sig (run_query sys n) v) same (least_of_query steps k v r)) (least_of_query steps l w s)
      by_order (inr (inl lt)) = absurd (s.shortest k lt v r.run)
      by_order (inr (inr lt)) = absurd (r.shortest l lt w s.run)

  -- a state that is in a frame now, and a live clause that refutes it there
  refuter_clash : {A : Type 0} (i : ℕ) (w : World) (k : ℕ) → IsIn sys m i w 0 → IsFirstRefuter sys m i w 0 k → A
  refuter_clash zero w k here r = absurd (omega (arith, r.refutes.told))
  refuter_clash (suc i) w k here r = let c = r.refutes in absurd (avoids-each sys m.clauses (suc i) w 0 here.1 k c.clause c.there c.live c.level c.meets)

  refuter_one : (i : ℕ) (w : World) → IsOne (IsFirstRefuter sys m i w 0)
  refuter_one i w j k a b = neither_below j k (λ lt. b.first j lt a.refutes) (λ lt. a.first k lt b.refutes)

  module _ (j : ℕ) where
    -- what the seat may report of a work, but for Over
    data WorkSays (level : ℕ) (below : Option (List Cube)) (world : World) (e : Event) : Type 0 where
      learns : (cube : Cube) → e ≡ E.Learn j cube → IsFoundCube sys below world cube → IsIn sys m level world 0 → WorkSays level below world e
      roots : (u : World) → e ≡ E.Before j (O.Initial u) → IsLeastRoot sys world u → IsIn sys m level world 0 → WorkSays level below world e
      precedes : (p : World) → e ≡ E.Before j (O.Step p) → IsFoundStep sys below world p → IsIn sys m level world 0 → IsIn sys m (level - 1) p 0 → WorkSays level below world e
      drops_it : (c : ℕ) → e ≡ E.Drop j c → IsFirstRefuter sys m level world 0 c → WorkSays level below world e
      refuted : (p : World) (c : ℕ) → e ≡ E.Return j (Y.Refuted p c) → IsFoundStep sys below world p → IsIn sys m level world 0 → IsFirstRefuter sys m (level - 1) p 0 c → WorkSays level below world e

    -- of a look
    data LookSays (cubes : List Cube) (avoid : List World) (e : Event) : Type 0 where
      seeds : (s : World) → e ≡ E.Seed j s → IsLeastSeed sys cubes avoid s → IsIn sys m m.frontier s 0 → LookSays cubes avoid e
      refuted_seed : (s : World) (c : ℕ) → e ≡ E.Return j (Y.Refuted s c) → IsLeastSeed sys cubes avoid s → IsFirstRefuter sys m m.frontier s 0 c → LookSays cubes avoid e
      no_more : e ≡ E.Return j Y.NoMore → HasNoSeed sys cubes avoid → avoid ≢ [] → LookSays cubes avoid e
      secures : e ≡ E.Secure j → HasNoSeed sys cubes avoid → avoid ≡ [] → LookSays cubes avoid e

    -- of a push
    data PushSays (level : ℕ) (cubes : List Cube) (cube : Cube) (e : Event) : Type 0 where
      raises : e ≡ E.Raise j → NoStep sys (Some cubes) cube → PushSays level cubes cube e
      fails : (p : World) → e ≡ E.Fail j p → IsLeastStep sys (Some cubes) cube p → IsIn sys m level p 0 → PushSays level cubes cube e
      refuted_fail : (p : World) (c : ℕ) → e ≡ E.Return j (Y.Refuted p c) → IsLeastStep sys (Some cubes) cube p → IsFirstRefuter sys m level p 0 c → PushSays level cubes cube e

    -- of a trace
    data TraceSays (steps : ℕ) (e : Event) : Type 0 where
      runs : (k : ℕ) (run : World) → e ≡ E.Close j (N.Unsafe run) → IsLeastRun sys steps k run → TraceSays steps e
      no_run : e ≡ E.Close j N.NoUniversal → ((k : ℕ) → k ≤ steps → HasNoRunOf sys k) → TraceSays steps e

    abbrev Says : Given → Event → Type 0
    Says (Work k level below world) e = WorkSays level below world e
    Says (Look level cubes avoid done) e = LookSays cubes avoid e
    Says (Push k level cubes cube) e = PushSays level cubes cube e
    Says (Trace k steps) e = TraceSays steps e

    module _ (level : ℕ) (below : Option (List Cube)) (world : World) (framed : IsFrame sys.sig below) (fits : Fits sys.sig world) where
      abbrev cube_of : Cube
      cube_of = state_cube sys.sig world

      no_step_found : {A : Type 0} (p : World) → NoStep sys below (state_cube sys.sig world) → IsFoundStep sys below world p → A
      no_step_found p none found = step_clash below (state_cube sys.sig world) p framed (state_sorted sys good m fit world fits) none found.least

      step_same : (p q : World) → IsFoundStep sys below world p → IsFoundStep sys below world q → p ≡ q
      step_same p q a b = one_least sys.sig (before_query sys below (state_cube sys.sig world)) p q a.least b.least

      work_one : (e f : Event) → WorkSays level below world e → WorkSays level below world f → e ≡ f
      work_one e f (learns cube is found here) (learns other are there now) = is ∙ ap (E.Learn j) (one-pass (IsBlocked sys below) (state_cube sys.sig world) cube other found.pass there.pass) ∙ sym are
      work_one e f (learns cube is found here) (roots u are least now) = root_clash world u fits found.blocked.no_initial least
      work_one e f (learns cube is found here) (precedes p are step now before) = no_step_found p found.blocked.no_step step
      work_one e f (learns cube is found here) (drops_it c are refuter) = refuter_clash level world c here refuter
      work_one e f (learns cube is found here) (refuted p c are step now refuter) = no_step_found p found.blocked.no_step step
      work_one e f (roots u is least here) (learns cube are found now) = root_clash world u fits found.blocked.no_initial least
      work_one e f (roots u is least here) (roots v are other now) = is ∙ ap (λ x. E.Before j (O.Initial x)) (one_least sys.sig (root_query sys (state_cube sys.sig world)) u v least other) ∙ sym are
      work_one e f (roots u is least here) (precedes p are step now before) = root_clash world u fits step.no_root least
      work_one e f (roots u is least here) (drops_it c are refuter) = refuter_clash level world c here refuter
      work_one e f (roots u is least here) (refuted p c are step now refuter) = root_clash world u fits step.no_root least
      work_one e f (precedes p is step here before) (learns cube are found now) = no_step_found p found.blocked.no_step step
      work_one e f (precedes p is step here before) (roots u are least now) = root_clash world u fits step.no_root least
      work_one e f (precedes p is step here before) (precedes q are other now after) = is ∙ ap (λ x. E.Before j (O.Step x)) (step_same p q step other) ∙ sym are
      work_one e f (precedes p is step here before) (drops_it c are refuter) = refuter_clash level world c here refuter
      work_one e f (precedes p is step here before) (refuted q c are other now refuter) = refuter_clash (level - 1) q c (subst (λ x. IsIn sys m (level - 1) x 0) (step_same p q step other) before) refuter
      work_one e f (drops_it c is refuter) (learns cube are found now) = refuter_clash level world c now refuter
      work_one e f (drops_it c is refuter) (roots u are least now) = refuter_clash level world c now refuter
      work_one e f (drops_it c is refuter) (precedes p are step now before) = refuter_clash level world c now refuter
      work_one e f (drops_it c is refuter) (drops_it d are other) = is ∙ ap (E.Drop j) (refuter_one level world c d refuter other) ∙ sym are
      work_one e f (drops_it c is refuter) (refuted p d are step now other) = refuter_clash level world c now refuter
      work_one e f (refuted p c is step here refuter) (learns cube are found now) = no_step_found p found.blocked.no_step step
      work_one e f (refuted p c is step here refuter) (roots u are least now) = root_clash world u fits step.no_root least
      work_one e f (refuted p c is step here refuter) (precedes q are other now before) = refuter_clash (level - 1) p c (subst (λ x. IsIn sys m (level - 1) x 0) (step_same q p other step) before) refuter
      work_one e f (refuted p c is step here refuter) (drops_it d are other) = refuter_clash level world d here other
      work_one e f (refuted p c is step here refuter) (refuted q d are other now also) =
          let same = step_same p q step other in
          let first = refuter_one (level - 1) q c d (subst (λ x. IsFirstRefuter sys m (level - 1) x 0 c) same refuter) also in
          is ∙ ap₂ (λ x k. E.Return j (Y.Refuted x k)) same first ∙ sym are

    module _ (cubes : List Cube) (avoid : List World) (sorted : All (IsCube sys.sig) cubes) (fits : All (Fits sys.sig) avoid) where
      seed_same : (s t : World) → IsLeastSeed sys cubes avoid s → IsLeastSeed sys cubes avoid t → s ≡ t
      seed_same s t a b = one_least sys.sig (seed_query sys cubes (state_cubes sys.sig avoid)) s t a b

      look_one : (e f : Event) → LookSays cubes avoid e → LookSays cubes avoid f → e ≡ f
      look_one e f (seeds s is least here) (seeds t are other now) = is ∙ ap (E.Seed j) (seed_same s t least other) ∙ sym are
      look_one e f (seeds s is least here) (refuted_seed t c are other refuter) = refuter_clash m.frontier t c (subst (λ x. IsIn sys m m.frontier x 0) (seed_same s t least other) here) refuter
      look_one e f (seeds s is least here) (no_more are none some) = seed_clash cubes avoid s sorted fits none least
      look_one e f (seeds s is least here) (secures are none empty) = seed_clash cubes avoid s sorted fits none least
      look_one e f (refuted_seed s c is least refuter) (seeds t are other now) = refuter_clash m.frontier s c (subst (λ x. IsIn sys m m.frontier x 0) (seed_same t s other least) now) refuter
      look_one e f (refuted_seed s c is least refuter) (refuted_seed t d are other also) =
          let same = seed_same s t least other in
          let first = refuter_one m.frontier t c d (subst (λ x. IsFirstRefuter sys m m.frontier x 0 c) same refuter) also in
          is ∙ ap₂ (λ x k. E.Return j (Y.Refuted x k)) same first ∙ sym are
      look_one e f (refuted_seed s c is least refuter) (no_more are none some) = seed_clash cubes avoid s sorted fits none least
      look_one e f (refuted_seed s c is least refuter) (secures are none empty) = seed_clash cubes avoid s sorted fits none least
      look_one e f (no_more is none some) (seeds t are other now) = seed_clash cubes avoid t sorted fits none other
      look_one e f (no_more is none some) (refuted_seed t d are other also) = seed_clash cubes avoid t sorted fits none other
      look_one e f (no_more is none some) (no_more are none_too some_too) = is ∙ sym are
      look_one e f (no_more is none some) (secures are none_too empty) = absurd (some empty)
      look_one e f (secures is none empty) (seeds t are other now) = seed_clash cubes avoid t sorted fits none other
      look_one e f (secures is none empty) (refuted_seed t d are other also) = seed_clash cubes avoid t sorted fits none other
      look_one e f (secures is none empty) (no_more are none_too some) = absurd (some empty)
      look_one e f (secures is none empty) (secures are none_too empty_too) = is ∙ sym are

    module _ (level : ℕ) (cubes : List Cube) (cube : Cube) (framed : All (IsCube sys.sig) cubes) (sorted : IsCube sys.sig cube) where
      fail_same : (p q : World) → IsLeastStep sys (Some cubes) cube p → IsLeastStep sys (Some cubes) cube q → p ≡ q
      fail_same p q a b = one_least sys.sig (before_query sys (Some cubes) cube) p q a b

      push_one : (e f : Event) → PushSays level cubes cube e → PushSays level cubes cube f → e ≡ f
      push_one e f (raises is none) (raises are none_too) = is ∙ sym are
      push_one e f (raises is none) (fails p are least here) = step_clash (Some cubes) cube p framed sorted none least
      push_one e f (raises is none) (refuted_fail p c are least refuter) = step_clash (Some cubes) cube p framed sorted none least
      push_one e f (fails p is least here) (raises are none) = step_clash (Some cubes) cube p framed sorted none least
      push_one e f (fails p is least here) (fails q are other now) = is ∙ ap (E.Fail j) (fail_same p q least other) ∙ sym are
      push_one e f (fails p is least here) (refuted_fail q c are other refuter) = refuter_clash level q c (subst (λ x. IsIn sys m level x 0) (fail_same p q least other) here) refuter
      push_one e f (refuted_fail p c is least refuter) (raises are none) = step_clash (Some cubes) cube p framed sorted none least
      push_one e f (refuted_fail p c is least refuter) (fails q are other now) = refuter_clash level p c (subst (λ x. IsIn sys m level x 0) (fail_same q p other least) now) refuter
      push_one e f (refuted_fail p c is least refuter) (refuted_fail q d are other also) =
          let same = fail_same p q least other in
          let first = refuter_one level q c d (subst (λ x. IsFirstRefuter sys m level x 0 c) same refuter) also in
          is ∙ ap₂ (λ x k. E.Return j (Y.Refuted x k)) same first ∙ sym are

    trace_one : (steps : ℕ) (e f : Event) → TraceSays steps e → TraceSays steps f → e ≡ f
    trace_one steps e f (runs k run is least) (runs l other are also) = is ∙ ap (λ x. E.Close j (N.Unsafe x)) (run_one steps k l run other least also) ∙ sym are
    trace_one steps e f (runs k run is least) (no_run are none) = absurd (none k least.within run least.run)
    trace_one steps e f (no_run is none) (runs k run are least) = absurd (none k least.within run least.run)
    trace_one steps e f (no_run is none) (no_run are none_too) = is ∙ sym are

    says_one : (g : Given) → IsFitGiven sys.sig g → IsOne (Says g)
    says_one (Work k level below world) fits e f a b = work_one level below world fits.0 fits.1 e f a b
    says_one (Look level cubes avoid done) fits e f a b = look_one cubes avoid fits.0 fits.1 e f a b
    says_one (Push k level cubes cube) fits e f a b = push_one level cubes cube fits.0 fits.1 e f a b
    says_one (Trace k steps) fits e f a b = trace_one steps e f a b

    -- what the seat holds, and what its report says of it
    record Reported (e : Event) : Type 0 where
      given : Given
      held : held_by m.jobs j ≡ Some given
      says : Says given e

    module _ (limits : Limits) where
      at_seat : (w : ℕ) (g : Given) → w ≡ j → held_by m.jobs w ≡ Some g → held_by m.jobs j ≡ Some g
      at_seat w g seat held = subst (λ v. held_by m.jobs v ≡ Some g) seat held

      reported : (e : Event) → IsReport sys limits m j e → ¬ IsOver e → Reported e
      reported (E.Seed w s) r plain =
          let may = r.legal.allowed in
          let given = Look may.look.level may.look.frame may.look.avoid may.look.done in
          record { given = given; held = at_seat w given r.by_seat may.look.held; says = seeds s (ap (λ v. E.Seed v s) r.by_seat) may.found may.inside }
      reported (E.Secure w) r plain =
          let may = r.legal.allowed in
          let given = Look may.look.level may.look.frame may.look.avoid may.look.done in
          record { given = given; held = at_seat w given r.by_seat may.look.held; says = secures (ap E.Secure r.by_seat) may.none may.nothing_avoided }
      reported (E.Return w (Y.Refuted p c)) r plain = by_found r.legal.allowed
        where
          by_found : MayRefute sys m w p c → Reported (E.Return w (Y.Refuted p c))
          by_found (of_seed may) =
              let given = Look may.look.level may.look.frame may.look.avoid may.look.done in
              record { given = given; held = at_seat w given r.by_seat may.look.held; says = refuted_seed p c (ap (λ v. E.Return v (Y.Refuted p c)) r.by_seat) may.found may.refuter }
          by_found (of_step may) =
              let given = Work may.work.obligation may.work.level may.work.below may.work.world in
              record { given = given; held = at_seat w given r.by_seat may.work.held; says = refuted p c (ap (λ v. E.Return v (Y.Refuted p c)) r.by_seat) may.found may.inside may.refuter }
          by_found (of_fail may) =
              let given = Push may.push.clause may.push.level may.push.frame may.push.cube in
              record { given = given; held = at_seat w given r.by_seat may.push.held; says = refuted_fail p c (ap (λ v. E.Return v (Y.Refuted p c)) r.by_seat) may.found may.refuter }
      reported (E.Return w Y.NoMore) r plain =
          let may = r.legal.allowed in
          let given = Look may.look.level may.look.frame may.look.avoid may.look.done in
          record { given = given; held = at_seat w given r.by_seat may.look.held; says = no_more (ap (λ v. E.Return v Y.NoMore) r.by_seat) may.none may.something_avoided }
      reported (E.Learn w cube) r plain =
          let may = r.legal.allowed in
          let given = Work may.work.obligation may.work.level may.work.below may.work.world in
          record { given = given; held = at_seat w given r.by_seat may.work.held; says = learns cube (ap (λ v. E.Learn v cube) r.by_seat) may.found may.inside }
      reported (E.Before w (O.Initial u)) r plain =
          let may = r.legal.allowed in
          let given = Work may.work.obligation may.work.level may.work.below may.work.world in
          record { given = given; held = at_seat w given r.by_seat may.work.held; says = roots u (ap (λ v. E.Before v (O.Initial u)) r.by_seat) may.found may.inside }
      reported (E.Before w (O.Step p)) r plain =
          let may = r.legal.allowed in
          let given = Work may.work.obligation may.work.level may.work.below may.work.world in
          record { given = given; held = at_seat w given r.by_seat may.work.held; says = precedes p (ap (λ v. E.Before v (O.Step p)) r.by_seat) may.found may.inside may.before_inside }
      reported (E.Drop w c) r plain =
          let may = r.legal.allowed in
          let given = Work may.work.obligation may.work.level may.work.below may.work.world in
          record { given = given; held = at_seat w given r.by_seat may.work.held; says = drops_it c (ap (λ v. E.Drop v c) r.by_seat) may.refuter }
      reported (E.Raise w) r plain =
          let may = r.legal.allowed in
          let given = Push may.push.clause may.push.level may.push.frame may.push.cube in
          record { given = given; held = at_seat w given r.by_seat may.push.held; says = raises (ap E.Raise r.by_seat) may.none }
      reported (E.Fail w p) r plain =
          let may = r.legal.allowed in
          let given = Push may.push.clause may.push.level may.push.frame may.push.cube in
          record { given = given; held = at_seat w given r.by_seat may.push.held; says = fails p (ap (λ v. E.Fail v p) r.by_seat) may.found may.inside }
      reported (E.Close w (N.Unsafe run)) r plain =
          let may = r.legal.allowed in
          let given = Trace may.trace.obligation may.trace.steps in
          record { given = given; held = at_seat w given r.by_seat may.trace.held; says = runs may.steps run (ap (λ v. E.Close v (N.Unsafe run)) r.by_seat) may.found }
      reported (E.Close w N.NoUniversal) r plain =
          let may = r.legal.allowed in
          let given = Trace may.trace.obligation may.trace.steps in
          record { given = given; held = at_seat w given r.by_seat may.trace.held; says = no_run (ap (λ v. E.Close v N.NoUniversal) r.by_seat) may.none }
      reported (E.Close w (N.Over kind x)) r plain = absurd (plain tt)
      reported (E.Close w (N.Safe i)) r plain = absurd r.kind
      reported (E.Close w N.Bounded) r plain = absurd r.kind
      reported (E.Close w N.Spent) r plain = absurd r.kind
      reported (E.Return w Y.Spent) r plain = absurd r.kind
      reported (E.Return w Y.NoMemory) r plain = absurd r.kind
      reported (E.Take w job) r plain = absurd r.kind
      reported (E.Advance w) r plain = absurd r.kind
      reported (E.Retire w gone by) r plain = absurd r.kind

      plain_one : (e f : Event) → Reported e → Reported f → e ≡ f
      plain_one e f a b =
          let same : a.given ≡ b.given = some_injective a.given b.given (sym a.held ∙ b.held) in
          says_one b.given (given_fit sys good m fit j b.given b.held) e f (subst (λ g. Says g e) same a.says) b.says

      -- two that a query is too heavy: it is the same
      over_one : (v w : ℕ) (what other : Kind) (x y : Excess) → v ≡ j → w ≡ j → IsLegal sys limits m (E.Close v (N.Over what x)) → IsLegal sys limits m (E.Close w (N.Over other y)) → E.Close v (N.Over what x) ≡ E.Close w (N.Over other y)
      over_one v w what other x y at_v at_w a b =
          let may = a.allowed in
          let also = b.allowed in
          let same : may.job.given ≡ also.job.given = some_injective may.job.given also.job.given (sym (at_seat v may.job.given at_v may.job.held) ∙ at_seat w also.job.given at_w also.job.held) in
          let here = subst (λ g. IsFirstAbove sys.sig (asked_by sys g) limits.weight what x.query x.weight) same may.above in
          let one = above_one sys limits.weight also.job.given what other x y here also.above in
          ap (λ u. E.Close u (N.Over what x)) (at_v ∙ sym at_w) ∙ ap₂ (λ k z. E.Close w (N.Over k z)) one.0 one.1

      report_one : (e f : Event) → IsReport sys limits m j e → IsReport sys limits m j f → e ≡ f
      report_one e f a b = by_over e f (over_of e) (over_of f) a b
        where
          -- whether it says that a query is too heavy
          over_of : (e : Event) → IsOver e ⊎ (¬ IsOver e)
          over_of (E.Close w (N.Over kind x)) = inl tt
          over_of e = inr (λ h. h)

          over_is : (e : Event) → IsOver e → (w : ℕ) × (kind : Kind) × (x : Excess) × (e ≡ E.Close w (N.Over kind x))
          over_is (E.Close w (N.Over kind x)) p = (w, kind, x, refl)
          over_is e p = absurd p

          both_over : (e f : Event) → IsOver e → IsOver f → IsReport sys limits m j e → IsReport sys limits m j f → e ≡ f
          both_over e f p q a b =
              let u = over_is e p in
              let v = over_is f q in
              let c = subst (IsReport sys limits m j) u.3 a in
              let d = subst (IsReport sys limits m j) v.3 b in
              u.3 ∙ over_one u.0 v.0 u.1 v.1 u.2 v.2 c.by_seat d.by_seat c.legal d.legal ∙ sym v.3

          by_over : (e f : Event) → IsOver e ⊎ (¬ IsOver e) → IsOver f ⊎ (¬ IsOver f) → IsReport sys limits m j e → IsReport sys limits m j f → e ≡ f
          by_over e f (inl p) (inl q) a b = both_over e f p q a b
          by_over e f (inl p) (inr q) a b = absurd (q (b.over_first e a.by_seat p a.legal))
          by_over e f (inr p) (inl q) a b = absurd (p (a.over_first f b.by_seat q b.legal))
          by_over e f (inr p) (inr q) a b = plain_one e f (reported e a p) (reported f b q)

pub report_once : (sys : System) (limits : Limits) (history : List Event) (seat : ℕ) (e f : Event) → IsSystem sys → Legal sys limits history → IsReport sys limits (replay history) seat e → IsReport sys limits (replay history) seat f → e ≡ f
report_once sys limits history seat e f good legal a b = report_one sys good (replay history) (history_fit sys limits history good legal) seat limits e f a b
