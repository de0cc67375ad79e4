-- Each legal event keeps where obligations come from.
use Rattle.std.proofs.Common.{◌≡◌, ℕ, zero, suc, ◌-◌, inl, inr, List, [], ◌∷◌, ◌++◌, Option, None, Some, slice_get, sym, ap, subst, ◌∙◌}
use Rattle.fo_core.specs.declared.system.System.{System}
use Rattle.fo_core.specs.declared.world.World.{World}
use Rattle.fo_core.specs.Sorted.{IsSystem}
use Rattle.fo_core.specs.Tables.{Fits}
use Rattle.fo_core.proofs.ListFacts.{all_mapped, all_as}
use Rattle.up_diagram.specs.Cubes.{Meets, IsCube}
use Rattle.up_diagram.proofs.DiagramMet.{own_diagram_met}
use Rattle.up_claims.specs.Finding.{IsSeed, IsRoot, IsStepInto}
use Rattle.up_claims.proofs.InferLemmas.{asks-seed, asks-root, asks-before}
use Rattle.up_machine.specs.declared.limits.Limits.{Limits}
use Rattle.up_machine.specs.declared.job.Job.{Job}
use Rattle.up_machine.specs.declared.event.Why.{Why}
use Rattle.up_machine.specs.declared.event.Origin.TheVariants as O
use Rattle.up_machine.specs.declared.event.Event.{Event}
use Rattle.up_machine.specs.declared.event.Event.TheVariants as E
use Rattle.up_machine.specs.Machine.{Status, Ready, Out, Waiting, Done, Rooted, Obligation, Given, Work, Look, Push, Trace, Machine, start, IsIn, held_by}
use Rattle.up_machine.specs.Replay.{with_status, set_status, parent_of, wake, finish, first_status, given_for, obligations_after, happens, replay}
use Rattle.up_machine.specs.Finding.{state_cube, state_cubes, HoldsLook, HoldsWork, HoldsPush}
use Rattle.up_machine.specs.Legal.{IsLeastSeed, IsLeastRoot, IsLeastStep, MaySeed, IsLegal, Legal}
use Rattle.up_machine.specs.Sound.{IsFit, IsFrameSound, HasOrigin, HasRoot, IsSoundOrigin, AreSoundOrigins}
use Rattle.up_machine.proofs.Lists.{Each-nil, get-push, IsPushed, get-changed, IsChanged, two_places}
use Rattle.up_machine.proofs.Levels.{Stays, pushed_stays, status_stays}
use Rattle.up_machine.proofs.FrameEvents.{given_sound, event_sound, start_sound}
use Rattle.up_machine.proofs.Fit.{state_sorted, given_fit, event_fit, start_fit}
use Rattle.up_machine.proofs.Histories.{along}

-- what searches found, as states and steps
module _ (sys : System) (good : IsSystem sys) (m : Machine) (fit : IsFit sys m) where
  pub found_seed : (w : ℕ) (look : HoldsLook m w) (s : World) → IsLeastSeed sys look.frame look.avoid s → IsSeed sys look.frame (state_cubes sys.sig look.avoid) s
  found_seed w look s h =
      let given = given_fit sys good m fit w (Look look.level look.frame look.avoid look.done) look.held in
      let avoided = all_mapped (IsCube sys.sig) (state_cube sys.sig) look.avoid (all_as (Fits sys.sig) (λ w. IsCube sys.sig (state_cube sys.sig w)) look.avoid (λ w fits. state_sorted sys good m fit w fits) given.1) in
      ((asks-seed sys look.frame (state_cubes sys.sig look.avoid) good given.0 avoided).meaning s).0 h.meets

  pub found_root : (w : ℕ) (work : HoldsWork m w) (u : World) → IsLeastRoot sys work.world u → IsRoot sys (state_cube sys.sig work.world) u
  found_root w work u h =
      let given = given_fit sys good m fit w (Work work.obligation work.level work.below work.world) work.held in
      ((asks-root sys (state_cube sys.sig work.world) good (state_sorted sys good m fit work.world given.1)).meaning u).0 h.meets

  pub found_step : (w : ℕ) (work : HoldsWork m w) (p : World) → IsLeastStep sys work.below (state_cube sys.sig work.world) p → IsStepInto sys work.below (state_cube sys.sig work.world) p
  found_step w work p h =
      let given = given_fit sys good m fit w (Work work.obligation work.level work.below work.world) work.held in
      ((asks-before sys work.below (state_cube sys.sig work.world) good given.0 (state_sorted sys good m fit work.world given.1)).meaning p).0 h.meets

  pub found_fail : (w : ℕ) (push : HoldsPush m w) (p : World) → IsLeastStep sys (Some push.frame) push.cube p → IsStepInto sys (Some push.frame) push.cube p
  found_fail w push p h =
      let given = given_fit sys good m fit w (Push push.clause push.level push.frame push.cube) push.held in
      ((asks-before sys (Some push.frame) push.cube good given.0 given.1).meaning p).0 h.meets

module _ (sys : System) where
  origin_stays : (os ps : List Obligation) (o : Obligation) → Stays os ps → (p : Option ℕ) → HasOrigin sys os o p → HasOrigin sys ps o p
  origin_stays os ps o g None h = h
  origin_stays os ps o g (Some p) h =
      let r = g p h.parent h.there in
      record { parent = r.now; there = r.there; copies = h.copies; step = h.step; meets = subst (λ v. Meets sys.sig o.world 1 (state_cube sys.sig v)) (sym r.world) h.meets }

  sound_stays : (os ps : List Obligation) (o : Obligation) → Stays os ps → IsSoundOrigin sys os o → IsSoundOrigin sys ps o
  sound_stays os ps o g h = record { fits = h.fits; state = h.state; origin = origin_stays os ps o g o.parent h.origin; root = h.root }

  origins_push : (os : List Obligation) (x : Obligation) → AreSoundOrigins sys os → IsSoundOrigin sys os x → AreSoundOrigins sys (os ++ x ∷ [])
  origins_push os x hs h k o e = by_place (get-push os x k o e)
    where
      by_place : IsPushed os x k o → IsSoundOrigin sys (os ++ x ∷ []) o
      by_place (inl there) = sound_stays os (os ++ x ∷ []) o (pushed_stays os x) (hs k o there)
      by_place (inr new) = sound_stays os (os ++ x ∷ []) o (pushed_stays os x) (subst (IsSoundOrigin sys os) new.1 h)

  origins_status : (s : Status) (j : ℕ) (os : List Obligation) → ((o : Obligation) → slice_get os j ≡ Some o → HasRoot sys o.world s) → AreSoundOrigins sys os → AreSoundOrigins sys (set_status s j os)
  origins_status s j os ok hs k o e = let r = get-changed j (with_status s) os k o e in by_place r.0 r.1 r.2
    where
      by_parent : (x : Obligation) (p : Option ℕ) → HasOrigin sys os x p → HasOrigin sys (set_status s j os) (with_status s x) p
      by_parent x None h = h
      by_parent x (Some p) h =
          let r = status_stays s j os p h.parent h.there in
          record { parent = r.now; there = r.there; copies = h.copies; step = h.step; meets = subst (λ v. Meets sys.sig x.world 1 (state_cube sys.sig v)) (sym r.world) h.meets }

      by_place : (x : Obligation) → slice_get os k ≡ Some x → IsChanged j (with_status s) k x o → IsSoundOrigin sys (set_status s j os) o
      by_place x there (inl h) =
          let old = hs k x there in
          let new : IsSoundOrigin sys (set_status s j os) (with_status s x) = record {
            fits = old.fits;
            state = old.state;
            origin = by_parent x x.parent old.origin;
            root = ok x (subst (λ i. slice_get os i ≡ Some x) (sym h.0) there);
          } in
          subst (IsSoundOrigin sys (set_status s j os)) h.1 new
      by_place x there (inr h) = sound_stays os (set_status s j os) o (status_stays s j os) (subst (IsSoundOrigin sys os) h (hs k x there))

  origins_finish : (k : ℕ) (os : List Obligation) → AreSoundOrigins sys os → AreSoundOrigins sys (finish k os)
  origins_finish k os hs = woken (parent_of os k) (origins_status Done k os (λ _ _. tt) hs)
    where
      woken : (p : Option ℕ) → AreSoundOrigins sys (set_status Done k os) → AreSoundOrigins sys (wake p (set_status Done k os))
      woken None h = h
      woken (Some p) h = origins_status Ready p (set_status Done k os) (λ _ _. tt) h

module _ (sys : System) (good : IsSystem sys) (m : Machine) (sound : IsFrameSound sys m) (fit : IsFit sys m) (hs : AreSoundOrigins sys m.obligations) where
  abbrev Origins : Event → Option Given → Type 0
  Origins e job = AreSoundOrigins sys (obligations_after e job m.frontier m.obligations)

  -- of a take or a return, whatever the job
  taken_origins : (w : ℕ) (job : Job) (g : Option Given) → Origins (E.Take w job) g
  taken_origins w job None = hs
  taken_origins w job (Some (Work k level below world)) = origins_status sys Out k m.obligations (λ _ _. tt) hs
  taken_origins w job (Some (Look level cubes avoid done)) = hs
  taken_origins w job (Some (Push k level cubes cube)) = hs
  taken_origins w job (Some (Trace k steps)) = hs

  returned_origins : (w : ℕ) (why : Why) (g : Option Given) → Origins (E.Return w why) g
  returned_origins w why None = hs
  returned_origins w why (Some (Work k level below world)) = origins_status sys Ready k m.obligations (λ _ _. tt) hs
  returned_origins w why (Some (Look level cubes avoid done)) = hs
  returned_origins w why (Some (Push k level cubes cube)) = hs
  returned_origins w why (Some (Trace k steps)) = hs

  seeded_origins : (w : ℕ) (s : World) → MaySeed sys m w s → Origins (E.Seed w s) (held_by m.jobs w)
  seeded_origins w s h =
      let x = found_seed sys good m fit w h.look s h.found in
      origins_push sys m.obligations _ hs (record { fits = x.fits; state = x.state; origin = x.violates; root = tt })

  -- a state of the frame below level 1 is initial
  root_of : (level : ℕ) (p : World) → Fits sys.sig p → IsIn sys m (level - 1) p 0 → HasRoot sys p (first_status level p)
  root_of zero p fits h = record { fits = fits; initial = h; meets = own_diagram_met sys.sig p 0 fits fits.some_copy }
  root_of (suc zero) p fits h = record { fits = fits; initial = h; meets = own_diagram_met sys.sig p 0 fits fits.some_copy }
  root_of (suc (suc i)) p fits h = tt

  module _ (w : ℕ) (work : HoldsWork m w) where
    -- the obligation that is worked on has the world that the worker was given
    work_world : (o : Obligation) → slice_get m.obligations work.obligation ≡ Some o → o.world ≡ work.world
    work_world o there =
        let given = given_sound sys m sound w (Work work.obligation work.level work.below work.world) work.held in
        ap (λ (y : Obligation). y.world) (two_places m.obligations work.obligation o given.obligation there given.there) ∙ given.world_is

    rooted_origins : (u : World) → IsLeastRoot sys work.world u → AreSoundOrigins sys (set_status (Rooted u) work.obligation m.obligations)
    rooted_origins u found =
        let r = found_root sys good m fit w work u found in
        origins_status sys (Rooted u) work.obligation m.obligations
        (λ o e. record { fits = r.fits; initial = r.initial; meets = subst (λ v. Meets sys.sig u 0 (state_cube sys.sig v)) (sym (work_world o e)) r.meets }) hs

    preceded_origins : (p : World) → IsLeastStep sys work.below (state_cube sys.sig work.world) p → IsIn sys m (work.level - 1) p 0 →
        AreSoundOrigins sys (set_status Waiting work.obligation m.obligations ++ record { level = work.level - 1; world = p; parent = Some work.obligation; status = first_status work.level p } ∷ [])
    preceded_origins p found inside =
        let s = found_step sys good m fit w work p found in
        let given = given_sound sys m sound w (Work work.obligation work.level work.below work.world) work.held in
        let stays = status_stays Waiting work.obligation m.obligations work.obligation given.obligation given.there in
        origins_push sys (set_status Waiting work.obligation m.obligations) _ (origins_status sys Waiting work.obligation m.obligations (λ _ _. tt) hs)
        (record {
          fits = s.fits;
          state = s.step.state;
          origin = record {
            parent = stays.now;
            there = stays.there;
            copies = s.copies;
            step = s.step;
            meets = subst (λ v. Meets sys.sig p 1 (state_cube sys.sig v)) (sym (stays.world ∙ given.world_is)) s.meets;
          };
          root = root_of work.level p s.fits inside;
        })

  pub event_origins : (limits : Limits) (e : Event) → IsLegal sys limits m e → AreSoundOrigins sys (happens m e).obligations
  event_origins limits (E.Take w job) legal = taken_origins w job (given_for m job)
  event_origins limits (E.Return w why) legal = returned_origins w why (held_by m.jobs w)
  event_origins limits (E.Seed w s) legal = seeded_origins w s legal.allowed
  event_origins limits (E.Learn w cube) legal = let work = legal.allowed.work in subst (Origins (E.Learn w cube)) (sym work.held) (origins_finish sys work.obligation m.obligations hs)
  event_origins limits (E.Drop w c) legal = let work = legal.allowed.work in subst (Origins (E.Drop w c)) (sym work.held) (origins_finish sys work.obligation m.obligations hs)
  event_origins limits (E.Before w (O.Initial u)) legal =
      let work = legal.allowed.work in
      subst (Origins (E.Before w (O.Initial u))) (sym work.held) (rooted_origins w work u legal.allowed.found)
  event_origins limits (E.Before w (O.Step p)) legal =
      let work = legal.allowed.work in
      subst (Origins (E.Before w (O.Step p))) (sym work.held) (preceded_origins w work p legal.allowed.found.least legal.allowed.before_inside)
  event_origins limits (E.Raise w) legal = hs
  event_origins limits (E.Fail w p) legal = hs
  event_origins limits (E.Secure w) legal = hs
  event_origins limits (E.Advance w) legal = hs
  event_origins limits (E.Close w end) legal = hs
  event_origins limits (E.Retire w gone by) legal = hs

-- what is so of a machine that a legal history leaves, in one
pub record IsOrigined (sys : System) (m : Machine) : Type 0 where
  pub sound : IsFrameSound sys m
  pub fit : IsFit sys m
  pub origins : AreSoundOrigins sys m.obligations

pub history_origined : (sys : System) (limits : Limits) (history : List Event) → IsSystem sys → Legal sys limits history → IsOrigined sys (replay history)
history_origined sys limits history good legal =
    along sys limits (IsOrigined sys)
    (λ m e h legal. record {
      sound = event_sound sys limits m h.sound e legal;
      fit = event_fit sys good m h.fit limits e legal;
      origins = event_origins sys good m h.sound h.fit h.origins limits e legal;
    }) start history (record { sound = start_sound sys limits; fit = start_fit sys; origins = Each-nil _ }) legal

pub history_origins : (sys : System) (limits : Limits) (history : List Event) → IsSystem sys → Legal sys limits history → AreSoundOrigins sys (replay history).obligations
history_origins sys limits history good legal = (history_origined sys limits history good legal).origins
