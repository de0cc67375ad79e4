-- A clause that refutes what a search found came after the worker's take.
use Rattle.std.proofs.Common.{◌≡◌, ℕ, List, Option, None, Some, sym, subst, ◌∙◌}
use Rattle.std.specs.List.{Contains}
use Rattle.fo_core.specs.declared.system.System.{System}
use Rattle.fo_core.specs.declared.world.World.{World}
use Rattle.fo_core.specs.Sorted.{IsSystem}
use Rattle.up_diagram.specs.declared.cube.Cube.{Cube}
use Rattle.up_diagram.specs.Cubes.{Meets}
use Rattle.up_claims.specs.Frames.{Avoids, IsInFrame}
use Rattle.up_machine.specs.declared.limits.Limits.{Limits}
use Rattle.up_machine.specs.declared.event.Why.TheVariants as Y
use Rattle.up_machine.specs.declared.event.Event.{Event}
use Rattle.up_machine.specs.declared.event.Event.TheVariants as E
use Rattle.up_machine.specs.Machine.{Given, Work, Look, Push, Machine, IsFirstRefuter, held_by}
use Rattle.up_machine.specs.Finding.{frame_given, IsOutside}
use Rattle.up_machine.specs.Legal.{MayRefute, of_seed, of_step, of_fail, IsLegal, Legal}
use Rattle.up_machine.specs.Replay.{replay}
use Rattle.up_machine.specs.Sound.{IsFit}
use Rattle.up_machine.proofs.Lists.{some_injective}
use Rattle.up_machine.proofs.Fit.{history_fit}
use Rattle.up_machine.proofs.Origins.{found_seed, found_step, found_fail}

module _ (sys : System) (w : World) (cube : Cube) (meets : Meets sys.sig w 0 cube) where
  not_avoided : (cubes : List Cube) → Avoids sys.sig w 0 cubes → ¬ Contains cubes cube
  not_avoided cubes avoids has = avoids has.0 cube has.1 (subst (Meets sys.sig w 0) (sym has.2) meets)

  outside : (frame : Option (List Cube)) → IsInFrame sys frame w 0 → IsOutside frame cube
  outside None h = tt
  outside (Some cubes) h = not_avoided cubes h.1

module _ (sys : System) (good : IsSystem sys) (m : Machine) (fit : IsFit sys m) (w : ℕ) (p : World) (c : ℕ) where
  pub is_new : (may : MayRefute sys m w p c) (given : Given) → held_by m.jobs w ≡ Some given → (i : ℕ) (r : IsFirstRefuter sys m i p 0 c) → IsOutside (frame_given given) r.refutes.clause.cube
  is_new (of_seed may) given held i r =
      let own = Look may.look.level may.look.frame may.look.avoid may.look.done in
      let same : own ≡ given = some_injective own given (sym may.look.held ∙ held) in
      let inside = (found_seed sys good m fit w may.look p may.found).in_frame in
      subst (λ g. IsOutside (frame_given g) r.refutes.clause.cube) same (not_avoided sys p r.refutes.clause.cube r.refutes.meets may.look.frame inside)
  is_new (of_step may) given held i r =
      let own = Work may.work.obligation may.work.level may.work.below may.work.world in
      let same : own ≡ given = some_injective own given (sym may.work.held ∙ held) in
      let inside = (found_step sys good m fit w may.work p may.found.least).in_frame in
      subst (λ g. IsOutside (frame_given g) r.refutes.clause.cube) same (outside sys p r.refutes.clause.cube r.refutes.meets may.work.below inside)
  is_new (of_fail may) given held i r =
      let own = Push may.push.clause may.push.level may.push.frame may.push.cube in
      let same : own ≡ given = some_injective own given (sym may.push.held ∙ held) in
      let inside = (found_fail sys good m fit w may.push p may.found).in_frame in
      subst (λ g. IsOutside (frame_given g) r.refutes.clause.cube) same (outside sys p r.refutes.clause.cube r.refutes.meets (Some may.push.frame) inside)

pub refuters_new : (sys : System) (limits : Limits) (history : List Event) (w : ℕ) (p : World) (c : ℕ) (given : Given) (i : ℕ) → IsSystem sys → Legal sys limits history →
    IsLegal sys limits (replay history) (E.Return w (Y.Refuted p c)) → held_by (replay history).jobs w ≡ Some given →
    (r : IsFirstRefuter sys (replay history) i p 0 c) → IsOutside (frame_given given) r.refutes.clause.cube
refuters_new sys limits history w p c given i good legal may held r =
    is_new sys good (replay history) (history_fit sys limits history good legal) w p c may.allowed given held i r
