-- What the numbers say stays so where the history goes on and the machine keeps its clauses.
use Rattle.std.proofs.Common.{◌≡◌, ℕ, zero, suc, List, [], ◌∷◌, ◌++◌, Option, None, Some, slice_get, sym, subst}
use Rattle.std.specs.Option.{option_and_then}
use Rattle.fo_core.specs.declared.system.System.{System}
use Rattle.fo_core.specs.declared.world.World.{World}
use Rattle.up_diagram.specs.declared.cube.Cube.{Cube}
use Rattle.up_machine.specs.declared.event.Event.{Event}
use Rattle.up_machine.specs.Due.{IsValid}
use Rattle.up_machine.specs.Machine.{Clause, Status, Obligation, FailedPush, Machine, IsIn}
use Rattle.up_machine.proofs.Lists.{none_is_some, any-of_place}
use Rattle.up_core.specs.declared.state.ClauseEntry.{ClauseEntry}
use Rattle.up_core.specs.declared.state.ObligationEntry.{ObligationEntry}
use Rattle.up_core.specs.declared.state.Progress.{Progress}
use Rattle.up_core.specs.declared.state.Progress.TheVariants as P
use Rattle.up_core.specs.Mirror.{Pairs, cube_of, world_of, IsCubeAt, IsWorldAt, IsStatusOf, IsObligationOf, IsValidPush, IsClauseOf}
use Rattle.up_core.proofs.Pairing.{pairs-map, place-any}

-- what is read at a place is read there in a longer list
read-append : {X Y : Type 0} (f : X → Option Y) (xs ys : List X) (k : ℕ) (y : Y) →
    option_and_then f (slice_get xs k) ≡ Some y → option_and_then f (slice_get (xs ++ ys) k) ≡ Some y
read-append f [] ys k y e = none_is_some y e
read-append f (x ∷ xs) ys zero y e = e
read-append f (x ∷ xs) ys (suc k) y e = read-append f xs ys k y e

module _ (history : List Event) (event : Event) where
  abbrev more : List Event
  more = history ++ event ∷ []

  pub cube-stays : (place : ℕ) (cube : Cube) → IsCubeAt history place cube → IsCubeAt more place cube
  cube-stays place cube h = read-append cube_of history (event ∷ []) place cube h

  pub world-stays : (place : ℕ) (world : World) → IsWorldAt history place world → IsWorldAt more place world
  world-stays place world h = read-append world_of history (event ∷ []) place world h

  pub status-stays : (p : Progress) (s : Status) → IsStatusOf history p s → IsStatusOf more p s
  status-stays P.Ready s h = h
  status-stays P.Out s h = h
  status-stays P.Waiting s h = h
  status-stays P.Done s h = h
  status-stays (P.Rooted place) s h = (h.0, h.1, world-stays place h.0 h.2)

  pub obligation-stays : (k : ℕ) (o : Obligation) (e : ObligationEntry) → IsObligationOf history o e → IsObligationOf more o e
  obligation-stays k o e h = record { level = h.level; world = world-stays e.found o.world h.world; parent = h.parent; status = status-stays e.progress o.status h.status }

  pub obligations-stay : (os : List Obligation) (es : List ObligationEntry) → Pairs os es (λ k o e. IsObligationOf history o e) → Pairs os es (λ k o e. IsObligationOf more o e)
  obligations-stay os es h = pairs-map os es (λ k o e. IsObligationOf history o e) (λ k o e. IsObligationOf more o e) obligation-stays h

  module _ (sys : System) (m n : Machine) (failed : n.failed ≡ m.failed)
      (to : (i : ℕ) (w : World) (c : ℕ) → IsIn sys m i w c → IsIn sys n i w c) (from : (i : ℕ) (w : World) (c : ℕ) → IsIn sys n i w c → IsIn sys m i w c) where
    valid-to : (k : ℕ) (c : Clause) (f : FailedPush) → IsValid sys m k c f → IsValid sys n k c f
    valid-to k c f v = record { live = v.live; clause = v.clause; level = v.level; inside = to f.level f.step 0 v.inside }

    valid-from : (k : ℕ) (c : Clause) (f : FailedPush) → IsValid sys n k c f → IsValid sys m k c f
    valid-from k c f v = record { live = v.live; clause = v.clause; level = v.level; inside = from f.level f.step 0 v.inside }

    push-stays : (k : ℕ) (c : Clause) (o : Option ℕ) → IsValidPush history sys m k c o → IsValidPush more sys n k c o
    push-stays k c None h = λ any.
        let a = place-any (IsValid sys n k c) n.failed any in
        h (any-of_place (IsValid sys m k c) m.failed a.0 a.1 (subst (λ fs. slice_get fs a.0 ≡ Some a.1) failed a.2) (valid-from k c a.1 a.3))
    push-stays k c (Some place) h = record {
      number = h.number;
      failed = h.failed;
      there = subst (λ fs. slice_get fs h.number ≡ Some h.failed) (sym failed) h.there;
      valid = valid-to k c h.failed h.valid;
      step = world-stays place h.failed.step h.step;
    }

    pub clause-stays : (k : ℕ) (c : Clause) (e : ClauseEntry) → IsClauseOf history sys m k c e → IsClauseOf more sys n k c e
    clause-stays k c e h = record { cube = cube-stays e.learnt c.cube h.cube; level = h.level; live = h.live; failed = push-stays k c e.failed h.failed }

    pub clauses-stay : (cs : List Clause) (es : List ClauseEntry) → Pairs cs es (λ k c e. IsClauseOf history sys m k c e) → Pairs cs es (λ k c e. IsClauseOf more sys n k c e)
    clauses-stay cs es h = pairs-map cs es (λ k c e. IsClauseOf history sys m k c e) (λ k c e. IsClauseOf more sys n k c e) clause-stays h

  -- the machine keeps its clauses and failed pushes
  module _ (sys : System) (m n : Machine) (clauses : n.clauses ≡ m.clauses) (failed : n.failed ≡ m.failed) where
    in-to : (i : ℕ) (w : World) (c : ℕ) → IsIn sys m i w c → IsIn sys n i w c
    in-to i w c h = subst (λ cs. IsIn sys (record m { clauses = cs }) i w c) (sym clauses) h

    in-from : (i : ℕ) (w : World) (c : ℕ) → IsIn sys n i w c → IsIn sys m i w c
    in-from i w c h = subst (λ cs. IsIn sys (record m { clauses = cs }) i w c) clauses h

    pub clauses-kept : (es : List ClauseEntry) → Pairs m.clauses es (λ k c e. IsClauseOf history sys m k c e) → Pairs n.clauses es (λ k c e. IsClauseOf more sys n k c e)
    clauses-kept es h = subst (λ cs. Pairs cs es (λ k c e. IsClauseOf more sys n k c e)) (sym clauses) (clauses-stay sys m n failed in-to in-from m.clauses es h)
