-- Which failed pushes stay valid where a clause comes into some frames.
use Rattle.std.proofs.Common.{◌≡◌, ℕ, ◌≤◌, false, List, [], ◌∷◌, ◌++◌, Option, None, Some, slice_get, refl, sym, ap, subst, ◌∙◌, arith, ◌⊎◌, inl, inr, Any, true≢false}
use Rattle.fo_core.specs.declared.signature.Sig.{Sig}
use Rattle.fo_core.specs.declared.system.System.{System}
use Rattle.fo_core.specs.declared.world.World.{World}
use Rattle.up_diagram.specs.declared.cube.Cube.{Cube}
use Rattle.up_diagram.specs.Cubes.{Meets}
use Rattle.up_machine.specs.declared.event.Event.{Event}
use Rattle.up_machine.specs.Due.{IsValid}
use Rattle.up_machine.specs.Machine.{Clause, FailedPush, Machine, IsIn}
use Rattle.up_machine.proofs.Lists.{any-of_place, some_injective, two_places}
use Rattle.up_core.specs.declared.state.ClauseEntry.{ClauseEntry}
use Rattle.up_core.specs.Lapsing.{IsHit, IsLapsed, AreLapsable}
use Rattle.up_core.specs.Mirror.{IsCubeAt, IsValidPush, IsValidAt, IsClauseOf}
use Rattle.up_core.proofs.Grown.{cube-stays, world-stays}
use Rattle.up_core.proofs.Pairing.{place-any}

-- The clause with this cube comes into the frames from low to high: a state of such a frame before
-- is one now exactly where it doesn't meet the cube, and other frames stay.
pub record ComesInto (sys : System) (m n : Machine) (cube : Cube) (low high : ℕ) : Type 0 where
  pub failed : n.failed ≡ m.failed
  pub down : (i : ℕ) (w : World) → IsIn sys n i w 0 → IsIn sys m i w 0
  pub up : (i : ℕ) (w : World) → 1 ≤ i → IsIn sys m i w 0 → (low ≤ i → i ≤ high → ¬ Meets sys.sig w 0 cube) → IsIn sys n i w 0
  pub out : (i : ℕ) (w : World) → low ≤ i → i ≤ high → 1 ≤ i → IsIn sys n i w 0 → ¬ Meets sys.sig w 0 cube

-- no clause has two valid failed pushes
abbrev pub IsOnce : System → Machine → Type 0
IsOnce sys m =
    (k i j : ℕ) (c : Clause) (f g : FailedPush) → slice_get m.clauses k ≡ Some c → slice_get m.failed i ≡ Some f → slice_get m.failed j ≡ Some g →
    IsValid sys m k c f → IsValid sys m k c g → i ≡ j

module _ (sys : System) (history : List Event) (event : Event) (m n : Machine) (cube : Cube) (low high : ℕ) (comes : ComesInto sys m n cube low high) (once : IsOnce sys m) where
  abbrev more : List Event
  more = history ++ event ∷ []

  abbrev IsHitBy : ClauseEntry → Type 0
  IsHitBy e = IsHit history sys.sig cube low high e

  valid-down : (k : ℕ) (c : Clause) (f : FailedPush) → IsValid sys n k c f → IsValid sys m k c f
  valid-down k c f v = record { live = v.live; clause = v.clause; level = v.level; inside = comes.down f.level f.step v.inside }

  none-down : (k : ℕ) (c : Clause) → ¬ Any (IsValid sys m k c) m.failed → ¬ Any (IsValid sys n k c) n.failed
  none-down k c none any =
      let a = place-any (IsValid sys n k c) n.failed any in
      none (any-of_place (IsValid sys m k c) m.failed a.0 a.1 (subst (λ fs. slice_get fs a.0 ≡ Some a.1) comes.failed a.2) (valid-down k c a.1 a.3))

  module _ (k : ℕ) (c : Clause) (e : ClauseEntry) (there : slice_get m.clauses k ≡ Some c) (low_is : 1 ≤ c.level) (h : IsClauseOf history sys m k c e) where
    -- what isn't hit stays valid
    stays : (o : Option ℕ) → e.failed ≡ o → ¬ IsHitBy e → IsValidPush history sys m k c o → IsValidPush more sys n k c o
    stays None is miss p = none-down k c p
    stays (Some place) is miss p =
        let f = p.failed in
        let level : f.level ≡ c.level = p.valid.level in
        record {
          number = p.number;
          failed = f;
          there = subst (λ fs. slice_get fs p.number ≡ Some f) (sym comes.failed) p.there;
          valid = record {
            live = p.valid.live;
            clause = p.valid.clause;
            level = level;
            inside =
                comes.up f.level f.step (omega (arith, level, low_is)) p.valid.inside
                (λ from to meets. miss (record {
                  place = place;
                  failed = is;
                  from_low = omega (arith, from, level, h.level);
                  to_high = omega (arith, to, level, h.level);
                  hit = record { world = f.step; there = p.step; meets = meets };
                }));
          };
          step = world-stays history event place f.step p.step;
        }

    -- what is hit was the only valid one
    gone : IsHitBy e → ¬ Any (IsValid sys n k c) n.failed
    gone hit any =
        let a = place-any (IsValid sys n k c) n.failed any in
        let was = subst (λ fs. slice_get fs a.0 ≡ Some a.1) comes.failed a.2 in
        let p : IsValidAt history sys m k c hit.place = subst (IsValidPush history sys m k c) hit.failed h.failed in
        let place = once k a.0 p.number c a.1 p.failed there was p.there (valid-down k c a.1 a.3) p.valid in
        let same = two_places m.failed p.number a.1 p.failed (subst (λ i. slice_get m.failed i ≡ Some a.1) place was) p.there in
        let world = some_injective p.failed.step hit.hit.world (sym p.step ∙ hit.hit.there) in
        let level : a.1.level ≡ c.level = a.3.level in
        comes.out a.1.level a.1.step (omega (arith, level, h.level, hit.from_low)) (omega (arith, level, h.level, hit.to_high)) (omega (arith, level, low_is)) a.3.inside
        (subst (λ (x : World). Meets sys.sig x 0 cube) (sym (ap (λ (f : FailedPush). f.step) same ∙ world)) hit.hit.meets)

    lapse-failed : (f : ClauseEntry) → (f.failed ≡ e.failed) × (¬ IsHitBy e) ⊎ (f.failed ≡ None) × IsHitBy e → IsValidPush more sys n k c f.failed
    lapse-failed f (inl x) = subst (IsValidPush more sys n k c) (sym x.0) (stays e.failed refl x.1 h.failed)
    lapse-failed f (inr x) = subst (IsValidPush more sys n k c) (sym x.0) (gone x.1)

    pub lapse-clause : (f : ClauseEntry) → IsLapsed history sys.sig cube low high e f → IsClauseOf more sys n k c f
    lapse-clause f l = record {
      cube = subst (λ p. IsCubeAt more p c.cube) (sym l.learnt) (cube-stays history event e.learnt c.cube h.cube);
      level = h.level ∙ sym l.level;
      live = h.live ∙ sym l.live;
      failed = lapse-failed f l.failed;
    }

-- an entry that isn't live has no failed push, so nothing lapses
pub gone-lapsed : (history : List Event) (sig : Sig) (cube : Cube) (low high : ℕ) (es : List ClauseEntry) → AreLapsable history sig cube low high es →
    (k : ℕ) (e : ClauseEntry) → slice_get es k ≡ Some e → e.live ≡ false → IsLapsed history sig cube low high e e
gone-lapsed history sig cube low high es can k e there gone = record {
  learnt = refl;
  level = refl;
  live = refl;
  failed = inl (refl, λ hit. true≢false (sym ((can k e there).live hit.place hit.failed) ∙ gone));
}
