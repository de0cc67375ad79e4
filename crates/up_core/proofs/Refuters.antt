-- Which clause of the machine refutes a state, by the entries of its clauses.
use Rattle.std.proofs.Common.{◌≡◌, ℕ, ◌<◌, ◌≤◌, true, List, length, Some, slice_get, sym, subst, ◌∙◌}
use Rattle.fo_core.specs.declared.system.System.{System}
use Rattle.fo_core.specs.declared.world.World.{World}
use Rattle.fo_core.specs.Runs.{IsState}
use Rattle.fo_core.specs.Sorted.{IsSystem}
use Rattle.fo_core.specs.Tables.{Fits}
use Rattle.up_diagram.specs.declared.cube.Cube.{Cube}
use Rattle.up_diagram.specs.Cubes.{Meets, IsCube}
use Rattle.up_machine.specs.declared.event.Event.{Event}
use Rattle.up_machine.specs.Due.{IsFirst}
use Rattle.up_machine.specs.Machine.{Clause, Machine, IsIn, Refutes, IsFirstRefuter}
use Rattle.up_machine.specs.Sound.{IsFit}
use Rattle.up_machine.proofs.FrameEvents.{told_in}
use Rattle.up_machine.proofs.Frames.{each-avoids}
use Rattle.up_machine.proofs.Lists.{some_injective, two_places}
use Rattle.up_core.specs.declared.state.ClauseEntry.{ClauseEntry}
use Rattle.up_core.specs.declared.state.State.{State}
use Rattle.up_core.specs.Mirror.{IsCubeAt, IsClauseOf, IsMirror}
use Rattle.up_core.specs.Refuting.{AreTriable, IsRefuting}
use Rattle.up_core.specs.Room.{IsRoomy}
use Rattle.up_core.proofs.Pairing.{pairs-left, pairs-right}

module _ (sys : System) (history : List Event) (m : Machine) (s : State) (mirror : IsMirror sys history m s) (w : World) where
  abbrev IsEntryOf : ℕ → Clause → ClauseEntry → Type 0
  IsEntryOf k c e = IsClauseOf history sys m k c e

  abbrev IsHit : ℕ → ClauseEntry → Type 0
  IsHit i e = IsRefuting history sys.sig w i e

  -- the cube of an entry is its clause's
  cube-is : (k : ℕ) (c : Clause) (e : ClauseEntry) (cube : Cube) → IsEntryOf k c e → IsCubeAt history e.learnt cube → c.cube ≡ cube
  cube-is k c e cube h at = some_injective c.cube cube (sym h.cube ∙ at)

  hit-to : (i k : ℕ) (c : Clause) (e : ClauseEntry) → 1 ≤ i → slice_get m.clauses k ≡ Some c → IsEntryOf k c e → IsHit i e → Refutes sys m i w 0 k
  hit-to i k c e low there h hit = record {
    told = low;
    clause = c;
    there = there;
    live = h.live ∙ hit.live;
    level = subst (λ n. i ≤ n) (sym h.level) hit.level_is;
    meets = subst (Meets sys.sig w 0) (sym (cube-is k c e hit.met.cube h hit.met.there)) hit.met.meets;
  }

  hit-from : (i k : ℕ) (c : Clause) (e : ClauseEntry) → slice_get m.clauses k ≡ Some c → IsEntryOf k c e → Refutes sys m i w 0 k → IsHit i e
  hit-from i k c e there h r =
      let same = two_places m.clauses k r.clause c r.there there in
      record {
        live = sym h.live ∙ subst (λ (x : Clause). x.live ≡ true) same r.live;
        level_is = subst (λ n. i ≤ n) h.level (subst (λ (x : Clause). i ≤ x.level) same r.level);
        met = record { cube = c.cube; there = h.cube; meets = subst (λ (x : Clause). Meets sys.sig w 0 x.cube) same r.meets };
      }

  -- the first entry that refutes is the first clause that does
  pub refuter-of : (i k : ℕ) → 1 ≤ i → IsFirst s.clauses.items (λ _ e. IsHit i e) k → IsFirstRefuter sys m i w 0 k
  refuter-of i k low f =
      let r = pairs-left m.clauses s.clauses.items IsEntryOf mirror.clauses k f.found f.there in
      record {
        refutes = hit-to i k r.0 f.found low r.1 r.2 f.has;
        first = λ j lt refutes.
            let q = pairs-right m.clauses s.clauses.items IsEntryOf mirror.clauses j refutes.clause refutes.there in
            f.first j q.0 lt q.1 (hit-from i j refutes.clause q.0 refutes.there q.2 refutes);
      }

  -- where no entry refutes a state it lies in the frame
  pub inside-of : (i : ℕ) → 1 ≤ i → IsState sys w 0 → ((k : ℕ) (e : ClauseEntry) → slice_get s.clauses.items k ≡ Some e → ¬ IsHit i e) → IsIn sys m i w 0
  inside-of i low state none =
      told_in sys m.clauses i w 0 low state
      (each-avoids sys m.clauses i w 0
      (λ k c there live le meets.
      let q = pairs-right m.clauses s.clauses.items IsEntryOf mirror.clauses k c there in
      none k q.0 q.1 (hit-from i k c q.0 there q.2 (record { told = low; clause = c; there = there; live = live; level = le; meets = meets }))))

  -- the world may be tried against all clauses
  pub triable : (variables widest : ℕ) → IsSystem sys → IsFit sys m → IsRoomy variables widest m → Fits sys.sig w → 0 < length w.copies → AreTriable history sys.sig w variables s.clauses.items
  triable variables widest good fit roomy fits some k e there =
      let r = pairs-left m.clauses s.clauses.items IsEntryOf mirror.clauses k e there in
      record {
        meet = λ cube at. record {
          signature = good.signature;
          fits = fits;
          copy = some;
          sorted = subst (λ x. IsCube sys.sig x) (cube-is k r.0 e cube r.2 at) (fit.cubes k r.0 r.1);
        };
        fits = λ cube at. subst (λ (x : Cube). length x.sorts ≤ variables) (cube-is k r.0 e cube r.2 at) (roomy.cubes k r.0 r.1);
      }
