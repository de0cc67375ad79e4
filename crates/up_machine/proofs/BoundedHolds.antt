-- A Bounded verdict holds.
use Rattle.std.proofs.Common.{◌≡◌, ℕ, zero, suc, ◌+◌, ◌-◌, ◌≤◌, Bool, true, false, cond, ◌&&◌, nat_le, List, [], ◌∷◌, length, map, filter, take, Some, slice_get, refl, sym, ap, ap₂, subst, ◌∙◌, le-leb, arith}
use Rattle.fo_core.specs.declared.system.System.{System}
use Rattle.fo_core.proofs.ListFacts.{all_mapped}
use Rattle.up_diagram.specs.Cubes.{Meets}
use Rattle.up_claims.specs.declared.verdict.Kept.{Kept}
use Rattle.up_claims.specs.declared.verdict.Leave.{Leave}
use Rattle.up_claims.specs.Blocked.{NoInitial, NoStep, NoSeed}
use Rattle.up_claims.specs.Finding.{IsStepInto}
use Rattle.up_claims.specs.Frames.{IsInFrame, frame_at}
use Rattle.up_claims.specs.Verdicts.{cubes_of, cubes_from as printed_from, printed_frame, frame_below, IsLeave, IsBounded}
use Rattle.up_machine.specs.Machine.{Clause, Machine, is_from, cubes_from, frame}
use Rattle.up_machine.specs.Due.{IsQuiet}
use Rattle.up_machine.specs.Sound.{IsFrameSound, AreSoundFails}
use Rattle.up_machine.specs.Told.{kept_of, kept_from, live_of, IsLeaveOf, AreLeavesOf}
use Rattle.up_machine.proofs.Lists.{some_injective, none_is_some, kept-all, get-map, two_places}

-- the told clauses from a level on have the frame's cubes
pub told_cubes : (cs : List Clause) (i : ℕ) → cubes_of (kept_from cs i) ≡ cubes_from cs i
told_cubes [] i = refl
told_cubes (c ∷ cs) i = step (is_from i c) (told_cubes cs i)
  where
    step : (b : Bool) → cubes_of (kept_from cs i) ≡ cubes_from cs i →
        map (λ (k : Kept). k.cube) (map kept_of (cond b (c ∷ filter (is_from i) cs) (filter (is_from i) cs)))
        ≡ map (λ (k : Clause). k.cube) (cond b (c ∷ filter (is_from i) cs) (filter (is_from i) cs))
    step true e = ap (λ xs. c.cube ∷ xs) e
    step false e = e

filter_same : {X : Type 0} (test other : X → Bool) (xs : List X) → ((x : X) → test x ≡ other x) → filter test xs ≡ filter other xs
filter_same test other [] h = refl
filter_same test other (x ∷ xs) h = ap₂ (λ b ys. cond b (x ∷ ys) ys) (h x) (filter_same test other xs h)

with_true : (a b : Bool) → b ≡ true → (a && b) ≡ a
with_true true b e = e
with_true false b e = refl

all_kept : (cs : List Clause) → kept_from cs 0 ≡ map kept_of (live_of cs)
all_kept cs = ap (map kept_of) (filter_same (is_from 0) (λ (c : Clause). c.live) cs (λ c. with_true c.live (nat_le 0 c.level) (le-leb 0 c.level (omega arith))))

-- the printed frames are the machine's
printed : (cs : List Clause) (i : ℕ) → printed_from (map kept_of (live_of cs)) i ≡ cubes_from cs i
printed [] i = refl
printed (c ∷ cs) i = step c.live (printed cs i)
  where
    by_level : (b : Bool) → printed_from (map kept_of (live_of cs)) i ≡ cubes_from cs i →
        map (λ (k : Kept). k.cube) (cond b (kept_of c ∷ filter (λ (k : Kept). nat_le i k.level) (map kept_of (live_of cs))) (filter (λ (k : Kept). nat_le i k.level) (map kept_of (live_of cs))))
        ≡ map (λ (k : Clause). k.cube) (cond b (c ∷ filter (is_from i) cs) (filter (is_from i) cs))
    by_level true e = ap (λ xs. c.cube ∷ xs) e
    by_level false e = e

    step : (b : Bool) → printed_from (map kept_of (live_of cs)) i ≡ cubes_from cs i →
        printed_from (map kept_of (cond b (c ∷ live_of cs) (live_of cs))) i
        ≡ map (λ (k : Clause). k.cube) (cond (b && nat_le i c.level) (c ∷ filter (is_from i) cs) (filter (is_from i) cs))
    step true e = by_level (nat_le i c.level) e
    step false e = e

printed_is : (cs : List Clause) (i : ℕ) → printed_frame (map kept_of (live_of cs)) i ≡ frame cs i
printed_is cs i = ap (frame_at i) (printed cs i)

-- where what stands at a place stands among what passes the test
place_kept : {X : Type 0} (test : X → Bool) (xs : List X) (k : ℕ) (x : X) → slice_get xs k ≡ Some x → test x ≡ true → slice_get (filter test xs) (length (filter test (take k xs))) ≡ Some x
place_kept test [] k x e t = none_is_some x e
place_kept test (a ∷ xs) zero x e t = subst (λ b. slice_get (cond b (a ∷ filter test xs) (filter test xs)) 0 ≡ Some x) (sym (ap test (some_injective a x e) ∙ t)) e
place_kept {X} test (a ∷ xs) (suc k) x e t = step (test a) (place_kept test xs k x e t)
  where
    step : (b : Bool) → slice_get (filter test xs) (length (filter test (take k xs))) ≡ Some x →
        slice_get (cond b (a ∷ filter test xs) (filter test xs)) (length (cond b (a ∷ filter test (take k xs)) (filter test (take k xs)))) ≡ Some x
    step true h = h
    step false h = h

module _ (sys : System) (m : Machine) (sound : IsFrameSound sys m) (fails : AreSoundFails sys m) where
  abbrev kept : List Kept
  kept = map kept_of (live_of m.clauses)

  leave_holds : (i : ℕ) (leave : Leave) → IsLeaveOf sys m i leave → IsLeave sys (map kept_of (live_of m.clauses)) i leave
  leave_holds i leave l =
      let c = l.clause.found in
      let f = l.failed in
      let s = fails l.place f l.there in
      let same : s.clause ≡ c = two_places m.clauses l.number s.clause c (subst (λ k. slice_get m.clauses k ≡ Some s.clause) l.valid.clause s.there) l.clause.there in
      let level : f.level ≡ i = l.valid.level ∙ l.clause.has.1 in
      let inside = subst (λ j. IsInFrame sys (frame m.clauses j) f.step 0) level l.valid.inside in
      let step : IsStepInto sys (frame m.clauses i) c.cube f.step = record {
        fits = s.fits;
        copies = s.copies;
        in_frame = inside;
        step = s.step;
        meets = subst (λ (x : Clause). Meets sys.sig f.step 1 x.cube) same s.meets;
      } in
      let printed_step = subst (λ frame. IsStepInto sys frame c.cube f.step) (sym (printed_is m.clauses i)) step in
      record {
        level = l.level;
        kept = kept_of c;
        clause = get-map kept_of (live_of m.clauses) leave.clause c
            (subst (λ k. slice_get (live_of m.clauses) k ≡ Some c) (sym l.named) (place_kept (λ (x : Clause). x.live) m.clauses l.number c l.clause.there l.clause.has.0));
        exact = l.clause.has.1;
        step = subst (λ w. IsStepInto sys (printed_frame (map kept_of (live_of m.clauses)) i) c.cube w) (sym l.step) printed_step;
      }

  pub bounded_holds : IsQuiet m → (leaves : List Leave) → AreLeavesOf sys m leaves → IsBounded sys m.frontier (kept_from m.clauses 0) leaves
  bounded_holds quiet leaves left =
      let low = subst (λ i. 1 ≤ i) (sym quiet.secure) sound.begun in
      let safe = subst (λ i. NoSeed sys (cubes_from m.clauses i) []) quiet.secure (sound.secure_holds low) in
      subst (λ ks. IsBounded sys m.frontier ks leaves) (sym (all_kept m.clauses))
      (record {
        starts = all_mapped (NoInitial sys) (λ (k : Kept). k.cube) (map kept_of (live_of m.clauses))
            (kept-all kept_of (λ (k : Kept). NoInitial sys k.cube) (λ (c : Clause). c.live) m.clauses (λ k c e t. (sound.each_clause k c e).no_initial));
        keeps = kept-all kept_of (λ (k : Kept). NoStep sys (frame_below (map kept_of (live_of m.clauses)) k) k.cube) (λ (c : Clause). c.live) m.clauses
            (λ k c e t. subst (λ frame. NoStep sys frame c.cube) (sym (printed_is m.clauses (c.level - 1))) (sound.each_clause k c e).no_step);
        safe = subst (λ cubes. NoSeed sys cubes []) (sym (printed m.clauses m.frontier)) safe;
        left = record { one_each = left.one_each; each = λ k leave e. leave_holds (k + 1) leave (left.each k leave e) };
      })
