-- What follows for a system from verdicts that hold: it is safe where it has an invariant, and runs stay
-- in the frames of clauses that are bounded.
use Rattle.std.proofs.Common.{◌≡◌, ℕ, zero, suc, Bool, ◌+◌, ◌-◌, ◌<◌, ◌≤◌, List, length, get_or, subst, arith}
use Rattle.std.specs.List.{All, filter}
use Rattle.std.specs.Prelude.{nat_le}
use Rattle.std.proofs.lemmas.Bool.{leb-true}
use Rattle.std.proofs.lemmas.List.Elements.{All-nil, All-filter, filter_passes}
use Rattle.fo_core.specs.declared.formula.Formula.{Formula}
use Rattle.fo_core.specs.declared.system.System.{System}
use Rattle.fo_core.specs.declared.world.World.{World}
use Rattle.fo_core.specs.Runs.{IsState, IsRun, IsSafe}
use Rattle.fo_core.proofs.ListFacts.{all_map, all_mapped}
use Rattle.up_diagram.specs.Cubes.{Meets}
use Rattle.up_claims.specs.declared.verdict.Kept.{Kept}
use Rattle.up_claims.specs.declared.verdict.Leave.{Leave}
use Rattle.up_claims.specs.Blocked.{NoInitial, NoStep}
use Rattle.up_claims.specs.Frames.{Avoids, IsInFrame}
use Rattle.up_claims.specs.Inductive.{AreTrue, IsInvariant}
use Rattle.up_claims.specs.Verdicts.{cubes_from, printed_frame, frame_below, IsBounded, HasNoRunWithin}

module _ (sys : System) (w : World) (run : IsRun sys w) where
  -- each copy of a run is a state
  state-of : (c : ℕ) → c < length w.copies → IsState sys w c
  state-of zero lt = run.initial.state
  state-of (suc c) lt = subst (IsState sys w) (omega arith) (run.steps c (omega (arith, lt))).next_state

  -- each has all inductive properties
  true-in : (fs : List Formula) → IsInvariant sys fs → (c : ℕ) → c < length w.copies → AreTrue sys fs w c
  true-in fs h zero lt = h.inductive.starts w 0 run.fits lt run.initial
  true-in fs h (suc c) lt =
      let more : c + 1 < length w.copies = omega (arith, lt) in
      let next : c + 1 ≡ suc c = omega arith in
      subst (AreTrue sys fs w) next (h.inductive.keeps w c run.fits more (run.steps c more) (true-in fs h c (omega (arith, lt))))

pub invariant-is-safe : (sys : System) (fs : List Formula) → IsInvariant sys fs → IsSafe sys
invariant-is-safe sys fs h w bad =
    let last : length w.copies - 1 < length w.copies = omega (arith, bad.run.fits.some_copy) in
    h.safe w (length w.copies - 1) bad.run.fits last (state-of sys w bad.run (length w.copies - 1) last) (true-in sys w bad.run fs h (length w.copies - 1) last) bad.violates

module _ (sys : System) (last : ℕ) (clauses : List Kept) (leaves : List Leave) (h : IsBounded sys last clauses leaves) where
  -- the clause is in the frames from this one on
  abbrev passes : ℕ → Kept → Bool
  passes i kept = nat_le i kept.level

  -- what keeps runs out of the clause's cube
  record IsKeptOut (kept : Kept) : Type 0 where
    no_initial : NoInitial sys kept.cube
    no_step : NoStep sys (frame_below clauses kept) kept.cube

  kept-out : All IsKeptOut clauses
  kept-out k d lt = record {
    no_initial = all_map (NoInitial sys) (λ (kept : Kept). kept.cube) clauses h.starts k d lt;
    no_step = h.keeps k d lt;
  }

  module _ (w : World) (run : IsRun sys w) where
    -- a copy that meets no cube of a clause of at least this level
    avoids-where : (c i : ℕ) → ((kept : Kept) → IsKeptOut kept → i ≤ kept.level → ¬ Meets sys.sig w c kept.cube) → Avoids sys.sig w c (cubes_from clauses i)
    avoids-where c i each =
        all_mapped (λ cube. ¬ Meets sys.sig w c cube) (λ (kept : Kept). kept.cube) (filter (passes i) clauses)
        (λ k d lt. each (get_or (filter (passes i) clauses) k d) (All-filter (passes i) IsKeptOut clauses kept-out k d lt) (leb-true i _ (filter_passes (passes i) clauses k d lt)))

    framed-where : (c : ℕ) → c < length w.copies → ((i : ℕ) → c ≤ i → Avoids sys.sig w c (cubes_from clauses i)) → (j : ℕ) → c ≤ j → IsInFrame sys (printed_frame clauses j) w c
    framed-where zero lt avoids zero le = run.initial
    framed-where (suc c) lt avoids zero le = absurd (omega (arith, le))
    framed-where c lt avoids (suc j) le = (state-of sys w run c lt, avoids (suc j) le)

    -- so the next copy meets none either
    avoids-next : (c : ℕ) → suc c < length w.copies → ((i : ℕ) → c ≤ i → Avoids sys.sig w c (cubes_from clauses i)) → (i : ℕ) → suc c ≤ i → Avoids sys.sig w (suc c) (cubes_from clauses i)
    avoids-next c lt earlier i le = avoids-where (suc c) i next
      where
        more : c + 1 < length w.copies
        more = omega (arith, lt)

        same : suc c ≡ c + 1
        same = omega arith

        next : (kept : Kept) → IsKeptOut kept → i ≤ kept.level → ¬ Meets sys.sig w (suc c) kept.cube
        next kept out within meets =
            out.no_step w c run.fits more (framed-where c (omega (arith, lt)) earlier (kept.level - 1) (omega (arith, le, within))) (run.steps c more)
            (subst (λ n. Meets sys.sig w n kept.cube) same meets)

    avoids : (c : ℕ) → c < length w.copies → (i : ℕ) → c ≤ i → Avoids sys.sig w c (cubes_from clauses i)
    avoids zero lt i le = avoids-where 0 i (λ kept out within meets. out.no_initial w 0 run.fits lt run.initial meets)
    avoids (suc c) lt i le = avoids-next c lt (avoids c (omega (arith, lt))) i le

    pub in-frame : (c i : ℕ) → c < length w.copies → c ≤ i → IsInFrame sys (printed_frame clauses i) w c
    in-frame c i lt le = framed-where c lt (avoids c lt) i le

  pub no-run-within : 1 ≤ last → HasNoRunWithin sys last
  no-run-within some j le w r =
      let c = length w.copies - 1 in
      let within : c < length w.copies = omega (arith, r.copies) in
      h.safe w c r.run.run.fits within (state-of sys w r.run.run c within) (avoids w r.run.run c within last (omega (arith, r.copies, le))) r.run.violates
      (All-nil (λ cube. ¬ Meets sys.sig w c cube))
