-- All spots of a verdict pass exactly where it holds.
use Rattle.std.proofs.Common.{◌≡◌, ℕ, ◌+◌, ◌-◌, ◌<◌, List, [], ◌∷◌, ◌++◌, Some, length, sym, ap, subst, ◌∙◌, arith}
use Rattle.std.specs.List.{All}
use Rattle.std.proofs.lemmas.List.Elements.{All-nil, All-append, All-from_get_or}
use Rattle.std.proofs.lemmas.Option.{slice_get_within, slice_get-get_or, get_or_from_slice_get}
use Rattle.fo_core.specs.declared.system.System.{System}
use Rattle.fo_core.specs.declared.world.World.{World}
use Rattle.fo_core.specs.Runs.{IsViolatingRun}
use Rattle.fo_core.proofs.ListFacts.{all_left, all_right, all_map, all_mapped}
use Rattle.up_diagram.specs.declared.cube.Cube.{Cube}
use Rattle.up_claims.specs.declared.verdict.Kept.{Kept}
use Rattle.up_claims.specs.declared.verdict.Leave.{Leave}
use Rattle.up_claims.specs.declared.verdict.Verdict.{Verdict}
use Rattle.up_claims.specs.declared.verdict.Verdict.TheVariants as verdict
use Rattle.up_claims.specs.Blocked.{NoInitial, NoStep}
use Rattle.up_claims.specs.Verdicts.{cubes_of, frame_below, AreLeaves, IsLeave, IsBounded, Holds}
use Rattle.up_claims.proofs.CubeInvariantLemmas.{invariant-there, invariant-back}
use Rattle.up_cert.specs.declared.spot.Spot.{Spot}
use Rattle.up_cert.specs.declared.spot.What.TheVariants as what
use Rattle.up_cert.specs.Asked.{IsVerdict}
use Rattle.up_cert.specs.VerdictSpots.{Passes, spots_of, spot, spots_below, leaves_to, clause_spots, frame_spots, clause_at, no_clause, leave_at, no_leave, last_copy}
use Rattle.up_cert.proofs.ChainPasses.{chain-there, chain-back}
use Rattle.up_cert.proofs.Numbered.{each-from, each-to, one-from, one-to, frame-all}
use Rattle.up_cert.proofs.SpotLemmas.{run-states}

-- what holds of the clauses' cubes, or of the clauses, holds of each by its number
cubes-by-number : (P : Cube → Type 0) (clauses : List Kept) → All P (cubes_of clauses) → (k : ℕ) → k < length clauses → P (clause_at clauses k).cube
cubes-by-number P clauses h k lt = all_map P (λ (kept : Kept). kept.cube) clauses h k no_clause lt

numbers-of-cubes : (P : Cube → Type 0) (clauses : List Kept) → ((k : ℕ) → k < length clauses → P (clause_at clauses k).cube) → All P (cubes_of clauses)
numbers-of-cubes P clauses h = all_mapped P (λ (kept : Kept). kept.cube) clauses (All-from_get_or (λ (kept : Kept). P kept.cube) clauses no_clause h)

module _ (sys : System) where
  -- ---- violating runs
  module _ (w : World) where
    abbrev R : Spot → Type 0
    R = Passes sys (verdict.Unsafe w)

    abbrev states : List Spot
    states = spots_below what.State (length w.copies)

    abbrev steps : List Spot
    steps = spots_below what.Step (last_copy w)

    run-there : IsVerdict sys.sig (verdict.Unsafe w) → All R (spots_of (verdict.Unsafe w)) → IsViolatingRun sys w
    run-there over h =
        let front = all_left R (states ++ spot what.Init 0 ∷ []) (steps ++ spot what.Safety 0 ∷ []) h in
        let behind = all_right R (states ++ spot what.Init 0 ∷ []) (steps ++ spot what.Safety 0 ∷ []) h in
        record {
          run = record {
            fits = over.worlds.fits;
            initial = one-to R (spot what.Init 0) (all_right R states (spot what.Init 0 ∷ []) front);
            steps = λ c lt. one-to R (spot what.Step c) (each-from R (λ k. spot what.Step k ∷ []) (last_copy w) (all_left R steps (spot what.Safety 0 ∷ []) behind) c (omega (arith, lt)));
          };
          violates = one-to R (spot what.Safety 0) (all_right R steps (spot what.Safety 0 ∷ []) behind);
        }

    run-back : IsViolatingRun sys w → All R (spots_of (verdict.Unsafe w))
    run-back bad =
        All-append R (states ++ spot what.Init 0 ∷ []) (steps ++ spot what.Safety 0 ∷ [])
        (All-append R states (spot what.Init 0 ∷ [])
        (each-to R (λ k. spot what.State k ∷ []) (length w.copies) (λ k lt. one-from R (spot what.State k) (run-states sys w bad.run k lt)))
        (one-from R (spot what.Init 0) bad.run.initial))
        (All-append R steps (spot what.Safety 0 ∷ [])
        (each-to R (λ k. spot what.Step k ∷ []) (last_copy w) (λ k lt. one-from R (spot what.Step k) (bad.run.steps k (omega (arith, lt)))))
        (one-from R (spot what.Safety 0) bad.violates))

  -- ---- clauses
  module _ (told : Verdict) (clauses : List Kept) where
    abbrev P : Spot → Type 0
    P = Passes sys told

    -- the spots of clauses pass where they pass by number
    pub record PassByNumber : Type 0 where
      pub starts : (k : ℕ) → k < length clauses → P (spot what.Init k)
      pub keeps : (k : ℕ) → k < length clauses → P (spot what.Step k)
      pub safe : P (spot what.Safety 0)

    pub frame-from : All P (frame_spots clauses) → PassByNumber
    frame-from h =
        let both = all_left P (clause_spots clauses) (spot what.Safety 0 ∷ []) h in
        let n = length clauses in
        record {
          starts = λ k lt. one-to P (spot what.Init k) (each-from P (λ j. spot what.Init j ∷ []) n (all_left P (spots_below what.Init n) (spots_below what.Step n) both) k lt);
          keeps = λ k lt. one-to P (spot what.Step k) (each-from P (λ j. spot what.Step j ∷ []) n (all_right P (spots_below what.Init n) (spots_below what.Step n) both) k lt);
          safe = one-to P (spot what.Safety 0) (all_right P (clause_spots clauses) (spot what.Safety 0 ∷ []) h);
        }

    pub frame-to : PassByNumber → All P (frame_spots clauses)
    frame-to h = frame-all P clauses h.starts h.keeps h.safe

  module _ (frame : ℕ) (clauses : List Kept) where
    safe-there : IsVerdict sys.sig (verdict.Safe frame clauses) → All (Passes sys (verdict.Safe frame clauses)) (frame_spots clauses) → Holds sys (verdict.Safe frame clauses)
    safe-there over h =
        let p = frame-from (verdict.Safe frame clauses) clauses h in
        invariant-back sys (cubes_of clauses) over.cubes (record {
          starts = numbers-of-cubes (NoInitial sys) clauses p.starts;
          keeps = numbers-of-cubes (NoStep sys (Some (cubes_of clauses))) clauses p.keeps;
          safe = p.safe;
        })

    safe-back : Holds sys (verdict.Safe frame clauses) → All (Passes sys (verdict.Safe frame clauses)) (frame_spots clauses)
    safe-back h =
        let a = invariant-there sys (cubes_of clauses) h in
        frame-to (verdict.Safe frame clauses) clauses (record {
          starts = cubes-by-number (NoInitial sys) clauses a.starts;
          keeps = cubes-by-number (NoStep sys (Some (cubes_of clauses))) clauses a.keeps;
          safe = a.safe;
        })

  -- ---- frames
  module _ (last : ℕ) (clauses : List Kept) (leaves : List Leave) where
    abbrev B : Spot → Type 0
    B = Passes sys (verdict.Bounded last clauses leaves)

    abbrev S : Kept → Type 0
    S kept = NoStep sys (frame_below clauses kept) kept.cube

    -- number k + 1 less 1
    pub leaf : (k : ℕ) → leave_at leaves (k + 1 - 1) ≡ leave_at leaves k
    leaf k = let e : k + 1 - 1 ≡ k = omega arith in ap (leave_at leaves) e

    left-from : length leaves ≡ last → All B (leaves_to last) → AreLeaves sys last clauses leaves
    left-from long h = record {
      one_each = long;
      each = λ k leave at.
          let within = slice_get_within leaves k leave at in
          let is : leave_at leaves (k + 1 - 1) ≡ leave = leaf k ∙ get_or_from_slice_get leaves k leave no_leave at in
          subst (IsLeave sys clauses (k + 1)) is (one-to B (spot what.Leave (k + 1)) (each-from B (λ j. spot what.Leave (j + 1) ∷ []) last h k (subst (λ (n : ℕ). k < n) long within)));
    }

    left-to : AreLeaves sys last clauses leaves → All B (leaves_to last)
    left-to h =
        each-to B (λ j. spot what.Leave (j + 1) ∷ []) last
        (λ k lt.
        let within : k < length leaves = omega (arith, lt, h.one_each) in
        one-from B (spot what.Leave (k + 1)) (subst (IsLeave sys clauses (k + 1)) (sym (leaf k)) (h.each k (leave_at leaves k) (slice_get-get_or leaves k no_leave within))))

    bounded-there : IsVerdict sys.sig (verdict.Bounded last clauses leaves) → All B (spots_of (verdict.Bounded last clauses leaves)) → IsBounded sys last clauses leaves
    bounded-there over h =
        let p = frame-from (verdict.Bounded last clauses leaves) clauses (all_left B (frame_spots clauses) (leaves_to last) h) in
        record {
          starts = numbers-of-cubes (NoInitial sys) clauses p.starts;
          keeps = All-from_get_or S clauses no_clause p.keeps;
          safe = p.safe;
          left = left-from over.leaves (all_right B (frame_spots clauses) (leaves_to last) h);
        }

    bounded-back : IsBounded sys last clauses leaves → All B (spots_of (verdict.Bounded last clauses leaves))
    bounded-back h =
        All-append B (frame_spots clauses) (leaves_to last)
        (frame-to (verdict.Bounded last clauses leaves) clauses (record {
          starts = cubes-by-number (NoInitial sys) clauses h.starts;
          keeps = λ k lt. h.keeps k no_clause lt;
          safe = h.safe;
        }))
        (left-to h.left)

  pub passes-there : (told : Verdict) → IsVerdict sys.sig told → All (Passes sys told) (spots_of told) → Holds sys told
  passes-there (verdict.Safe frame clauses) over h = safe-there frame clauses over h
  passes-there (verdict.Unsafe w) over h = run-there w over h
  passes-there (verdict.NoUniversal links) over h = chain-there sys links h
  passes-there (verdict.Bounded last clauses leaves) over h = bounded-there last clauses leaves over h
  passes-there (verdict.Spent spent) over h = tt
  passes-there (verdict.Over kind weight) over h = tt
  passes-there (verdict.NoRun k) over h = one-to (Passes sys (verdict.NoRun k)) (spot what.Run 0) h

  pub passes-back : (told : Verdict) → Holds sys told → All (Passes sys told) (spots_of told)
  passes-back (verdict.Safe frame clauses) h = safe-back frame clauses h
  passes-back (verdict.Unsafe w) h = run-back w h
  passes-back (verdict.NoUniversal links) h = chain-back sys links h
  passes-back (verdict.Bounded last clauses leaves) h = bounded-back last clauses leaves h
  passes-back (verdict.Spent spent) h = All-nil (Passes sys (verdict.Spent spent))
  passes-back (verdict.Over kind weight) h = All-nil (Passes sys (verdict.Over kind weight))
  passes-back (verdict.NoRun k) h = one-from (Passes sys (verdict.NoRun k)) (spot what.Run 0) h
