-- The frame below a clause's level: without one where that is 1, and else the cubes of the clauses from
-- the level before.
use Rattle.std.proofs.Common.{◌≡◌, ℕ, zero, suc, ◌-◌, ◌<◌, ◌≤◌, List, [], ◌∷◌, Bool, true, false, true≢false, cond, None, Some, length, refl, sym, ◌∙◌, arith}
use Rattle.std.specs.List.{All, filter}
use Rattle.std.specs.Prelude.{nat_le}
use Rattle.std.proofs.lemmas.Bool.{leb-true, le-leb}
use Rattle.std.proofs.lemmas.List.Elements.{All-nil, All-cons, All-head, All-tail, All-filter, filter_passes, All-from_get_or}
use Rattle.fo_core.specs.declared.system.System.{System}
use Rattle.fo_core.specs.declared.world.World.{World}
use Rattle.fo_core.proofs.ListFacts.{all_map, all_mapped}
use Rattle.up_diagram.specs.Cubes.{Meets}
use Rattle.up_claims.specs.Frames.{Avoids}
use Rattle.up_cert.specs.Clauses.{IsExcluded}
use Rattle.up_cert.specs.VerdictSpots.{clause_at, no_clause}
use Rattle.up_claims.specs.declared.verdict.Kept.{Kept}
use Rattle.up_claims.specs.Verdicts.{cubes_from, printed_frame, frame_below}

module _ (clauses : List Kept) where
  printed-none : (i : ℕ) → i ≤ 0 → printed_frame clauses i ≡ None
  printed-none zero le = refl
  printed-none (suc i) le = absurd (omega (arith, le))

  printed-some : (i : ℕ) → 1 ≤ i → printed_frame clauses i ≡ Some (cubes_from clauses i)
  printed-some zero le = absurd (omega (arith, le))
  printed-some (suc i) le = refl

  pub below-none : (kept : Kept) → kept.level ≤ 1 → frame_below clauses kept ≡ None
  below-none kept le = printed-none (kept.level - 1) (omega (arith, le))

  pub below-some : (kept : Kept) → 1 < kept.level → frame_below clauses kept ≡ Some (cubes_from clauses (kept.level - 1))
  below-some kept lt = printed-some (kept.level - 1) (omega (arith, lt))

-- what holds of those that pass a test holds of each where it passes
of-passing : {X : Type 0} (p : X → Bool) (P : X → Type 0) (xs : List X) → All P (filter p xs) → All (λ x. p x ≡ true → P x) xs
of-passing p P [] h = All-nil (λ x. p x ≡ true → P x)
of-passing p P (x ∷ xs) h = by_test (p x) refl (λ rest. of-passing p P xs rest) h
  where
    by_test : (b : Bool) → p x ≡ b → (All P (filter p xs) → All (λ x. p x ≡ true → P x) xs) → All P (cond b (x ∷ filter p xs) (filter p xs)) → All (λ x. p x ≡ true → P x) (x ∷ xs)
    by_test true is more h =
        All-cons (λ x. p x ≡ true → P x) x xs (λ _. All-head P x (filter p xs) h) (more (All-tail P x (filter p xs) h))
    by_test false is more h =
        All-cons (λ x. p x ≡ true → P x) x xs (λ e. absurd (true≢false (sym e ∙ is))) (more h)

-- copy 0 is outside of a frame's cubes where no clause excludes it
module _ (sys : System) (w : World) (level : ℕ) (clauses : List Kept) where
  abbrev Out : Kept → Type 0
  Out kept = ¬ Meets sys.sig w 0 kept.cube

  abbrev passes : Kept → Bool
  passes kept = nat_le level kept.level

  pub outside : ((k : ℕ) → k < length clauses → ¬ IsExcluded sys w level (clause_at clauses k)) → Avoids sys.sig w 0 (cubes_from clauses level)
  outside h =
      all_mapped (λ cube. ¬ Meets sys.sig w 0 cube) (λ (kept : Kept). kept.cube) (filter passes clauses)
      (λ k d lt meets.
      All-filter passes (λ (kept : Kept). ¬ IsExcluded sys w level kept) clauses (All-from_get_or (λ (kept : Kept). ¬ IsExcluded sys w level kept) clauses no_clause h) k d lt
      (record { high = leb-true level _ (filter_passes passes clauses k d lt); meets = meets }))

  pub not-outside : (k : ℕ) → k < length clauses → IsExcluded sys w level (clause_at clauses k) → ¬ Avoids sys.sig w 0 (cubes_from clauses level)
  not-outside k lt excluded avoids =
      of-passing passes Out clauses (all_map (λ cube. ¬ Meets sys.sig w 0 cube) (λ (kept : Kept). kept.cube) (filter passes clauses) avoids)
      k no_clause lt (le-leb level _ excluded.high) excluded.meets
