-- The places of the used variables, read off marks, and the literals with these places.
use Rattle.std.proofs.Common.{◌≡◌, ℕ, false, Bool, ◌+◌, ◌<◌, ◌≤◌, inl, inr, ◌⊎◌, List, [], ◌∷◌, length, get_or, map, ap, ap₂, ◌∙◌, arith}
use Rattle.std.specs.Prelude.{slice_index, slice_index_or}
use Rattle.std.specs.List.{All, filter, range_with_len}
use Rattle.std.proofs.lemmas.List.{get_or_past, length-map, get_or-map}
use Rattle.std.proofs.lemmas.List.FromFn.{length-range_with_len, get_or-range_with_len}
use Rattle.std.proofs.lemmas.Bool.{cases_lt}
use Rattle.fo_core.proofs.ListFacts.{all_left}
use Rattle.fo_core.proofs.Pieces.{map-agree}
use Rattle.up_diagram.specs.declared.cube.Flat.{Flat}
use Rattle.up_diagram.specs.declared.cube.Flat.TheVariants.{Differ, Fact, Value}
use Rattle.up_diagram.specs.Cubes.{variables_in, is_used, new_place, renamed}
use Rattle.up_diagram.specs.Marks.{AreMarks, rank_among}
use Rattle.up_diagram.proofs.Covered.{last_of_all}
use Rattle.up_diagram.proofs.Places.{few-pass, same-pass}

module _ (marks : List Bool) (places : List ℕ) (are : places ≡ map (rank_among marks) (range_with_len 0 (length marks))) where
  pub places-count : length places ≡ length marks
  places-count = ap length are ∙ length-map (range_with_len 0 (length marks)) (rank_among marks) ∙ length-range_with_len 0 (length marks)

  pub place-at : (v : ℕ) → v < length marks → slice_index places v ≡ rank_among marks v
  place-at v lt =
      let in_range : v < length (range_with_len 0 (length marks)) = omega (arith, lt, length-range_with_len 0 (length marks)) in
      ap (λ ps. slice_index ps v) are
      ∙ get_or-map (rank_among marks) (range_with_len 0 (length marks)) v 0 0 in_range
      ∙ ap (rank_among marks) (get_or-range_with_len 0 (length marks) v 0 lt ∙ (let e : 0 + v ≡ v = omega arith in e))

  pub place-low : (v : ℕ) → slice_index places v ≤ v
  place-low v = by_case (cases_lt v (length marks))
    where
      by_case : (v < length marks) ⊎ (length marks ≤ v) → slice_index places v ≤ v
      by_case (inl lt) = omega (arith, place-at v lt, few-pass (λ k. slice_index_or marks k false) v)
      by_case (inr le) =
          let none : slice_index places v ≡ 0 = get_or_past places v 0 (omega (arith, places-count, le)) in
          omega (arith, none)

-- variables that go to the same numbers
pub renamed-agree : (f g : ℕ → ℕ) (lit : Flat) → All (λ v. f v ≡ g v) (variables_in lit) → renamed f lit ≡ renamed g lit
renamed-agree f g (Differ i j) h = ap₂ Differ (h 0 i (omega arith)) (h 1 j (omega arith))
renamed-agree f g (Fact sign r variables) h = ap (λ vs. Fact sign r vs) (map-agree f g variables h)
renamed-agree f g (Value s variables v) h =
    ap₂ (λ vs u. Value s vs u) (map-agree f g variables (all_left (λ v. f v ≡ g v) variables (v ∷ []) h)) (last_of_all (λ v. f v ≡ g v) variables v h)

module _ (lits : List Flat) (n : ℕ) (marks : List Bool) (are : AreMarks lits n marks) where
  pub used-are : filter (λ v. slice_index_or marks v false) (range_with_len 0 n) ≡ filter (is_used lits) (range_with_len 0 n)
  used-are = same-pass (λ v. slice_index_or marks v false) (is_used lits) n are.each

  ranks-are : (v : ℕ) → v < n → rank_among marks v ≡ new_place lits v
  ranks-are v lt = ap length (same-pass (λ v. slice_index_or marks v false) (is_used lits) v (λ k less. are.each k (omega (arith, less, lt))))

  pub literals-are : (places : List ℕ) → places ≡ map (rank_among marks) (range_with_len 0 (length marks)) → All (λ lit. All (λ v. v < n) (variables_in lit)) lits →
      map (renamed (slice_index places)) lits ≡ map (renamed (new_place lits)) lits
  literals-are places placed low =
      map-agree (renamed (slice_index places)) (renamed (new_place lits)) lits
      (λ k lit lt. renamed-agree (slice_index places) (new_place lits) (get_or lits k lit)
      (λ i v less. same (get_or (variables_in (get_or lits k lit)) i v) (low k lit lt i v less)))
    where
      same : (v : ℕ) → v < n → slice_index places v ≡ new_place lits v
      same v lt = place-at marks places placed v (omega (arith, lt, are.count)) ∙ ranks-are v lt
