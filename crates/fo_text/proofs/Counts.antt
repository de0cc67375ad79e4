-- How the number of tuples grows, where it is cut.
use Rattle.std.proofs.Common.{◌≡◌, ℕ, zero, suc, ◌+◌, ◌*◌, ◌<◌, ◌≤◌, inl, inr, min, List, [], ◌∷◌, length, get_or, map, drop, sym, ap, ◌∙◌, arith}
use Rattle.std.specs.Prelude.{slice_index}
use Rattle.std.specs.List.{All}
use Rattle.std.proofs.lemmas.Bool.{cases_lt}
use Rattle.std.proofs.lemmas.List.{at_drop_more, drop_all}
use Rattle.std.proofs.lemmas.List.Elements.{All-drop}
use Rattle.fo_core.specs.Tables.{tuples}

-- the same product, whether or not a factor was cut first
pub cut_product : (a T most : ℕ) → 1 ≤ T → min (min a most * T) most ≡ min (a * T) most
cut_product a zero most h = absurd (omega arith)
cut_product a (suc T) most h = elim (cases_lt most a) [
  | inl lt ↦
      let e : min a most ≡ most = omega arith in
      let left : most ≤ most * suc T = omega arith in
      let right : most ≤ a * suc T = omega arith in
      ap (λ (m : ℕ). min (m * suc T) most) e ∙ omega arith
  | inr le ↦ let e : min a most ≡ a = omega arith in ap (λ (m : ℕ). min (m * suc T) most) e
]

pub tuples-positive : (sizes sorts : List ℕ) → All (λ n. 1 ≤ n) sizes → All (λ s. s < length sizes) sorts → 1 ≤ tuples (map (slice_index sizes) sorts)
tuples-positive sizes [] nonempty known = omega arith
tuples-positive sizes (s ∷ sorts) nonempty known =
    product-positive (slice_index sizes s) (tuples (map (slice_index sizes) sorts)) (nonempty s 0 (known 0 0 (omega arith))) (tuples-positive sizes sorts nonempty (λ k d lt. known (suc k) d (omega arith)))
  where
    product-positive : (a b : ℕ) → 1 ≤ a → 1 ≤ b → 1 ≤ a * b
    product-positive zero b h k = absurd (omega arith)
    product-positive (suc a) zero h k = absurd (omega arith)
    product-positive (suc a) (suc b) h k = omega arith

pub cut_step : (sizes sorts : List ℕ) (i acc most : ℕ) → i < length sorts → All (λ n. 1 ≤ n) sizes → All (λ s. s < length sizes) sorts
    → min (min (acc * slice_index sizes (get_or sorts i 0)) most * tuples (map (slice_index sizes) (drop (i + 1) sorts))) most ≡ min (acc * tuples (map (slice_index sizes) (drop i sorts))) most
cut_step sizes sorts i acc most lt nonempty known =
    let T = tuples (map (slice_index sizes) (drop (i + 1) sorts)) in
    let s = slice_index sizes (get_or sorts i 0) in
    let positive = tuples-positive sizes (drop (i + 1) sorts) nonempty (All-drop (λ s. s < length sizes) (i + 1) sorts known) in
    cut_product (acc * s) T most positive ∙ ap (λ (m : ℕ). min m most) (algebra s T ∙ ap (λ (m : ℕ). acc * m) (sym (at_drop_more (λ l. tuples (map (slice_index sizes) l)) sorts i 0 lt)))
  where
    algebra : (n T : ℕ) → acc * n * T ≡ acc * (n * T)
    algebra n T = omega arith

pub cut_end : (sizes sorts : List ℕ) (i acc most : ℕ) → length sorts ≤ i → acc ≤ most → acc ≡ min (acc * tuples (map (slice_index sizes) (drop i sorts))) most
cut_end sizes sorts i acc most le small =
    let e : acc * 1 ≡ acc * tuples (map (slice_index sizes) (drop i sorts)) = ap (λ (l : List ℕ). acc * tuples (map (slice_index sizes) l)) (sym (drop_all i sorts le)) in
    omega (arith, e)
