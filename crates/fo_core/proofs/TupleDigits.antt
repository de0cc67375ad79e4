-- The tuple of a number, found digit by digit from the last one.
use Rattle.std.proofs.Common.{◌≡◌, ℕ, zero, suc, ◌+◌, ◌-◌, ◌*◌, ◌/◌, ◌%◌, ◌<◌, ◌≤◌, List, [], ◌∷◌, length, get_or, map, drop, set, sym, ap, subst, ◌∙◌, arith, add-one}
use Rattle.std.specs.List.{All, AllZip}
use Rattle.std.specs.Prelude.{slice_index}
use Rattle.std.proofs.Math.ListN.{drop_of_length-le}
use Rattle.std.proofs.Math.Nat.{mod-lt}
use Rattle.std.proofs.Math.Seq.{drop-cons}
use Rattle.std.proofs.lemmas.List.{drop-set, length-set, length-map, get_or-map}
use Rattle.std.proofs.lemmas.Nat.{div-add-mod'}
use Rattle.fo_core.specs.Tables.{tuples, place}
use Rattle.fo_core.specs.Tuples.{tuple_at}
use Rattle.fo_core.proofs.TupleLemmas.{tuple-place}

-- the digits from i on are found, and what is left to divide is `rest`
pub record AreFound (ns ds : List ℕ) (i rest number : ℕ) : Type 0 where
  pub sized : length ds ≡ length ns
  pub value : rest * tuples (drop i ns) + place (drop i ns) (drop i ds) ≡ number
  pub below : AllZip (λ x n. x < n) (drop i ds) (drop i ns)

carried : (q n r T P rest number : ℕ) → q * n + r ≡ rest → rest * T + P ≡ number → q * (n * T) + (r * T + P) ≡ number
carried q n r T P rest number e v = algebra ∙ ap (λ m. m * T + P) e ∙ v
  where
    algebra : q * (n * T) + (r * T + P) ≡ (q * n + r) * T + P
    algebra = omega arith

pub found-step : (ns ds : List ℕ) (i rest number : ℕ) → i < length ns → 1 ≤ get_or ns i 0 → AreFound ns ds (i + 1) rest number →
    AreFound ns (set ds i (rest % get_or ns i 0)) i (rest / get_or ns i 0) number
found-step ns ds i rest number lt some h = record {
  sized = length-set ds i (rest % n) ∙ h.sized;
  value =
      subst (λ (ms : List ℕ). rest / n * tuples ms + place ms (drop i (set ds i (rest % n))) ≡ number) (sym at_ns)
      (subst (λ (xs : List ℕ). rest / n * tuples (n ∷ drop (i + 1) ns) + place (n ∷ drop (i + 1) ns) xs ≡ number) (sym at_ds)
      (carried (rest / n) n (rest % n) (tuples (drop (i + 1) ns)) (place (drop (i + 1) ns) (drop (i + 1) ds)) rest number (div-add-mod' rest n) h.value));
  below =
      subst (λ (ms : List ℕ). AllZip (λ x m. x < m) (drop i (set ds i (rest % n))) ms) (sym at_ns)
      (subst (λ (xs : List ℕ). AllZip (λ x m. x < m) xs (n ∷ drop (i + 1) ns)) (sym at_ds) (mod-lt rest some, h.below));
}
  where
    n : ℕ
    n = get_or ns i 0

    at_ns : drop i ns ≡ n ∷ drop (i + 1) ns
    at_ns = rw (add-one) (drop-cons ns i 0 lt)

    at_ds : drop i (set ds i (rest % n)) ≡ rest % n ∷ drop (i + 1) ds
    at_ds = drop-set ds i (rest % n) (omega (arith, h.sized))

pub found-all : (ns ds : List ℕ) (rest number : ℕ) → number < tuples ns → AreFound ns ds 0 rest number → ds ≡ tuple_at ns number
found-all ns ds rest number lt h = sym (tuple-place ns ds h.below) ∙ ap (tuple_at ns) (by_rest rest h.value)
  where
    by_rest : (r : ℕ) → r * tuples ns + place ns ds ≡ number → place ns ds ≡ number
    by_rest zero e = omega (arith, e)
    by_rest (suc r) e = absurd (omega (arith, e, lt))

-- one digit more, where the sorts have these sizes
pub digit : (sizes sorts ds : List ℕ) (i rest number size : ℕ) → All (λ n. 1 ≤ n) sizes → All (λ s. s < length sizes) sorts →
    0 < i → i ≤ length sorts → size ≡ get_or sizes (get_or sorts (i - 1) 0) 0 →
    AreFound (map (slice_index sizes) sorts) ds i rest number →
    AreFound (map (slice_index sizes) sorts) (set ds (i - 1) (rest % size)) (i - 1) (rest / size) number
digit sizes sorts ds i rest number size nonempty known some le is h =
    subst (λ m. AreFound ns (set ds (i - 1) (rest % m)) (i - 1) (rest / m) number) here
    (found-step ns ds (i - 1) rest number (omega (arith, length-map sorts (slice_index sizes), some, le)) (subst (λ m. 1 ≤ m) (sym here) positive)
    (let e : i ≡ i - 1 + 1 = omega arith in subst (λ j. AreFound ns ds j rest number) e h))
  where
    ns : List ℕ
    ns = map (slice_index sizes) sorts

    lt : i - 1 < length sorts
    lt = omega (arith, some, le)

    here : get_or ns (i - 1) 0 ≡ size
    here = get_or-map (slice_index sizes) sorts (i - 1) 0 0 lt ∙ sym is

    positive : 1 ≤ size
    positive = subst (λ m. 1 ≤ m) (sym is) (nonempty (get_or sorts (i - 1) 0) 0 (known (i - 1) 0 lt))

pub nothing-found : (sizes sorts ds : List ℕ) (i number : ℕ) → length ds ≡ length sorts → i ≡ length sorts → AreFound (map (slice_index sizes) sorts) ds i number number
nothing-found sizes sorts ds i number e is = record {
  sized = e ∙ sym len;
  value = subst (λ (ms : List ℕ). number * tuples ms + place ms (drop i ds) ≡ number) (sym none) (omega arith);
  below =
      subst (λ (ms : List ℕ). AllZip (λ x n. x < n) (drop i ds) ms) (sym none)
      (subst (λ (xs : List ℕ). AllZip (λ x n. x < n) xs []) (sym no_digits) tt);
}
  where
    len : length (map (slice_index sizes) sorts) ≡ length sorts
    len = length-map sorts (slice_index sizes)

    none : drop i (map (slice_index sizes) sorts) ≡ []
    none = drop_of_length-le (map (slice_index sizes) sorts) (omega (arith, len, is))

    no_digits : drop i ds ≡ []
    no_digits = drop_of_length-le ds (omega (arith, e, is))
