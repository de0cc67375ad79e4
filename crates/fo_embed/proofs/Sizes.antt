-- An injective map between sorts goes to no smaller one.
use Rattle.std.proofs.Common.{◌≡◌, ℕ, suc, true, false, ◌<◌, ◌≤◌, List, [], ◌∷◌, length, sym, subst, ◌∙◌, arith}
use Rattle.std.specs.Prelude.{slice_index, eqb}
use Rattle.std.specs.List.{AllByRecursion, IsDistinct, list_any}
use Rattle.std.proofs.lemmas.Bool.{eqb-true, ne_eqb}
use Rattle.std.proofs.lemmas.List.{get_or_default}
use Rattle.std.proofs.lemmas.List.Folds.{Any-from_list_any}
use Rattle.std.proofs.lemmas.Map.Steps.{length-le_from_distinct_below}
use Rattle.fo_core.specs.Embedding.{AreInjections}
use Rattle.fo_embed.specs.Placing.{AreDistinct, images_of}
use Rattle.fo_embed.specs.Searching.{AreNoLarger}

apart : (y : ℕ) (xs : List ℕ) → ((i : ℕ) → i < length xs → ¬ (y ≡ slice_index xs i)) → AllByRecursion (λ z. eqb y z ≡ false) xs
apart y [] h = tt
apart y (x ∷ xs) h = (ne_eqb y x (h 0 (omega arith)), apart y xs (λ i lt. h (suc i) (omega (arith, lt))))

distinct : (xs : List ℕ) → AreDistinct xs → IsDistinct eqb xs
unfolding IsDistinct
distinct [] h = tt
distinct (x ∷ xs) h = (
  apart x xs (λ i lt e. (let wrong : 0 ≡ suc i = h 0 (suc i) (omega arith) (omega (arith, lt)) e in omega (arith, wrong))),
  distinct xs (λ i j less more e. (let same : suc i ≡ suc j = h (suc i) (suc j) (omega (arith, less)) (omega (arith, more)) e in omega (arith, same))),
)

-- no more distinct numbers than there are below a bound
pub few-distinct : (xs : List ℕ) (n : ℕ) → AreDistinct xs → ((i : ℕ) → i < length xs → slice_index xs i < n) → length xs ≤ n
few-distinct xs n h low = length-le_from_distinct_below xs n (distinct xs h) below
  where
    below : (q : ℕ) → list_any (eqb q) xs ≡ true → q < n
    below q is =
        let found = Any-from_list_any (eqb q) xs is in
        subst (λ y. y < n) (get_or_default xs found.0 0 found.1 found.2 ∙ found.3 ∙ sym (eqb-true q found.1 found.4)) (low found.0 found.2)

pub none-larger : (from to : List ℕ) (maps : List (List ℕ)) → AreInjections from to maps → AreNoLarger from to
none-larger from to maps h s lt =
    subst (λ n. n ≤ slice_index to s) (h.total s lt)
    (few-distinct (images_of maps s) (slice_index to s)
    (λ x y less more e. h.injective s x y lt (subst (λ n. x < n) (h.total s lt) less) (subst (λ n. y < n) (h.total s lt) more) e)
    (λ x less. h.in_range s x lt (subst (λ n. x < n) (h.total s lt) less)))
