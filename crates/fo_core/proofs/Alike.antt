-- Lists that are the same element by element.
use Rattle.std.proofs.Common.{◌≡◌, ℕ, ◌<◌, ◌≤◌, ◌↔◌, true, List, [], ◌∷◌, length, get_or, refl, arith}
use Rattle.std.specs.Prelude.{IsTrue}
use Rattle.std.proofs.lemmas.List.{ext_get_or}
use Rattle.fo_core.proofs.Answered.{always}

-- two lists of one length that are the same at each place
alike : {X : Type 0} (xs ys : List X) → length xs ≡ length ys → ((k : ℕ) (d : X) → k < length xs → get_or xs k d ≡ get_or ys k d) → xs ≡ ys
alike [] [] n each = refl
alike [] (y ∷ ys) n each = absurd (omega (arith, n))
alike (x ∷ xs) ys n each = ext_get_or x (x ∷ xs) ys n (λ k lt. each k x lt)

pub all_same : {X : Type 0} (xs ys : List X) (n : ℕ) → length xs ≡ length ys → length xs ≤ n → ((k : ℕ) (d : X) → k < n → get_or xs k d ≡ get_or ys k d) → IsTrue true ↔ (xs ≡ ys)
all_same xs ys n same le each = always (xs ≡ ys) (alike xs ys same (λ k d lt. each k d (omega (arith, lt, le))))
