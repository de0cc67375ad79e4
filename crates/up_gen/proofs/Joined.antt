-- Text that is appended piece by piece.
use Rattle.std.proofs.Common.{◌≡◌, ℕ, ◌+◌, List, ◌++◌, sym, ap, ◌∙◌, append_assoc}
use Rattle.std.specs.List.{flat_map, range_with_len}
use Rattle.fo_core.proofs.Pieces.{flat_map_more}

-- one piece more
pub joined : (old whole piece now next : List ℕ) → now ≡ old ++ whole → next ≡ now ++ piece → next ≡ old ++ (whole ++ piece)
joined old whole piece now next b e = e ∙ ap (λ (xs : List ℕ). xs ++ piece) b ∙ append_assoc old whole piece

-- one piece more of those with a number
pub one-more : (f : ℕ → List ℕ) (n : ℕ) (old now next : List ℕ) → now ≡ old ++ flat_map f (range_with_len 0 n) → next ≡ now ++ f n → next ≡ old ++ flat_map f (range_with_len 0 (n + 1))
one-more f n old now next b e =
    joined old (flat_map f (range_with_len 0 n)) (f n) now next b e ∙ ap (λ (xs : List ℕ). old ++ xs) (sym (flat_map_more f n))
