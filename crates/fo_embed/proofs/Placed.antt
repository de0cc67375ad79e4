-- Which elements have an image, and what images are.
use Rattle.std.proofs.Common.{◌≡◌, ℕ, zero, suc, ◌<◌, List, [], ◌∷◌, length, get_or, refl, arith}
use Rattle.fo_embed.specs.Placing.{images_of, placed}

-- how many elements of a sort have an image
pub placed-at : (maps : List (List ℕ)) (s : ℕ) → get_or (placed maps) s 0 ≡ length (images_of maps s)
placed-at [] s = refl
placed-at (m ∷ maps) zero = refl
placed-at (m ∷ maps) (suc s) = placed-at maps s

-- a sort that has an element with an image is one of the sorts
pub sort-of : (maps : List (List ℕ)) (s x : ℕ) → x < length (images_of maps s) → s < length maps
sort-of [] s x lt = absurd (omega (arith, lt))
sort-of (m ∷ maps) zero x lt = omega arith
sort-of (m ∷ maps) (suc s) x lt = omega (arith, sort-of maps s x lt)
