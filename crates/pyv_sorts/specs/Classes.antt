-- Numbers in classes, each class with a representative.
use Rattle.std.specs.Prelude.{◌≡◌, ℕ, ◌<◌, ◌≤◌, ◌==◌, cond, min, max, List, length, slice_index_or}

-- each number points to one that isn't greater
abbrev pub Falls : List ℕ → Type 0
Falls parents = (i : ℕ) → i < length parents → slice_index_or parents i 0 ≤ i

-- The pointers lead to the representatives that f gives: each stays in its class, and ends at a number that represents
-- itself.
pub record Leads (parents : List ℕ) (f : ℕ → ℕ) : Type 0 where
  pub stays : (i : ℕ) → i < length parents → f (slice_index_or parents i 0) ≡ f i
  pub ends : (i : ℕ) → i < length parents → slice_index_or parents i 0 ≡ i → f i ≡ i

-- the representatives once the classes of two numbers are one: the lesser of the two stands for both
abbrev pub united : (ℕ → ℕ) → ℕ → ℕ → ℕ → ℕ
united f v w x = cond (f x == max (f v) (f w)) (min (f v) (f w)) (f x)
