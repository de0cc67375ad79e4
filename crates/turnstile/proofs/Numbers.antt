-- Which seat each number belongs to.
use Rattle.std.proofs.Common.{◌≡◌, ◌⊎◌, ℕ, min, max, nat_lt, le-ltb, lt-ltb, ◌<◌, ◌≤◌, refl, inl, inr, arith, if◌then◌else◌}
use mathlib.Core.Logic.{dite}
use native.Mathlib.Decide.{dec_le}

-- the owners, where the numbers from here to there go to the seat n
abbrev pub moved : (ℕ → ℕ) → ℕ → ℕ → ℕ → ℕ → ℕ
moved owner from to n k = if nat_lt k from then owner k else (if nat_lt k to then n else owner k)

-- a number in the range goes to n
pub moved_in : (owner : ℕ → ℕ) (from to n k : ℕ) → from ≤ k → k < to → moved owner from to n k ≡ n
moved_in owner from to n k a b = rw (le-ltb k from a, lt-ltb k to b) refl

-- any other stays
pub moved_out : (owner : ℕ → ℕ) (from to n k : ℕ) → (k < from) ⊎ (to ≤ k) → moved owner from to n k ≡ owner k
moved_out owner from to n k (inl a) = rw (lt-ltb k from a) refl
moved_out owner from to n k (inr b) = dite (dec_le from k) (λ a. rw (le-ltb k from a, le-ltb k to b) refl) (λ a. rw (lt-ltb k from (omega arith)) refl)

-- a number that isn't in a range is below or above it
pub outside_of : (from to k : ℕ) → (from ≤ k → k < to → ⊥) → (k < from) ⊎ (to ≤ k)
outside_of from to k h = dite (dec_le from k) (λ a. dite (dec_le to k) inr (λ b. absurd (h a (omega arith)))) (λ a. inl (omega arith))

-- of two ranges that touch, what lies above the second is in the first
pub touched : (from to from' to' k : ℕ) → from' < to' → (to ≡ from') ⊎ (to' ≡ from) → min from from' ≤ k → k < max to to' → to' ≤ k → from ≤ k
touched from to from' to' k l (inl e) a b c = absurd (omega arith)
touched from to from' to' k l (inr e) a b c = omega arith

-- and so is what lies below the second
pub first_of : (to from from' to' k : ℕ) → (to ≡ from') ⊎ (to' ≡ from) → from' < to' → min from from' ≤ k → (from' ≤ k → ⊥) → k < to
first_of to from from' to' k (inl e) l a c = omega arith
first_of to from from' to' k (inr e) l a c = absurd (c (omega arith))
