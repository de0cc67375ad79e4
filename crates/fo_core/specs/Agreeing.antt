-- Worlds that a formula can't tell apart.
use Rattle.std.specs.Prelude.{◌≡◌, ℕ, ◌+◌, ◌<◌, [], slice_index_or}
use Rattle.fo_core.specs.declared.world.World.{World}

-- the worlds have one domain and one set of fixed tables, and n copies of v from c on are equal to
-- the copies of w from d on
pub record Agree (n : ℕ) (v : World) (c : ℕ) (w : World) (d : ℕ) : Type 0 where
  pub sizes : v.sizes ≡ w.sizes
  pub fixed : v.fixed ≡ w.fixed
  pub copies : (k : ℕ) → k < n → slice_index_or v.copies (c + k) [] ≡ slice_index_or w.copies (d + k) []
