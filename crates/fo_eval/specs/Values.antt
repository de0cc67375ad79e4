-- What an environment holds.
use Rattle.std.specs.Prelude.{ℕ, List}

-- the values of the variables that are bound, and the room for values
pub record Values : Type 0 where
  pub bound : List ℕ  -- the outermost binder's first
  pub room : ℕ  -- how many values it has room for
