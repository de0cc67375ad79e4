-- One pass over the literals of a cube.
use Rattle.std.specs.Prelude.{◌≡◌, ℕ, ◌+◌, ◌≤◌, length}
use Rattle.fo_core.specs.declared.order.Order.{Order}
use Rattle.fo_core.specs.declared.query.Query.{Query}
use Rattle.fo_core.specs.declared.system.System.{System}
use Rattle.fo_core.specs.Finds.{CanSearch, HasNoWorld, IsLight}
use Rattle.fo_core.specs.Sorted.{IsSig}
use Rattle.up_block.specs.declared.passing.Pass.{Pass}
use Rattle.up_block.specs.declared.question.Question.{Question}
use Rattle.up_block.specs.Questions.{query_for, IsFirst, IsQuestion, IsLater}
use Rattle.up_claims.specs.Blocked.{Passes}
use Rattle.up_diagram.specs.declared.cube.Cube.{Cube}
use Rattle.up_diagram.specs.Cubes.{IsCube}

-- no world meets a query of the cube
abbrev pub HasNone : Pass → Cube → Type 0
HasNone p cube =
    HasNoWorld p.sys.now.sig (query_for p.sys.now.sig p.root cube) ×
    HasNoWorld p.sys.now.sig (query_for p.sys.now.sig p.before cube)

-- a question that may be asked of each well-sorted cube
pub record CanAsk (sys : System) (order : Order) (q : Question) : Type 0 where
  pub question : IsQuestion sys q
  pub search : (cube : Cube) → IsCube sys.sig cube → CanSearch sys order (query_for sys.sig q cube)

-- the questions may be asked of this cube, and there is room for its variables
pub record CanPass (limit : ℕ) (p : Pass) (cube : Cube) : Type 0 where
  pub sig : IsSig p.sys.now.sig
  pub root : CanAsk p.sys.now p.order.now p.root
  pub before : CanAsk p.sys.now p.order.now p.before
  pub sorted : IsCube p.sys.now.sig cube
  pub root_light : IsLight p.sys.now.sig limit (query_for p.sys.now.sig p.root cube)
  pub before_light : IsLight p.sys.now.sig limit (query_for p.sys.now.sig p.before cube)
  pub room : length cube.sorts ≤ p.picks

-- a pass goes on with the same questions and as much room
pub record GoesOn (old later : Pass) : Type 0 where
  pub same_sys : later.sys.now ≡ old.sys.now
  pub same_order : later.order.now ≡ old.order.now
  pub root : IsLater old.sys.now old.root later.root
  pub before : IsLater old.sys.now old.before later.before
  pub picks : later.picks ≡ old.picks

-- a pass whose two questions these queries ask, with room for the variables of the cube
pub record IsFirstPass (sys : System) (order : Order) (root before : Query) (cube : Cube) (p : Pass) : Type 0 where
  pub same_sys : p.sys.now ≡ sys
  pub same_order : p.order.now ≡ order
  pub for_root : IsFirst root 0 p.root
  pub for_step : IsFirst before 1 p.before
  pub room : p.picks ≡ length cube.sorts

-- inside the crate

-- Of the literals of a cube the first so many that are left were kept, and so many are still to be tried: a
-- pass over these is the rest of a pass over all.
pub record IsSoFar (limit : ℕ) (old : Pass) (cube : Cube) (now : Pass) (rest : Cube) (kept left : ℕ) : Type 0 where
  pub goes_on : GoesOn old now
  pub can : CanPass limit now rest
  pub count : kept + left ≡ length rest.lits
  pub leads : (final : Cube) → Passes (HasNone old) kept rest final → Passes (HasNone old) 0 cube final
