use Rattle.std.proofs.Common.{◌≡◌, ℕ, ◌<◌, ◌-◌, [], ◌∷◌, ◌++◌, length, take}
use Rattle.std.specs.Prelude.{slice_index}
use Rattle.up_diagram.specs.Cubes.{HasSort}
use Rattle.up_diagram.specs.Trying.{SendsFrom}
use Rattle.up_diagram.proofs.covering.+send.Given as goal

abbrev pub decreases-send : goal.decreases-send
decreases-send l = length l.d.now.sorts - l.at

-- no variable before this one serves
abbrev pub invariant-each : goal.invariant-each
invariant-each l = record {
  kept : take l.at l.images ≡ take l.at l.fn.images;
  room : length l.images ≡ length l.fn.images;
  before : (x : ℕ) → x < l.x → HasSort l.c.sorts x (slice_index l.d.sorts l.at) → ¬ SendsFrom (take l.at l.fn.images ++ x ∷ []) l.d l.c;
}
