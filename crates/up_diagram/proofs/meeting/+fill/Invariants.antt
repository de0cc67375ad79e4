use Rattle.std.proofs.Common.{◌≡◌, ℕ, ◌<◌, ◌-◌, [], ◌∷◌, ◌++◌, length, take}
use Rattle.up_diagram.specs.Trying.{MeetsFrom}
use Rattle.up_diagram.proofs.meeting.+fill.Given as goal

abbrev pub decreases-fill : goal.decreases-fill
decreases-fill l = length l.trial.now.cube.now.sorts - l.at

-- no element before this one serves
abbrev pub invariant-each : goal.invariant-each
invariant-each l = record {
  kept : take l.at l.picks ≡ take l.at l.fn.picks;
  room : length l.picks ≡ length l.fn.picks;
  before : (x : ℕ) → x < l.x → ¬ MeetsFrom l.trial.sig.now l.trial.w.now l.trial.copy (take l.at l.fn.picks ++ x ∷ []) l.trial.cube.now;
}
