use Rattle.std.proofs.Common.{◌≡◌, ℕ, ◌<◌, ◌≤◌, cond, false, length, get_or}
use Rattle.pyv_strat.proofs.numbering.give.Given as goal

-- the marked sorts before this one have the number
abbrev pub invariant-each : goal.invariant-each
invariant-each l = record {
  before : (k : ℕ) → k < l.a → get_or l.numbers k 0 ≡ cond (get_or l.layer k false) l.number (get_or l.fn.numbers k 0);
  from : (k : ℕ) → l.a ≤ k → get_or l.numbers k 0 ≡ get_or l.fn.numbers k 0;
}
