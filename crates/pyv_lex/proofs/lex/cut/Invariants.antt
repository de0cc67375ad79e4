use Rattle.std.proofs.Common.{◌≤◌, ◌-◌, length, drop}
use Rattle.pyv_lex.specs.Cutting.{Cuts}
use Rattle.pyv_lex.proofs.lex.cut.Given as goal

abbrev pub invariant-pieces : goal.invariant-pieces
invariant-pieces l = record {
  within : l.at ≤ length l.bytes;
  few : length l.found ≤ 200000;
  cut : Cuts 0 l.bytes l.found l.at (drop l.at l.bytes);
}

abbrev pub decreases-pieces : goal.decreases-pieces
decreases-pieces l = length l.bytes - l.at
