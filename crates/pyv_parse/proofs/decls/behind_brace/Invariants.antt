use Rattle.std.proofs.Common.{◌≡◌, ◌+◌, ◌≤◌, length}
use Rattle.pyv_grammar.specs.Reading.{braces}
use Rattle.pyv_parse.proofs.decls.behind_brace.Given as goal

abbrev pub invariant-tokens : goal.invariant-tokens
invariant-tokens l = record {
  same : braces l.«open» l.rest ≡ braces 0 l.tokens;
  few : l.«open» + length l.rest ≤ length l.tokens;
}

abbrev pub decreases-tokens : goal.decreases-tokens
decreases-tokens l = length l.rest
