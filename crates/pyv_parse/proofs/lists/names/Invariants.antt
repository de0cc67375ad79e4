use Rattle.std.proofs.Common.{◌≡◌, ◌≤◌, length}
use Rattle.pyv_grammar.specs.Reading.{listed, name_at}
use Rattle.pyv_parse.specs.Gives.{gathered, put_last}
use Rattle.pyv_parse.proofs.lists.names.Given as goal

abbrev pub invariant-loop-found : goal.invariant-loop-found
invariant-loop-found l = record {
  same : gathered put_last l.found (listed name_at l.rest) ≡ listed name_at l.tokens;
  shorter : length l.rest ≤ length l.tokens;
}

abbrev pub decreases-loop-found : goal.decreases-loop-found
decreases-loop-found l = length l.rest
