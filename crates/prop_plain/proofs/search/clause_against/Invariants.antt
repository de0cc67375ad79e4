use Rattle.std.proofs.Common.{◌≡◌, take}
use Rattle.prop_plain.specs.Search.{against}
use Rattle.prop_plain.proofs.search.clause_against.Given as goal

abbrev pub invariant-loop-i : goal.invariant-loop-i
invariant-loop-i l = l.clause ≡ against (take l.i l.path)
