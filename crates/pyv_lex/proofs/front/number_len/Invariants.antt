use Rattle.std.proofs.Common.{◌<◌, ℕ, get_or}
use Rattle.pyv_lex.specs.Spelling.{IsDigit}
use Rattle.pyv_lex.proofs.front.number_len.Given as goal

abbrev pub invariant-loop-n : goal.invariant-loop-n
invariant-loop-n l = (k : ℕ) → k < l.n → IsDigit (get_or l.bytes k 0)
