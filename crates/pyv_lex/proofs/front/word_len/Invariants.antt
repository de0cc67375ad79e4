use Rattle.std.proofs.Common.{◌<◌, ℕ, get_or}
use Rattle.fo_core.specs.Named.{ContinuesWord}
use Rattle.pyv_lex.proofs.front.word_len.Given as goal

abbrev pub invariant-loop-n : goal.invariant-loop-n
invariant-loop-n l = (k : ℕ) → k < l.n → ContinuesWord (get_or l.bytes k 0)
