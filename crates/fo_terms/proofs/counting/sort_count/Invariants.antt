use Rattle.std.proofs.Common.{◌≡◌, take}
use Rattle.fo_core.specs.Tables.{symbol_at}
use Rattle.fo_core.specs.Weights.{added}
use Rattle.fo_norm.specs.Forms.{whole}
use Rattle.fo_core.specs.TermCounts.{applications}
use Rattle.fo_core.specs.QueryWeight.{cut}
use Rattle.fo_terms.proofs.counting.sort_count.Given as goal

-- the sum over the functions so far
abbrev pub invariant-each : goal.invariant-each
invariant-each l = l.sum ≡ cut (added (λ k. applications l.form.copies l.counts (symbol_at (whole l.sig l.form) k)) (take l.number-index l.functions))
