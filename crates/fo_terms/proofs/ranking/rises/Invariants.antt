use Rattle.std.proofs.Common.{ℕ, ◌≡◌, ◌<◌, false, length}
use Rattle.std.specs.List.{All}
use Rattle.std.specs.Prelude.{slice_index}
use Rattle.fo_core.specs.Tables.{symbol_at}
use Rattle.fo_norm.specs.Forms.{whole}
use Rattle.fo_terms.proofs.ranking.rises.Given as goal

-- the order rises along the functions so far
abbrev pub invariant-each : goal.invariant-each
invariant-each l = record {
  all : l.count ≡ length (whole l.sig l.form).symbols;
  risen : (k : ℕ) → k < l.number → (symbol_at (whole l.sig l.form) k).relation ≡ false →
      All (λ s. slice_index l.order.numbers s < slice_index l.order.numbers (symbol_at (whole l.sig l.form) k).result) (symbol_at (whole l.sig l.form) k).args;
}
