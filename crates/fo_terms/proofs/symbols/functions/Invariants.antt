use Rattle.std.proofs.Common.{ℕ, ◌≡◌, ◌<◌, [], length, get_or}
use Rattle.std.specs.List.{filter, range_with_len}
use Rattle.fo_core.specs.Tables.{symbol_at}
use Rattle.fo_norm.specs.Forms.{whole}
use Rattle.fo_core.specs.TermCounts.{leads_to}
use Rattle.fo_terms.proofs.symbols.functions.Given as goal

-- the numbers so far
abbrev pub invariant-each : goal.invariant-each
invariant-each l = record {
  all : l.count ≡ length (whole l.sig l.form).symbols;
  len : length l.lists.items ≡ l.sig.sorts;
  each : (t : ℕ) → t < l.sig.sorts → get_or l.lists.items t [] ≡ filter (λ k. leads_to t (symbol_at (whole l.sig l.form) k)) (range_with_len 0 l.number);
}
