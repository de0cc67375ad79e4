use Rattle.std.proofs.Common.{ℕ, ◌≡◌, ◌+◌, ◌<◌, false, length, take}
use Rattle.std.specs.List.{filter}
use Rattle.std.specs.Prelude.{slice_index}
use Rattle.fo_core.specs.Tables.{symbol_at}
use Rattle.fo_core.specs.TermCounts.{applications, leads_to, term_counts}
use Rattle.fo_core.specs.Weights.{added}
use Rattle.fo_ground.specs.Numbers.{term_start}
use Rattle.fo_ground.proofs.term_starts.term_starts.Given as goal

-- the starts of the functions so far, and where the next function to each sort starts
abbrev pub invariant-each : goal.invariant-each
invariant-each l = record {
  len : length l.starts ≡ l.symbol-index;
  one_each : length l.next.items ≡ l.sig.sorts;
  next : (t : ℕ) → t < l.sig.sorts → slice_index l.next.items t ≡ slice_index l.u.firsts t + added (applications l.copies (term_counts l.sig l.copies)) (filter (leads_to t) (take l.symbol-index l.sig.symbols));
  starts : (f : ℕ) → f < l.symbol-index → (symbol_at l.sig f).relation ≡ false → slice_index l.starts f ≡ term_start l.sig l.copies l.u f;
}
