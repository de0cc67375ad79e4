use Rattle.std.proofs.Common.{◌≡◌, ◌≤◌, ℕ, List, drop, length}
use Rattle.fo_text.specs.Reading.{literal_at}
use Rattle.fo_text.proofs.parts.literal.Given as goal

pub record SoFar (text bytes : List ℕ) (i : ℕ) : Type 0 where
  pub within : i ≤ length bytes
  pub same : literal_at (drop i text) (drop i bytes) ≡ literal_at text bytes

abbrev pub invariant-each : goal.invariant-each
invariant-each l = SoFar l.text l.bytes l.i
