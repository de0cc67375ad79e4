use Rattle.std.proofs.Common.{◌≡◌, ◌≤◌, ℕ, List, drop}
use Rattle.fo_text.specs.Reading.{digits_at}
use Rattle.fo_text.proofs.parts.digits.Given as goal

pub record SoFar (first least most ending number : ℕ) (bytes rest : List ℕ) : Type 0 where
  pub same : digits_at least most ending number rest ≡ digits_at least most ending first bytes
  pub range : number ≤ most

abbrev pub invariant-each : goal.invariant-each
invariant-each l = SoFar l.first l.least l.most l.ending l.number l.bytes (drop l.i l.bytes)
