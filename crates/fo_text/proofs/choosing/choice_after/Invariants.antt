use Rattle.fo_text.proofs.Choices.{TriedFrom}
use Rattle.fo_text.proofs.choosing.choice_after.Given as goal

abbrev pub invariant-each : goal.invariant-each
invariant-each l = TriedFrom (λ t. t.now) l.mark l.word l.texts l.bytes l.i l.least
