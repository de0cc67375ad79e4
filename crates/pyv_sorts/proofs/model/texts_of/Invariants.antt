use Rattle.std.proofs.Common.{◌≡◌, take, map, ℕ, List, Bor}
use Rattle.pyv_sorts.proofs.model.texts_of.Given as goal

abbrev pub invariant-each : goal.invariant-each
invariant-each l = l.texts ≡ map (λ (w : Bor (List ℕ)). w.now) (take l.word-index l.words)
