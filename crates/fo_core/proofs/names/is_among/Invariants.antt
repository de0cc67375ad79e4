use Rattle.std.proofs.Common.{◌≡◌, ℕ, ◌<◌, [], get_or, map}
use Rattle.fo_core.proofs.names.is_among.Given as goal

-- no word before this one is the text
abbrev pub invariant-each : goal.invariant-each
invariant-each l = (i : ℕ) → i < l.word-index → ¬ (get_or (map (λ w. w.now) l.words) i [] ≡ l.text)
