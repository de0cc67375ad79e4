use Rattle.std.proofs.Common.{◌≡◌, ◌++◌, ℕ, length}
use Rattle.std.specs.Prelude.{replicate}
use Rattle.fo_ground.specs.declared.grounded.Atom.TheVariants.{Helper}
use Rattle.fo_ground.proofs.grounding.push_helpers.Given as goal

-- as many atoms as were counted, the old ones first and then helpers
abbrev pub invariant-each : goal.invariant-each
invariant-each l = record {
  length : length l.atoms.items ≡ l._place;
  helpers : (n : ℕ) × (l.atoms.items ≡ l.fn.atoms.items ++ replicate n Helper);
}
