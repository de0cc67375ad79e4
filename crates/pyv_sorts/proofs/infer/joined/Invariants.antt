use Rattle.std.proofs.Common.{◌≡◌, ℕ, length, drop}
use Rattle.pyv_sorts.specs.Classes.{Falls, Leads}
use Rattle.pyv_sorts.specs.Inferring.{place_in, Classing}
use Rattle.pyv_sorts.proofs.infer.joined.Given as goal

abbrev pub invariant-each : goal.invariant-each
invariant-each l = record {
  falls : Falls l.parents;
  long : length l.parents ≡ length l.variables.keys;
  classes : (f : ℕ → ℕ) × Leads l.parents f × Classing l.uses (drop l.told-index l.uses) l.variables.keys (λ v. f (place_in l.variables.keys v));
}
