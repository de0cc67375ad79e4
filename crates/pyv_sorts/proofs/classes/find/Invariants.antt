use Rattle.std.proofs.Common.{◌≡◌, ◌<◌, ℕ, length, slice_index_or}
use Rattle.pyv_sorts.specs.Classes.{Falls, Leads}
use Rattle.pyv_sorts.proofs.classes.find.Given as goal

abbrev pub invariant-walk : goal.invariant-walk
invariant-walk l = record {
  within : l.at < length l.parents;
  long : length l.parents ≡ length l.fn.parents;
  falls : Falls l.parents;
  class : (f : ℕ → ℕ) → Leads l.fn.parents f → f l.at ≡ f l.fn.number;
  kept : (f : ℕ → ℕ) → Leads l.fn.parents f → Leads l.parents f;
}

abbrev pub decreases-walk : goal.decreases-walk
decreases-walk l = l.at
