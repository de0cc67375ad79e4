use Rattle.std.proofs.Common.{◌≡◌, ℕ, length, drop, slice_index_or}
use Rattle.pyv_sorts.specs.Classes.{Falls, Leads}
use Rattle.pyv_sorts.specs.Inferring.{place_in, mark}
use Rattle.pyv_sorts.specs.declared.mark.Mark.TheVariants.{Nothing}
use Rattle.pyv_sorts.proofs.infer.mark_each.Given as goal

abbrev pub invariant-each : goal.invariant-each
invariant-each l = record {
  falls : Falls l.parents;
  long : length l.parents ≡ length l.variables.keys;
  wide : length l.marks ≡ length l.parents;
  kept : (f : ℕ → ℕ) → Leads l.fn.parents f → Leads l.parents f;
  marks : (f : ℕ → ℕ) → Leads l.fn.parents f → (c : ℕ) → mark (λ v. f (place_in l.variables.keys v)) c (slice_index_or l.marks c Nothing) (drop l.told-index l.uses) ≡ mark (λ v. f (place_in l.variables.keys v)) c (slice_index_or l.fn.marks c Nothing) l.uses;
}
