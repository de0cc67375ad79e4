use Rattle.std.proofs.Common.{◌≡◌, ◌⊎◌, ℕ, length, drop}
use Rattle.pyv_meaning.specs.declared.fault.SortFault.{SortFault}
use Rattle.pyv_meaning.specs.Gets.{Among, GetsOnly, IsFirstUnsorted, binders}
use Rattle.pyv_sorts.specs.Classes.{Falls, Leads}
use Rattle.pyv_sorts.specs.Inferring.{sort_in}
use Rattle.pyv_sorts.proofs.infer.only_sorts.Given as goal

abbrev pub invariant-each : goal.invariant-each
invariant-each l = record {
  falls : Falls l.parents;
  long : length l.parents ≡ length l.variables.keys;
  kept : (f : ℕ → ℕ) → Leads l.fn.parents f → Leads l.parents f;
  found : (v : ℕ) → Among v (binders l.uses) → GetsOnly l.uses v (sort_in l.sorts v) ⊎ Among v (binders (drop l.told-index l.uses));
  first : (f : SortFault) → IsFirstUnsorted l.uses (binders (drop l.told-index l.uses)) f → IsFirstUnsorted l.uses (binders l.uses) f;
}
