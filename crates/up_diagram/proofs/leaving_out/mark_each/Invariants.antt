use Rattle.std.proofs.Common.{◌≡◌, ℕ, ◌<◌, false, length, get_or, take}
use Rattle.std.specs.Prelude.{◌||◌, nat_eq}
use Rattle.std.specs.List.{list_any}
use Rattle.up_diagram.proofs.leaving_out.mark_each.Given as goal

-- the variables before this one are marked
abbrev pub invariant-each : goal.invariant-each
invariant-each l = record {
  count : length l.marks ≡ length l.fn.marks;
  each : (v : ℕ) → v < length l.fn.marks → get_or l.marks v false ≡ (get_or l.fn.marks v false || list_any (nat_eq v) (take l.v-index l.variables));
}
