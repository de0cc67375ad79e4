use Rattle.std.proofs.Common.{◌≡◌, map, take}
use Rattle.std.specs.Prelude.{slice_index}
use Rattle.up_diagram.proofs.leaving_out.renamed_each.Given as goal

-- the places of the variables before this one
abbrev pub invariant-each : goal.invariant-each
invariant-each l = l.list ≡ map (slice_index l.places) (take l.v-index l.variables)
