use Rattle.std.proofs.Common.{◌≡◌, map, take}
use Rattle.fo_core.specs.declared.term.Term.TheVariants as T
use Rattle.up_diagram.proofs.claims.terms.Given as goal

-- the variables before this one are terms
abbrev pub invariant-each : goal.invariant-each
invariant-each l = l.list ≡ map T.Var (take l.v-index l.variables)
