use Rattle.std.proofs.Common.{◌≡◌, ◌++◌, drop}
use Rattle.pyv_meaning.specs.Builds.{formulas_of}
use Rattle.pyv_meaning.specs.View.{views}
use Rattle.pyv_sorts.specs.Inferring.{sort_in}
use Rattle.pyv_sorts.proofs.formula.+building.Given as goal

abbrev pub invariant-formulas-each : goal.invariant-formulas-each
invariant-formulas-each l = record {
  formulas : l.built ++ formulas_of l.known.names l.known.sig (sort_in l.sorts) (views l.known.bytes (drop l.tree-index l.trees)) l.ahead l.scope ≡ formulas_of l.known.names l.known.sig (sort_in l.sorts) (views l.known.bytes l.trees) l.ahead l.fn.scope;
  scope : l.scope ≡ l.fn.scope;
}
