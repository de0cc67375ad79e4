use Rattle.std.proofs.Common.{◌≡◌, ◌++◌, drop}
use Rattle.pyv_meaning.specs.Builds.{terms_of}
use Rattle.pyv_meaning.specs.View.{views}
use Rattle.pyv_sorts.proofs.formula.+arguments.Given as goal

abbrev pub invariant-terms-each : goal.invariant-terms-each
invariant-terms-each l = l.built ++ terms_of l.known.names l.known.sig (views l.known.bytes (drop l.tree-index l.trees)) l.ahead l.scope ≡ terms_of l.known.names l.known.sig (views l.known.bytes l.trees) l.ahead l.scope
