use Rattle.std.proofs.Common.{◌≡◌, ◌++◌, drop, map}
use Rattle.pyv_meaning.specs.Tree.{Name, bound_names}
use Rattle.pyv_meaning.specs.View.{binders_of}
use Rattle.pyv_sorts.specs.Inferring.{sort_in}
use Rattle.pyv_sorts.proofs.body.sorts_of_params.Given as goal

abbrev pub invariant-each : goal.invariant-each
invariant-each l =
    l.found ++ map (λ (n : Name). sort_in l.sorts n.place) (bound_names (binders_of l.known.bytes (drop l.param-index l.params))) ≡ map (λ (n : Name). sort_in l.sorts n.place) (bound_names (binders_of l.known.bytes l.params))
