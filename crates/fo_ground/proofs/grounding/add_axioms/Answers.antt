use Rattle.fo_ground.proofs.AxiomsSaid.{axioms-said}
use Rattle.fo_ground.proofs.grounding.add_axioms.Goals as goal

pub returns : goal.returns
returns c =
    axioms-said c.args.u.now c.args.lay.now c.requires.ready c.requires.universe c.args.into.now.vars c.args.into.now.clauses c.add_equalities.new.into.vars c.add_equalities.new.into.clauses
    c.add_functions.new.into.vars c.add_functions.new.into.clauses c.add_relations.new.into.vars c.add_relations.new.into.clauses c.in_ok-add_equalities.ensures c.in_ok-add_functions.ensures c.in_ok-add_relations.ensures
