use Rattle.std.proofs.lemmas.Result.{on_ok_weaker}
use Rattle.pyv_strat.proofs.EdgeLemmas.{adds-then}
use Rattle.pyv_strat.proofs.graph.add_inferred.Goals as goal

pub returns : goal.returns
returns c =
    let functions = rw c.as_slice.ensures at c.in_ok-add_of_functions.ensures in
    let axioms = rw c.as_slice-2.ensures at c.in_ok-add_of_formulas.ensures in
    let inits = rw c.as_slice-3.ensures at c.in_ok-add_of_formulas-2.ensures in
    let steps = rw c.as_slice-4.ensures at c.in_ok-add_of_steps.ensures in
    let safeties = rw c.as_slice-5.ensures at c.add_of_formulas-3.ensures in
    on_ok_weaker c.add_of_formulas-3.result (λ h. adds-then _ _ _ _ _ functions (adds-then _ _ _ _ _ axioms (adds-then _ _ _ _ _ inits (adds-then _ _ _ _ _ steps h)))) safeties
