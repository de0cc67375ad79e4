use Rattle.std.proofs.lemmas.Result.{on_ok_weaker}
use Rattle.pyv_strat.proofs.EdgeLemmas.{adds-then}
use Rattle.pyv_strat.proofs.graph.add_claimed.Goals as goal

pub returns : goal.returns
returns c =
    let safeties = rw c.as_slice.ensures at c.in_ok-add_of_formulas.ensures in
    let invariants = rw c.as_slice-2.ensures at c.in_ok-add_of_formulas-2.ensures in
    let negated = rw c.as_slice-3.ensures at c.add_of_formulas-3.ensures in
    on_ok_weaker c.add_of_formulas-3.result (λ h. adds-then _ _ _ _ _ safeties (adds-then _ _ _ _ _ invariants h)) negated
