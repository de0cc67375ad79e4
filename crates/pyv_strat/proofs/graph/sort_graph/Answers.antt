use Rattle.std.proofs.Common.{ℕ, ◌⊎◌, [], true, false}
use Rattle.fo_core.specs.SortGraph.{FormulasEdge, InferEdge, VerifyEdge}
use Rattle.pyv_strat.proofs.EdgeLemmas.{adds-then, adds-only}
use Rattle.pyv_strat.proofs.graph.sort_graph.Goals as goal

pub returns-in-Infer : goal.returns-in-Infer
returns-in-Infer c =
    let inferred = rw c.new-edges.ensures.items at c.in_ok-add_inferred.ensures in
    rw c.in-Infer.is (adds-only (InferEdge c.args.sys.now) _ inferred)

pub returns-in_ok-add_claimed-in-Verify : goal.returns-in_ok-add_claimed-in-Verify
returns-in_ok-add_claimed-in-Verify c =
    let sys = c.args.sys.now in
    let inferred = rw c.new-edges.ensures.items at c.in_ok-add_inferred.ensures in
    let claimed = λ (a b : ℕ). FormulasEdge sys.safeties true a b ⊎ FormulasEdge sys.invariants true a b ⊎ FormulasEdge sys.invariants false a b in
    rw c.in-Verify.is (adds-only (VerifyEdge sys) _ (adds-then (InferEdge sys) claimed [] c.add_inferred.new.edges.items _ inferred c.in_ok-add_claimed-in-Verify.ensures))
