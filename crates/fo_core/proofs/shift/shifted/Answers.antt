use Rattle.std.proofs.Common.{◌≡◌, ◌↔◌, ◌+◌, ℕ, List, Bool, sym, subst}
use Rattle.std.proofs.lemmas.Result.{IfOk-weaker}
use Rattle.fo_core.specs.declared.world.World.{World}
use Rattle.fo_core.specs.Sorted.{IsFormula}
use Rattle.fo_core.specs.Truth.{Truth}
use Rattle.fo_core.specs.Shift.{shift}
use Rattle.fo_core.specs.SortGraph.{FormulaEdge}
use Rattle.fo_core.proofs.ShiftEdges.{edge-moved}
use Rattle.fo_core.proofs.ShiftRows.{shift-sorted}
use Rattle.fo_core.proofs.ShiftTruth.{truth-moved}
use Rattle.fo_core.proofs.shift.shifted.Goals as goal

pub returns-clause-sorted : goal.returns-clause-sorted
returns-clause-sorted c =
    IfOk-weaker c.shifted_formula.result (λ g. g ≡ shift c.args.sig.now c.args.by c.args.f.now)
    (λ g. (n : ℕ) (ss : List ℕ) → IsFormula c.args.sig.now n c.args.f.now ss → IsFormula c.args.sig.now (n + c.args.by) g ss)
    (λ g is n ss h. subst (λ x. IsFormula c.args.sig.now (n + c.args.by) x ss) (sym is) (shift-sorted c.args.sig.now c.args.by n c.args.f.now ss h))
    c.shifted_formula.ensures

pub returns-clause-truth : goal.returns-clause-truth
returns-clause-truth c =
    IfOk-weaker c.shifted_formula.result (λ g. g ≡ shift c.args.sig.now c.args.by c.args.f.now)
    (λ g. (w : World) (d : ℕ) (vs : List ℕ) → Truth c.args.sig.now w d g vs ↔ Truth c.args.sig.now w (d + c.args.by) c.args.f.now vs)
    (λ g is w d vs. subst (λ x. Truth c.args.sig.now w d x vs ↔ Truth c.args.sig.now w (d + c.args.by) c.args.f.now vs) (sym is) (truth-moved c.args.sig.now w d c.args.by c.args.f.now vs))
    c.shifted_formula.ensures

pub returns-clause-edges : goal.returns-clause-edges
returns-clause-edges c =
    IfOk-weaker c.shifted_formula.result (λ g. g ≡ shift c.args.sig.now c.args.by c.args.f.now)
    (λ g. (a b : ℕ) (sign : Bool) → FormulaEdge a b g sign ↔ FormulaEdge a b c.args.f.now sign)
    (λ g is a b sign. subst (λ x. FormulaEdge a b x sign ↔ FormulaEdge a b c.args.f.now sign) (sym is) (edge-moved c.args.sig.now c.args.by a b c.args.f.now sign))
    c.shifted_formula.ensures
