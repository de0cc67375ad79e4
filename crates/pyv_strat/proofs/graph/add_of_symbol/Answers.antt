use Rattle.std.proofs.Common.{◌≡◌, true≢false, sym, ◌∙◌}
use Rattle.std.proofs.lemmas.Result.{on_ok_weaker}
use Rattle.pyv_strat.proofs.EdgeLemmas.{adds-as, adds-nothing}
use Rattle.pyv_strat.proofs.graph.add_of_symbol.Goals as goal

pub returns-then-symbol : goal.returns-then-symbol
returns-then-symbol c = adds-nothing _ _ (λ a b h. true≢false (sym c.if-symbol.true ∙ h.function))

pub returns : goal.returns
returns c =
    let added = rw c.as_slice.ensures at c.add_from_each.ensures in
    on_ok_weaker c.add_from_each.result (λ h. adds-as _ _ _ _ (λ a b. (λ e. record { function = c.if-symbol.false; argument = e.0; result = e.1 }, λ e. (e.argument, e.result))) h) added
