use Rattle.std.proofs.Common.{◌≡◌, ◌++◌, ap, sym, ◌∙◌, refl}
use Rattle.pyv_sorts.specs.Placing.{names_in}
use Rattle.pyv_sorts.proofs.Appends.{on_ok, two_steps, frees_pair, frees_quantified, frees_conditional}
use Rattle.pyv_sorts.proofs.free.+freeing.Goals as goal

pub frees-returns-in_ok-frees-in-If-2-clause-frees : goal.frees-returns-in_ok-frees-in-If-2-clause-frees
frees-returns-in_ok-frees-in-If-2-clause-frees t c =
    let same = frees_conditional c.args.known.now.names c.args.known.now.bytes c.args.scope.now c.args.tree.now c.in-If.x c.in-If.y c.in-If.z c.get.result.now c.get-in-If.result.now c.get-in-If-2.result.now c.in-If.field-0 _ _ c.in-If.is c.get.ensures c.get-in-If.ensures c.get-in-If-2.ensures c.in_ok-frees-in-If.ensures.scope (c.in_ok-frees-in-If-2.ensures.scope ∙ c.in_ok-frees-in-If.ensures.scope) in
    on_ok c.frees-in-If-2.result _ _ (λ h. two_steps (names_in c.args.out.now.items) _ _ _ _ _ same c.in_ok-frees-in-If.ensures.frees (two_steps _ _ _ _ _ _ refl c.in_ok-frees-in-If-2.ensures.frees h)) c.frees-in-If-2.ensures.frees

pub frees-returns-in_ok-frees-in-All-clause-frees : goal.frees-returns-in_ok-frees-in-All-clause-frees
frees-returns-in_ok-frees-in-All-clause-frees t c =
    let same = frees_quantified c.args.known.now.names c.args.known.now.bytes c.args.scope.now c.args.tree.now c.in-All.x c.get-in-All.result.now c.in-All.bounds c.as_slice-in-All.result.now _ c.in-All.is c.get-in-All.ensures c.as_slice-in-All.ensures c.in_ok-enter-in-All.ensures in
    c.in_ok-frees-in-All.ensures.frees ∙ ap (λ ns. names_in c.args.out.now.items ++ ns) (sym same)

pub frees-returns-in_ok-frees-in-Implies-clause-frees : goal.frees-returns-in_ok-frees-in-Implies-clause-frees
frees-returns-in_ok-frees-in-Implies-clause-frees t c =
    let same = frees_pair c.args.known.now.names c.args.known.now.bytes c.args.scope.now c.args.tree.now c.in-Implies.x c.in-Implies.y c.get-in-Implies.result.now c.get-in-Implies-2.result.now _ c.in-Implies.is c.get-in-Implies.ensures c.get-in-Implies-2.ensures c.in_ok-frees-in-Implies.ensures.scope in
    on_ok c.frees-in-Implies-2.result _ _ (two_steps (names_in c.args.out.now.items) _ _ _ _ _ same c.in_ok-frees-in-Implies.ensures.frees) c.frees-in-Implies-2.ensures.frees
