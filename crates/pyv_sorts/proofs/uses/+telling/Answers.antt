use Rattle.std.proofs.Common.{◌≡◌, ◌++◌, ap, sym, ◌∙◌, inl, inr, refl}
use Rattle.pyv_sorts.proofs.Appends.{on_ok, two_steps, append_again, of_variable, of_distinct, of_pair, of_sides, of_quantified, of_conditional}
use Rattle.pyv_sorts.proofs.uses.+telling.Goals as goal

pub uses-returns-in-Variable : goal.uses-returns-in-Variable
uses-returns-in-Variable t c = record {
  uses = c.in_ok-occurs-in-Name.ensures ∙ ap (λ us. c.args.out.now.items ++ us) (sym (of_variable c.args.known.now.names c.args.known.now.sig c.args.known.now.bytes c.args.scope.now c.args.tree.now c.in-Name.name c.in-Name.field-1 c.in-Name.args c.meaning-meaning.result c.in-Name.is c.meaning-meaning.ensures.is c.in-Variable.is));
  scope = refl;
}

pub uses-returns-in_ok-equated_pairs-in-Distinct-clause-uses : goal.uses-returns-in_ok-equated_pairs-in-Distinct-clause-uses
uses-returns-in_ok-equated_pairs-in-Distinct-clause-uses t c =
    let same = of_distinct c.args.known.now.names c.args.known.now.sig c.args.known.now.bytes c.args.scope.now c.args.tree.now c.in-Distinct.field-0 c.in-Distinct.terms c.as_slice-in-Distinct.result.now c.as_slice-in-Distinct-2.result.now c.in-Distinct.is c.as_slice-in-Distinct.ensures c.as_slice-in-Distinct-2.ensures in
    on_ok c.uses_of_each.result _ _ (two_steps c.args.out.now.items _ _ _ _ _ same c.in_ok-equated_pairs-in-Distinct.ensures) c.uses_of_each.ensures.uses

pub uses-returns-in_ok-uses-in-If-2-clause-uses : goal.uses-returns-in_ok-uses-in-If-2-clause-uses
uses-returns-in_ok-uses-in-If-2-clause-uses t c =
    let same = of_conditional c.args.known.now.names c.args.known.now.sig c.args.known.now.bytes c.args.scope.now c.args.tree.now c.in-If.x c.in-If.y c.in-If.z c.get.result.now c.get-in-If.result.now c.get-in-If-2.result.now c.in-If.field-0 _ _ c.in-If.is c.get.ensures c.get-in-If.ensures c.get-in-If-2.ensures c.in_ok-uses-in-If.ensures.scope (c.in_ok-uses-in-If-2.ensures.scope ∙ c.in_ok-uses-in-If.ensures.scope) in
    on_ok c.uses-in-If-2.result _ _ (λ h. two_steps c.args.out.now.items _ _ _ _ _ same c.in_ok-uses-in-If.ensures.uses (two_steps _ _ _ _ _ _ refl c.in_ok-uses-in-If-2.ensures.uses h)) c.uses-in-If-2.ensures.uses

pub uses-returns-in_ok-uses-in-All-clause-uses : goal.uses-returns-in_ok-uses-in-All-clause-uses
uses-returns-in_ok-uses-in-All-clause-uses t c =
    let same = of_quantified c.args.known.now.names c.args.known.now.sig c.args.known.now.bytes c.args.scope.now c.args.tree.now c.in-All.x c.get-in-All.result.now c.in-All.bounds c.as_slice-in-All.result.now c.as_slice-in-All-2.result.now _ c.in-All.is c.get-in-All.ensures c.as_slice-in-All.ensures c.as_slice-in-All-2.ensures c.in_ok-enter-in-All.ensures in
    two_steps c.args.out.now.items _ _ _ _ _ same c.in_ok-bound_uses-in-All.ensures c.in_ok-uses-in-All.ensures.uses

pub uses-returns-in_ok-uses-in-Equal-clause-uses : goal.uses-returns-in_ok-uses-in-Equal-clause-uses
uses-returns-in_ok-uses-in-Equal-clause-uses t c =
    let same = of_sides c.args.known.now.names c.args.known.now.sig c.args.known.now.bytes c.args.scope.now c.args.tree.now c.in-Equal.x c.in-Equal.y c.get-in-Equal.result.now c.get-in-Equal-2.result.now c.get-in-Equal-3.result.now c.get-in-Equal-4.result.now c.side_at-left.result c.side_at.result _ c.in-Equal.is c.get-in-Equal.ensures c.get-in-Equal-2.ensures c.get-in-Equal-3.ensures c.get-in-Equal-4.ensures c.in_ok-uses-in-Equal.ensures.scope c.side_at-left.ensures c.side_at.ensures in
    on_ok c.uses-in-Equal-2.result _ _ (λ h. two_steps c.args.out.now.items _ _ _ _ _ same c.in_ok-equated-in-Equal.ensures (two_steps _ _ _ _ _ _ refl c.in_ok-uses-in-Equal.ensures.uses h)) c.uses-in-Equal-2.ensures.uses

pub uses-returns-in_ok-uses-in-Implies-clause-uses : goal.uses-returns-in_ok-uses-in-Implies-clause-uses
uses-returns-in_ok-uses-in-Implies-clause-uses t c =
    let same = of_pair c.args.known.now.names c.args.known.now.sig c.args.known.now.bytes c.args.scope.now c.args.tree.now c.in-Implies.x c.in-Implies.y c.get-in-Implies.result.now c.get-in-Implies-2.result.now _ c.in-Implies.is c.get-in-Implies.ensures c.get-in-Implies-2.ensures c.in_ok-uses-in-Implies.ensures.scope in
    on_ok c.uses-in-Implies-2.result _ _ (two_steps c.args.out.now.items _ _ _ _ _ same c.in_ok-uses-in-Implies.ensures.uses) c.uses-in-Implies-2.ensures.uses
