use Rattle.std.proofs.Common.{◌+◌, List, refl, sym, subst, take, true}
use Rattle.std.specs.List.{AllZip}
use Rattle.prop_core.specs.declared.lit.Lit.{Lit}
use Rattle.fo_core.specs.declared.formula.Formula.{Formula}
use Rattle.fo_solve.specs.Contexts.{IsOn}
use Rattle.fo_solve.proofs.Switching.{on-kept, on-next, on-all}
use Rattle.fo_solve.proofs.claims.Claims.switch_on.Goals as goal

pub each-preserved : goal.each-preserved
each-preserved c =
    let before = c.each.self.kept.items in
    let after = c.switch.new.self.kept.items in
    let claims = c.args.claims.now in
    let claim = c.claim-item.result in
    let l : Lit = record { var = c.in_ok-var.var; positive = true } in
    let here = subst (λ (f : Formula). IsOn after f l) c.claim-item.is (refl, c.in_ok-var.ensures.switch) in
    record {
      switched = c.in_ok-var.ensures.switched;
      are_on = subst (λ (ls : List Lit). AllZip (IsOn after) (take (c.each.claim-index + 1) claims) ls) (sym c.in_ok-push.ensures.items)
          (on-next after claims c.each.claim-index claim c.each.switches.items l c.each-test.true
          (on-kept before after c.in_ok-var.ensures.keeps (take c.each.claim-index claims) c.each.switches.items c.each.invariant.are_on) here);
    }

pub returns-clause-on : goal.returns-clause-on
returns-clause-on c = on-all c.each.self.kept.items c.args.claims.now c.each.claim-index c.each.switches.items c.each-test.false c.each.invariant.are_on
