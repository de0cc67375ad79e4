use Rattle.std.proofs.Common.{◌≡◌, ◌∙◌, ◌++◌, ◌∷◌, [], ℕ, List, sym, ap, subst, arith}
use Rattle.fo_core.specs.declared.formula.Formula.{Formula}
use Rattle.prop_core.specs.declared.lit.Lit.{Lit}
use Rattle.prop_cdcl.specs.Questions.{Known}
use Rattle.fo_solve.specs.declared.claims.Switched.{Switched}
use Rattle.fo_solve.specs.Contexts.{AreSwitched, IsSwitch}
use Rattle.fo_solve.proofs.Switching.{claim-switched, same-switched, keeps-last}
use Rattle.fo_solve.proofs.claims.Claims.add.Goals as goal

pub returns-clause-switched : goal.returns-clause-switched
returns-clause-switched c =
    let g = c.args.ground.now in
    let kept = c.args.self.now.kept.items in
    let solver = c.args.self.now.solver in
    let n = c.vars-switch.result in
    let cnf = c.in_ok-vars.field-0 in
    let before = subst (λ (m : ℕ). AreSwitched g kept m solver.clauses) (sym c.vars-switch.ensures) c.requires.switched in
    let kept_same : c.push.new.self.items ≡ kept ++ record { claim = c.args.claim.now; switch = n } ∷ [] =
    c.in_ok-push.ensures.items ∙ ap (λ (f : Formula). kept ++ record { claim = f; switch = n } ∷ []) c.in_ok-claim.ensures in
    let vars_same : c.give.new.solver.vars ≡ cnf.vars =
    c.in_ok-give.ensures.vars ∙ ap (λ (s : Known). s.vars) c.in_ok-add_vars.ensures.ok ∙ omega (arith, c.vars-switch.ensures, c.in_ok-vars.vars-is, c.in_ok-vars.ensures.grows) in
    let clauses_same : c.give.new.solver.clauses ≡ solver.clauses ++ cnf.clauses =
    c.in_ok-give.ensures.clauses ∙ ap (λ (s : Known). s.clauses ++ c.as_slice.result.now) c.in_ok-add_vars.ensures.ok ∙ ap (λ (xs : List (List Lit)). solver.clauses ++ xs) c.as_slice.ensures in
    same-switched g (kept ++ record { claim = c.args.claim.now; switch = n } ∷ []) c.push.new.self.items cnf.vars c.give.new.solver.vars (solver.clauses ++ cnf.clauses) c.give.new.solver.clauses kept_same vars_same clauses_same
    (claim-switched g kept n solver.clauses c.args.claim.now cnf.vars cnf.clauses before c.in_ok-vars.ensures)

pub returns-clause-switch : goal.returns-clause-switch
returns-clause-switch c =
    let kept = c.args.self.now.kept.items in
    let n = c.vars-switch.result in
    let kept_same : c.push.new.self.items ≡ kept ++ record { claim = c.args.claim.now; switch = n } ∷ [] =
    c.in_ok-push.ensures.items ∙ ap (λ (f : Formula). kept ++ record { claim = f; switch = n } ∷ []) c.in_ok-claim.ensures in
    subst (λ (s : List Switched). IsSwitch s c.args.claim.now n) (sym kept_same) (keeps-last kept c.args.claim.now n)
