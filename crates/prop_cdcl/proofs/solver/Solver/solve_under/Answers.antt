use Rattle.std.proofs.Common.{◌↔◌, ◌∙◌, ap}
use Rattle.std.proofs.lemmas.Result.{IfOk-weaker}
use Rattle.prop_cdcl.specs.declared.solver.Reply.{Reply}
use Rattle.prop_cdcl.specs.Questions.{Known, IsReply, SaysDenied, HaveNoValuesUnder}
use Rattle.prop_cdcl.proofs.Asked.{reply_for, reply_exact}
use Rattle.prop_cdcl.proofs.solver.Solver.solve_under.Goals as goal

pub returns-in-Some-clause-reply : goal.returns-in-Some-clause-reply
returns-in-Some-clause-reply c =
    let view = c.self.view_is ∙ c.renew.ensures in
    let said = rw c.in-Some.is at c.in_ok-found.ensures.reply in
    reply_for c.args.self.now _ _ _ _ (ap (λ (k : Known). k.vars) view) (ap (λ (k : Known). k.clauses) view) said

pub returns-in-Some-clause-exact : goal.returns-in-Some-clause-exact
returns-in-Some-clause-exact c =
    let view = c.self.view_is ∙ c.renew.ensures in
    let said = rw c.in-Some.is at c.in_ok-found.ensures.reply in
    reply_exact _ _ _ _ (reply_for c.args.self.now _ _ _ _ (ap (λ (k : Known). k.vars) view) (ap (λ (k : Known). k.clauses) view) said)

pub returns-in-None-clause-reply : goal.returns-in-None-clause-reply
returns-in-None-clause-reply c =
    let view = c.self.view_is ∙ c.renew.ensures in
    IfOk-weaker c.plainly.result (IsReply c.search_under.new.checked.vars c.search_under.new.checked.given c.args.assumptions.now) (IsReply c.args.self.now.vars c.args.self.now.clauses c.args.assumptions.now)
    (λ r h. reply_for c.args.self.now _ _ _ r (c.in_ok-found.ensures.vars ∙ ap (λ (k : Known). k.vars) view) (c.in_ok-found.ensures.given ∙ ap (λ (k : Known). k.clauses) view) h)
    c.plainly.ensures

pub returns-in-None-clause-exact : goal.returns-in-None-clause-exact
returns-in-None-clause-exact c =
    let view = c.self.view_is ∙ c.renew.ensures in
    IfOk-weaker c.plainly.result (IsReply c.search_under.new.checked.vars c.search_under.new.checked.given c.args.assumptions.now) (λ (r : Reply). SaysDenied r ↔ HaveNoValuesUnder c.args.self.now.clauses c.args.assumptions.now)
    (λ r h. reply_exact _ _ _ r (reply_for c.args.self.now _ _ _ r (c.in_ok-found.ensures.vars ∙ ap (λ (k : Known). k.vars) view) (c.in_ok-found.ensures.given ∙ ap (λ (k : Known). k.clauses) view) h))
    c.plainly.ensures
