use Rattle.std.proofs.Common.{◌-◌, [], ◌∷◌, List, Option, IfOk, sym, subst}
use Rattle.up_diagram.specs.declared.cube.Cube.{Cube}
use Rattle.up_claims.specs.Blocked.{NoStep}
use Rattle.up_claims.specs.InferQueries.{before_query}
use Rattle.up_claims.proofs.JudgingLemmas.{known-from}
use Rattle.up_cert.specs.Trying.{IsTried}
use Rattle.up_cert.proofs.FrameLemmas.{below-none, below-some}
use Rattle.up_cert.proofs.clauses.try_step_below.Goals as goal

pub returns-then-kept-le1-clause-tried : goal.returns-then-kept-le1-clause-tried
returns-then-kept-le1-clause-tried g c =
    let sys = c.args.sys.now in
    let kept = c.args.kept.now in
    subst (λ (frame : Option (List Cube)). IfOk c.try_step.result (IsTried sys.sig (g.F.Finder.limit c.args.f.now) (NoStep sys frame kept.cube) (before_query sys frame kept.cube ∷ [])))
    (sym (below-none c.args.clauses.now kept c.if-kept-le1.true)) c.try_step.ensures.tried

pub try_step-requires-2-clause-frame : goal.try_step-requires-2-clause-frame
try_step-requires-2-clause-frame g c =
    rw (c.as_slice.ensures, c.in_ok-turn.ensures.turned) (known-from c.args.sys.now c.requires.infer.system c.args.clauses.now c.requires.clauses.sorted (c.args.kept.now.level - 1))

pub returns-clause-tried : goal.returns-clause-tried
returns-clause-tried g c =
    let sys = c.args.sys.now in
    let kept = c.args.kept.now in
    subst (λ (frame : Option (List Cube)). IfOk c.try_step-2.result (IsTried sys.sig (g.F.Finder.limit c.args.f.now) (NoStep sys frame kept.cube) (before_query sys frame kept.cube ∷ [])))
    (sym (below-some c.args.clauses.now kept c.if-kept-le1.false)) (rw (c.as_slice.ensures, c.in_ok-turn.ensures.turned) at c.try_step-2.ensures.tried)
