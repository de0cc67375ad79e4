use Rattle.std.proofs.Common.{◌≡◌, ℕ, ◌∙◌, length, subst, arith}
use Rattle.std.specs.List.{All}
use Rattle.up_claims.specs.Claims.{properties}
use Rattle.up_claims.specs.VerifyQueries.{step_cases}
use Rattle.up_verify.specs.Verifying.{Passes}
use Rattle.up_verify.proofs.Cases.{in_steps, steps_more}
use Rattle.up_verify.proofs.verifying.first_halt_by_step.Goals as goal

pub returns-in-Some-clause-found : goal.returns-in-Some-clause-found
returns-in-Some-clause-found g c =
    in_steps c.args.sys.now (g.F.Finder.limit c.args.f.now) (length (properties c.args.sys.now)) c.in-Some.halt c.each.step (length c.args.sys.now.steps)
    (omega (arith, c.len-count.ensures, c.each-test.true)) c.each.invariant.passed
    (rw (c.each.invariant.limit, c.in-Some.is) at c.in_ok-halt.ensures.found)

pub each-preserved : goal.each-preserved
each-preserved g c = record {
  passed = steps_more c.args.sys.now (g.F.Finder.limit c.args.f.now) (length (properties c.args.sys.now)) c.each.step c.in_ok-halt.field-0 c.in_default.is c.each.invariant.passed
      (rw c.each.invariant.limit at c.in_ok-halt.ensures.found);
  limit = c.in_ok-halt.ensures.limit ∙ c.each.invariant.limit;
}

pub returns-clause-found : goal.returns-clause-found
returns-clause-found g c =
    let end : c.each.step ≡ length c.args.sys.now.steps = omega (arith, c.len-count.ensures, c.each-test.false, c.each.auto.step-end) in
    subst (λ (n : ℕ). All (Passes c.args.sys.now (g.F.Finder.limit c.args.f.now)) (step_cases (length (properties c.args.sys.now)) n)) end c.each.invariant.passed
