use Rattle.std.proofs.Common.{◌≡◌, ℕ, ◌∙◌, length, subst, arith}
use Rattle.std.specs.List.{All}
use Rattle.up_claims.specs.Claims.{properties}
use Rattle.up_claims.specs.VerifyQueries.{cases_at}
use Rattle.up_verify.specs.Verifying.{Passes}
use Rattle.up_verify.proofs.Cases.{in_cases, cases_more, count_is}
use Rattle.up_verify.proofs.verifying.first_halt_at.Goals as goal

pub returns-in-Some-clause-found : goal.returns-in-Some-clause-found
returns-in-Some-clause-found g c =
    let count = count_is c.args.sys.now c.len.result c.len-2.result c.len.ensures c.len-2.ensures in
    in_cases c.args.sys.now (g.F.Finder.limit c.args.f.now) c.args.step c.in-Some.halt c.each.property (length (properties c.args.sys.now))
    (omega (arith, count, c.each-test.true)) c.each.invariant.passed
    (rw (c.each.invariant.limit, c.in-Some.is) at c.in_ok-halt.ensures.found)

pub each-preserved : goal.each-preserved
each-preserved g c = record {
  passed = cases_more c.args.sys.now (g.F.Finder.limit c.args.f.now) c.args.step c.each.property c.in_ok-halt.field-0 c.in_default.is c.each.invariant.passed
      (rw c.each.invariant.limit at c.in_ok-halt.ensures.found);
  limit = c.in_ok-halt.ensures.limit ∙ c.each.invariant.limit;
}

pub returns-clause-found : goal.returns-clause-found
returns-clause-found g c =
    let count = count_is c.args.sys.now c.len.result c.len-2.result c.len.ensures c.len-2.ensures in
    let end : c.each.property ≡ length (properties c.args.sys.now) = omega (arith, count, c.each-test.false, c.each.auto.property-end) in
    subst (λ (n : ℕ). All (Passes c.args.sys.now (g.F.Finder.limit c.args.f.now)) (cases_at c.args.step n)) end c.each.invariant.passed
