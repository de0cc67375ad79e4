use Rattle.std.specs.Prelude.{None}
use Rattle.std.proofs.Common.{length}
use Rattle.up_claims.specs.Claims.{properties}
use Rattle.up_claims.specs.VerifyQueries.{cases_at, step_cases}
use Rattle.up_verify.proofs.Cases.{finds_left, finds_next}
use Rattle.up_verify.proofs.verifying.first_halt.Goals as goal

pub returns-in-Some-clause-found : goal.returns-in-Some-clause-found
returns-in-Some-clause-found g c =
    finds_left c.args.sys.now (g.F.Finder.limit c.args.f.now) (cases_at None (length (properties c.args.sys.now))) (step_cases (length (properties c.args.sys.now)) (length c.args.sys.now.steps)) c.in-Some.halt
    (rw (c.in-Some.is) at c.in_ok-halt.ensures.found)

pub returns-clause-found : goal.returns-clause-found
returns-clause-found g c =
    finds_next c.args.sys.now (g.F.Finder.limit c.args.f.now) (cases_at None (length (properties c.args.sys.now))) (step_cases (length (properties c.args.sys.now)) (length c.args.sys.now.steps)) c.in_ok-halt.field-0 c.in_default.is
    c.in_ok-halt.ensures.found c.first_halt_by_step.result (rw (c.in_ok-halt.ensures.limit) at c.first_halt_by_step.ensures.found)
