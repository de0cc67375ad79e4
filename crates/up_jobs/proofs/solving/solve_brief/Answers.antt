use Rattle.up_jobs.proofs.Briefs.{solved-look, solved-work, solved-push, solved-trace}
use Rattle.up_jobs.proofs.solving.solve_brief.Goals as goal

pub returns-in_ok-least-in-Look-clause-solved : goal.returns-in_ok-least-in-Look-clause-solved
returns-in_ok-least-in-Look-clause-solved g c =
    solved-look c.args.sys.now c.args.order.now (g.F.Finder.limit c.args.finder.now) c.args.brief.now c.requires.asked
    c.in-Look.is c.as_slice-frame.result.now c.as_slice-avoid.result.now c.as_slice-frame.ensures c.as_slice-avoid.ensures
    c.in_ok-least-in-Look.least c.in_ok-least-in-Look.ensures.found

pub returns-in_ok-blocking-in-Some-clause-solved : goal.returns-in_ok-blocking-in-Some-clause-solved
returns-in_ok-blocking-in-Some-clause-solved g c =
    solved-work c.args.sys.now c.args.order.now (g.F.Finder.limit c.args.finder.now) c.args.brief.now c.requires.asked
    c.in-Work.field-0 c.in-Work.is c.as_slice-frame.result.now c.as_slice-frame.ensures
    c.in-Some.world c.in-Some.is c.in_ok-blocking-in-Some.blocking c.in_ok-blocking-in-Some.ensures.found

pub returns-in_ok-pushing-in-Some-cube-clause-solved : goal.returns-in_ok-pushing-in-Some-cube-clause-solved
returns-in_ok-pushing-in-Some-cube-clause-solved g c =
    solved-push c.args.sys.now c.args.order.now (g.F.Finder.limit c.args.finder.now) c.args.brief.now c.requires.asked
    c.in-Push.field-0 c.in-Push.is c.as_slice-frame.result.now c.as_slice-frame.ensures
    c.in-Some-cube.cube c.in-Some-cube.is c.in_ok-pushing-in-Some-cube.pushing c.in_ok-pushing-in-Some-cube.ensures.found

pub returns-in_ok-unrolled-in-Trace-clause-solved : goal.returns-in_ok-unrolled-in-Trace-clause-solved
returns-in_ok-unrolled-in-Trace-clause-solved g c =
    solved-trace c.args.sys.now c.args.order.now (g.F.Finder.limit c.args.finder.now) c.args.brief.now c.requires.asked
    c.in-Trace.field-0 c.in-Trace.is c.in_ok-unrolled-in-Trace.unrolled c.in_ok-unrolled-in-Trace.ensures.found
