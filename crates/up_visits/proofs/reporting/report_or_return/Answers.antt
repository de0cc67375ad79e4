use Rattle.std.proofs.Common.{ap, arith, inr, refl}
use Rattle.up_claims.specs.declared.report.Numbers.{Numbers}
use Rattle.up_machine.specs.declared.event.Why.TheVariants as Y
use Rattle.up_machine.specs.declared.limits.Limits.{Limits}
use Rattle.up_visits.proofs.Acting.{put_idle, put_quiet, put_then, reported_acted, reported_idle, unreported_acted, unreported_ended, unreported_same}
use Rattle.up_visits.proofs.reporting.report_or_return.Goals as goal

pub returns-then-report-clause-acted : goal.returns-then-report-clause-acted
returns-then-report-clause-acted c = reported_acted c.args.core.now c.report.new.core c.args.worker c.report.result c.if-report.true c.report.ensures

pub returns-then-report-clause-idle : goal.returns-then-report-clause-idle
returns-then-report-clause-idle c = reported_idle c.args.core.now c.report.new.core c.args.worker c.report.result c.if-report.true c.report.ensures

pub returns-then-productive-steps-clause-acted : goal.returns-then-productive-steps-clause-acted
returns-then-productive-steps-clause-acted c =
    let same = unreported_same c.args.core.now c.report.new.core c.args.worker c.report.result c.if-report.false c.report.ensures in
    put_quiet c.args.core.now c.put_back.new.core c.args.worker Y.Spent refl (put_then c.args.core.now c.report.new.core c.put_back.new.core c.args.worker Y.Spent same c.put_back.ensures)

pub returns-then-productive-steps-clause-idle : goal.returns-then-productive-steps-clause-idle
returns-then-productive-steps-clause-idle c = put_idle c.report.new.core c.put_back.new.core c.args.worker Y.Spent c.put_back.ensures

pub returns-else-productive-steps-clause-acted : goal.returns-else-productive-steps-clause-acted
returns-else-productive-steps-clause-acted c = unreported_acted c.args.core.now c.report.new.core c.args.worker c.report.result c.if-report.false c.report.ensures

pub returns-else-productive-steps-clause-idle : goal.returns-else-productive-steps-clause-idle
returns-else-productive-steps-clause-idle c =
    let numbers = ap (λ (n : Numbers). n.productive) c.numbers-productive.ensures in
    let limits = ap (λ (l : Limits). l.steps) c.limits.ensures in
    let few = c.if-productive-steps.false in
    inr (unreported_ended c.args.core.now c.report.new.core c.args.worker c.report.result c.if-report.false c.report.ensures (λ le. omega (arith, numbers, limits, few, le)))
