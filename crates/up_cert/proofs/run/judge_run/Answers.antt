use Rattle.std.proofs.Common.{refl}
use Rattle.up_cert.proofs.SpotLemmas.{fails, holds, no-state, no-step, unviolated, violated, not_true, not_false}
use Rattle.up_cert.proofs.run.judge_run.Goals as goal

pub returns-in-Some-clause-holds : goal.returns-in-Some-clause-holds
returns-in-Some-clause-holds c = fails c.args.sys.now c.args.w.now (no-state c.args.sys.now c.args.w.now c.in-Some.number c.in-Some.ensures.first)

pub returns-in-Some-first_no_step-clause-holds : goal.returns-in-Some-first_no_step-clause-holds
returns-in-Some-first_no_step-clause-holds c =
    let spot = c.in-Some-first_no_step.ensures.first in
    fails c.args.sys.now c.args.w.now (no-step c.args.sys.now c.args.w.now c.in-Some-first_no_step.number spot.0 spot.1)

pub returns-then-is_none-clause-holds : goal.returns-then-is_none-clause-holds
returns-then-is_none-clause-holds c =
    let none = unviolated c.args.sys.now c.args.w.now _ c.violates.result c.violates.ensures.first (not_true c.is_none.result _ c.is_none.ensures c.if-is_none.true) in
    fails c.args.sys.now c.args.w.now (λ run. none (rw c.len.ensures run.violates))

pub returns-then-is_none-clause-first : goal.returns-then-is_none-clause-first
returns-then-is_none-clause-first c =
    let none = unviolated c.args.sys.now c.args.w.now _ c.violates.result c.violates.ensures.first (not_true c.is_none.result _ c.is_none.ensures c.if-is_none.true) in
    record {
      states = c.in_default.ensures.first;
      initial = c.is_initial.ensures.truth.0 c.if-not-is_initial.false;
      steps = c.in_default-first_no_step.ensures.first;
      fails = rw c.len.ensures at none;
      number = refl;
    }

pub returns-clause-holds : goal.returns-clause-holds
returns-clause-holds c =
    let bad = violated c.args.sys.now c.args.w.now _ c.violates.result c.violates.ensures.first (not_false c.is_none.result _ c.is_none.ensures c.if-is_none.false) in
    holds c.args.sys.now c.args.w.now (record {
      run = record { fits = c.requires.readable.fits; initial = c.is_initial.ensures.truth.0 c.if-not-is_initial.false; steps = c.in_default-first_no_step.ensures.first };
      violates = rw c.len.ensures at bad;
    })
