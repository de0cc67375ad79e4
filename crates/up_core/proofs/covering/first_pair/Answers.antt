use Rattle.std.proofs.Common.{subst, arith, ◌∙◌}
use Rattle.up_machine.proofs.Lists.{get-lt}
use Rattle.up_core.specs.Covering.{IsFirstBy}
use Rattle.up_core.specs.Places.{is_live}
use Rattle.up_core.proofs.CoverPairs.{MayGoNow, may-live, first-pair, no-pair}
use Rattle.up_core.proofs.Placed.{first-listed, none-before-more, none-listed}
use Rattle.up_core.proofs.Tried.{none-left}
use Rattle.up_core.proofs.covering.first_pair.Goals as goal

pub first_by-requires-clause-cover : goal.first_by-requires-clause-cover
first_by-requires-clause-cover c k e there =
    let can = c.requires.cover k e there in
    record { places = can.places; fits = λ cube at. let few = can.fits cube at in omega (arith, few, c.each.invariant.room) }

pub overflow_cast-result : goal.overflow_cast-result
overflow_cast-result c =
    let k = c.live_at-gone in
    let lt = get-lt c.args.clauses.now.items k.result.number k.result.entry k.ensures.there in
    omega (arith, lt, c.requires.small)

pub returns-in-Some-clause-found : goal.returns-in-Some-clause-found
returns-in-Some-clause-found c =
    let a = c.args in
    let k = c.live_at-gone in
    let first = c.in-Some.ensures.first in
    first-pair a.history.now a.clauses.now.items a.jobs.now k.result.number c.in-Some.by
    (first-listed is_live a.clauses.now.items (MayGoNow a.history.now a.clauses.now.items a.jobs.now) (may-live a.history.now a.clauses.now.items a.jobs.now) c.each.at k.result.number k.result.entry c.each.invariant.none k.ensures.number k.ensures.there
    (record { by = c.in-Some.by; there = k.ensures.there; pair = first.0 }))
    first

pub each-preserved : goal.each-preserved
each-preserved c =
    let a = c.args in
    let k = c.live_at-gone in
    let here = subst (IsFirstBy a.history.now a.clauses.now.items a.jobs.now k.result.number) (none-left c.first_by.result c.in_default.not-Some) c.first_by.ensures.first in
    record {
      none = none-before-more is_live a.clauses.now.items (MayGoNow a.history.now a.clauses.now.items a.jobs.now) (may-live a.history.now a.clauses.now.items a.jobs.now) c.each.at k.result.number k.result.entry c.each.invariant.none k.ensures.number k.ensures.there
          (λ h. here h.by h.pair);
      room = c.first_by.ensures.room ∙ c.each.invariant.room;
    }

pub returns-clause-found : goal.returns-clause-found
returns-clause-found c =
    let a = c.args in
    no-pair a.history.now a.clauses.now.items a.jobs.now
    (none-listed is_live a.clauses.now.items (MayGoNow a.history.now a.clauses.now.items a.jobs.now) (may-live a.history.now a.clauses.now.items a.jobs.now) c.each.at c.each.invariant.none (omega (arith, c.each-test.false, c.each.auto.at-end, c.count_live-at-end.ensures)))
