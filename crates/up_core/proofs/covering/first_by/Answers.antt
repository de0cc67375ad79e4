use Rattle.std.proofs.Common.{sym, arith, ◌∙◌}
use Rattle.up_machine.proofs.Lists.{get-lt}
use Rattle.up_core.specs.Covering.{CanGoFor}
use Rattle.up_core.specs.Places.{is_live}
use Rattle.up_core.proofs.Chosen.{true-of, not-true-of}
use Rattle.up_core.proofs.CoverPairs.{first-by, no-by}
use Rattle.up_core.proofs.Placed.{first-listed, none-before-more, none-listed}
use Rattle.up_core.proofs.covering.first_by.Goals as goal

pub returns-then-may_go-clause-first : goal.returns-then-may_go-clause-first
returns-then-may_go-clause-first c =
    let a = c.args in
    let k = c.live_at-by in
    let goes = true-of c.may_go.result (CanGoFor a.history.now a.gone.now k.result) c.may_go.ensures.go c.if-may_go.true in
    first-by a.history.now a.clauses.now.items a.jobs.now a.gone.now c.requires.there k.result.number
    (first-listed is_live a.clauses.now.items (λ b e. CanGoFor a.history.now a.gone.now (record { number = b; entry = e })) (λ b e r. r.covering.by_live) c.each.at k.result.number k.result.entry c.each.invariant.none k.ensures.number k.ensures.there goes)
    (sym c.push_is_out.ensures ∙ c.if-push_is_out.false)

pub returns-then-may_go-clause-within : goal.returns-then-may_go-clause-within
returns-then-may_go-clause-within c = get-lt c.args.clauses.now.items c.live_at-by.result.number c.live_at-by.result.entry c.live_at-by.ensures.there

pub may_go-requires : goal.may_go-requires
may_go-requires c =
    let k = c.live_at-by in
    let can = c.requires.cover k.result.number k.result.entry k.ensures.there in
    record { places = can.places; fits = λ cube at. let few = can.fits cube at in omega (arith, few, c.each.invariant.room) }

pub each-preserved : goal.each-preserved
each-preserved c =
    let a = c.args in
    let k = c.live_at-by in
    record {
      none = none-before-more is_live a.clauses.now.items (λ b e. CanGoFor a.history.now a.gone.now (record { number = b; entry = e })) (λ b e r. r.covering.by_live) c.each.at k.result.number k.result.entry c.each.invariant.none k.ensures.number k.ensures.there
          (not-true-of c.may_go.result (CanGoFor a.history.now a.gone.now k.result) c.may_go.ensures.go c.if-may_go.false);
      room = c.may_go.ensures.room ∙ c.each.invariant.room;
    }

pub returns-clause-first : goal.returns-clause-first
returns-clause-first c =
    let a = c.args in
    no-by a.history.now a.clauses.now.items a.jobs.now a.gone.now c.requires.there
    (none-listed is_live a.clauses.now.items (λ b e. CanGoFor a.history.now a.gone.now (record { number = b; entry = e })) (λ b e r. r.covering.by_live) c.each.at c.each.invariant.none (omega (arith, c.each-test.false, c.each.auto.at-end, c.count_live-at-end.ensures)))
