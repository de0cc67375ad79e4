use Rattle.std.proofs.Common.{◌≡◌, true, true≢false, sym, ◌∙◌, arith}
use Rattle.up_core.specs.Choice.{is_rooted}
use Rattle.up_core.specs.Places.{is_unfinished}
use Rattle.up_core.proofs.OpenChosen.{rooted-unfinished}
use Rattle.up_core.proofs.Placed.{first-listed, none-before-more, none-listed}
use Rattle.up_core.proofs.tasks.first_rooted.Goals as goal

pub returns-then-is_rooted : goal.returns-then-is_rooted
returns-then-is_rooted c =
    let k = c.open_at-next in
    first-listed is_unfinished c.args.obligations.now.items (λ _ e. is_rooted e.progress ≡ true) rooted-unfinished c.each.at k.result.number k.result.entry c.each.invariant k.ensures.number k.ensures.there (sym c.is_rooted.ensures ∙ c.if-is_rooted.true)

pub each-preserved : goal.each-preserved
each-preserved c =
    let k = c.open_at-next in
    none-before-more is_unfinished c.args.obligations.now.items (λ _ e. is_rooted e.progress ≡ true) rooted-unfinished c.each.at k.result.number k.result.entry c.each.invariant k.ensures.number k.ensures.there
    (λ t. true≢false (sym t ∙ (sym c.is_rooted.ensures ∙ c.if-is_rooted.false)))

pub returns : goal.returns
returns c =
    none-listed is_unfinished c.args.obligations.now.items (λ _ e. is_rooted e.progress ≡ true) rooted-unfinished c.each.at c.each.invariant (omega (arith, c.each-test.false, c.each.auto.at-end, c.count_open-at-end.ensures))
