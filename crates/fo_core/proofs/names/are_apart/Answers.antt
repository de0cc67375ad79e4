use Rattle.std.proofs.Common.{◌∙◌, []}
use Rattle.std.proofs.lemmas.List.{get_or_default}
use Rattle.fo_core.specs.Named.{AreApart}
use Rattle.fo_core.proofs.Answered.{never, false_from}
use Rattle.fo_core.proofs.names.are_apart.Goals as goal

pub returns-then-not-is_fresh : goal.returns-then-not-is_fresh
returns-then-not-is_fresh c =
    never (AreApart c.args.names.now c.args.others.now) (λ apart.
    false_from c.is_fresh.result c.if-not-is_fresh.true c.is_fresh.ensures
    (λ j within e. apart c.each.name-index j c.each-test.true within (e ∙ c.as_str.ensures ∙ c.name-item.is ∙ get_or_default c.args.names.now c.each.name-index c.name-item.result [] c.each-test.true)))
