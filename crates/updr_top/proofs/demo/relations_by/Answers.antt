use Rattle.std.proofs.Common.{◌∙◌, ◌≤◌, ℕ, sym, subst, arith}
use Rattle.std.proofs.lemmas.List.{get_or_default}
use Rattle.updr_top.proofs.DemoEnds.{is_number}
use Rattle.updr_top.proofs.demo.relations_by.Goals as goal

pub returns-clause-low : goal.returns-clause-low
returns-clause-low c =
    let range = is_number c.args.job.now.numbers.items c.requires.ranges in
    subst (λ (n : ℕ). 1 ≤ n) (sym (c.index.ensures ∙ get_or_default c.args.job.now.numbers.items 0 _ 0 (let one = c.requires.given in omega (arith, one)))) range.0
