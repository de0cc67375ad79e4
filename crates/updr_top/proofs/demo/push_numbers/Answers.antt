use Rattle.std.proofs.Common.{◌∙◌, ◌++◌, List, ℕ, ap, append_assoc}
use Rattle.std.specs.Prelude.{codes}
use Rattle.updr_top.specs.Demo.{field}
use Rattle.updr_top.proofs.demo.push_numbers.Goals as goal

pub returns : goal.returns
returns c =
    let first = field (codes " productive") c.args.numbers.productive in
    let second = field (codes " frontier") c.args.numbers.frontier in
    let third = field (codes " clauses") c.args.numbers.clauses in
    let two = c.in_ok-push_field-2.ensures ∙ ap (λ (l : List ℕ). l ++ second) c.in_ok-push_field.ensures ∙ append_assoc c.args.line.now.items first second in
    c.in_ok-push_field-3.ensures ∙ ap (λ (l : List ℕ). l ++ third) two ∙ append_assoc c.args.line.now.items (first ++ second) third
