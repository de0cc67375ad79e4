use Rattle.std.proofs.Common.{◌≡◌, ◌∙◌, ◌-◌, ◌<◌, length, take, drop, ap, arith, rules, below_more}
use Rattle.std.proofs.lemmas.Bool.Decides.{nat_tests}
use Rattle.std.proofs.lemmas.Grind.{common_steps}
use Rattle.fo_eval.specs.Values.{Values}
use Rattle.fo_core.proofs.Answered.{false_from}
use Rattle.fo_eval.proofs.HoldLemmas.{pushed}
use Rattle.fo_eval.proofs.FillLemmas.{rest_of, none-either, CanFill-more, some-true, some-false}
use Rattle.fo_eval.proofs.step.+some_fill.Goals as goal

pub returns-then-is_empty-clause-truth : goal.returns-then-is_empty-clause-truth
returns-then-is_empty-clause-truth t c =
    let none : length c.args.params.now ≡ 0 = grind (arith, nat_tests) in
    none-either c.args.sys.now.sig c.args.w.now c.args.copy c.args.env.now c.args.body.now c.args.params.now c.holds.result none c.holds.ensures.truth

pub some_fill-found-requires : goal.some_fill-found-requires
some_fill-found-requires t c =
    let some : 0 < length c.args.params.now = grind (arith, nat_tests) in
    let size = c.at-size.ensures 0 in
    let now : c.push.new.self ≡ pushed c.args.env.now c.one.x = c.push.ensures ∙ ap (λ (v : Values). pushed v c.one.x) c.one.invariant.same in
    let shorter : length (take (length c.args.params.now - 1) (drop 1 c.args.params.now)) < length c.args.params.now = grind (arith, common_steps) in
    (search (rules, shorter), (c.requires.readable, rw (rest_of, now) (CanFill-more c.args.sys.now.sig c.args.w.now c.args.copy c.args.env.now c.args.body.now c.args.params.now c.one.x some c.requires.ready (omega arith))))

pub returns-then-found-clause-truth : goal.returns-then-found-clause-truth
returns-then-found-clause-truth t c =
    let some : 0 < length c.args.params.now = grind (arith, nat_tests) in
    let size = c.at-size.ensures 0 in
    let now : c.push.new.self ≡ pushed c.args.env.now c.one.x = c.push.ensures ∙ ap (λ (v : Values). pushed v c.one.x) c.one.invariant.same in
    let met = rw (rest_of, now) at (c.some_fill-found.ensures.truth.0 c.if-found.true) in
    some-true c.args.sys.now.sig c.args.w.now c.args.copy c.args.env.now c.args.body.now c.args.params.now c.one.x some (omega arith) met

pub one-preserved : goal.one-preserved
one-preserved t c =
    let now : c.push.new.self ≡ pushed c.args.env.now c.one.x = c.push.ensures ∙ ap (λ (v : Values). pushed v c.one.x) c.one.invariant.same in
    let fails = rw (rest_of, now) at (false_from c.some_fill-found.result c.if-found.false c.some_fill-found.ensures.truth) in
    record { same = grind (arith, common_steps); before = below_more _ _ c.one.invariant.before fails }

pub returns-clause-truth : goal.returns-clause-truth
returns-clause-truth t c =
    let some : 0 < length c.args.params.now = grind (arith, nat_tests) in
    let size = c.at-size.ensures 0 in
    some-false c.args.sys.now.sig c.args.w.now c.args.copy c.args.env.now c.args.body.now c.args.params.now c.one.x some (omega arith) c.one.invariant.before
