use Rattle.std.proofs.Common.{◌≡◌, ◌∙◌, sym, ap, subst, arith, rules}
use Rattle.fo_core.specs.declared.formula.Formula.TheFolds.{the_lemmas}
use Rattle.fo_core.specs.declared.formula.Formula.TheVariants as F
use Rattle.fo_core.specs.Truth.{Truth}
use Rattle.fo_eval.specs.Values.{Values}
use Rattle.fo_eval.specs.Asked.{CanHold}
use Rattle.fo_core.proofs.Answered.{false_from}
use Rattle.fo_eval.proofs.HoldLemmas.{pushed, CanHold-Not, CanHold-And, CanHold-Or, CanHold-All, CanHold-Ex, sort-All, sort-Ex, room-All, room-Ex, Not-either, And-false, And-true, Or-true, Or-false, All-false, All-true, Ex-true, Ex-false}
use Rattle.fo_eval.proofs.eval.+holds.Goals as goal

pub holds-requires : goal.holds-requires
holds-requires t c =
    let ready = subst (CanHold c.args.sys.now.sig c.args.w.now c.args.copy c.args.env.now) c.in-Not.is c.requires.ready in
    (search (rules, the_lemmas), (c.requires.readable, rw c.get.ensures (CanHold-Not c.args.sys.now.sig c.args.w.now c.args.copy c.args.env.now c.in-Not.g ready)))

pub returns-in-Not-clause-truth : goal.returns-in-Not-clause-truth
returns-in-Not-clause-truth t c =
    rw (c.in-Not.is, ← c.get.ensures) (Not-either c.args.sys.now.sig c.args.w.now c.args.copy c.args.env.now.bound c.get.result.now c.holds.result c.holds.ensures.truth)

pub holds-requires-in-each : goal.holds-requires-in-each
holds-requires-in-each t c =
    let ready = subst (CanHold c.args.sys.now.sig c.args.w.now c.args.copy c.args.env.now) (c.in-And.is ∙ ap F.And (sym c.as_slice-g-items.ensures)) c.requires.ready in
    (search (rules, the_lemmas), (c.requires.readable, rw (c.each.invariant.same, c.g-item.is) (CanHold-And c.args.sys.now.sig c.args.w.now c.args.copy c.args.env.now c.as_slice-g-items.result.now c.each.g-index c.g-item.result ready c.each-test.true)))

pub returns-then-not-holds-clause-truth : goal.returns-then-not-holds-clause-truth
returns-then-not-holds-clause-truth t c =
    let is = c.in-And.is ∙ ap F.And (sym c.as_slice-g-items.ensures) in
    let fails = subst (λ (v : Values). ¬ Truth c.args.sys.now.sig c.args.w.now c.args.copy c.g-item.result v.bound) c.each.invariant.same (false_from c.holds-in-each.result c.if-not-holds.true c.holds-in-each.ensures.truth) in
    rw is (And-false c.args.sys.now.sig c.args.w.now c.args.copy c.args.env.now.bound c.as_slice-g-items.result.now c.each.g-index c.g-item.result c.each-test.true c.g-item.is fails)

pub returns-after-each-clause-truth : goal.returns-after-each-clause-truth
returns-after-each-clause-truth t c =
    let is = c.in-And.is ∙ ap F.And (sym c.as_slice-g-items.ensures) in
    rw is (And-true c.args.sys.now.sig c.args.w.now c.args.copy c.args.env.now.bound c.as_slice-g-items.result.now c.each.g-index c.each-test.false c.each.invariant.before)

pub holds-requires-in-some : goal.holds-requires-in-some
holds-requires-in-some t c =
    let ready = subst (CanHold c.args.sys.now.sig c.args.w.now c.args.copy c.args.env.now) (c.in-Or.is ∙ ap F.Or (sym c.as_slice-g-items-in-Or.ensures)) c.requires.ready in
    (search (rules, the_lemmas), (c.requires.readable, rw (c.some.invariant.same, c.g-item-in-some.is) (CanHold-Or c.args.sys.now.sig c.args.w.now c.args.copy c.args.env.now c.as_slice-g-items-in-Or.result.now c.some.g-index c.g-item-in-some.result ready c.some-test.true)))

pub returns-then-holds-clause-truth : goal.returns-then-holds-clause-truth
returns-then-holds-clause-truth t c =
    let is = c.in-Or.is ∙ ap F.Or (sym c.as_slice-g-items-in-Or.ensures) in
    let met = subst (λ (v : Values). Truth c.args.sys.now.sig c.args.w.now c.args.copy c.g-item-in-some.result v.bound) c.some.invariant.same (c.holds-in-some.ensures.truth.0 c.if-holds.true) in
    rw is (Or-true c.args.sys.now.sig c.args.w.now c.args.copy c.args.env.now.bound c.as_slice-g-items-in-Or.result.now c.some.g-index c.g-item-in-some.result c.some-test.true c.g-item-in-some.is met)

pub returns-after-some-clause-truth : goal.returns-after-some-clause-truth
returns-after-some-clause-truth t c =
    let is = c.in-Or.is ∙ ap F.Or (sym c.as_slice-g-items-in-Or.ensures) in
    rw is (Or-false c.args.sys.now.sig c.args.w.now c.args.copy c.args.env.now.bound c.as_slice-g-items-in-Or.result.now c.some.g-index c.some-test.false c.some.invariant.before)

pub at-size-requires : goal.at-size-requires
at-size-requires t c =
    sort-All c.args.sys.now.sig c.args.w.now c.args.copy c.args.env.now c.in-All.s c.in-All.g c.requires.readable (subst (CanHold c.args.sys.now.sig c.args.w.now c.args.copy c.args.env.now) c.in-All.is c.requires.ready)

pub push-requires : goal.push-requires
push-requires t c =
    let ready = subst (CanHold c.args.sys.now.sig c.args.w.now c.args.copy c.args.env.now) c.in-All.is c.requires.ready in
    rw c.every.invariant.same (room-All c.args.sys.now.sig c.args.w.now c.args.copy c.args.env.now c.in-All.s c.in-All.g ready)

pub holds-kept-requires : goal.holds-kept-requires
holds-kept-requires t c =
    let ready = subst (CanHold c.args.sys.now.sig c.args.w.now c.args.copy c.args.env.now) c.in-All.is c.requires.ready in
    let size = c.at-size.ensures 0 in
    let now : c.push.new.self ≡ pushed c.args.env.now c.every.x = c.push.ensures ∙ ap (λ (v : Values). pushed v c.every.x) c.every.invariant.same in
    (search (rules, the_lemmas), (c.requires.readable, rw (now, c.get-in-every.ensures) (CanHold-All c.args.sys.now.sig c.args.w.now c.args.copy c.args.env.now c.in-All.s c.every.x c.in-All.g ready (omega arith))))

pub returns-then-not-kept-clause-truth : goal.returns-then-not-kept-clause-truth
returns-then-not-kept-clause-truth t c =
    let size = c.at-size.ensures 0 in
    let now : c.push.new.self ≡ pushed c.args.env.now c.every.x = c.push.ensures ∙ ap (λ (v : Values). pushed v c.every.x) c.every.invariant.same in
    let fails = rw (now, c.get-in-every.ensures) at (false_from c.holds-kept.result c.if-not-kept.true c.holds-kept.ensures.truth) in
    rw c.in-All.is (All-false c.args.sys.now.sig c.args.w.now c.args.copy c.args.env.now.bound c.in-All.s c.in-All.g c.every.x (omega arith) fails)

pub returns-after-every-clause-truth : goal.returns-after-every-clause-truth
returns-after-every-clause-truth t c =
    let size = c.at-size.ensures 0 in
    rw c.in-All.is (All-true c.args.sys.now.sig c.args.w.now c.args.copy c.args.env.now.bound c.in-All.s c.in-All.g c.every.x (omega arith) c.every.invariant.before)

pub at-size-requires-in-Ex : goal.at-size-requires-in-Ex
at-size-requires-in-Ex t c =
    sort-Ex c.args.sys.now.sig c.args.w.now c.args.copy c.args.env.now c.in-Ex.s c.in-Ex.g c.requires.readable (subst (CanHold c.args.sys.now.sig c.args.w.now c.args.copy c.args.env.now) c.in-Ex.is c.requires.ready)

pub push-requires-in-one : goal.push-requires-in-one
push-requires-in-one t c =
    let ready = subst (CanHold c.args.sys.now.sig c.args.w.now c.args.copy c.args.env.now) c.in-Ex.is c.requires.ready in
    rw c.one.invariant.same (room-Ex c.args.sys.now.sig c.args.w.now c.args.copy c.args.env.now c.in-Ex.s c.in-Ex.g ready)

pub holds-found-requires : goal.holds-found-requires
holds-found-requires t c =
    let ready = subst (CanHold c.args.sys.now.sig c.args.w.now c.args.copy c.args.env.now) c.in-Ex.is c.requires.ready in
    let size = c.at-size-in-Ex.ensures 0 in
    let now : c.push-in-one.new.self ≡ pushed c.args.env.now c.one.x = c.push-in-one.ensures ∙ ap (λ (v : Values). pushed v c.one.x) c.one.invariant.same in
    (search (rules, the_lemmas), (c.requires.readable, rw (now, c.get-in-one.ensures) (CanHold-Ex c.args.sys.now.sig c.args.w.now c.args.copy c.args.env.now c.in-Ex.s c.one.x c.in-Ex.g ready (omega arith))))

pub returns-then-found-clause-truth : goal.returns-then-found-clause-truth
returns-then-found-clause-truth t c =
    let size = c.at-size-in-Ex.ensures 0 in
    let now : c.push-in-one.new.self ≡ pushed c.args.env.now c.one.x = c.push-in-one.ensures ∙ ap (λ (v : Values). pushed v c.one.x) c.one.invariant.same in
    let met = rw (now, c.get-in-one.ensures) at (c.holds-found.ensures.truth.0 c.if-found.true) in
    rw c.in-Ex.is (Ex-true c.args.sys.now.sig c.args.w.now c.args.copy c.args.env.now.bound c.in-Ex.s c.in-Ex.g c.one.x (omega arith) met)

pub returns-after-one-clause-truth : goal.returns-after-one-clause-truth
returns-after-one-clause-truth t c =
    let size = c.at-size-in-Ex.ensures 0 in
    rw c.in-Ex.is (Ex-false c.args.sys.now.sig c.args.w.now c.args.copy c.args.env.now.bound c.in-Ex.s c.in-Ex.g c.one.x (omega arith) c.one.invariant.before)

pub returns-in-Rel-clause-truth : goal.returns-in-Rel-clause-truth
returns-in-Rel-clause-truth t c =
    rw (c.in-Rel.is, ← c.as_slice.ensures) c.related.ensures
