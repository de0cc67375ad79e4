use Rattle.std.proofs.Common.{◌≡◌, ◌<◌, true, [], sym, subst}
use Rattle.fo_ground.specs.Layout.{same_var}
use Rattle.fo_ground.proofs.Emitting.{adds_nothing}
use Rattle.fo_ground.proofs.axioms.add_third.Goals as goal

pub returns-then-q-p : goal.returns-then-q-p
returns-then-q-p c = adds_nothing c.args.lay.now.base [] (λ v. v (same_var c.args.u.now c.args.lay.now c.args.p c.args.q) ≡ true → v (same_var c.args.u.now c.args.lay.now c.args.q c.args.r) ≡ true → v (same_var c.args.u.now c.args.lay.now c.args.p c.args.r) ≡ true) c.args.into.now.vars c.args.into.now.clauses c.requires.over c.requires.within
    (λ v a b. subst (λ x. v (same_var c.args.u.now c.args.lay.now x c.args.r) ≡ true) c.if-q-p.true b)

pub returns-then-q-r : goal.returns-then-q-r
returns-then-q-r c = adds_nothing c.args.lay.now.base [] (λ v. v (same_var c.args.u.now c.args.lay.now c.args.p c.args.q) ≡ true → v (same_var c.args.u.now c.args.lay.now c.args.q c.args.r) ≡ true → v (same_var c.args.u.now c.args.lay.now c.args.p c.args.r) ≡ true) c.args.into.now.vars c.args.into.now.clauses c.requires.over c.requires.within
    (λ v a b. subst (λ x. v (same_var c.args.u.now c.args.lay.now c.args.p x) ≡ true) c.if-q-r.true a)

pub returns : goal.returns
returns c =
    let s = c.requires.sorted in
    let lt1 = subst (λ x. x < c.args.lay.now.base) (sym c.same-first.ensures) (c.requires.ready.same s.0 c.args.p c.args.q s.1 s.2) in
    let lt2 = subst (λ x. x < c.args.lay.now.base) (sym c.same-second.ensures) (c.requires.ready.same s.0 c.args.q c.args.r s.2 s.3) in
    let lt3 = subst (λ x. x < c.args.lay.now.base) (sym c.same-third.ensures) (c.requires.ready.same s.0 c.args.p c.args.r s.1 s.3) in
    let add = c.in_ok-add_rule.ensures c.args.lay.now.base c.requires.over lt1 lt2 lt3 in
    rw (c.same-first.ensures, c.same-second.ensures, c.same-third.ensures) at add
