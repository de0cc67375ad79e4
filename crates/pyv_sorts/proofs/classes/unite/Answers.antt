use Rattle.std.proofs.Common.{◌≡◌, ◌<◌, ℕ, sym, arith, ◌∙◌, min, max}
use Rattle.pyv_sorts.proofs.Uniting.{unites}
use Rattle.pyv_sorts.proofs.classes.unite.Goals as goal

pub returns-then-one-other-clause-united : goal.returns-then-one-other-clause-united
returns-then-one-other-clause-united c = λ f h.
    let one = c.find-one.ensures.class f h in
    let k = c.find-one.ensures.kept f h in
    let other = c.find-other.ensures.class f k in
    let l = c.find-other.ensures.kept f k in
    let root : f c.find-one.result ≡ c.find-one.result = k.ends c.find-one.result c.find-one.ensures.within c.find-one.ensures.root in
    let top : f c.find-other.result ≡ c.find-other.result = l.ends c.find-other.result c.find-other.ensures.within c.find-other.ensures.root in
    unites c.find-other.new.parents f c.find-one.result c.find-other.result c.args.one c.args.other l c.find-other.ensures.within root top (omega (arith, c.if-one-other.true)) (omega (arith, one, other, c.if-one-other.true)) (omega (arith, one, other, c.if-one-other.true))

pub returns-else-one-other-clause-united : goal.returns-else-one-other-clause-united
returns-else-one-other-clause-united c = λ f h.
    let one = c.find-one.ensures.class f h in
    let k = c.find-one.ensures.kept f h in
    let other = c.find-other.ensures.class f k in
    let l = c.find-other.ensures.kept f k in
    let root : f c.find-one.result ≡ c.find-one.result = k.ends c.find-one.result c.find-one.ensures.within c.find-one.ensures.root in
    let top : f c.find-other.result ≡ c.find-other.result = l.ends c.find-other.result c.find-other.ensures.within c.find-other.ensures.root in
    unites c.find-other.new.parents f c.find-other.result c.find-one.result c.args.one c.args.other l (omega (arith, c.find-one.ensures.within, c.find-other.auto.parents)) top root (omega (arith, c.if-one-other.false)) (omega (arith, one, other, c.if-one-other.false)) (omega (arith, one, other, c.if-one-other.false))
