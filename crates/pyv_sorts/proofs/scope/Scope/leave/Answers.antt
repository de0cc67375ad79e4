use Rattle.std.proofs.Common.{◌≡◌, ◌<◌, ◌≤◌, ℕ, ◌-◌, ◌∙◌, ap, sym, arith, length, take, inl, inr, nat_lt}
use Rattle.std.proofs.lemmas.Bool.{ltb-true, ltb-false}
use Rattle.std.proofs.lemmas.List.{take_all}
use Rattle.pyv_sorts.proofs.Uniting.{either}
use Rattle.pyv_sorts.proofs.scope.Scope.leave.Goals as goal

pub returns : goal.returns
returns c =
    let ns = c.args.self.now in
    elim (either (nat_lt c.args.level c.len-len.result)) [
      | inl t ↦
          let less = ltb-true c.args.level c.len-len.result t in
          c.each.invariant.left ∙ ap (λ k. take k ns) (omega (arith, less, c.each-test.false, c.each.auto.counter-end, c.len-len.ensures.is))
      | inr f ↦
          let more = ltb-false c.args.level c.len-len.result f in
          let same = c.each.invariant.start more in
          c.each.invariant.left ∙ take_all (length ns - (c.each.counter - c.args.level)) ns (omega (arith, same)) ∙ sym (take_all c.args.level ns (omega (arith, more, c.len-len.ensures.is)))
    ]
