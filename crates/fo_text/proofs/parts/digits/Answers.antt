use Rattle.std.proofs.Common.{ℕ, ◌+◌, List, sym, ap, ◌∙◌, get_or, Ok, arith}
use Rattle.std.proofs.lemmas.List.{take_rest}
use Rattle.fo_text.proofs.Loops.{digits_ended, digits_step, digits_refused, digits_short}
use Rattle.fo_text.proofs.Numbers.{stays_in_range}
use Rattle.fo_text.proofs.parts.digits.Goals as goal

pub returns-then-ends-clause-read : goal.returns-then-ends-clause-read
returns-then-ends-clause-read c =
    sym c.each.invariant.same ∙ digits_ended c.args.least c.args.most c.args.ending c.each.number c.args.bytes.now c.each.i c.each-test.true (sym c.ends.ensures ∙ c.if-ends.true)
    ∙ sym (ap (λ (l : List ℕ). Ok (c.each.number, l)) (take_rest c.args.bytes.now (c.each.i + 1)))

pub returns-then-not-continues-clause-read : goal.returns-then-not-continues-clause-read
returns-then-not-continues-clause-read c =
    sym c.each.invariant.same ∙ digits_refused c.args.least c.args.most c.args.ending c.each.number c.args.bytes.now c.each.i c.each-test.true (sym c.ends.ensures ∙ c.if-ends.false) (sym c.continues.ensures ∙ c.if-not-continues.true)

pub overflow_mul-number : goal.overflow_mul-number
overflow_mul-number c = let h = stays_in_range c.args.least c.args.most c.each.number (get_or c.args.bytes.now c.each.i 0) (sym c.continues.ensures ∙ c.if-not-continues.false) in omega (arith, h)

pub overflow_add-number : goal.overflow_add-number
overflow_add-number c = let h = stays_in_range c.args.least c.args.most c.each.number (get_or c.args.bytes.now c.each.i 0) (sym c.continues.ensures ∙ c.if-not-continues.false) in omega (arith, h, c.from.ensures)

pub each-preserved : goal.each-preserved
each-preserved c =
    let on = sym c.continues.ensures ∙ c.if-not-continues.false in
    record {
      same = rw c.from.ensures (sym (digits_step c.args.least c.args.most c.args.ending c.each.number c.args.bytes.now c.each.i c.each-test.true (sym c.ends.ensures ∙ c.if-ends.false) on) ∙ c.each.invariant.same);
      range = rw c.from.ensures (stays_in_range c.args.least c.args.most c.each.number _ on);
    }

pub returns-clause-read : goal.returns-clause-read
returns-clause-read c = sym c.each.invariant.same ∙ digits_short c.args.least c.args.most c.args.ending c.each.number c.args.bytes.now c.each.i c.each-test.false
