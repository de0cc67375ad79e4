use Rattle.std.proofs.Common.{List, ℕ, Bor}
use Rattle.fo_text.proofs.Choices.{from_none, from_found, from_more, from_all}
use Rattle.fo_text.proofs.choosing.choice_after.Goals as goal

pub each-init : goal.each-init
each-init c = from_none (λ (t : Bor (List ℕ)). t.now) c.args.mark.now c.args.word.now c.args.texts.now c.args.bytes.now

pub returns-in-Ok : goal.returns-in-Ok
returns-in-Ok c =
    from_found (λ (t : Bor (List ℕ)). t.now) c.args.mark.now c.args.word.now c.args.texts.now c.args.bytes.now c.each.i c.each.least _ c.in-Ok.rest.now c.each-test.true c.each.invariant (c.in-Ok.ensures {u = tt})

pub each-preserved : goal.each-preserved
each-preserved c =
    rw c.min-least.ensures
    (from_more (λ (t : Bor (List ℕ)). t.now) c.args.mark.now c.args.word.now c.args.texts.now c.args.bytes.now c.each.i c.each.least c.in-Err-Fault.left _ c.each-test.true c.each.invariant (rw c.in-Err-Fault.field-0-is at c.in-Err-Fault.ensures))

pub returns : goal.returns
returns c = from_all (λ (t : Bor (List ℕ)). t.now) c.args.mark.now c.args.word.now c.args.texts.now c.args.bytes.now c.each.i c.each.least c.each-test.false c.each.invariant
