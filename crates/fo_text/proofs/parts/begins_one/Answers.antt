use Rattle.std.proofs.Common.{◌≡◌, ℕ, ◌-◌, cond, sym, ap, ◌∙◌, arith}
use Rattle.std.proofs.lemmas.Bool.{eq-eqb, ne_eqb}
use Rattle.fo_text.specs.Reading.{reaches, begins_some}
use Rattle.fo_text.proofs.Loops.{reach_past, reach_there, reach_on, reach_none}
use Rattle.fo_text.proofs.parts.begins_one.Goals as goal
use Rattle.fo_text.proofs.parts.begins_one.Goals.{then-number-eq0, else-number-eq0}

begun_at_zero : (least most n lengths : ℕ) → lengths ≡ 1 → n ≡ 0 → reaches (lengths - 0) least most n n ≡ begins_some least most n
begun_at_zero least most n lengths is zero = ap (λ (k : ℕ). reaches (k - 0) least most n n) is ∙ sym (ap (λ b. reaches (cond b 1 20) least most n n) (eq-eqb n 0 zero))

begun_above : (least most n lengths : ℕ) → lengths ≡ 20 → ¬ (n ≡ 0) → reaches (lengths - 0) least most n n ≡ begins_some least most n
begun_above least most n lengths is some = ap (λ (k : ℕ). reaches (k - 0) least most n n) is ∙ sym (ap (λ b. reaches (cond b 1 20) least most n n) (ne_eqb n 0 some))

pub each-init : goal.each-init
each-init c = elim c.if-number-eq0.branch [
  | then-number-eq0 w ↦ begun_at_zero c.args.least c.args.most c.args.number c.if-number-eq0.lengths w.lengths-is w.if-number-eq0.true
  | else-number-eq0 w ↦ begun_above c.args.least c.args.most c.args.number c.if-number-eq0.lengths w.lengths-is w.if-number-eq0.false
]

pub returns-then-low-from : goal.returns-then-low-from
returns-then-low-from c = sym (reach_past c.args.least c.args.most c.each.low c.each.high c.if-number-eq0.lengths c.each.step c.each-test.true (omega arith)) ∙ c.each.invariant

pub returns-then-high-from : goal.returns-then-high-from
returns-then-high-from c = sym (reach_there c.args.least c.args.most c.each.low c.each.high c.if-number-eq0.lengths c.each.step c.each-test.true (omega arith) (omega arith)) ∙ c.each.invariant

pub each-preserved : goal.each-preserved
each-preserved c = sym (reach_on c.args.least c.args.most c.each.low c.each.high c.if-number-eq0.lengths c.each.step c.each-test.true (omega arith) (omega arith)) ∙ c.each.invariant

pub returns : goal.returns
returns c = sym (reach_none c.args.least c.args.most c.each.low c.each.high c.if-number-eq0.lengths c.each.step c.each-test.false) ∙ c.each.invariant
