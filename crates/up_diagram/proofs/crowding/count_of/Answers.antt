use Rattle.std.proofs.Common.{◌∙◌, ◌+◌, ℕ, sym, ap, arith}
use Rattle.std.specs.Prelude.{nat_eq, slice_index}
use Rattle.std.proofs.lemmas.Bool.{eq-eqb, ne_eqb}
use Rattle.up_diagram.proofs.Places.{counts, same-count, few-pass}
use Rattle.up_diagram.proofs.crowding.count_of.Goals as goal
use Rattle.up_diagram.proofs.crowding.count_of.Goals.{then-sorts-v, else-sorts-v}

pub overflow_add-count : goal.overflow_add-count
overflow_add-count c =
    let few = few-pass (λ v. nat_eq (slice_index c.args.sorts.now v) c.args.sort) c.each.v in
    omega (arith, few, c.each.invariant, c.each-test.true, c.each.auto.v-end)

pub each-preserved : goal.each-preserved
each-preserved c =
    elim c.if-sorts-v.branch [
      | then-sorts-v w ↦
          w.count-is ∙ ap (λ (n : ℕ). n + 1) c.each.invariant
          ∙ sym (counts (λ v. nat_eq (slice_index c.args.sorts.now v) c.args.sort) c.each.v (eq-eqb (slice_index c.args.sorts.now c.each.v) c.args.sort w.if-sorts-v.true))
      | else-sorts-v w ↦
          w.count-is ∙ c.each.invariant
          ∙ sym (same-count (λ v. nat_eq (slice_index c.args.sorts.now v) c.args.sort) c.each.v (ne_eqb (slice_index c.args.sorts.now c.each.v) c.args.sort w.if-sorts-v.false))
    ]
