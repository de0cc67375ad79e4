use Rattle.std.proofs.Common.{◌≡◌, ℕ, suc, ◌+◌, ◌<◌, ◌≤◌, ◌∙◌, List, length, take, drop, ◌++◌, sym, subst, refl, arith}
use Rattle.std.proofs.Math.Seq.{take-append_seam}
use Rattle.pyv_strat.specs.Walks.{IsLayer}
use Rattle.pyv_strat.proofs.LayerLemmas.{layer-next, marks_all}
use Rattle.pyv_strat.proofs.NumberLemmas.{Height, height-first, heights-more, rises, ends_within}
use Rattle.pyv_strat.proofs.numbering.numbers.Goals as goal

seam : (n : ℕ) (xs ys : List ℕ) → length xs ≡ n → take n (xs ++ ys) ≡ xs
seam n xs ys many = subst (λ k. take k (xs ++ ys) ≡ xs) many (take-append_seam xs ys)

pub lengths-preserved : goal.lengths-preserved
lengths-preserved c =
    let edges = c.args.edges.now in
    let sorts = c.args.sorts in
    let layer = c.in_ok-layer-2.layer.items in
    let old = c.lengths.numbers.items in
    let new = c.give.new.numbers in
    let marks = rw c.as_slice.ensures.value at c.in_ok-layer-2.ensures.marks in
    let next = layer-next edges (λ b. b < sorts) c.lengths.k c.lengths.layer.items layer c.lengths.auto.k c.lengths.invariant.marks marks in
    let given = rw (c.as_mut_slice.ensures.value, c.as_slice-in-lengths.ensures.value) at c.give.ensures in
    let whole : take c.lengths.numbers.len (new ++ drop (length new) old) ≡ new = seam c.lengths.numbers.len new (drop (length new) old) (omega (arith, c.give.auto.numbers, c.as_mut_slice.ensures.len)) in
    rw whole record {
      long = omega (arith, c.in_ok-layer-2.ensures.len, c.as_slice.ensures.len, c.lengths.invariant.long);
      many = omega (arith, c.give.auto.numbers, c.lengths.invariant.many);
      marks = λ m e. let same : c.lengths.k ≡ m = omega arith in subst (λ n. IsLayer edges (λ b. b < sorts) n layer) same next;
      heights = heights-more edges sorts c.lengths.k layer old new c.lengths-test.true next c.lengths.invariant.many given c.lengths.invariant.heights;
    }

pub returns : goal.returns
returns c =
    rises c.args.edges.now c.args.sorts (ends_within c.args.edges.now c.args.sorts c.requires.within) c.requires.acyclic c.lengths.k c.lengths.numbers.items c.lengths.auto.k c.lengths-test.false c.lengths.auto.k-end c.lengths.invariant.many c.lengths.invariant.heights
