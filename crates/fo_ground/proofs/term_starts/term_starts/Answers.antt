use Rattle.std.proofs.Common.{ℕ, ◌+◌, ◌<◌, ◌^◌, cond, List, length, sym, ap, subst, ◌∙◌, arith}
use Rattle.std.specs.Prelude.{slice_index}
use Rattle.std.proofs.lemmas.List.{length_push}
use Rattle.fo_core.specs.declared.signature.Symbol.{Symbol}
use Rattle.fo_core.specs.Tables.{no_symbol, symbol_at}
use Rattle.fo_core.specs.TermCounts.{applications}
use Rattle.fo_ground.proofs.StartLemmas.{item-is}
use Rattle.fo_ground.proofs.StartSteps.{applications-few, next-more, starts-more}
use Rattle.fo_ground.proofs.term_starts.term_starts.Goals as goal

pub push_start-requires-clause-few : goal.push_start-requires-clause-few
push_start-requires-clause-few c = λ function.
    let S = c.args.sig.now in
    let n = c.args.copies in
    let k = c.each.symbol-index in
    let is = item-is c.as_slice-symbol-items.result.now S.symbols k no_symbol c.symbol-item.result c.symbol-item.is c.each-test.true c.as_slice-symbol-items.ensures in
    let lt : k < length S.symbols = subst (λ (ss : List Symbol). k < length ss) c.as_slice-symbol-items.ensures c.each-test.true in
    let kind = ap (λ (s : Symbol). s.relation) (sym is) ∙ function in
    let known = (c.requires.sig.sorts k no_symbol lt).result kind in
    let few = applications-few S n c.args.u.now c.requires.universe c.requires.arranged k lt kind known c.requires.few in
    let next = c.each.invariant.next (symbol_at S k).result known in
    subst (λ (s : Symbol). slice_index c.each.next.items s.result + applications n c.args.sizes.now s < 2 ^ 32) (sym is)
    (subst (λ (xs : List ℕ). slice_index c.each.next.items (symbol_at S k).result + applications n xs (symbol_at S k) < 2 ^ 32) (sym c.requires.sizes) (omega (arith, few, next)))

pub each-preserved : goal.each-preserved
each-preserved c =
    let S = c.args.sig.now in
    let n = c.args.copies in
    let k = c.each.symbol-index in
    let s = c.symbol-item.result in
    let is = item-is c.as_slice-symbol-items.result.now S.symbols k no_symbol s c.symbol-item.is c.each-test.true c.as_slice-symbol-items.ensures in
    let lt : k < length S.symbols = subst (λ (ss : List Symbol). k < length ss) c.as_slice-symbol-items.ensures c.each-test.true in
    let inv = c.each.invariant in
    let steps = c.in_ok-push_start.ensures in
    record {
      len = ap length steps.starts ∙ length_push c.each.starts (cond s.relation 0 (slice_index c.each.next.items s.result)) ∙ ap (λ m. m + 1) inv.len;
      one_each = steps.len ∙ inv.one_each;
      next = next-more S n c.args.u.now c.requires.universe c.requires.arranged k s lt is c.each.next.items inv.next c.push_start.new.next.items c.args.sizes.now c.requires.sizes steps.next inv.one_each;
      starts = starts-more S n c.args.u.now c.requires.universe c.requires.arranged k s lt is c.each.next.items inv.next c.each.starts c.push_start.new.starts c.requires.sig.sorts steps.starts inv.len inv.starts;
    }
