use Rattle.std.proofs.Common.{◌≡◌, ◌∙◌, ◌++◌, ◌∷◌, [], ◌+◌, ◌<◌, cond, List, sym, ap, subst, arith, length, map}
use Rattle.std.specs.List.{range_with_len}
use Rattle.std.proofs.lemmas.List.FromFn.{map-range_with_len_more}
use Rattle.fo_core.specs.declared.signature.Symbol.{Symbol}
use Rattle.fo_core.specs.Tables.{no_symbol, symbol_at}
use Rattle.fo_ground.specs.Numbers.{fact_start, term_start, symbol_start}
use Rattle.fo_ground.proofs.StartLemmas.{item-is, fact_start-relation, fact_start-function, fact_start-all}
use Rattle.fo_ground.proofs.starts.symbol_starts.Goals as goal
use Rattle.fo_ground.proofs.starts.symbol_starts.Goals.{then-symbol+in_ok-push+in-Some+in-Some-checked_add, else-symbol+in_ok-push-2}

pub each-preserved : goal.each-preserved
each-preserved c =
    let e = item-is c.as_slice-symbol-items.result.now c.args.sig.now.symbols c.each.k no_symbol c.symbol-item.result c.symbol-item.is c.each-test.true c.as_slice-symbol-items.ensures in
    let er : c.symbol-item.result.relation ≡ (symbol_at c.args.sig.now c.each.k).relation = ap (λ (s : Symbol). s.relation) e in
    let lt : c.each.k < length c.args.sig.now.symbols = subst (λ (ts : List Symbol). c.each.k < length ts) c.as_slice-symbol-items.ensures c.each-test.true in
    let more = map-range_with_len_more (symbol_start c.args.sig.now c.args.copies c.args.u.now) 0 c.each.k c.each.k (omega arith) in
    elim c.if-symbol.branch [
      | then-symbol+in_ok-push+in-Some+in-Some-checked_add w ↦
          let is = sym er ∙ w.if-symbol.true in
          let here : symbol_start c.args.sig.now c.args.copies c.args.u.now c.each.k ≡ fact_start c.args.sig.now c.args.copies c.args.u.now c.each.k = ap (λ b. cond b (fact_start c.args.sig.now c.args.copies c.args.u.now c.each.k) (term_start c.args.sig.now c.args.copies c.args.u.now c.each.k)) is in
          let next = fact_start-relation c.args.sig.now c.args.copies c.args.u.now c.each.k lt is in
          let h1 = rw (w.copies_of.ensures, w.as_slice.ensures, c.requires.sizes, e) at w.in-Some.ensures in
          let h2 = w.in-Some-checked_add.ensures in
          record {
            starts = rw (w.starts-is, w.in_ok-push.ensures.items, c.each.invariant.starts, c.each.invariant.end) (ap (λ x. map (symbol_start c.args.sig.now c.args.copies c.args.u.now) (range_with_len 0 c.each.k) ++ x ∷ []) (sym here) ∙ sym more);
            end = w.end-is ∙ h2.1 ∙ ap (λ x. x + w.in-Some.count) c.each.invariant.end ∙ ap (λ n. fact_start c.args.sig.now c.args.copies c.args.u.now c.each.k + n) h1 ∙ sym next;
          }
      | else-symbol+in_ok-push-2 w ↦
          let is = sym er ∙ w.if-symbol.false in
          let here : symbol_start c.args.sig.now c.args.copies c.args.u.now c.each.k ≡ term_start c.args.sig.now c.args.copies c.args.u.now c.each.k = ap (λ b. cond b (fact_start c.args.sig.now c.args.copies c.args.u.now c.each.k) (term_start c.args.sig.now c.args.copies c.args.u.now c.each.k)) is in
          let place = c.requires.term_starts c.each.k lt is in
          record {
            starts = rw (w.starts-is, w.in_ok-push-2.ensures.items, c.each.invariant.starts, place) (ap (λ x. map (symbol_start c.args.sig.now c.args.copies c.args.u.now) (range_with_len 0 c.each.k) ++ x ∷ []) (sym here) ∙ sym more);
            end = rw w.end-is (c.each.invariant.end ∙ sym (fact_start-function c.args.sig.now c.args.copies c.args.u.now c.each.k lt is));
          }
    ]

pub returns-clause-end : goal.returns-clause-end
returns-clause-end c =
    let e : c.each.k ≡ length c.args.sig.now.symbols = omega (arith, ap length c.as_slice-symbol-items.ensures) in
    c.each.invariant.end ∙ ap (fact_start c.args.sig.now c.args.copies c.args.u.now) e ∙ fact_start-all c.args.sig.now c.args.copies c.args.u.now
