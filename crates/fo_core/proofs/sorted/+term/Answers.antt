use Rattle.std.proofs.Common.{◌∙◌, ap, sym, arith}
use Rattle.fo_core.specs.declared.signature.Symbol.{Symbol}
use Rattle.fo_core.specs.declared.term.Term.TheVariants.{Var}
use Rattle.fo_core.specs.Tables.{no_symbol}
use Rattle.fo_core.proofs.Answered.{false_from}
use Rattle.fo_core.proofs.SortedLemmas.{terms-length, terms-false, terms-true, App-either}
use Rattle.fo_core.proofs.sorted.+term.Goals as goal

pub are_terms-returns-then-terms-sorts : goal.are_terms-returns-then-terms-sorts
are_terms-returns-then-terms-sorts t c = terms-length c.args.sig.now c.args.copies c.args.scope.now c.args.terms.now c.args.sorts.now c.if-terms-sorts.true

pub are_terms-returns-then-not-is_term : goal.are_terms-returns-then-not-is_term
are_terms-returns-then-not-is_term t c =
    terms-false c.args.sig.now c.args.copies c.args.scope.now c.args.terms.now c.args.sorts.now c.each.i c.index-terms-i.result c.each-test.true c.index-terms-i.is (false_from c.is_term.result c.if-not-is_term.true c.is_term.ensures)

pub are_terms-returns : goal.are_terms-returns
are_terms-returns t c =
    terms-true c.args.sig.now c.args.copies c.args.scope.now c.args.terms.now c.args.sorts.now c.each.i (omega arith) c.each-test.false (Var 0) c.each.invariant

pub is_term-returns-then-symbol-sort : goal.is_term-returns-then-symbol-sort
is_term-returns-then-symbol-sort t c =
    let result = ap (λ (s : Symbol). s.result) (sym (c.at-symbol.ensures no_symbol)) ∙ c.if-symbol-sort.true in
    let all = rw (c.as_slice.ensures, c.as_slice-then-symbol-sort.ensures, c.at-symbol.ensures no_symbol) at c.are_terms.ensures in
    rw c.in-App.is (App-either c.args.sig.now c.args.copies c.args.scope.now c.in-App.f c.in-App.d c.in-App.args c.args.sort c.are_terms.result (c.is_symbol.ensures.0 c.if-not-is_symbol.false) result all)
