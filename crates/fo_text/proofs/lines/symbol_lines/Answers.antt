use Rattle.std.proofs.Common.{◌++◌, List, map, length, sym, ap, subst, ◌∙◌}
use Rattle.fo_core.specs.declared.signature.Symbol.{Symbol}
use Rattle.fo_core.specs.Sorted.{HasSorts}
use Rattle.fo_text.specs.declared.lines.Line.{Line}
use Rattle.fo_text.specs.Reading.{lines_of, cut}
use Rattle.fo_text.proofs.LineLists.{lines_taken, is_kept, is_passed, lines_passed}
use Rattle.fo_text.proofs.lines.symbol_lines.Goals as goal

pub symbol_line-requires-clause-known : goal.symbol_line-requires-clause-known
symbol_line-requires-clause-known c =
    subst (λ (s : Symbol). HasSorts (length c.args.sizes.now) s) (sym c.index-symbols-i.is) (c.requires.known c.each.i c.index-symbols-i.result c.each-test.true)

pub each-preserved : goal.each-preserved
each-preserved c =
    rw (c.in_ok-push.ensures.ok, c.in_ok-symbol_line.ensures)
    (lines_taken c.args.mutable c.args.symbols.now c.args.names.now c.each.i c.index-symbols-i.result c.index-names-i.result c.each-test.true c.requires.named c.index-symbols-i.is c.index-names-i.is
    c.args.sizes.now c.each.lines (map cut (lines_of c.args.sizes.now c.args.mutable c.args.symbols.now c.args.names.now)) (is_kept _ c.if-symbol-mutable.false) c.each.invariant)

pub each-preserved-then-symbol-mutable : goal.each-preserved-then-symbol-mutable
each-preserved-then-symbol-mutable c =
    ap (λ (l : List Line). c.each.lines ++ map cut l) (sym (lines_passed c.args.mutable c.args.symbols.now c.args.names.now c.each.i c.index-symbols-i.result c.each-test.true c.requires.named c.index-symbols-i.is (is_passed _ c.if-symbol-mutable.true) c.args.sizes.now)) ∙ c.each.invariant
