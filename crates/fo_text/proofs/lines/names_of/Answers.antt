use Rattle.std.proofs.Common.{◌++◌, ℕ, List, sym, ap, ◌∙◌}
use Rattle.fo_text.specs.Texts.{names_like}
use Rattle.fo_text.proofs.LineLists.{names_taken, is_kept, is_passed, names_passed}
use Rattle.fo_text.proofs.lines.names_of.Goals as goal

pub each-preserved : goal.each-preserved
each-preserved c =
    rw (c.in_ok-push.ensures.ok, c.in_ok-copy.ensures)
    (names_taken c.args.mutable c.args.symbols.now c.args.names.now c.each.i c.index-symbols-i.result c.index-names-i.result c.each-test.true c.requires c.index-symbols-i.is c.index-names-i.is
    c.each.some (names_like c.args.mutable c.args.symbols.now c.args.names.now) (is_kept _ c.if-symbol-mutable.false) c.each.invariant)

pub each-preserved-then-symbol-mutable : goal.each-preserved-then-symbol-mutable
each-preserved-then-symbol-mutable c =
    ap (λ (l : List (List ℕ)). c.each.some ++ l) (sym (names_passed c.args.mutable c.args.symbols.now c.args.names.now c.each.i c.index-symbols-i.result c.each-test.true c.requires c.index-symbols-i.is (is_passed _ c.if-symbol-mutable.true))) ∙ c.each.invariant
