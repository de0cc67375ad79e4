use Rattle.std.proofs.Common.{rules, ℕ, List, [], ◌∷◌, false, ◌≡◌, ◌<◌, length, get_or, sym, ap, subst, ◌∙◌, arith}
use Rattle.std.specs.Prelude.{◌==◌}
use Rattle.std.proofs.lemmas.Bool.{true≢false}
use Rattle.fo_core.specs.Weights.{added}
use Rattle.fo_core.specs.Tables.{symbol_at}
use Rattle.fo_norm.specs.Forms.{whole}
use Rattle.fo_core.specs.TermCounts.{applications}
use Rattle.fo_core.specs.QueryWeight.{cut}
use Rattle.fo_terms.proofs.Functions.{numbers-are, count-none, count-some}
use Rattle.fo_terms.proofs.Sums.{sum-more, sum-all}
use Rattle.fo_terms.proofs.counting.sort_count.Goals as goal

not_empty : (xs : List ℕ) → (length xs == 0) ≡ false → 0 < length xs
not_empty [] e = absurd (true≢false e)
not_empty (x ∷ xs) e = omega arith

pub returns-then-is_empty : goal.returns-then-is_empty
returns-then-is_empty c =
    let S = whole c.args.sig.now c.args.form.now in
    let none : length c.args.functions.now ≡ 0 = search rules in
    ap cut (sym (count-none S c.args.form.now.copies c.args.counts.now c.args.sort (sym (ap length c.requires.functions) ∙ none)))

pub symbol_of-symbol-requires : goal.symbol_of-symbol-requires
symbol_of-symbol-requires c =
    let S = whole c.args.sig.now c.args.form.now in
    let are = numbers-are S c.args.sort in
    let lt = c.each-test.true in
    subst (λ ks. get_or ks c.each.number-index 0 < length S.symbols) (sym c.requires.functions)
    (are c.each.number-index 0 (subst (λ ks. c.each.number-index < length ks) c.requires.functions lt)).0

pub each-preserved : goal.each-preserved
each-preserved c =
    let S = whole c.args.sig.now c.args.form.now in
    let f = λ (k : ℕ). applications c.args.form.now.copies c.args.counts.now (symbol_at S k) in
    let term = c.applications.ensures ∙ ap (λ s. cut (applications c.args.form.now.copies c.args.counts.now s)) c.symbol_of-symbol.ensures in
    c.saturating_add-sum.ensures ∙ sum-more f c.args.functions.now c.each.number-index 0 c.each.sum c.applications.result c.each-test.true c.each.invariant term

pub returns : goal.returns
returns c =
    let S = whole c.args.sig.now c.args.form.now in
    let f = λ (k : ℕ). applications c.args.form.now.copies c.args.counts.now (symbol_at S k) in
    let some : 0 < length c.args.functions.now = omega (arith, not_empty c.args.functions.now (sym c.is_empty.ensures ∙ c.if-is_empty.false)) in
    sum-all f c.args.functions.now c.each.number-index c.each.sum (omega arith) c.each.invariant
    ∙ ap (λ ks. cut (added f ks)) c.requires.functions
    ∙ ap cut (sym (count-some S c.args.form.now.copies c.args.counts.now c.args.sort (subst (λ ks. 0 < length ks) c.requires.functions some)))
