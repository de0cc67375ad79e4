use Rattle.std.proofs.Common.{ℕ, [], ◌∷◌, ◌++◌, cond, List, sym, ap, ◌∙◌, arith}
use Rattle.std.specs.List.{filter, range_with_len}
use Rattle.fo_core.specs.declared.signature.Symbol.{Symbol}
use Rattle.fo_core.specs.Tables.{symbol_at}
use Rattle.fo_norm.specs.Forms.{whole}
use Rattle.fo_core.specs.TermCounts.{leads_to}
use Rattle.fo_terms.proofs.Functions.{numbers-more}
use Rattle.fo_terms.proofs.symbols.functions.Goals as goal

pub each-preserved : goal.each-preserved
each-preserved c =
    let S = whole c.args.sig.now c.args.form.now in
    let n = c.each.number in
    record {
      all = c.each.invariant.all;
      len = c.in_ok-add.ensures.len ∙ c.each.invariant.len;
      each = λ t lt.
          c.in_ok-add.ensures.each t (omega (arith, c.each.invariant.len))
          ∙ ap (λ (xs : List ℕ). xs ++ cond (leads_to t c.symbol_of-symbol.result.now) (n ∷ []) []) (c.each.invariant.each t lt)
          ∙ ap (λ (s : Symbol). filter (λ k. leads_to t (symbol_at S k)) (range_with_len 0 n) ++ cond (leads_to t s) (n ∷ []) []) c.symbol_of-symbol.ensures
          ∙ sym (numbers-more S t n);
    }
