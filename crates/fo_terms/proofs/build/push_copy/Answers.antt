use Rattle.std.proofs.Common.{ℕ, List, [], ◌∷◌, ◌++◌, ap, ◌∙◌}
use Rattle.fo_terms.specs.Blocks.{application, arguments_at}
use Rattle.fo_terms.proofs.ListLemmas.{mapped-more}
use Rattle.fo_terms.proofs.build.push_copy.Goals as goal

pub each-preserved : goal.each-preserved
each-preserved c =
    let firsts = c.args.sizes.now.firsts in
    let counts = c.args.sizes.now.counts in
    let s = c.args.symbol.now in
    let f = application firsts counts c.args.number s c.args.copy in
    let args = c.in_ok-arguments.ensures ∙ ap (λ ss. arguments_at firsts counts ss c.each.tuple) c.as_slice-sorts.ensures in
    record {
      all = c.each.invariant.all;
      terms =
          c.in_ok-push.ensures.ok
          ∙ ap (λ (a : List ℕ). c.each.terms ++ record { symbol = c.args.number; copy = c.args.copy; args = a; sort = s.result } ∷ []) args
          ∙ mapped-more c.args.terms.now c.each.terms f c.each.tuple c.each.invariant.terms;
    }
