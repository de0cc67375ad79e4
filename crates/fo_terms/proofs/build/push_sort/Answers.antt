use Rattle.std.proofs.Common.{◌<◌, length, get_or, sym, subst}
use Rattle.fo_norm.specs.Forms.{whole}
use Rattle.fo_terms.proofs.Functions.{numbers-are}
use Rattle.fo_terms.proofs.build.push_sort.Goals as goal

pub symbol_of-symbol-requires : goal.symbol_of-symbol-requires
symbol_of-symbol-requires c =
    let S = whole c.args.sig.now c.args.form.now in
    let are = numbers-are S c.args.sort in
    let lt = c.each-test.true in
    subst (λ ks. get_or ks c.each.number-index 0 < length S.symbols) (sym c.requires.functions)
    (are c.each.number-index 0 (subst (λ ks. c.each.number-index < length ks) c.requires.functions lt)).0
