use Rattle.std.proofs.Common.{◌≡◌, ◌∙◌, ◌+◌, true, false, [], ◌∷◌, ◌++◌, sym, ap, get_or, drop, append_assoc}
use Rattle.std.specs.Bool.{beq}
use Rattle.fo_core.specs.declared.signature.Symbol.{Symbol}
use Rattle.fo_core.specs.Tables.{no_symbol, is_like}
use Rattle.prop_core.specs.Formula.{value_of}
use Rattle.fo_ground.specs.Reading.{table_by, tables_by}
use Rattle.fo_ground.proofs.CongruenceLemmas.{any-default}
use Rattle.fo_ground.proofs.ReadLemmas.{tables-like, tables-other}
use Rattle.fo_ground.proofs.tables.tables.Goals as goal
use Rattle.fo_ground.proofs.tables.tables.Goals.{then-symbol-mutable+in_ok-table+in_ok-push, else-symbol-mutable}

pub each-preserved : goal.each-preserved
each-preserved c =
    let ss = c.args.symbols.now in
    let k = c.each.k in
    let e = c.index-symbols-k.is ∙ any-default c.args.symbols.now c.each.k c.index-symbols-k.result no_symbol c.each-test.true in
    let em : c.index-symbols-k.result.mutable ≡ (get_or c.args.symbols.now c.each.k no_symbol).mutable = ap (λ (s : Symbol). s.mutable) e in
    let rest = tables_by c.args.u.now c.args.lay.now (value_of c.args.values.now) c.args.mutable c.args.copy (c.each.k + 1) (drop (c.each.k + 1) c.args.symbols.now) in
    elim c.if-symbol-mutable.branch [
      | then-symbol-mutable+in_ok-table+in_ok-push w ↦
          let like : is_like c.args.mutable (get_or c.args.symbols.now c.each.k no_symbol) ≡ true = ap (λ m. beq m c.args.mutable) (sym em) ∙ w.if-symbol-mutable.true in
          let t = w.in_ok-table.ensures ∙ ap (table_by c.args.u.now c.args.lay.now (value_of c.args.values.now) c.args.copy c.each.k) (c.requires.own c.each.k no_symbol c.each-test.true) in
          let step = tables-like c.args.u.now c.args.lay.now (value_of c.args.values.now) c.args.mutable c.args.copy c.each.k c.args.symbols.now c.each-test.true like in
          rw (w.tables-is, w.in_ok-push.ensures.items, t)
          (append_assoc c.each.tables.items (table_by c.args.u.now c.args.lay.now (value_of c.args.values.now) c.args.copy c.each.k (get_or c.args.symbols.now c.each.k no_symbol) ∷ []) rest ∙ ap (λ ys. c.each.tables.items ++ ys) (sym step) ∙ c.each.invariant)
      | else-symbol-mutable w ↦
          let other : is_like c.args.mutable (get_or c.args.symbols.now c.each.k no_symbol) ≡ false = ap (λ m. beq m c.args.mutable) (sym em) ∙ w.if-symbol-mutable.false in
          let step = tables-other c.args.u.now c.args.lay.now (value_of c.args.values.now) c.args.mutable c.args.copy c.each.k c.args.symbols.now c.each-test.true other in
          rw w.tables-is (ap (λ ys. c.each.tables.items ++ ys) (sym step) ∙ c.each.invariant)
    ]
