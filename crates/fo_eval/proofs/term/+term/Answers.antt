use Rattle.std.proofs.Common.{sym, subst, rules, arith}
use Rattle.fo_core.specs.declared.term.Term.TheFolds.{the_lemmas}
use Rattle.fo_core.specs.declared.term.Term.TheVariants.{Var}
use Rattle.fo_core.specs.Tables.{no_symbol}
use Rattle.fo_eval.specs.Asked.{Names}
use Rattle.fo_eval.proofs.TermLemmas.{App-args, App-place, App-value, AllName-length, AllName-at, sort-within, more, fits, done}
use Rattle.fo_eval.proofs.term.+term.Goals as goal

pub value-place-at-requires : goal.value-place-at-requires
value-place-at-requires t c =
    let n = subst (Names c.args.sig.now c.args.w.now c.args.copy c.args.env.now.bound) c.in-App.is c.requires.names in
    let all = App-args c.args.sig.now c.args.w.now c.args.copy c.args.env.now.bound c.requires.readable c.in-App.f c.in-App.d c.in-App.args n c.table-table.result.now c.table-table.ensures (omega (arith, c.len-cells.type_inv, c.len-cells.ensures)) in
    (search (rules, the_lemmas), (c.requires.readable, rw (c.as_slice.ensures, c.as_slice-sorts.ensures, c.at.ensures no_symbol) all))

pub value-at-requires-in-App : goal.value-at-requires-in-App
value-at-requires-in-App t c =
    let n = subst (Names c.args.sig.now c.args.w.now c.args.copy c.args.env.now.bound) c.in-App.is c.requires.names in
    let lt = App-place c.args.sig.now c.args.w.now c.args.copy c.args.env.now.bound c.requires.readable c.in-App.f c.in-App.d c.in-App.args n c.table-table.result.now c.table-table.ensures in
    rw (c.place-at.ensures, c.as_slice.ensures, c.as_slice-sorts.ensures, c.at.ensures no_symbol) lt

pub value-returns-in-App : goal.value-returns-in-App
value-returns-in-App t c =
    let n = subst (Names c.args.sig.now c.args.w.now c.args.copy c.args.env.now.bound) c.in-App.is c.requires.names in
    let is = App-value c.args.sig.now c.args.w.now c.args.copy c.args.env.now.bound c.requires.readable c.in-App.f c.in-App.d c.in-App.args n c.table-table.result.now c.table-table.ensures in
    rw (c.in-App.is, c.at-in-App.ensures 0, c.place-at.ensures, c.as_slice.ensures, c.as_slice-sorts.ensures, c.at.ensures no_symbol) (sym is)

pub place-bounds-sorts-i : goal.place-bounds-sorts-i
place-bounds-sorts-i t c =
    omega (arith, AllName-length c.args.sig.now c.args.w.now c.args.copy c.args.env.now.bound c.args.args.now c.args.sorts.now c.requires.names)

pub place-at-requires : goal.place-at-requires
place-at-requires t c =
    sort-within c.args.sig.now c.args.w.now c.args.copy c.args.env.now.bound c.args.args.now c.args.sorts.now c.requires.names c.requires.readable c.loop-i.i c.index-args-i.result c.loop-i-test.true

pub place-overflow_mul-place : goal.place-overflow_mul-place
place-overflow_mul-place t c =
    let all = fits c.args.sig.now c.args.w.now c.args.copy c.args.env.now.bound c.args.args.now c.args.sorts.now c.requires.names c.requires.readable c.loop-i.i c.loop-i.place c.index-args-i.result c.loop-i.invariant c.loop-i-test.true in
    rw (c.at.ensures 0) (omega (arith, all))

pub place-value-requires : goal.place-value-requires
place-value-requires t c =
    (search (rules, the_lemmas), (c.requires.readable, subst (Names c.args.sig.now c.args.w.now c.args.copy c.args.env.now.bound) (sym c.index-args-i.is) (AllName-at c.args.sig.now c.args.w.now c.args.copy c.args.env.now.bound c.args.args.now c.args.sorts.now c.requires.names c.loop-i.i c.index-args-i.result c.loop-i-test.true)))

pub place-overflow_add-place : goal.place-overflow_add-place
place-overflow_add-place t c =
    let all = fits c.args.sig.now c.args.w.now c.args.copy c.args.env.now.bound c.args.args.now c.args.sorts.now c.requires.names c.requires.readable c.loop-i.i c.loop-i.place c.index-args-i.result c.loop-i.invariant c.loop-i-test.true in
    rw (c.at.ensures 0, c.value.ensures, c.index-args-i.is) (omega (arith, all))

pub place-loop-i-preserved : goal.place-loop-i-preserved
place-loop-i-preserved t c =
    let all = more c.args.sig.now c.args.w.now c.args.copy c.args.env.now.bound c.args.args.now c.args.sorts.now c.requires.names c.requires.readable c.loop-i.i c.loop-i.place c.index-args-i.result c.loop-i.invariant c.loop-i-test.true in
    rw (c.at.ensures 0, c.value.ensures, c.index-args-i.is) all

pub place-returns : goal.place-returns
place-returns t c =
    done c.args.sig.now c.args.w.now c.args.copy c.args.env.now.bound c.args.args.now c.args.sorts.now c.requires.names c.requires.readable c.loop-i.i c.loop-i.place (Var 0) c.loop-i.invariant (omega arith)
