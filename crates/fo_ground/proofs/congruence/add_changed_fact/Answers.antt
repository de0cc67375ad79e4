use Rattle.std.proofs.Common.{arith, get_or}
use Rattle.fo_core.specs.Tables.{no_symbol, symbol_at}
use Rattle.fo_ground.specs.Axioms.{IsFactChangedTo}
use Rattle.fo_ground.proofs.AxiomLemmas.{range-none, range-more, block-all}
use Rattle.fo_ground.proofs.CongruenceLemmas.{arg-sort}
use Rattle.fo_ground.proofs.congruence.add_changed_fact.Goals as goal

pub at-first-requires : goal.at-first-requires
at-first-requires c = rw (c.as_slice.ensures, c.at.ensures no_symbol) (omega (arith, arg-sort c.args.u.now c.args.lay.now c.requires.ready c.args.args.now (symbol_at c.args.lay.now.sig c.args.symbol).args c.requires.sorted c.args.i c.requires.index, c.requires.ready.firsts))

pub at-requires-2 : goal.at-requires-2
at-requires-2 c = rw (c.as_slice.ensures, c.at.ensures no_symbol) (omega (arith, arg-sort c.args.u.now c.args.lay.now c.requires.ready c.args.args.now (symbol_at c.args.lay.now.sig c.args.symbol).args c.requires.sorted c.args.i c.requires.index, c.requires.ready.sizes))

pub overflow_add-end : goal.overflow_add-end
overflow_add-end c =
    let s = get_or (symbol_at c.args.lay.now.sig c.args.symbol).args c.args.i 0 in
    rw (c.at-first.ensures 0, c.at-2.ensures 0, c.as_slice.ensures, c.at.ensures no_symbol) (omega (arith, c.requires.ready.ends s (arg-sort c.args.u.now c.args.lay.now c.requires.ready c.args.args.now (symbol_at c.args.lay.now.sig c.args.symbol).args c.requires.sorted c.args.i c.requires.index), c.requires.ready.few_terms))

pub each-init : goal.each-init
each-init c = range-none c.args.lay.now.base (IsFactChangedTo c.args.u.now c.args.lay.now c.args.symbol c.args.copy c.args.args.now c.args.i) c.args.into.now.vars c.args.into.now.clauses c.at-first.result.now c.requires.over c.requires.within

pub add_changed_to-requires-clause-place : goal.add_changed_to-requires-clause-place
add_changed_to-requires-clause-place c =
    let s = get_or (symbol_at c.args.lay.now.sig c.args.symbol).args c.args.i 0 in
    let first = rw (c.as_slice.ensures, c.at.ensures no_symbol) at c.at-first.ensures 0 in
    let size = rw (c.as_slice.ensures, c.at.ensures no_symbol) at c.at-2.ensures 0 in
    (c.requires.ready.blocks s c.each.p (arg-sort c.args.u.now c.args.lay.now c.requires.ready c.args.args.now (symbol_at c.args.lay.now.sig c.args.symbol).args c.requires.sorted c.args.i c.requires.index)).1 (omega (arith, first, c.each.auto.p), omega (arith, first, size, c.each-test.true))

pub add_changed_to-requires-clause-over : goal.add_changed_to-requires-clause-over
add_changed_to-requires-clause-over c = let a = c.each.invariant in omega (arith, a.over, a.grows)

pub each-preserved : goal.each-preserved
each-preserved c = range-more c.args.lay.now.base (IsFactChangedTo c.args.u.now c.args.lay.now c.args.symbol c.args.copy c.args.args.now c.args.i) c.args.into.now.vars c.args.into.now.clauses c.at-first.result.now c.each.p c.each.into.vars c.each.into.clauses c.add_changed_to.new.into.vars c.add_changed_to.new.into.clauses c.each.auto.p c.each.invariant c.in_ok-add_changed_to.ensures

pub returns : goal.returns
returns c =
    let s = get_or (symbol_at c.args.lay.now.sig c.args.symbol).args c.args.i 0 in
    let first = rw (c.as_slice.ensures, c.at.ensures no_symbol) at c.at-first.ensures 0 in
    let size = rw (c.as_slice.ensures, c.at.ensures no_symbol) at c.at-2.ensures 0 in
    let end = c.each.auto.p-end (omega arith) in
    block-all c.args.u.now c.args.lay.now c.requires.ready s (arg-sort c.args.u.now c.args.lay.now c.requires.ready c.args.args.now (symbol_at c.args.lay.now.sig c.args.symbol).args c.requires.sorted c.args.i c.requires.index) (IsFactChangedTo c.args.u.now c.args.lay.now c.args.symbol c.args.copy c.args.args.now c.args.i) c.args.into.now.vars c.args.into.now.clauses c.at-first.result.now c.each.p c.each.into.vars c.each.into.clauses first (omega (arith, first, size, end)) c.each.invariant
