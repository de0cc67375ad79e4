use Rattle.std.proofs.Common.{refl, arith}
use Rattle.fo_core.specs.Tables.{no_symbol}
use Rattle.fo_ground.proofs.FactLemmas.{block-at, slot-lt, more, fits, done}
use Rattle.fo_ground.proofs.place.slot.Goals as goal

pub at-requires-in-each : goal.at-requires-in-each
at-requires-in-each c =
    let b = block-at c.args.u.now c.args.lay.now c.requires.ready c.requires.symbol.0 c.args.symbol c.args.copy c.args.places.now c.requires.symbol.1 c.requires.sorted c.each.i c.each-test.true in
    let r = c.requires.ready.sizes in
    rw (c.as_slice-sorts.ensures, c.at.ensures no_symbol) (omega (arith, b.0))

pub at-requires-in-each-2 : goal.at-requires-in-each-2
at-requires-in-each-2 c =
    let b = block-at c.args.u.now c.args.lay.now c.requires.ready c.requires.symbol.0 c.args.symbol c.args.copy c.args.places.now c.requires.symbol.1 c.requires.sorted c.each.i c.each-test.true in
    let r = c.requires.ready.firsts in
    rw (c.as_slice-sorts.ensures, c.at.ensures no_symbol) (omega (arith, b.0))

pub overflow_mul-tuple : goal.overflow_mul-tuple
overflow_mul-tuple c =
    rw (c.at-in-each.ensures 0, c.as_slice-sorts.ensures, c.at.ensures no_symbol) (omega (arith, fits c.args.u.now c.args.lay.now c.requires.ready c.requires.symbol.0 c.args.symbol c.args.copy c.args.places.now c.requires.symbol.1 c.requires.sorted c.each.i c.each.tuple c.each.invariant c.each-test.true))

pub overflow_sub-tuple : goal.overflow_sub-tuple
overflow_sub-tuple c =
    let b = block-at c.args.u.now c.args.lay.now c.requires.ready c.requires.symbol.0 c.args.symbol c.args.copy c.args.places.now c.requires.symbol.1 c.requires.sorted c.each.i c.each-test.true in
    rw (c.at-in-each-2.ensures 0, c.as_slice-sorts.ensures, c.at.ensures no_symbol) (omega (arith, b.1))

pub overflow_add-tuple : goal.overflow_add-tuple
overflow_add-tuple c =
    rw (c.at-in-each.ensures 0, c.at-in-each-2.ensures 0, c.as_slice-sorts.ensures, c.at.ensures no_symbol) (omega (arith, fits c.args.u.now c.args.lay.now c.requires.ready c.requires.symbol.0 c.args.symbol c.args.copy c.args.places.now c.requires.symbol.1 c.requires.sorted c.each.i c.each.tuple c.each.invariant c.each-test.true))

pub each-preserved : goal.each-preserved
each-preserved c =
    rw (c.at-in-each.ensures 0, c.at-in-each-2.ensures 0, c.as_slice-sorts.ensures, c.at.ensures no_symbol) (more c.args.u.now c.args.lay.now c.requires.ready c.requires.symbol.0 c.args.symbol c.args.copy c.args.places.now c.requires.symbol.1 c.requires.sorted c.each.i c.each.tuple c.each.invariant c.each-test.true)

pub overflow_add-result : goal.overflow_add-result
overflow_add-result c =
    let lt = slot-lt c.args.u.now c.args.lay.now c.requires.ready c.requires.symbol.0 c.args.symbol c.args.copy c.args.places.now c.requires.symbol.1 c.requires.sorted in
    let e = done c.args.u.now c.args.lay.now c.requires.ready c.requires.symbol.0 c.args.symbol c.args.copy c.args.places.now c.requires.symbol.1 c.requires.sorted c.each.i c.each.tuple c.each.invariant (omega arith) in
    rw (c.at-2.ensures 0) (omega (arith, lt, e))

pub returns : goal.returns
returns c =
    let e = done c.args.u.now c.args.lay.now c.requires.ready c.requires.symbol.0 c.args.symbol c.args.copy c.args.places.now c.requires.symbol.1 c.requires.sorted c.each.i c.each.tuple c.each.invariant (omega arith) in
    rw (c.at-2.ensures 0, e) refl
