use Rattle.std.proofs.Common.{◌≡◌, ◌∙◌, ℕ, true, false, List, length, map, sym, ap, arith}
use Rattle.std.specs.List.{range_with_len}
use Rattle.std.proofs.lemmas.List.FromFn.{map-range_with_len_more, length-map-range_with_len}
use Rattle.fo_core.specs.declared.signature.Symbol.{Symbol}
use Rattle.prop_core.specs.Formula.{value_of}
use Rattle.fo_ground.specs.Reading.{tables_by}
use Rattle.fo_ground.proofs.GroundLemmas.{laid-out, own-signature, read-world}
use Rattle.fo_ground.proofs.world.read_world.Goals as goal

pub read_classes-requires-clause-ready : goal.read_classes-requires-clause-ready
read_classes-requires-clause-ready c = laid-out c.args.sig.now c.args.form.now c.args.u.now c.requires.ready c.args.lay.now c.requires.layout c.requires.few

pub tables-requires-clause-ready : goal.tables-requires-clause-ready
tables-requires-clause-ready c = laid-out c.args.sig.now c.args.form.now c.args.u.now c.requires.ready c.args.lay.now c.requires.layout c.requires.few

pub tables-requires-clause-sig : goal.tables-requires-clause-sig
tables-requires-clause-sig c = own-signature c.args.sig.now c.args.form.now c.args.u.now c.requires.ready c.args.lay.now c.requires.layout

pub tables-requires-in-each-clause-ready : goal.tables-requires-in-each-clause-ready
tables-requires-in-each-clause-ready c = laid-out c.args.sig.now c.args.form.now c.args.u.now c.requires.ready c.args.lay.now c.requires.layout c.requires.few

pub tables-requires-in-each-clause-sig : goal.tables-requires-in-each-clause-sig
tables-requires-in-each-clause-sig c = own-signature c.args.sig.now c.args.form.now c.args.u.now c.requires.ready c.args.lay.now c.requires.layout

pub each-preserved : goal.each-preserved
each-preserved c = rw (c.in_ok-push.ensures.items, c.each.invariant, c.in_ok-tables.ensures) (sym (map-range_with_len_more (λ (k : ℕ). tables_by c.args.u.now c.args.lay.now (value_of c.args.values.now) true k 0 c.as_slice-symbols.result.now) 0 c.each.copy c.each.copy (omega arith)))

pub returns-clause-meets : goal.returns-clause-meets
returns-clause-meets c =
    let n : c.each.copy ≡ c.args.form.now.copies = omega arith in
    let copies : c.from_vec.result ≡ map (λ (k : ℕ). tables_by c.args.u.now c.args.lay.now (value_of c.args.values.now) true k 0 c.args.sig.now.symbols) (range_with_len 0 c.args.form.now.copies) =
    c.from_vec.ensures ∙ c.each.invariant ∙ ap (λ (ss : List Symbol). map (λ (k : ℕ). tables_by c.args.u.now c.args.lay.now (value_of c.args.values.now) true k 0 ss) (range_with_len 0 c.each.copy)) c.as_slice-symbols.ensures ∙ ap (λ m. map (λ (k : ℕ). tables_by c.args.u.now c.args.lay.now (value_of c.args.values.now) true k 0 c.args.sig.now.symbols) (range_with_len 0 m)) n in
    read-world c.args.sig.now c.args.form.now c.args.u.now c.requires.ready c.args.lay.now c.requires.layout (value_of c.args.values.now) c.requires.met (record { sizes = c.in_ok-classes.classes.sizes; fixed = c.in_ok-fixed.fixed; copies = c.from_vec.result })
    c.in_ok-classes.ensures.sizes (c.in_ok-fixed.ensures ∙ ap (λ (ss : List Symbol). tables_by c.args.u.now c.args.lay.now (value_of c.args.values.now) false 0 0 ss) c.as_slice-symbols.ensures) copies

pub returns-clause-copies : goal.returns-clause-copies
returns-clause-copies c =
    let n : c.each.copy ≡ c.args.form.now.copies = omega arith in
    let copies : c.from_vec.result ≡ map (λ (k : ℕ). tables_by c.args.u.now c.args.lay.now (value_of c.args.values.now) true k 0 c.args.sig.now.symbols) (range_with_len 0 c.args.form.now.copies) =
    c.from_vec.ensures ∙ c.each.invariant ∙ ap (λ (ss : List Symbol). map (λ (k : ℕ). tables_by c.args.u.now c.args.lay.now (value_of c.args.values.now) true k 0 ss) (range_with_len 0 c.each.copy)) c.as_slice-symbols.ensures ∙ ap (λ m. map (λ (k : ℕ). tables_by c.args.u.now c.args.lay.now (value_of c.args.values.now) true k 0 c.args.sig.now.symbols) (range_with_len 0 m)) n in
    ap length copies ∙ length-map-range_with_len (λ (k : ℕ). tables_by c.args.u.now c.args.lay.now (value_of c.args.values.now) true k 0 c.args.sig.now.symbols) 0 c.args.form.now.copies
