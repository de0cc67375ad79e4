use Rattle.std.proofs.Common.{◌≡◌, ◌∙◌, false, cond, sym, ap, arith, get_or, length}
use Rattle.std.proofs.lemmas.List.FromFn.{get_or-map-range_with_len, length-map-range_with_len}
use Rattle.fo_core.specs.declared.signature.Symbol.{Symbol}
use Rattle.fo_core.specs.Sorted.{IsSymbol}
use Rattle.fo_core.specs.Tables.{no_symbol, symbol_at}
use Rattle.prop_core.specs.Formula.{value_of}
use Rattle.fo_ground.specs.Classes.{bit}
use Rattle.fo_ground.specs.Layout.{slot}
use Rattle.fo_ground.specs.Reading.{class_by}
use Rattle.fo_ground.proofs.tables.entry.Goals as goal

pub at-requires-then-not-at : goal.at-requires-then-not-at
at-requires-then-not-at c =
    let kind : (symbol_at c.args.lay.now.sig c.args.symbol).relation ≡ false = sym (ap (λ (s : Symbol). s.relation) (c.at.ensures no_symbol)) ∙ c.if-not-at.true in
    let is : IsSymbol c.args.lay.now.sig c.args.lay.now.copies false c.args.symbol c.args.copy = record { within = c.requires.symbol; kind = kind; copy = c.requires.copy } in
    let lt = (c.requires.ready.places c.args.symbol c.args.copy c.args.args.now is c.requires.args).0 in
    let len = ap length c.requires.read.numbers ∙ length-map-range_with_len (class_by c.args.u.now c.args.lay.now (value_of c.args.values.now)) 0 (length c.args.u.now.terms) in
    omega (arith, c.slot-at.ensures, lt, len)

pub returns-then-not-at : goal.returns-then-not-at
returns-then-not-at c =
    let kind : (symbol_at c.args.lay.now.sig c.args.symbol).relation ≡ false = sym (ap (λ (s : Symbol). s.relation) (c.at.ensures no_symbol)) ∙ c.if-not-at.true in
    let is : IsSymbol c.args.lay.now.sig c.args.lay.now.copies false c.args.symbol c.args.copy = record { within = c.requires.symbol; kind = kind; copy = c.requires.copy } in
    let lt = (c.requires.ready.places c.args.symbol c.args.copy c.args.args.now is c.requires.args).0 in
    let p = slot c.args.u.now c.args.lay.now c.args.symbol c.args.copy c.args.args.now in
    c.at-then-not-at.ensures 0
    ∙ ap (λ xs. get_or xs c.slot-at.result 0) c.requires.read.numbers
    ∙ get_or-map-range_with_len (class_by c.args.u.now c.args.lay.now (value_of c.args.values.now)) 0 (length c.args.u.now.terms) c.slot-at.result c.slot-at.result 0 (omega (arith, c.slot-at.ensures, lt)) (omega arith)
    ∙ ap (class_by c.args.u.now c.args.lay.now (value_of c.args.values.now)) c.slot-at.ensures
    ∙ sym (ap (λ b. cond b (bit (value_of c.args.values.now p)) (class_by c.args.u.now c.args.lay.now (value_of c.args.values.now) p)) kind)
