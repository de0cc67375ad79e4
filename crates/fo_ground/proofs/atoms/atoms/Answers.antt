use Rattle.std.proofs.Common.{◌∙◌, ◌<◌, ◌++◌, sym, ap, arith, length, take, append_assoc}
use Rattle.std.specs.List.{range_with_len, flat_map}
use Rattle.fo_ground.specs.Numbers.{row, rows, facts_of}
use Rattle.fo_ground.proofs.StartLemmas.{pieces-next}
use Rattle.fo_ground.proofs.atoms.atoms.Goals as goal

pub overflow_cast-symbol-end : goal.overflow_cast-symbol-end
overflow_cast-symbol-end c = omega (arith, c.len-symbol-end.ensures, c.requires.sig.few)

pub rows-preserved : goal.rows-preserved
rows-preserved c =
    let lt : c.rows.place < length c.args.u.now.terms = omega (arith, c.len-place-end.ensures, c.rows-test.true) in
    rw (c.in_ok-push_row.ensures, c.rows.invariant) (sym (pieces-next (row c.args.lay.now.sig c.args.lay.now.copies c.args.u.now) (length c.args.u.now.terms) c.rows.place lt))

pub facts-preserved : goal.facts-preserved
facts-preserved c =
    let lt : c.facts.symbol < length c.args.lay.now.sig.symbols = omega (arith, c.len-symbol-end.ensures, c.facts-test.true) in
    let next = pieces-next (facts_of c.args.lay.now.sig c.args.lay.now.copies c.args.u.now) (length c.args.lay.now.sig.symbols) c.facts.symbol lt in
    rw (c.in_ok-push_facts.ensures, c.facts.invariant) (append_assoc (rows c.args.lay.now.sig c.args.lay.now.copies c.args.u.now) (flat_map (facts_of c.args.lay.now.sig c.args.lay.now.copies c.args.u.now) (take c.facts.symbol (range_with_len 0 (length c.args.lay.now.sig.symbols)))) (facts_of c.args.lay.now.sig c.args.lay.now.copies c.args.u.now c.facts.symbol) ∙ ap (λ xs. rows c.args.lay.now.sig c.args.lay.now.copies c.args.u.now ++ xs) (sym next))
