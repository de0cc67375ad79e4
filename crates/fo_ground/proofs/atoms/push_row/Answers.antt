use Rattle.std.proofs.Common.{◌≡◌, ◌∙◌, ◌+◌, ◌-◌, ◌++◌, ◌∷◌, [], ℕ, sym, ap, arith, map, append_assoc}
use Rattle.std.specs.List.{range_with_len}
use Rattle.std.proofs.lemmas.List.FromFn.{map-range_with_len_more}
use Rattle.fo_ground.specs.declared.grounded.Atom.TheVariants.{Same}
use Rattle.fo_ground.proofs.atoms.push_row.Goals as goal

pub each-preserved : goal.each-preserved
each-preserved c =
    let f = λ (q : ℕ). Same c.args.place q in
    let n = c.each.q - c.args.place in
    let next : (c.each.q + 1) - c.args.place ≡ n + 1 = omega (arith, c.each.auto.q) in
    let more = ap (λ m. map f (range_with_len c.args.place m)) next ∙ map-range_with_len_more f c.args.place n c.each.q (omega (arith, c.each.auto.q)) in
    rw (c.in_ok-push.ensures.items, c.each.invariant) (append_assoc c.args.atoms.now.items (map f (range_with_len c.args.place n)) (Same c.args.place c.each.q ∷ []) ∙ ap (λ xs. c.args.atoms.now.items ++ xs) (sym more))
