use Rattle.std.proofs.Common.{◌≡◌, ℕ, refl}
use Rattle.std.proofs.lemmas.List.{get_or_default}
use Rattle.pyv_strat.proofs.EdgeLemmas.{adds-more, adds-all, adds-as, from-each}
use Rattle.pyv_strat.proofs.edges.add_from_each.Goals as goal

pub each-preserved : goal.each-preserved
each-preserved c =
    adds-more (λ x a b. (x ≡ a) × (c.args.to ≡ b)) c.args.above.now _ _ _ c.each.from-index _ c.each-test.true (get_or_default c.args.above.now c.each.from-index _ _ c.each-test.true) c.each.invariant c.in_ok-add.ensures

pub returns : goal.returns
returns c = adds-as _ _ _ _ (λ a b. from-each c.args.above.now c.args.to a b) (adds-all (λ x a b. (x ≡ a) × (c.args.to ≡ b)) c.args.above.now _ _ c.each.from-index c.each-test.false c.each.invariant)
