use Rattle.std.proofs.Common.{◌≡◌, ◌∙◌, ap, arith, length, sum}
use Rattle.fo_core.specs.Trials.{element_sorts}
use Rattle.fo_core.proofs.ElementLemmas.{sorts-length}
use Rattle.up_diagram.specs.Diagrams.{differ, facts_of}
use Rattle.up_diagram.proofs.Described.{flat-step, sorts-few}
use Rattle.up_diagram.proofs.describing.diagram.Goals as goal

pub element_sorts-requires : goal.element_sorts-requires
element_sorts-requires c = rw c.as_slice.ensures (omega (arith, sorts-few c.args.w.now.sizes c.requires.fits.nonempty, c.requires.few))

pub push_differ-requires : goal.push_differ-requires
push_differ-requires c =
    let count : length c.as_slice-3.result.now ≡ sum c.args.w.now.sizes =
    ap length (c.as_slice-3.ensures ∙ c.in_ok-sorts.ensures ∙ ap element_sorts c.as_slice.ensures) ∙ sorts-length c.args.w.now.sizes in
    record { few = omega (arith, count, c.requires.few) }

pub each-preserved : goal.each-preserved
each-preserved c =
    flat-step (facts_of c.args.sig.now c.args.w.now c.args.copy) c.each.k (differ (element_sorts c.args.w.now.sizes)) c.each.lits _
    c.each.invariant c.in_ok-push_facts.ensures
