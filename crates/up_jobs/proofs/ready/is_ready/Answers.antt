use Rattle.std.proofs.Common.{sym, subst}
use Rattle.std.specs.List.{All}
use Rattle.fo_core.proofs.Answered.{never, false_from, answered}
use Rattle.up_diagram.specs.Cubes.{IsCube}
use Rattle.up_jobs.specs.Solving.{IsReady}
use Rattle.up_jobs.proofs.ready.is_ready.Goals as goal

pub returns-then-not-are_well_sorted : goal.returns-then-not-are_well_sorted
returns-then-not-are_well_sorted c =
    never (IsReady c.args.sig.now c.args.brief.now)
    (λ ready. false_from c.are_well_sorted.result c.if-not-are_well_sorted.true c.are_well_sorted.ensures
    (subst (All (IsCube c.args.sig.now)) (sym c.as_slice.ensures) ready.frame))

pub returns-then-not-are_well_sorted-2 : goal.returns-then-not-are_well_sorted-2
returns-then-not-are_well_sorted-2 c =
    never (IsReady c.args.sig.now c.args.brief.now)
    (λ ready. false_from c.are_well_sorted-2.result c.if-not-are_well_sorted-2.true c.are_well_sorted-2.ensures
    (subst (All (IsCube c.args.sig.now)) (sym c.as_slice-2.ensures) ready.avoid))

pub returns : goal.returns
returns c =
    answered (λ parts. record {
      frame = subst (All (IsCube c.args.sig.now)) c.as_slice.ensures (c.are_well_sorted.ensures.0 c.if-not-are_well_sorted.false);
      avoid = subst (All (IsCube c.args.sig.now)) c.as_slice-2.ensures (c.are_well_sorted-2.ensures.0 c.if-not-are_well_sorted-2.false);
      parts = parts;
    }) (λ ready. ready.parts) c.has_parts.ensures
