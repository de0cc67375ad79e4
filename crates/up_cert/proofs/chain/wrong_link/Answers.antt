use Rattle.std.proofs.Common.{Some, sym, subst}
use Rattle.up_claims.specs.declared.verdict.Verdict.TheVariants.{NoUniversal}
use Rattle.fo_core.proofs.Answered.{false_from}
use Rattle.up_cert.specs.declared.spot.What.{What}
use Rattle.up_cert.specs.Trying.{Looks}
use Rattle.up_cert.specs.VerdictSpots.{spot, link_spots}
use Rattle.up_cert.proofs.LookLemmas.{link-no-state, link-no-origin, link-no-map}
use Rattle.up_cert.proofs.chain.wrong_link.Goals as goal

pub returns-then-not-has_state-clause-looks : goal.returns-then-not-has_state-clause-looks
returns-then-not-has_state-clause-looks c =
    link-no-state c.args.sys.now c.args.links.now c.args.k
    (false_from c.has_state.result c.if-not-has_state.true (rw c.link_of-link.ensures at c.has_state.ensures.shown))

pub returns-then-not-branch-clause-looks : goal.returns-then-not-branch-clause-looks
returns-then-not-branch-clause-looks c =
    let state = (rw c.link_of-link.ensures at c.has_state.ensures.shown).0 c.if-not-has_state.false in
    let fails = false_from c.in_ok-has_origin.field-0 c.if-not-branch.true c.in_ok-has_origin.ensures.shown in
    subst (λ (w : What). Looks c.args.sys.now (NoUniversal c.args.links.now) (link_spots c.args.k) (Some (spot w c.args.k))) (sym c.origin_what.ensures)
    (link-no-origin c.args.sys.now c.args.links.now c.args.k state fails)

pub returns-then-not-embeds-clause-looks : goal.returns-then-not-embeds-clause-looks
returns-then-not-embeds-clause-looks c =
    let state = (rw c.link_of-link.ensures at c.has_state.ensures.shown).0 c.if-not-has_state.false in
    link-no-map c.args.sys.now c.args.links.now c.args.k state (c.in_ok-has_origin.ensures.shown.0 c.if-not-branch.false)
    (false_from c.embeds.result c.if-not-embeds.true (rw c.link_of-link.ensures at c.embeds.ensures))
