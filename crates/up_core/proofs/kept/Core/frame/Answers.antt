use Rattle.std.proofs.Common.{◌≡◌, IfOk, sym, subst, ap, ◌∙◌}
use Rattle.fo_min.proofs.WorldLemmas.{if-ok}
use Rattle.up_machine.specs.Machine.{cubes_from}
use Rattle.up_machine.specs.Replay.{replay}
use Rattle.up_core.specs.Listing.{AreUnmet, listed}
use Rattle.up_core.specs.View.{CoreView, now}
use Rattle.up_core.proofs.Listed.{listed-is, unmet}
use Rattle.up_core.proofs.kept.Core.frame.Goals as goal

pub returns-clause-cubes : goal.returns-clause-cubes
returns-clause-cubes c =
    let x = c.self.inside in
    let i = c.args.level in
    let lists = ap (λ es. listed es i x.state.clauses.items) c.as_slice-history.ensures.value in
    subst (λ (v : CoreView). IfOk c.copy_cubes.result (λ cubes. cubes ≡ cubes_from (now v).clauses i)) c.self.view_is
    (if-ok _ _ c.copy_cubes.result (λ cubes is. is ∙ lists ∙ listed-is x.sys x.history.items (replay x.history.items) x.state c.self.invariant.mirror i) c.copy_cubes.ensures)

pub returns-clause-unmet : goal.returns-clause-unmet
returns-clause-unmet c low =
    let x = c.self.inside in
    let i = c.args.level in
    let core = c.self.invariant in
    let lists = ap (λ es. listed es i x.state.clauses.items) c.as_slice-history.ensures.value in
    subst (λ (v : CoreView). IfOk c.copy_cubes.result (λ cubes. AreUnmet v.sys i cubes)) c.self.view_is
    (if-ok _ _ c.copy_cubes.result
    (λ cubes is. subst (AreUnmet x.sys i) (sym (is ∙ lists ∙ listed-is x.sys x.history.items (replay x.history.items) x.state core.mirror i)) (unmet x.sys x.limits x.history.items i core.infer.system core.legal low))
    c.copy_cubes.ensures)
