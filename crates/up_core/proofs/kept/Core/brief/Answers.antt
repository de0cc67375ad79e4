use Rattle.std.proofs.Common.{sym, subst, ap, ◌∙◌}
use Rattle.up_machine.specs.Briefs.{brief_of}
use Rattle.up_machine.specs.Finding.{HoldsJob}
use Rattle.up_machine.specs.Replay.{replay}
use Rattle.up_machine.proofs.Lists.{none_is_some, some_injective}
use Rattle.up_core.specs.Briefing.{AreDescribable, IsBriefHeld, IsBriefNow, brief_at}
use Rattle.up_core.specs.Steps.{entry_of}
use Rattle.up_core.specs.Taking.{HasOnlyTakesSince}
use Rattle.up_core.specs.View.{CoreView, now}
use Rattle.up_core.proofs.Briefed.{describable, has-one, held-brief, there-now}
use Rattle.up_core.proofs.Taken.{same-given, takes-keep}
use Rattle.up_core.proofs.kept.Core.brief.Goals as goal

pub brief_for-requires : goal.brief_for-requires
brief_for-requires c =
    let x = c.self.inside in
    subst (λ es. AreDescribable x.sys.sig es x.state.obligations.items) (sym c.as_slice-history.ensures.value)
    (describable x.sys x.order x.limits x.history x.state x.spare x.picks x.variables x.widest c.self.invariant c.is_narrow.ensures)

pub unreachable-requires : goal.unreachable-requires
unreachable-requires c =
    let x = c.self.inside in
    let holds = subst (λ (v : CoreView). HoldsJob (now v) c.args.worker) (sym c.self.view_is) c.requires in
    let found = ap (entry_of c.args.worker) (sym c.as_slice.ensures.value) ∙ sym c.job_of.ensures ∙ c.in-Some.is in
    let told = held-brief x.sys x.order x.limits x.history x.state x.spare x.picks x.variables x.widest c.self.invariant c.args.worker holds c.in-Some.entry found in
    none_is_some _ (sym c.in-None-2.is ∙ c.in_ok-brief-in-Some.ensures ∙ ap (λ es. brief_at x.sys.sig es x.state c.in-Some.entry.job) c.as_slice-history.ensures.value ∙ told)

pub unreachable-requires-in-None : goal.unreachable-requires-in-None
unreachable-requires-in-None c =
    let x = c.self.inside in
    let holds = subst (λ (v : CoreView). HoldsJob (now v) c.args.worker) (sym c.self.view_is) c.requires in
    has-one x.sys x.order x.limits x.history x.state x.spare x.picks x.variables x.widest c.self.invariant c.args.worker holds
    (ap (entry_of c.args.worker) (sym c.as_slice.ensures.value) ∙ sym c.job_of.ensures ∙ c.in-None.is)

pub returns-clause-now_is : goal.returns-clause-now_is
returns-clause-now_is c =
    let x = c.self.inside in
    let core = c.self.invariant in
    let w = c.args.worker in
    let holds = subst (λ (v : CoreView). HoldsJob (now v) w) (sym c.self.view_is) c.requires in
    let found = ap (entry_of w) (sym c.as_slice.ensures.value) ∙ sym c.job_of.ensures ∙ c.in-Some.is in
    let told = held-brief x.sys x.order x.limits x.history x.state x.spare x.picks x.variables x.widest core w holds c.in-Some.entry found in
    let anew = there-now x.sys x.order x.limits x.history x.state x.spare x.picks x.variables x.widest core w holds in
    let is = some_injective c.in-Some-2.brief _ (sym c.in-Some-2.is ∙ c.in_ok-brief-in-Some.ensures ∙ ap (λ es. brief_at x.sys.sig es x.state c.in-Some.entry.job) c.as_slice-history.ensures.value ∙ told) in
    subst (λ (v : CoreView). IsBriefNow v w c.in-Some-2.brief) c.self.view_is
    (record { held = holds.given; holds = holds.held; given = anew.given; now_is = anew.is; brief_is = is })

pub returns-clause-taken : goal.returns-clause-taken
returns-clause-taken c =
    let x = c.self.inside in
    let core = c.self.invariant in
    let w = c.args.worker in
    let holds = subst (λ (v : CoreView). HoldsJob (now v) w) (sym c.self.view_is) c.requires in
    let found = ap (entry_of w) (sym c.as_slice.ensures.value) ∙ sym c.job_of.ensures ∙ c.in-Some.is in
    let told = held-brief x.sys x.order x.limits x.history x.state x.spare x.picks x.variables x.widest core w holds c.in-Some.entry found in
    let anew = there-now x.sys x.order x.limits x.history x.state x.spare x.picks x.variables x.widest core w holds in
    let is = some_injective c.in-Some-2.brief _ (sym c.in-Some-2.is ∙ c.in_ok-brief-in-Some.ensures ∙ ap (λ es. brief_at x.sys.sig es x.state c.in-Some.entry.job) c.as_slice-history.ensures.value ∙ told) in
    subst (λ (v : CoreView). HasOnlyTakesSince v.history w → IsBriefHeld v w c.in-Some-2.brief) c.self.view_is
    (λ since held e. is ∙ ap (brief_of x.sys.sig) (same-given (replay x.history.items) w holds.given held anew.given holds.held e anew.is (takes-keep x.sys x.limits x.history.items w held core.legal since e)))
