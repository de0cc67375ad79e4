use Rattle.std.proofs.Common.{◌≡◌, ℕ, None, Some, IfOk, sym, subst, ap, ◌∙◌}
use Rattle.std.specs.Prelude.{MatchOption}
use Rattle.fo_min.proofs.WorldLemmas.{if-ok}
use Rattle.up_machine.specs.declared.end.End.{End}
use Rattle.up_machine.specs.declared.event.Event.TheVariants as E
use Rattle.up_machine.specs.Told.{Told}
use Rattle.up_core.specs.Telling.{CanTell, IsVerdictOf, last_of}
use Rattle.up_core.specs.View.{CoreView, now}
use Rattle.up_core.proofs.Closing.{can-tell-last, verdict-of}
use Rattle.up_core.proofs.NextCores.{small-of}
use Rattle.up_core.proofs.kept.Core.verdict.Goals as goal

pub told-requires-clause-few : goal.told-requires-clause-few
told-requires-clause-few c =
    let x = c.self.inside in
    (small-of x.sys x.order x.limits x.history x.state x.spare x.picks x.variables x.widest c.self.invariant).clauses

pub told-requires-clause-there : goal.told-requires-clause-there
told-requires-clause-there c w end is =
    let x = c.self.inside in
    let core = c.self.invariant in
    let same = c.as_slice-history.ensures.value in
    let last = ap last_of (sym same) ∙ sym c.last_event-last.ensures ∙ is in
    subst (λ es. CanTell x.sys.sig es x.state w end) (sym same)
    (can-tell-last x.sys x.order x.limits x.history x.state x.spare x.picks x.variables x.widest core w end last)

pub returns : goal.returns
returns c =
    let x = c.self.inside in
    let core = c.self.invariant in
    let same = c.as_slice-history.ensures.value in
    subst (λ (v : CoreView). IfOk c.told.result (λ found. MatchOption found ((now v).ending ≡ None) (Told v.sys v.history))) c.self.view_is
    (if-ok _ _ c.told.result
    (λ found h. verdict-of x.sys x.order x.limits x.history x.state x.spare x.picks x.variables x.widest core found
    (subst (λ es. MatchOption found ((w : ℕ) (end : End) → ¬ (last_of es ≡ Some (E.Close w end))) (IsVerdictOf x.sys.sig es x.state (last_of es))) same
    (subst (λ o. MatchOption found ((w : ℕ) (end : End) → ¬ (o ≡ Some (E.Close w end))) (IsVerdictOf x.sys.sig c.as_slice-history.result.now x.state o)) c.last_event-last.ensures h))) c.told.ensures)
