use Rattle.std.proofs.Common.{ℕ, sym, subst}
use Rattle.std.specs.Prelude.{MatchOption}
use Rattle.up_machine.specs.Rounds.{IsFirstCover}
use Rattle.up_machine.proofs.Fit.{history_fit}
use Rattle.up_core.specs.Covering.{AllCanCover, IsFoundPair}
use Rattle.up_core.specs.View.{CoreView, MayRetire, now}
use Rattle.up_core.proofs.CoverPairs.{can-cover, found-cover}
use Rattle.up_core.proofs.NextCores.{open-of, small-of}
use Rattle.up_core.proofs.kept.Core.cover.Goals as goal

pub first_pair-requires-clause-small : goal.first_pair-requires-clause-small
first_pair-requires-clause-small c =
    let x = c.self.inside in
    let small = small-of x.sys x.order x.limits x.history x.state x.spare x.picks x.variables x.widest c.self.invariant in
    small.clauses

pub first_pair-requires-clause-cover : goal.first_pair-requires-clause-cover
first_pair-requires-clause-cover c =
    let x = c.self.inside in
    let core = c.self.invariant in
    let fit = history_fit x.sys x.limits x.history.items core.infer.system core.legal in
    let all = can-cover x.sys x.history.items _ x.state core.mirror x.variables x.widest fit core.picks_for.roomy in
    subst (λ h. AllCanCover h c.in_ok-picks.picks x.state.clauses.items) (sym c.as_slice-history.ensures.value)
    (subst (λ n. AllCanCover x.history.items n x.state.clauses.items) (sym c.in_ok-picks.ensures) all)

pub returns : goal.returns
returns c =
    let x = c.self.inside in
    let core = c.self.invariant in
    let b = subst (λ h. IsFoundPair h x.state.clauses.items c.as_slice-jobs.result.now c.first_pair.result) c.as_slice-history.ensures.value c.first_pair.ensures.found in
    let d = subst (λ js. IsFoundPair x.history.items x.state.clauses.items js c.first_pair.result) c.as_slice-jobs.ensures.value b in
    subst (λ (v : CoreView). MatchOption c.first_pair.result ((g b : ℕ) → ¬ MayRetire (now v) g b) (λ k. IsFirstCover (now v) k.gone k.by)) c.self.view_is
    (found-cover x.sys x.history.items _ x.state core.mirror c.first_pair.result (open-of x.sys x.order x.limits x.history x.state x.spare x.picks x.variables x.widest c.self.invariant c.if-self.false) d)
