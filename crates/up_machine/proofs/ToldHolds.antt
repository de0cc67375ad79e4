-- The verdict of a legal closed history holds.
use Rattle.std.proofs.Common.{ℕ, suc, List, [], ◌∷◌, sym, subst}
use Rattle.fo_core.specs.declared.system.System.{System}
use Rattle.fo_core.specs.Sorted.{IsSystem}
use Rattle.up_diagram.specs.Cubes.{IsCube}
use Rattle.up_claims.specs.declared.verdict.Kept.{Kept}
use Rattle.up_claims.specs.declared.verdict.Verdict.{Verdict}
use Rattle.up_claims.specs.declared.verdict.Verdict.TheVariants as V
use Rattle.up_claims.specs.Inductive.{IsUniversalInvariant}
use Rattle.up_claims.specs.InferQueries.{clauses_of}
use Rattle.up_claims.specs.Verdicts.{cubes_of, IsBounded, IsShortest}
use Rattle.up_claims.proofs.CubeInvariantLemmas.{invariant-back}
use Rattle.up_claims.proofs.JudgingLemmas.{least-is-shortest}
use Rattle.up_machine.specs.declared.limits.Limits.{Limits}
use Rattle.up_machine.specs.declared.end.End.{End}
use Rattle.up_machine.specs.declared.end.End.TheVariants as N
use Rattle.up_machine.specs.declared.event.Event.{Event}
use Rattle.up_machine.specs.declared.event.Event.TheVariants as E
use Rattle.up_machine.specs.Machine.{Clause, Machine, start, is_from, cubes_from}
use Rattle.up_machine.specs.Replay.{replay}
use Rattle.up_machine.specs.Legal.{IsLegal, Legal}
use Rattle.up_machine.specs.Sound.{IsFrameSound, IsFit, AreSoundOrigins, IsTreeOf, AreSoundFails}
use Rattle.up_machine.specs.Told.{kept_from, IsToldBy, Told, HoldsShortest}
use Rattle.up_machine.proofs.Lists.{kept-all}
use Rattle.up_machine.proofs.Dues.{due_closed, due_bounded}
use Rattle.up_machine.proofs.SafeHolds.{safe_holds}
use Rattle.up_machine.proofs.BoundedHolds.{told_cubes, bounded_holds}
use Rattle.up_machine.proofs.ChainHolds.{no_universal_holds}
use Rattle.up_machine.proofs.FrameEvents.{history_sound}
use Rattle.up_machine.proofs.Fit.{history_fit}
use Rattle.up_machine.proofs.Origins.{history_origins}
use Rattle.up_machine.proofs.Forest.{history_tree}
use Rattle.up_machine.proofs.Fails.{history_fails}
use Rattle.up_machine.proofs.Histories.{legal-first, legal-rest}

-- what is so of a machine that a legal history leaves
pub record IsKnown (sys : System) (m : Machine) : Type 0 where
  pub sound : IsFrameSound sys m
  pub fit : IsFit sys m
  pub origins : AreSoundOrigins sys m.obligations
  pub trees : IsTreeOf m
  pub fails : AreSoundFails sys m

module _ (sys : System) (limits : Limits) (good : IsSystem sys) (m : Machine) (known : IsKnown sys m) (w : ℕ) where
  safe_told : (i : ℕ) → IsLegal sys limits m (E.Close w (N.Safe i)) → IsUniversalInvariant sys (clauses_of sys.sig (cubes_of (kept_from m.clauses (suc i))))
  safe_told i legal =
      let invariant = safe_holds sys m i known.sound (due_closed sys limits m i legal.allowed) in
      let sorted = kept-all (λ (c : Clause). c.cube) (IsCube sys.sig) (is_from (suc i)) m.clauses (λ k c e t. known.fit.cubes k c e) in
      subst (λ cubes. IsUniversalInvariant sys (clauses_of sys.sig cubes)) (sym (told_cubes m.clauses (suc i))) (invariant-back sys (cubes_from m.clauses (suc i)) sorted invariant)

  told_by : (end : End) (verdict : Verdict) → IsLegal sys limits m (E.Close w end) → IsToldBy sys m w end verdict → HoldsShortest sys verdict
  told_by (N.Safe i) (V.Safe level clauses) legal told = subst (λ (ks : List Kept). IsUniversalInvariant sys (clauses_of sys.sig (cubes_of ks))) (sym told.1) (safe_told i legal)
  told_by (N.Unsafe run) (V.Unsafe told_run) legal told =
      let may = legal.allowed in
      subst (IsShortest sys) (sym told) (least-is-shortest sys may.trace.steps may.steps run may.found)
  told_by N.NoUniversal (V.NoUniversal links) legal told = no_universal_holds sys good m known.sound known.origins known.trees.tree w links legal.allowed told
  told_by N.Bounded (V.Bounded last clauses leaves) legal told =
      let due = due_bounded sys limits m legal.allowed in
      let bounded = bounded_holds sys m known.sound known.fails due.0 leaves told.leaves_are in
      let at_last = subst (λ n. IsBounded sys n (kept_from m.clauses 0) leaves) (sym told.last_is) bounded in
      subst (λ ks. IsBounded sys last ks leaves) (sym told.clauses_are) at_last
  told_by N.Spent (V.Spent steps) legal told = tt
  told_by (N.Over kind excess) (V.Over what weight) legal told = tt
  told_by end verdict legal told = absurd told

pub told_holds : (sys : System) (limits : Limits) (history : List Event) (verdict : Verdict) → IsSystem sys → Legal sys limits history → Told sys history verdict → HoldsShortest sys verdict
told_holds sys limits history verdict good legal told =
    let whole = subst (Legal sys limits) told.closes legal in
    let last = E.Close told.worker told.end ∷ [] in
    let before = legal-first sys limits start told.before last whole in
    let known : IsKnown sys (replay told.before) = record {
      sound = history_sound sys limits told.before before;
      fit = history_fit sys limits told.before good before;
      origins = history_origins sys limits told.before good before;
      trees = history_tree sys limits told.before before;
      fails = history_fails sys limits told.before good before;
    } in
    told_by sys limits good (replay told.before) known told.worker told.end verdict (legal-rest sys limits start told.before last whole).0 told.tells
