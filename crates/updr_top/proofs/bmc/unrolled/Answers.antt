-- A search for a violating run finds one, or none, or a query that is too heavy; and one of these alone.
use Rattle.std.proofs.Common.{ℕ, ◌≤◌, ◌+◌, ap, refl, inl, inr}
use Rattle.std.specs.Prelude.{None}
use Rattle.std.specs.List.{All}
use Rattle.fo_core.specs.declared.system.System.{System}
use Rattle.fo_core.specs.declared.world.World.{World}
use Rattle.fo_core.specs.Finds.{IsLight}
use Rattle.fo_core.specs.Sorted.{IsSystem}
use Rattle.up_claims.specs.RunQueries.{run_queries, HasNoRunOf}
use Rattle.up_unroll.proofs.OneRun.{run-no-excess, none-no-excess}
use Rattle.up_claims.specs.declared.kind.Kind.{Kind}
use Rattle.up_claims.specs.declared.verdict.Verdict.TheVariants as verdict
use Rattle.updr_top.specs.Bmc.{FindsRun, HasRun, HasNoRun, verdict_text}
use Rattle.updr_top.proofs.Ended.{if_end}
use Rattle.updr_top.proofs.bmc.unrolled.Goals as goal

module _ (sys : System) (limit depth : ℕ) where
  has_run : IsSystem sys → (w : World) → FindsRun sys limit depth w → HasRun depth limit sys
  has_run is w f = record {
    steps = f.steps;
    run = w;
    within = f.least.within;
    violates = f.least.run;
    light = λ (x, e). run-no-excess sys limit depth is f.steps w x f.least f.light e;
  }

  has_no_run : ((j : ℕ) → j ≤ depth → HasNoRunOf sys j) → All (IsLight sys.sig limit) (run_queries sys (depth + 1)) → HasNoRun depth limit sys
  has_no_run none light = record { none = none; light = λ (x, e). none-no-excess sys limit depth x none light e }

pub returns-in-Run : goal.returns-in-Run
returns-in-Run g c =
    let found = rw (c.in-Run.is) at c.in_ok-world.ensures.found in
    let sys = c.args.meant.now.sys in
    let limit = g.F.Finder.limit c.args.finder.now in
    let finds : FindsRun sys limit c.args.depth c.in-Run.world = record { steps = found.0; least = found.1; light = found.2 } in
    if_end c.unsafe_run.result _ _
    (λ e is cs. inl (record { comes = has_run sys limit c.args.depth c.requires.model.system c.in-Run.world finds; bytes = _; left = None; says = (c.in-Run.world, finds, refl, refl); is = is })) c.unsafe_run.ensures

pub returns-in-NoRun : goal.returns-in-NoRun
returns-in-NoRun g c =
    let found = rw (c.in-NoRun.is) at c.in_ok-world.ensures.found in
    let sys = c.args.meant.now.sys in
    let limit = g.F.Finder.limit c.args.finder.now in
    if_end c.reported.result _ _ (λ e is cs. inr (inl (record { comes = has_no_run sys limit c.args.depth found.0 found.1; bytes = _; left = None; says = (refl, refl); is = is }))) c.reported.ensures

pub returns-in-Over : goal.returns-in-Over
returns-in-Over g c =
    let found = rw (c.in-Over.is) at c.in_ok-world.ensures.found in
    if_end c.reported-in-Over.result _ _
    (λ e is cs. inr (inr (inl (record { comes = (c.in-Over.excess, found.1); bytes = _; left = None; says = (c.in-Over.excess, found.1, ap (λ (k : Kind). verdict_text c.args.meant.now (verdict.Over k c.in-Over.excess.weight)) found.0, refl); is = is })))) c.reported-in-Over.ensures
