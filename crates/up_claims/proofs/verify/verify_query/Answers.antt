use Rattle.std.proofs.Common.{ℕ, ◌<◌, ◌↔◌, length, refl, sym, subst}
use Rattle.std.specs.Prelude.{Option, IfSome}
use Rattle.fo_core.specs.declared.world.World.{World}
use Rattle.fo_core.specs.Queries.{MeetsQuery}
use Rattle.up_claims.specs.Breaking.{Breaks}
use Rattle.up_claims.proofs.VerifyLemmas.{meaning-init, query-init, rises-init, meaning-step, query-step, rises-step}
use Rattle.up_claims.proofs.verify.verify_query.Goals as goal

pub returns-in_ok-claims_at_init-in-None-clause-sorted : goal.returns-in_ok-claims_at_init-in-None-clause-sorted
returns-in_ok-claims_at_init-in-None-clause-sorted c =
    query-init c.args.sys.now c.args.property (record { copies = 1; claims = c.in_ok-claims_at_init-in-None.field-0 }) c.requires.sys c.requires.property refl c.in_ok-claims_at_init-in-None.ensures

pub returns-in_ok-claims_at_init-in-None-clause-meaning : goal.returns-in_ok-claims_at_init-in-None-clause-meaning
returns-in_ok-claims_at_init-in-None-clause-meaning c =
    subst (λ (step : Option ℕ). (w : World) → MeetsQuery c.args.sys.now.sig (record { copies = 1; claims = c.in_ok-claims_at_init-in-None.field-0 }) w ↔ Breaks c.args.sys.now step c.args.property w) (sym c.in-None.is)
    (meaning-init c.args.sys.now c.args.property (record { copies = 1; claims = c.in_ok-claims_at_init-in-None.field-0 }) refl c.in_ok-claims_at_init-in-None.ensures)

pub returns-in_ok-claims_at_init-in-None-clause-rises : goal.returns-in_ok-claims_at_init-in-None-clause-rises
returns-in_ok-claims_at_init-in-None-clause-rises c =
    rises-init c.args.sys.now c.args.property (record { copies = 1; claims = c.in_ok-claims_at_init-in-None.field-0 }) c.requires.sys c.requires.property c.in_ok-claims_at_init-in-None.ensures

pub returns-in_ok-claims_by_step-in-Some-clause-sorted : goal.returns-in_ok-claims_by_step-in-Some-clause-sorted
returns-in_ok-claims_by_step-in-Some-clause-sorted c =
    query-step c.args.sys.now c.in-Some.t c.args.property (record { copies = 2; claims = c.in_ok-claims_by_step-in-Some.field-0 }) c.requires.sys
    (subst (λ (step : Option ℕ). IfSome step (λ t. t < length c.args.sys.now.steps)) c.in-Some.is c.requires.step) c.requires.property refl c.in_ok-claims_by_step-in-Some.ensures

pub returns-in_ok-claims_by_step-in-Some-clause-meaning : goal.returns-in_ok-claims_by_step-in-Some-clause-meaning
returns-in_ok-claims_by_step-in-Some-clause-meaning c =
    subst (λ (step : Option ℕ). (w : World) → MeetsQuery c.args.sys.now.sig (record { copies = 2; claims = c.in_ok-claims_by_step-in-Some.field-0 }) w ↔ Breaks c.args.sys.now step c.args.property w) (sym c.in-Some.is)
    (meaning-step c.args.sys.now c.in-Some.t c.args.property (record { copies = 2; claims = c.in_ok-claims_by_step-in-Some.field-0 }) refl c.in_ok-claims_by_step-in-Some.ensures)

pub returns-in_ok-claims_by_step-in-Some-clause-rises : goal.returns-in_ok-claims_by_step-in-Some-clause-rises
returns-in_ok-claims_by_step-in-Some-clause-rises c =
    rises-step c.args.sys.now c.in-Some.t c.args.property (record { copies = 2; claims = c.in_ok-claims_by_step-in-Some.field-0 }) c.requires.sys
    (subst (λ (step : Option ℕ). IfSome step (λ t. t < length c.args.sys.now.steps)) c.in-Some.is c.requires.step) c.requires.property c.in_ok-claims_by_step-in-Some.ensures
