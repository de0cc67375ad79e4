use Rattle.std.proofs.Common.{◌∙◌, [], subst, rules}
use Rattle.fo_ground.specs.Emits.{Adds}
use Rattle.fo_ground.specs.Layout.{IsMetBy}
use Rattle.fo_ground.proofs.EmitLemmas.{each-none, each-more}
use Rattle.fo_ground.proofs.AxiomLemmas.{claims-all, none-within}
use Rattle.fo_ground.proofs.axioms.add_claims.Goals as goal

pub each-init : goal.each-init
each-init c = record { empty = search rules; added = each-none c.args.u.now c.args.lay.now [] [] c.args.into.now.vars c.args.into.now.clauses c.args.claims.now c.requires.over c.requires.within }

pub each-preserved : goal.each-preserved
each-preserved c =
    let b = subst (λ e. Adds c.args.lay.now.base [] (IsMetBy c.args.u.now c.args.lay.now c.f-item.result e) c.each.into.vars c.each.into.clauses c.emit.new.into.vars c.emit.new.into.clauses) c.each.invariant.empty c.in_ok-emit.ensures.added in
    record {
      empty = c.in_ok-emit.ensures.kept ∙ c.each.invariant.empty;
      added = each-more c.args.u.now c.args.lay.now [] [] c.args.into.now.vars c.args.into.now.clauses c.args.claims.now c.each.f-index c.f-item.result c.each.into.vars c.each.into.clauses c.emit.new.into.vars c.emit.new.into.clauses
          (none-within c.args.into.now.vars) c.each-test.true c.f-item.is c.each.invariant.added b;
    }

pub returns : goal.returns
returns c = claims-all c.args.u.now c.args.lay.now c.args.claims.now c.each.f-index c.args.into.now.vars c.args.into.now.clauses c.each.into.vars c.each.into.clauses c.each-test.false c.each.invariant.added
