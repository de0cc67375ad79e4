use Rattle.std.proofs.Common.{◌∙◌, arith}
use Rattle.up_machine.proofs.Lists.{get-lt}
use Rattle.up_core.specs.Places.{is_live}
use Rattle.up_core.specs.Refuting.{IsRefuting}
use Rattle.up_core.proofs.Chosen.{true-of, not-true-of}
use Rattle.up_core.proofs.Placed.{first-listed, none-before-more, none-listed}
use Rattle.up_core.proofs.refuting.first_refuter.Goals as goal

pub returns-then-refutes-clause-first : goal.returns-then-refutes-clause-first
returns-then-refutes-clause-first c =
    let a = c.args in
    let k = c.live_at-clause in
    first-listed is_live a.clauses.now.items (λ _ e. IsRefuting a.history.now a.sig.now a.w.now a.level e) (λ _ e r. r.live) c.each.at k.result.number k.result.entry c.each.invariant.none k.ensures.number k.ensures.there
    (true-of c.refutes.result (IsRefuting a.history.now a.sig.now a.w.now a.level k.result.entry) c.refutes.ensures.met c.if-refutes.true)

pub returns-then-refutes-clause-within : goal.returns-then-refutes-clause-within
returns-then-refutes-clause-within c = get-lt c.args.clauses.now.items c.live_at-clause.result.number c.live_at-clause.result.entry c.live_at-clause.ensures.there

pub each-preserved : goal.each-preserved
each-preserved c =
    let a = c.args in
    let k = c.live_at-clause in
    record {
      none = none-before-more is_live a.clauses.now.items (λ _ e. IsRefuting a.history.now a.sig.now a.w.now a.level e) (λ _ e r. r.live) c.each.at k.result.number k.result.entry c.each.invariant.none k.ensures.number k.ensures.there
          (not-true-of c.refutes.result (IsRefuting a.history.now a.sig.now a.w.now a.level k.result.entry) c.refutes.ensures.met c.if-refutes.false);
      room = c.refutes.ensures.room ∙ c.each.invariant.room;
    }

pub returns-clause-first : goal.returns-clause-first
returns-clause-first c =
    let a = c.args in
    none-listed is_live a.clauses.now.items (λ _ e. IsRefuting a.history.now a.sig.now a.w.now a.level e) (λ _ e r. r.live) c.each.at c.each.invariant.none (omega (arith, c.each-test.false, c.each.auto.at-end, c.count_live-at-end.ensures))
