use Rattle.std.proofs.Common.{sym, true}
use Rattle.pyv_meaning.specs.View.{view, names_of, name_of, binders_of}
use Rattle.pyv_meaning.proofs.Progress.{done_axiom, done_init, done_safety, done_invariant, done_transition}
use Rattle.pyv_sorts.proofs.model.Parts.add.Goals as goal

pub returns-in_ok-push-in-Axiom-clause-done : goal.returns-in_ok-push-in-Axiom-clause-done
returns-in_ok-push-in-Axiom-clause-done c = λ front d.
    let v = c.args.known.now in
    let p = c.args.self.now in
    rw (c.in-Axiom.is, c.in_ok-push-in-Axiom.ensures.ok)
    (done_axiom v.names v.sig front p.axioms p.inits p.steps p.safeties p.invariants d (view v.bytes c.in-Axiom.tree) c.in_ok-formula-in-Axiom.formula c.in_ok-formula-in-Axiom.ensures.sound c.in_ok-formula-in-Axiom.ensures.means)

pub returns-in_ok-push-in-Init-clause-done : goal.returns-in_ok-push-in-Init-clause-done
returns-in_ok-push-in-Init-clause-done c = λ front d.
    let v = c.args.known.now in
    let p = c.args.self.now in
    rw (c.in-Init.is, c.in_ok-push-in-Init.ensures.ok)
    (done_init v.names v.sig front p.axioms p.inits p.steps p.safeties p.invariants d (view v.bytes c.in-Init.tree) c.in_ok-formula-in-Init.formula c.in_ok-formula-in-Init.ensures.sound c.in_ok-formula-in-Init.ensures.means)

pub returns-in_ok-push-in-Safety-clause-done : goal.returns-in_ok-push-in-Safety-clause-done
returns-in_ok-push-in-Safety-clause-done c = λ front d.
    let v = c.args.known.now in
    let p = c.args.self.now in
    rw (c.in-Safety.is, c.in_ok-push-in-Safety.ensures.ok)
    (done_safety v.names v.sig front p.axioms p.inits p.steps p.safeties p.invariants d (view v.bytes c.in-Safety.tree) c.in_ok-formula-in-Safety.formula c.in_ok-formula-in-Safety.ensures.sound c.in_ok-formula-in-Safety.ensures.means)

pub returns-in_ok-push-in-Invariant-clause-done : goal.returns-in_ok-push-in-Invariant-clause-done
returns-in_ok-push-in-Invariant-clause-done c = λ front d.
    let v = c.args.known.now in
    let p = c.args.self.now in
    rw (c.in-Invariant.is, c.in_ok-push-in-Invariant.ensures.ok)
    (done_invariant v.names v.sig front p.axioms p.inits p.steps p.safeties p.invariants d (view v.bytes c.in-Invariant.tree) c.in_ok-formula-in-Invariant.formula c.in_ok-formula-in-Invariant.ensures.sound c.in_ok-formula-in-Invariant.ensures.means)

pub returns-in_ok-push-in-Transition-clause-done : goal.returns-in_ok-push-in-Transition-clause-done
returns-in_ok-push-in-Transition-clause-done c = λ front d.
    let v = c.args.known.now in
    let p = c.args.self.now in
    rw (c.in-Transition.is, c.in_ok-push-in-Transition.ensures.ok, ← c.as_slice.ensures, ← c.as_slice-in-Transition.ensures)
    (done_transition v.names v.sig front p.axioms p.inits p.steps p.safeties p.invariants d (name_of v.bytes c.in-Transition.field-0) (binders_of v.bytes c.as_slice.result.now) (names_of v.bytes c.as_slice-in-Transition.result.now) (view v.bytes c.in-Transition.tree)
    c.in_ok-step-in-Transition.step c.in_ok-step-in-Transition.ensures.sound c.in_ok-step-in-Transition.ensures.means)
