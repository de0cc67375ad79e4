use Rattle.std.proofs.Common.{◌∙◌, ◌<◌, ◌≤◌, ℕ, [], sym, subst, arith, get_or}
use Rattle.fo_ground.specs.declared.grounded.Atom.TheVariants.{Helper}
use Rattle.fo_ground.specs.Axioms.{IsChangedAll, IsChangedAtom, AreChangedFacts}
use Rattle.fo_ground.specs.Emits.{Adds}
use Rattle.fo_ground.specs.Grounds.{IsShaped}
use Rattle.fo_ground.specs.Layout.{slot}
use Rattle.fo_ground.proofs.AxiomLemmas.{range-none, range-more}
use Rattle.fo_ground.proofs.CongruenceLemmas.{any-default, changed-shaped}
use Rattle.fo_ground.proofs.Emitting.{adds_nothing, adds_same}
use Rattle.fo_ground.proofs.congruence.add_relations.Goals as goal
use Rattle.fo_ground.proofs.congruence.add_relations.Goals.{in-Fact+in_ok-add_changed_facts-in-Fact, in-Same, in-Helper}

pub each-init : goal.each-init
each-init c = range-none c.args.lay.now.base (λ t. IsChangedAtom c.args.u.now c.args.lay.now (get_or c.args.atoms.now t Helper)) c.args.into.now.vars c.args.into.now.clauses 0 c.requires.over c.requires.within

pub add_changed_facts-requires-clause-symbol : goal.add_changed_facts-requires-clause-symbol
add_changed_facts-requires-clause-symbol c =
    let s = c.requires.shaped c.each.atom-index c.atom-item.result c.each-test.true in
    (subst (IsShaped c.args.lay.now.sig c.args.lay.now.copies c.args.u.now) (sym c.atom-item.is ∙ c.in-Fact.is) s).0

pub add_changed_facts-requires-clause-sorted : goal.add_changed_facts-requires-clause-sorted
add_changed_facts-requires-clause-sorted c =
    let s = c.requires.shaped c.each.atom-index c.atom-item.result c.each-test.true in
    rw c.as_slice.ensures (subst (IsShaped c.args.lay.now.sig c.args.lay.now.copies c.args.u.now) (sym c.atom-item.is ∙ c.in-Fact.is) s).1

pub each-preserved : goal.each-preserved
each-preserved c =
    let item = any-default c.args.atoms.now c.each.atom-index Helper c.atom-item.result c.each-test.true ∙ sym c.atom-item.is in
    let a = c.each.invariant in
    elim c.match-atom.branch [
      | in-Fact+in_ok-add_changed_facts-in-Fact w ↦
          let b = subst (λ xs. Adds c.args.lay.now.base [] (IsChangedAll c.args.u.now c.args.lay.now w.in-Fact.symbol w.in-Fact.copy xs) c.each.into.vars c.each.into.clauses w.add_changed_facts.new.into.vars w.add_changed_facts.new.into.clauses) w.as_slice.ensures w.in_ok-add_changed_facts-in-Fact.ensures in
          let b' = subst (λ x. Adds c.args.lay.now.base [] (IsChangedAtom c.args.u.now c.args.lay.now x) c.each.into.vars c.each.into.clauses w.add_changed_facts.new.into.vars w.add_changed_facts.new.into.clauses) (sym (item ∙ w.in-Fact.is)) b in
          rw w.into-is (range-more c.args.lay.now.base (λ t. IsChangedAtom c.args.u.now c.args.lay.now (get_or c.args.atoms.now t Helper)) c.args.into.now.vars c.args.into.now.clauses 0 c.each.atom-index c.each.into.vars c.each.into.clauses w.add_changed_facts.new.into.vars w.add_changed_facts.new.into.clauses (omega arith) c.each.invariant b')
      | in-Same w ↦
          let none = adds_nothing c.args.lay.now.base [] (IsChangedAtom c.args.u.now c.args.lay.now (get_or c.args.atoms.now c.each.atom-index Helper)) c.each.into.vars c.each.into.clauses (omega (arith, a.over, a.grows)) a.after (λ v. subst (λ x. IsChangedAtom c.args.u.now c.args.lay.now x v) (sym (item ∙ w.in-Same.is)) tt) in
          rw w.into-is (range-more c.args.lay.now.base (λ t. IsChangedAtom c.args.u.now c.args.lay.now (get_or c.args.atoms.now t Helper)) c.args.into.now.vars c.args.into.now.clauses 0 c.each.atom-index c.each.into.vars c.each.into.clauses c.each.into.vars c.each.into.clauses (omega arith) c.each.invariant none)
      | in-Helper w ↦
          let none = adds_nothing c.args.lay.now.base [] (IsChangedAtom c.args.u.now c.args.lay.now (get_or c.args.atoms.now c.each.atom-index Helper)) c.each.into.vars c.each.into.clauses (omega (arith, a.over, a.grows)) a.after (λ v. subst (λ x. IsChangedAtom c.args.u.now c.args.lay.now x v) (sym (item ∙ w.in-Helper.is)) tt) in
          rw w.into-is (range-more c.args.lay.now.base (λ t. IsChangedAtom c.args.u.now c.args.lay.now (get_or c.args.atoms.now t Helper)) c.args.into.now.vars c.args.into.now.clauses 0 c.each.atom-index c.each.into.vars c.each.into.clauses c.each.into.vars c.each.into.clauses (omega arith) c.each.invariant none)
    ]

pub returns : goal.returns
returns c =
    adds_same c.args.lay.now.base [] (λ v. (t : ℕ) → 0 ≤ t → t < c.each.atom-index → IsChangedAtom c.args.u.now c.args.lay.now (get_or c.args.atoms.now t Helper) v) (AreChangedFacts c.args.u.now c.args.lay.now) c.args.into.now.vars c.args.into.now.clauses c.each.into.vars c.each.into.clauses
    (λ v h r k ps is of.
    let lt = c.requires.ready.facts r k ps is of in
    let x = h (slot c.args.u.now c.args.lay.now r k ps) (omega arith) (omega (arith, lt, c.requires.long)) in
    subst (λ a. IsChangedAtom c.args.u.now c.args.lay.now a v) (c.requires.listed.facts r k ps is of) x)
    (λ v h t ge lt. changed-shaped c.args.u.now c.args.lay.now (get_or c.args.atoms.now t Helper) v (c.requires.shaped t Helper (omega arith)) h)
    c.each.invariant
