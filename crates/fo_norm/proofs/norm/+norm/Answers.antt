use Rattle.std.proofs.Common.{◌≡◌, ◌∙◌, ◌+◌, ◌++◌, length, subst, rules, IfOk, OnOk}
use Rattle.fo_core.specs.declared.formula.Formula.TheFolds.{the_lemmas}
use Rattle.fo_norm.specs.Skolem.{CanForm}
use Rattle.fo_norm.proofs.SyntaxRows.{CanForm-Rel, CanForm-Not, CanForm-And, CanForm-Or, CanForm-All, CanForm-Ex}
use Rattle.fo_norm.proofs.Steps.{formed-step, symbols-step, And-formed, Or-formed, And-symbols, Or-symbols, Not-formed, Not-symbols, All-universal, All-existential, Ex-existential, Ex-universal, All-universal_symbols, All-existential_symbols, Ex-existential_symbols, Ex-universal_symbols}
use Rattle.fo_norm.proofs.norm.+norm.Goals as goal

pub formed-filled_each-requires : goal.formed-filled_each-requires
formed-filled_each-requires t c =
    rw (c.as_slice-in-Rel.ensures.value, c.as_slice.ensures) (CanForm-Rel c.args.scope.now.slots.items c.in-Rel.r c.in-Rel.d c.in-Rel.args (subst (CanForm c.args.scope.now.slots.items) c.in-Rel.is c.requires.ready))

pub formed-formed-requires : goal.formed-formed-requires
formed-formed-requires t c =
    (search (rules, the_lemmas), (c.requires.few, rw c.get.ensures (CanForm-Not c.args.scope.now.slots.items c.in-Not.g (subst (CanForm c.args.scope.now.slots.items) c.in-Not.is c.requires.ready))))

pub formed-formed_each-requires : goal.formed-formed_each-requires
formed-formed_each-requires t c =
    (search (rules, the_lemmas), (c.requires.few, rw c.as_slice-in-And.ensures (CanForm-And c.args.scope.now.slots.items c.in-And.fs (subst (CanForm c.args.scope.now.slots.items) c.in-And.is c.requires.ready))))

pub formed-formed_each-requires-in-Or : goal.formed-formed_each-requires-in-Or
formed-formed_each-requires-in-Or t c =
    (search (rules, the_lemmas), (c.requires.few, rw c.as_slice-in-Or.ensures (CanForm-Or c.args.scope.now.slots.items c.in-Or.fs (subst (CanForm c.args.scope.now.slots.items) c.in-Or.is c.requires.ready))))

pub formed-returns-in_ok-parts-in-And-clause-formula : goal.formed-returns-in_ok-parts-in-And-clause-formula
formed-returns-in_ok-parts-in-And-clause-formula t c =
    And-formed c.args.positive c.args.f.now c.in-And.fs c.as_slice-in-And.result.now c.args.scope.now.slots.items c.args.scope.now.universals.items c.as_slice-in-And.ensures (c.args.symbols + length c.args.scope.now.skolems) c.in_ok-parts-in-And.parts c.joined.result c.in-And.is c.in_ok-parts-in-And.ensures.formulas c.joined.ensures

pub formed-returns-in_ok-parts-in-And-clause-skolems : goal.formed-returns-in_ok-parts-in-And-clause-skolems
formed-returns-in_ok-parts-in-And-clause-skolems t c =
    And-symbols c.args.positive c.args.f.now c.in-And.fs c.as_slice-in-And.result.now c.args.scope.now.slots.items c.args.scope.now.universals.items c.as_slice-in-And.ensures c.args.scope.now.skolems c.formed_each.new.scope.skolems c.in-And.is c.in_ok-parts-in-And.ensures.skolems

pub formed-returns-in_ok-parts-in-Or-clause-formula : goal.formed-returns-in_ok-parts-in-Or-clause-formula
formed-returns-in_ok-parts-in-Or-clause-formula t c =
    Or-formed c.args.positive c.args.f.now c.in-Or.fs c.as_slice-in-Or.result.now c.args.scope.now.slots.items c.args.scope.now.universals.items c.as_slice-in-Or.ensures (c.args.symbols + length c.args.scope.now.skolems) c.in_ok-parts-in-Or.parts c.joined-in-Or.result c.in-Or.is c.in_ok-parts-in-Or.ensures.formulas c.joined-in-Or.ensures

pub formed-returns-in_ok-parts-in-Or-clause-skolems : goal.formed-returns-in_ok-parts-in-Or-clause-skolems
formed-returns-in_ok-parts-in-Or-clause-skolems t c =
    Or-symbols c.args.positive c.args.f.now c.in-Or.fs c.as_slice-in-Or.result.now c.args.scope.now.slots.items c.args.scope.now.universals.items c.as_slice-in-Or.ensures c.args.scope.now.skolems c.formed_each-in-Or.new.scope.skolems c.in-Or.is c.in_ok-parts-in-Or.ensures.skolems

pub formed_each-formed-requires : goal.formed_each-formed-requires
formed_each-formed-requires t c =
    (search (rules, the_lemmas), (c.each.invariant.few, rw (c.each.invariant.slots, c.item-item.is) (c.requires.ready c.each.item-index c.item-item.result c.each-test.true)))

pub formed_each-each-preserved : goal.formed_each-each-preserved
formed_each-each-preserved t c =
    record {
      parts = c.in_ok-push.ensures.ok ∙ formed-step c.args.positive c.args.items.now c.each.item-index c.item-item.result c.args.scope.now.slots.items c.args.scope.now.universals.items c.args.scope.now.skolems c.each.scope.skolems c.each-test.true c.item-item.is c.each.invariant.skolems c.each.scope.slots.items c.each.scope.universals.items c.args.symbols c.each.parts c.in_ok-formed.field-0 c.each.invariant.parts c.each.invariant.slots c.each.invariant.universals c.in_ok-formed.ensures.formula;
      skolems = symbols-step c.args.positive c.args.items.now c.each.item-index c.item-item.result c.args.scope.now.slots.items c.args.scope.now.universals.items c.args.scope.now.skolems c.each.scope.skolems c.each-test.true c.item-item.is c.each.invariant.skolems c.each.scope.universals.items c.formed.new.scope.skolems c.each.invariant.universals c.in_ok-formed.ensures.skolems;
      slots = c.in_ok-formed.ensures.slots ∙ c.each.invariant.slots;
      universals = c.in_ok-formed.ensures.universals ∙ c.each.invariant.universals;
      few = c.in_ok-formed.ensures.few;
    }

pub formed-returns-in-Not-clause-formula : goal.formed-returns-in-Not-clause-formula
formed-returns-in-Not-clause-formula t c =
    subst (λ x. IfOk c.formed.result (λ g. g ≡ x)) (Not-formed c.args.positive c.args.f.now c.in-Not.g c.get.result.now 0 c.args.scope.now.slots.items c.args.scope.now.universals.items (c.args.symbols + length c.args.scope.now.skolems) c.get.ensures c.in-Not.is) c.formed.ensures.formula

pub formed-returns-in-Not-clause-skolems : goal.formed-returns-in-Not-clause-skolems
formed-returns-in-Not-clause-skolems t c =
    subst (λ x. OnOk c.formed.result (c.formed.new.scope.skolems ≡ c.args.scope.now.skolems ++ x)) (Not-symbols c.args.positive c.args.f.now c.in-Not.g c.get.result.now 0 c.args.scope.now.slots.items c.args.scope.now.universals.items (c.args.symbols + length c.args.scope.now.skolems) c.get.ensures c.in-Not.is) c.formed.ensures.skolems

pub formed-returns-then-is_universal-clause-formula : goal.formed-returns-then-is_universal-clause-formula
formed-returns-then-is_universal-clause-formula t c =
    subst (λ x. IfOk c.universal.result (λ g. g ≡ x)) (All-universal c.args.positive c.args.f.now c.in-All.g c.get-then-is_universal.result.now c.in-All.s c.args.scope.now.slots.items c.args.scope.now.universals.items (c.args.symbols + length c.args.scope.now.skolems) c.get-then-is_universal.ensures c.in-All.is c.if-is_universal.true) c.universal.ensures.formula

pub formed-returns-then-is_universal-clause-skolems : goal.formed-returns-then-is_universal-clause-skolems
formed-returns-then-is_universal-clause-skolems t c =
    subst (λ x. OnOk c.universal.result (c.universal.new.scope.skolems ≡ c.args.scope.now.skolems ++ x)) (All-universal_symbols c.args.positive c.args.f.now c.in-All.g c.get-then-is_universal.result.now c.in-All.s c.args.scope.now.slots.items c.args.scope.now.universals.items (c.args.symbols + length c.args.scope.now.skolems) c.get-then-is_universal.ensures c.in-All.is c.if-is_universal.true) c.universal.ensures.skolems

pub formed-returns-else-is_universal-clause-formula : goal.formed-returns-else-is_universal-clause-formula
formed-returns-else-is_universal-clause-formula t c =
    subst (λ x. IfOk c.existential.result (λ g. g ≡ x)) (All-existential c.args.positive c.args.f.now c.in-All.g c.get-else-is_universal.result.now c.in-All.s c.args.scope.now.slots.items c.args.scope.now.universals.items (c.args.symbols + length c.args.scope.now.skolems) c.get-else-is_universal.ensures c.in-All.is c.if-is_universal.false) c.existential.ensures.formula

pub formed-returns-else-is_universal-clause-skolems : goal.formed-returns-else-is_universal-clause-skolems
formed-returns-else-is_universal-clause-skolems t c =
    subst (λ x. OnOk c.existential.result (c.existential.new.scope.skolems ≡ c.args.scope.now.skolems ++ x)) (All-existential_symbols c.args.positive c.args.f.now c.in-All.g c.get-else-is_universal.result.now c.in-All.s c.args.scope.now.slots.items c.args.scope.now.universals.items (c.args.symbols + length c.args.scope.now.skolems) c.get-else-is_universal.ensures c.in-All.is c.if-is_universal.false) c.existential.ensures.skolems

pub formed-returns-then-is_existential-clause-formula : goal.formed-returns-then-is_existential-clause-formula
formed-returns-then-is_existential-clause-formula t c =
    subst (λ x. IfOk c.existential-then-is_existential.result (λ g. g ≡ x)) (Ex-existential c.args.positive c.args.f.now c.in-Ex.g c.get-then-is_existential.result.now c.in-Ex.s c.args.scope.now.slots.items c.args.scope.now.universals.items (c.args.symbols + length c.args.scope.now.skolems) c.get-then-is_existential.ensures c.in-Ex.is c.if-is_existential.true) c.existential-then-is_existential.ensures.formula

pub formed-returns-then-is_existential-clause-skolems : goal.formed-returns-then-is_existential-clause-skolems
formed-returns-then-is_existential-clause-skolems t c =
    subst (λ x. OnOk c.existential-then-is_existential.result (c.existential-then-is_existential.new.scope.skolems ≡ c.args.scope.now.skolems ++ x)) (Ex-existential_symbols c.args.positive c.args.f.now c.in-Ex.g c.get-then-is_existential.result.now c.in-Ex.s c.args.scope.now.slots.items c.args.scope.now.universals.items (c.args.symbols + length c.args.scope.now.skolems) c.get-then-is_existential.ensures c.in-Ex.is c.if-is_existential.true) c.existential-then-is_existential.ensures.skolems

pub formed-returns-else-is_existential-clause-formula : goal.formed-returns-else-is_existential-clause-formula
formed-returns-else-is_existential-clause-formula t c =
    subst (λ x. IfOk c.universal-else-is_existential.result (λ g. g ≡ x)) (Ex-universal c.args.positive c.args.f.now c.in-Ex.g c.get-else-is_existential.result.now c.in-Ex.s c.args.scope.now.slots.items c.args.scope.now.universals.items (c.args.symbols + length c.args.scope.now.skolems) c.get-else-is_existential.ensures c.in-Ex.is c.if-is_existential.false) c.universal-else-is_existential.ensures.formula

pub formed-returns-else-is_existential-clause-skolems : goal.formed-returns-else-is_existential-clause-skolems
formed-returns-else-is_existential-clause-skolems t c =
    subst (λ x. OnOk c.universal-else-is_existential.result (c.universal-else-is_existential.new.scope.skolems ≡ c.args.scope.now.skolems ++ x)) (Ex-universal_symbols c.args.positive c.args.f.now c.in-Ex.g c.get-else-is_existential.result.now c.in-Ex.s c.args.scope.now.slots.items c.args.scope.now.universals.items (c.args.symbols + length c.args.scope.now.skolems) c.get-else-is_existential.ensures c.in-Ex.is c.if-is_existential.false) c.universal-else-is_existential.ensures.skolems

pub formed-universal-requires : goal.formed-universal-requires
formed-universal-requires t c =
    (search (rules, the_lemmas), (c.requires.few, rw c.get-then-is_universal.ensures (CanForm-All c.args.scope.now.slots.items c.in-All.s c.in-All.g (subst (CanForm c.args.scope.now.slots.items) c.in-All.is c.requires.ready))))

pub formed-existential-requires : goal.formed-existential-requires
formed-existential-requires t c =
    (search (rules, the_lemmas), (c.requires.few, rw c.get-else-is_universal.ensures (CanForm-All c.args.scope.now.slots.items c.in-All.s c.in-All.g (subst (CanForm c.args.scope.now.slots.items) c.in-All.is c.requires.ready))))

pub formed-existential-requires-then-is_existential : goal.formed-existential-requires-then-is_existential
formed-existential-requires-then-is_existential t c =
    (search (rules, the_lemmas), (c.requires.few, rw c.get-then-is_existential.ensures (CanForm-Ex c.args.scope.now.slots.items c.in-Ex.s c.in-Ex.g (subst (CanForm c.args.scope.now.slots.items) c.in-Ex.is c.requires.ready))))

pub formed-universal-requires-else-is_existential : goal.formed-universal-requires-else-is_existential
formed-universal-requires-else-is_existential t c =
    (search (rules, the_lemmas), (c.requires.few, rw c.get-else-is_existential.ensures (CanForm-Ex c.args.scope.now.slots.items c.in-Ex.s c.in-Ex.g (subst (CanForm c.args.scope.now.slots.items) c.in-Ex.is c.requires.ready))))
