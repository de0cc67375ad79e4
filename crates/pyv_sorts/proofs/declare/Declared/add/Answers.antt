use Rattle.std.proofs.Common.{subst, sym, ap, ◌∙◌}
use Rattle.pyv_meaning.specs.Declaring.{item_fault}
use Rattle.pyv_meaning.specs.Items.{item_of}
use Rattle.pyv_meaning.specs.View.{names_of, view}
use Rattle.pyv_sorts.specs.Tells.{Tells}
use Rattle.pyv_sorts.proofs.declare.Declared.add.Goals as goal

pub returns-in-Sort-clause-tells : goal.returns-in-Sort-clause-tells
returns-in-Sort-clause-tells c = λ items front n k.
    rw (c.in-Sort.is) (c.add_sort.ensures.tells c.args.sorts.now items front n)

pub returns-in-Transition-clause-tells : goal.returns-in-Transition-clause-tells
returns-in-Transition-clause-tells c = λ items front n k.
    rw (c.in-Transition.is, ← c.as_slice-in-Transition.ensures) (c.add_step.ensures.tells c.args.sorts.now items front (names_of c.args.bytes.now c.in-Transition.field-2) (view c.args.bytes.now c.in-Transition.field-3) n)
