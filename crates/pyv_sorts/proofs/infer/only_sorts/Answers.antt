use Rattle.std.proofs.Common.{◌≡◌, ◌<◌, ℕ, arith, sym, ap, ◌∙◌, subst, length, get_or, drop, ◌+◌, List}
use Rattle.pyv_meaning.specs.declared.fault.SortFault.TheVariants.{NoSort, SortClash}
use Rattle.pyv_meaning.specs.Gets.{IsFirstUnsorted}
use Rattle.pyv_sorts.specs.Inferring.{place_in, sort_in}
use Rattle.pyv_sorts.proofs.Naming.{named_binder, at_index}
use Rattle.pyv_sorts.proofs.Sorting.{stands_at, none_at, only_at, two_at, here_none, here_two, here_one, past, one_more, all_sorted, found_new, found_old}
use Rattle.pyv_sorts.proofs.infer.only_sorts.Goals as goal
use Rattle.pyv_sorts.proofs.infer.only_sorts.Goals.{in-Binder+in-One+in_ok-insert-in-One, in_default}

pub find-requires-clause-within : goal.find-requires-clause-within
find-requires-clause-within c =
    let m = named_binder c.in-Binder.v c.args.uses.now (at_index c.args.uses.now c.each.told-index _ _ c.each-test.true c.in-Binder.is) in
    let l = c.place.ensures.within (c.requires.known c.in-Binder.v m) in
    omega (arith, l, c.each.invariant.long)

pub returns-in-Nothing-clause-fault : goal.returns-in-Nothing-clause-fault
returns-in-Nothing-clause-fault c =
    let us = c.args.uses.now in
    let v = c.in-Binder.v in
    let f = c.requires.classes.0 in
    let in_v = c.requires.known v (named_binder v us (at_index us c.each.told-index _ _ c.each-test.true c.in-Binder.is)) in
    let root = c.find.ensures.class f (c.each.invariant.kept f c.requires.classes.1) ∙ ap f c.place.ensures.is in
    let stands = stands_at us c.args.variables.now.keys f c.args.marks.now (length c.args.parents.now) c.requires.classes.2 c.requires.known c.requires.classes.3 v c.find.result in_v (omega (arith, c.find.ensures.within, c.find.auto.parents, c.each.auto.parents)) root in
    c.each.invariant.first (NoSort v) (here_none us c.each.told-index _ c.each-test.true v c.in-Binder.is (none_at us v _ c.in-Nothing.is stands))

pub returns-in-Two-clause-fault : goal.returns-in-Two-clause-fault
returns-in-Two-clause-fault c =
    let us = c.args.uses.now in
    let v = c.in-Binder.v in
    let f = c.requires.classes.0 in
    let in_v = c.requires.known v (named_binder v us (at_index us c.each.told-index _ _ c.each-test.true c.in-Binder.is)) in
    let root = c.find.ensures.class f (c.each.invariant.kept f c.requires.classes.1) ∙ ap f c.place.ensures.is in
    let stands = stands_at us c.args.variables.now.keys f c.args.marks.now (length c.args.parents.now) c.requires.classes.2 c.requires.known c.requires.classes.3 v c.find.result in_v (omega (arith, c.find.ensures.within, c.find.auto.parents, c.each.auto.parents)) root in
    c.each.invariant.first (SortClash v) (here_two us c.each.told-index _ c.each-test.true v c.in-Binder.is (two_at us v _ c.in-Two.is stands))

pub each-preserved : goal.each-preserved
each-preserved c = elim c.match-told.branch [
  | in-Binder+in-One+in_ok-insert-in-One w ↦
      let us = c.args.uses.now in
      let v = w.in-Binder.v in
      let f = c.requires.classes.0 in
      let in_v = c.requires.known v (named_binder v us (at_index us c.each.told-index _ _ c.each-test.true w.in-Binder.is)) in
      let root = w.find.ensures.class f (c.each.invariant.kept f c.requires.classes.1) ∙ ap f w.place.ensures.is in
      let stands = stands_at us c.args.variables.now.keys f c.args.marks.now (length c.args.parents.now) c.requires.classes.2 c.requires.known c.requires.classes.3 v w.find.result in_v (omega (arith, w.find.ensures.within, w.find.auto.parents, c.each.auto.parents)) root in
      let one = only_at us v w.in-One.sort _ w.in-One.is stands in
      record {
        falls = rw w.parents-is w.find.ensures.falls;
        long = omega (arith, c.match-told.auto.parents, c.each.invariant.long);
        kept = λ g h. rw w.parents-is (w.find.ensures.kept g (c.each.invariant.kept g h));
        found = rw w.sorts-is (one_more us c.each.told-index _ c.each-test.true v w.in-Binder.is (sort_in c.each.sorts) (sort_in w.insert.new.self) w.in-One.sort one
            (found_new c.each.sorts w.insert.new.self v w.in-One.sort w.in_ok-insert-in-One.ensures.updates.0) (found_old c.each.sorts w.insert.new.self v w.in-One.sort w.in_ok-insert-in-One.ensures.updates.0) c.each.invariant.found);
        first = λ g h. c.each.invariant.first g (here_one us c.each.told-index _ c.each-test.true v w.in-Binder.is w.in-One.sort g one h);
      }
  | in_default w ↦
      let none = past c.args.uses.now c.each.told-index _ c.each-test.true w.in_default.not-Binder in
      record {
        falls = rw w.parents-is c.each.invariant.falls;
        long = rw w.parents-is c.each.invariant.long;
        kept = rw w.parents-is c.each.invariant.kept;
        found = rw (w.sorts-is, none) c.each.invariant.found;
        first = λ g h. c.each.invariant.first g (subst (λ vs. IsFirstUnsorted c.args.uses.now vs g) none h);
      }
]

pub returns-clause-sorted : goal.returns-clause-sorted
returns-clause-sorted c = all_sorted c.args.uses.now c.each.told-index (sort_in c.each.sorts) c.each-test.false c.each.invariant.found
