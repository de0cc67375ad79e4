use Rattle.std.proofs.Common.{◌≡◌, ◌<◌, ℕ, arith, sym, ap, ◌∙◌, subst, length, get_or, set, drop, ◌+◌}
use Rattle.pyv_sorts.specs.declared.mark.Mark.TheVariants.{Nothing}
use Rattle.pyv_sorts.specs.Inferring.{place_in, mark, add}
use Rattle.pyv_sorts.proofs.Naming.{named_is, at_index}
use Rattle.pyv_sorts.proofs.Marking.{mark_ended, mark_passes, mark_adds}
use Rattle.pyv_sorts.proofs.infer.mark_each.Goals as goal
use Rattle.pyv_sorts.proofs.infer.mark_each.Goals.{in-Is, in_default}

pub find-class-requires-clause-within : goal.find-class-requires-clause-within
find-class-requires-clause-within c =
    let m = named_is c.in-Is.v c.in-Is.sort c.args.uses.now (at_index c.args.uses.now c.each.told-index _ _ c.each-test.true c.in-Is.is) in
    let l = c.place.ensures.within (c.requires.known c.in-Is.v m) in
    omega (arith, l, c.each.invariant.long)

pub each-preserved : goal.each-preserved
each-preserved c = elim c.match-told.branch [
  | in-Is w ↦ record {
    falls = rw w.parents-is w.find-class.ensures.falls;
    long = omega (arith, c.match-told.auto.parents, c.each.invariant.long);
    wide = omega (arith, c.match-told.auto.parents, c.match-told.auto.marks, c.each.invariant.wide);
    kept = λ f h. rw w.parents-is (w.find-class.ensures.kept f (c.each.invariant.kept f h));
    marks = λ f h k.
        let vs = c.args.variables.now.keys in
        let us = c.args.uses.now in
        let root : w.find-class.result ≡ f (place_in vs w.in-Is.v) = w.find-class.ensures.class f (c.each.invariant.kept f h) ∙ ap f w.place.ensures.is in
        let wide : w.find-class.result < length c.each.marks = omega (arith, w.find-class.ensures.within, w.find-class.auto.parents, c.each.invariant.wide) in
        ap (λ ms. mark (λ v. f (place_in vs v)) k (get_or ms k Nothing) (drop (c.each.told-index + 1) us)) (w.marks-is ∙ ap (set c.each.marks w.find-class.result) w.add.ensures)
        ∙ mark_adds (λ v. f (place_in vs v)) us c.each.told-index _ c.each-test.true c.each.marks w.in-Is.v w.in-Is.sort w.find-class.result k w.in-Is.is root wide ∙ c.each.invariant.marks f h k;
  }
  | in_default w ↦ record {
    falls = rw w.parents-is c.each.invariant.falls;
    long = rw w.parents-is c.each.invariant.long;
    wide = rw (w.parents-is, w.marks-is) c.each.invariant.wide;
    kept = rw w.parents-is c.each.invariant.kept;
    marks = λ f h k. rw w.marks-is (mark_passes (λ v. f (place_in c.args.variables.now.keys v)) c.args.uses.now c.each.told-index _ c.each-test.true k (get_or c.each.marks k Nothing) w.in_default.not-Is ∙ c.each.invariant.marks f h k);
  }
]

pub returns-clause-marks : goal.returns-clause-marks
returns-clause-marks c = λ f h k. sym (mark_ended (λ v. f (place_in c.args.variables.now.keys v)) k (get_or c.each.marks k Nothing) c.args.uses.now c.each.told-index c.each-test.false) ∙ c.each.invariant.marks f h k
