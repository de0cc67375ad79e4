use Rattle.std.proofs.Common.{◌≡◌, ◌<◌, ℕ, arith, sym, ap, ◌∙◌, subst, length}
use Rattle.pyv_meaning.specs.Gets.{Among}
use Rattle.pyv_sorts.specs.Classes.{Leads, united}
use Rattle.pyv_sorts.specs.Inferring.{place_in}
use Rattle.pyv_sorts.proofs.Naming.{named_alike, at_index}
use Rattle.pyv_sorts.proofs.Joining.{starts, passes, joins_two, joined_all}
use Rattle.pyv_sorts.proofs.infer.joined.Goals as goal
use Rattle.pyv_sorts.proofs.infer.joined.Goals.{in-Alike, in_default}

pub each-init : goal.each-init
each-init c = record {
  falls = rw c.as_mut_slice-parents.ensures.value c.in_ok-classes.ensures.falls;
  long = ap length c.as_mut_slice-parents.ensures.value ∙ c.in_ok-classes.ensures.len ∙ c.len.ensures.len;
  classes = (λ x. x, rw c.as_mut_slice-parents.ensures.value c.in_ok-classes.ensures.classes, starts c.args.uses.now c.args.variables.now.keys);
}

pub unite-requires-clause-one : goal.unite-requires-clause-one
unite-requires-clause-one c =
    let m = named_alike c.in-Alike.v c.in-Alike.w c.args.uses.now (at_index c.args.uses.now c.each.told-index _ _ c.each-test.true c.in-Alike.is) in
    let l = c.place.ensures.within (c.requires.known c.in-Alike.v m.0) in
    omega (arith, l, c.each.invariant.long)

pub unite-requires-clause-other : goal.unite-requires-clause-other
unite-requires-clause-other c =
    let m = named_alike c.in-Alike.v c.in-Alike.w c.args.uses.now (at_index c.args.uses.now c.each.told-index _ _ c.each-test.true c.in-Alike.is) in
    let l = c.place-in-Alike.ensures.within (c.requires.known c.in-Alike.w m.1) in
    omega (arith, l, c.each.invariant.long)

pub each-preserved : goal.each-preserved
each-preserved c = elim c.match-told.branch [
  | in-Alike w ↦
      let us = c.args.uses.now in
      let vs = c.args.variables.now.keys in
      let f = c.each.invariant.classes.0 in
      let m = named_alike w.in-Alike.v w.in-Alike.w us (at_index us c.each.told-index _ _ c.each-test.true w.in-Alike.is) in
      let leads : Leads w.unite.new.parents (united f (place_in vs w.in-Alike.v) (place_in vs w.in-Alike.w)) =
      subst (λ k. Leads w.unite.new.parents (united f k (place_in vs w.in-Alike.w))) w.place.ensures.is
      (subst (λ k. Leads w.unite.new.parents (united f w.place.result k)) w.place-in-Alike.ensures.is (w.unite.ensures.united f c.each.invariant.classes.1)) in
      record {
        falls = rw w.parents-is w.unite.ensures.falls;
        long = omega (arith, c.match-told.auto.parents, c.each.invariant.long);
        classes = (
          united f (place_in vs w.in-Alike.v) (place_in vs w.in-Alike.w),
          rw w.parents-is leads,
          joins_two us vs f c.each.told-index _ c.each-test.true w.in-Alike.v w.in-Alike.w w.in-Alike.is (c.requires.known w.in-Alike.v m.0) (c.requires.known w.in-Alike.w m.1) c.each.invariant.classes.2,
        );
      }
  | in_default w ↦ record {
    falls = rw w.parents-is c.each.invariant.falls;
    long = rw w.parents-is c.each.invariant.long;
    classes = (
      c.each.invariant.classes.0,
      rw w.parents-is c.each.invariant.classes.1,
      passes c.args.uses.now c.args.variables.now.keys c.each.invariant.classes.0 c.each.told-index _ c.each-test.true w.in_default.not-Alike c.each.invariant.classes.2,
    );
  }
]
