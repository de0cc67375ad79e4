use Rattle.std.proofs.Common.{◌≡◌, ◌<◌, ℕ, arith, sym, ap, ◌∙◌, subst, length, get_or}
use Rattle.std.proofs.lemmas.List.{get_or-replicate}
use Rattle.pyv_sorts.specs.Classes.{Leads}
use Rattle.pyv_sorts.specs.Inferring.{place_in, mark}
use Rattle.pyv_sorts.specs.declared.mark.Mark.TheVariants.{Nothing}
use Rattle.pyv_sorts.proofs.infer.infer.Goals as goal

pub only_sorts-requires-clause-classes : goal.only_sorts-requires-clause-classes
only_sorts-requires-clause-classes c =
    let f = c.in_ok-classes.ensures.classes.0 in
    let leads : Leads c.as_mut_slice-parents.result.now f = rw c.as_mut_slice-parents.ensures.value c.in_ok-classes.ensures.classes.1 in
    let blank = λ (k : ℕ) (l : k < length c.as_mut_slice-parents.result.now).
    ap (λ ms. get_or ms k Nothing) (c.as_mut_slice-marks.ensures.value ∙ c.in_ok-blank.ensures.items_if_clones_equal (λ y h. h)) ∙ get_or-replicate (length c.as_mut_slice-parents.result.now) k Nothing Nothing l in (
      f,
      c.mark_each.ensures.kept f leads,
      c.in_ok-classes.ensures.classes.2,
      λ k l. c.mark_each.ensures.marks f leads k ∙ ap (λ m. mark (λ v. f (place_in c.in_ok-variables.variables.keys v)) k m c.args.uses.now) (blank k (omega (arith, l, c.mark_each.auto.parents))),
    )
