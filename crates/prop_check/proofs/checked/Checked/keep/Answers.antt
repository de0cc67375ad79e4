use Rattle.std.proofs.Common.{ℕ, sym, ap, subst, refl}
use Rattle.prop_core.specs.Formula.{IsWithin}
use Rattle.prop_check.specs.Kept.{Kept, kept}
use Rattle.prop_check.proofs.Sound.{sound_one_more, follows_here}
use Rattle.prop_check.proofs.Views.{added_view, given_view, room_less}
use Rattle.prop_check.proofs.checked.Checked.keep.Goals as goal

pub invariant_of-self : goal.invariant_of-self
invariant_of-self c =
    let P : ℕ → Type 0 = λ n. IsWithin n c.args.clause in (
      sound_one_more _ _ _ _ _ _ _ _ _ _ _ _ _ c.self.invariant.0
          (subst P (sym (ap (λ (k : Kept). k.vars) c.self.view_is)) c.requires.within)
          (follows_here _ _ _ _ _ (ap kept c.self.view_is) c.requires.follows)
          c.push_reserved.ensures.items
          c.push_reserved-2.ensures.items
          c.as_mut_slice.ensures.value
          c.extend.auto.root
          c.self.inside.root.ok.0
          c.as_slice-3.ensures.value
          c.extend.ensures,
      room_less _ _ _ _ _ _ _ _ _ _ c.self.invariant.1 refl
          c.push_reserved.ensures.capacity c.push_reserved.ensures.len
          c.push_reserved-2.ensures.capacity c.push_reserved-2.ensures.len,
    )

pub returns-clause-given : goal.returns-clause-given
returns-clause-given c = λ is.
    given_view _ _ _ _ _ _ _ _ _ _ c.self.view_is c.self.invariant.0.marked
    c.push_reserved.ensures.items c.push_reserved-2.ensures.items is refl

pub returns-clause-added : goal.returns-clause-added
returns-clause-added c = λ is.
    added_view _ _ _ _ _ _ _ _ _ _ c.self.view_is c.self.invariant.0.marked
    c.push_reserved.ensures.items c.push_reserved-2.ensures.items is refl
