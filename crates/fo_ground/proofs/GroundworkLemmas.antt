-- What holds of a groundwork, whichever form it is asked for.
use Rattle.std.proofs.Common.{◌≡◌, ℕ, Bool, ◌≤◌, [], sym, ap, subst, ◌∙◌}
use Rattle.fo_core.specs.declared.formula.Formula.{Formula}
use Rattle.fo_core.specs.declared.query.TheConstants.{MOST_WEIGHT}
use Rattle.fo_core.specs.declared.signature.Sig.{Sig}
use Rattle.fo_core.specs.declared.world.World.{World}
use Rattle.fo_core.specs.Sorted.{IsFormula, IsSig}
use Rattle.fo_core.specs.TermCounts.{term_counts}
use Rattle.fo_norm.specs.declared.form.SkolemForm.{SkolemForm}
use Rattle.fo_norm.specs.Forms.{whole, IsForm, MeetsForm}
use Rattle.fo_terms.specs.Arranged.{IsArranged}
use Rattle.fo_terms.specs.FormWeight.{form_weight}
use Rattle.fo_terms.specs.Universe.{IsUniverse}
use Rattle.fo_ground.specs.declared.groundwork.Groundwork.{Groundwork}
use Rattle.fo_ground.specs.declared.layout.Layout.{Layout}
use Rattle.fo_ground.specs.Grounds.{CanGround, form_layout, AreMetBy}
use Rattle.fo_ground.specs.Groundworks.{IsGroundwork, Serves, HoldBy}
use Rattle.fo_ground.specs.Layout.{HasInstance, IsLaidOut}
use Rattle.fo_ground.specs.Numbers.{layout_of}
use Rattle.fo_ground.proofs.GroundLemmas.{laid-out, met-from, met-to, world-atoms}

module _ (g : Groundwork) (is : IsGroundwork g) where
  -- terms and atoms lie where the layout says
  pub laid : IsLaidOut g.universe g.layout
  laid = laid-out is.sig is.form g.universe is.can g.layout is.layout is.few

  -- a closed claim is an instance of itself
  pub closed : (f : Formula) → IsFormula g.layout.sig g.layout.copies f [] → HasInstance g.universe g.layout [] f
  closed f sorted = record { sorts = []; places = tt; sorted = sorted }

  module _ (sig : Sig) (form : SkolemForm) (serves : Serves sig form g) where
    same_symbols : whole is.sig is.form ≡ whole sig form
    same_symbols = sym (ap (λ (l : Layout). l.sig) is.layout) ∙ serves.symbols

    same_copies : is.form.copies ≡ form.copies
    same_copies = sym (ap (λ (l : Layout). l.copies) is.layout) ∙ serves.copies

    -- the layout is the form's
    pub served-layout : g.layout ≡ form_layout sig form g.universe
    served-layout =
        is.layout ∙ ap (λ (s : Sig). layout_of s is.form.copies g.universe) same_symbols ∙ ap (λ (n : ℕ). layout_of (whole sig form) n g.universe) same_copies

    module _ (well : IsSig sig) (skolem : IsForm sig form) (light : form_weight sig form (term_counts (whole sig form) form.copies) ≤ MOST_WEIGHT) where
      -- and the universe too
      pub served : CanGround sig form g.universe
      served = record {
        signature = well;
        skolem = skolem;
        universe = subst (λ (n : ℕ). IsUniverse (whole sig form) n g.universe.terms) same_copies
            (subst (λ (s : Sig). IsUniverse s is.form.copies g.universe.terms) same_symbols is.can.universe);
        arranged = subst (λ (n : ℕ). IsArranged (whole sig form) n g.universe) same_copies
            (subst (λ (s : Sig). IsArranged s is.form.copies g.universe) same_symbols is.can.arranged);
        light = light;
      }

      pub held-form : (v : ℕ → Bool) → HoldBy g form.claims v → AreMetBy sig form g.universe v
      held-form v h = met-from sig form g.universe served g.layout served-layout v h.equality h.instances

      -- a world that meets the form gives values of the atoms
      pub held-from-world : (w : World) → MeetsForm sig form w → (v : ℕ → Bool) × HoldBy g form.claims v
      held-from-world w meets =
          let a = world-atoms sig form g.universe served w meets in
          let h = met-to sig form g.universe served g.layout served-layout a.0 a.1 in
          (a.0, record { equality = h.0; instances = h.1 })
