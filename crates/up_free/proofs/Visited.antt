-- Visits one after another.
use Rattle.std.proofs.Common.{refl, ◌∙◌}
use Rattle.turnstile.proofs.Histories.{IsPrefixOf-refl, IsPrefixOf-trans}
use Rattle.up_visits.specs.Passes.{CorePass, GoesOn, IsVisit, own_events}

pub goes_on_none : (p : CorePass) → GoesOn p p
goes_on_none p = record { same = (refl, refl); grows = IsPrefixOf-refl p.seen; made = IsPrefixOf-refl (own_events p) }

pub goes_on_both : (p q r : CorePass) → GoesOn p q → GoesOn q r → GoesOn p r
goes_on_both p q r h k = record {
  same = (k.same.0 ∙ h.same.0, k.same.1 ∙ h.same.1);
  grows = IsPrefixOf-trans p.seen q.seen r.seen h.grows k.grows;
  made = IsPrefixOf-trans (own_events p) (own_events q) (own_events r) h.made k.made;
}

pub goes_on_twice : (p q r s : CorePass) → GoesOn p q → IsVisit q r → IsVisit r s → GoesOn p s
goes_on_twice p q r s h u v = goes_on_both p r s (goes_on_both p q r h u.goes_on) v.goes_on
