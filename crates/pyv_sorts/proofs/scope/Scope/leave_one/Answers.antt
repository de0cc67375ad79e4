use Rattle.std.proofs.Common.{◌≡◌, ◌<◌, ℕ, ◌∙◌, ap, sym, arith, length, subst, ◌∷◌, [], ◌++◌, List, None}
use Rattle.pyv_sorts.specs.Entering.{entry_names, Finds, Hides}
use Rattle.pyv_sorts.proofs.Hiding.{finds_left, hides_less, snoc_length}
use Rattle.pyv_sorts.proofs.Appends.{on_ok}
use Rattle.pyv_sorts.proofs.scope.Scope.leave_one.Goals as goal

pub invariant_of-self : goal.invariant_of-self
invariant_of-self c =
    let es = c.pop.new.self.items in
    let p : c.self.inside.entries.items ≡ es ++ c.in-Some.entry ∷ [] = c.in-Some.ensures.items in
    (omega (arith, ap length p, snoc_length es c.in-Some.entry, c.self.invariant.0), finds_left c.self.inside.found c.insert.new.self es c.in-Some.entry c.insert.result (subst (λ xs. Finds c.self.inside.found xs) p c.self.invariant.1) (subst Hides p c.self.invariant.2) (on_ok c.insert.result _ _ (λ u. u.0) c.insert.ensures.updates) c.insert.ensures.absent, hides_less es c.in-Some.entry (subst Hides p c.self.invariant.2))
