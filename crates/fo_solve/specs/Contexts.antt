-- Claims behind switches, over a groundwork that queries share.
use Rattle.std.specs.Prelude.{◌≡◌, ℕ, ◌<◌, ◌≤◌, Bool, true, List, [], Contains}
use Rattle.std.specs.List.{All}
use Rattle.fo_core.specs.declared.formula.Formula.{Formula}
use Rattle.fo_core.specs.declared.signature.Sig.{Sig}
use Rattle.fo_norm.specs.declared.form.SkolemForm.{SkolemForm}
use Rattle.fo_norm.specs.Forms.{whole}
use Rattle.fo_ground.specs.declared.groundwork.Groundwork.{Groundwork}
use Rattle.fo_ground.specs.Emits.{Agrees}
use Rattle.fo_ground.specs.Layout.{IsEqualityBy, IsMetBy}
use Rattle.prop_core.specs.declared.lit.Lit.{Lit}
use Rattle.prop_core.specs.Formula.{MeetsAll, AreWithin}
use Rattle.fo_solve.specs.declared.claims.Claims.{Claims}
use Rattle.fo_solve.specs.declared.claims.Switched.{Switched}

-- which forms a context is for: those over these symbols, the signature's and the Skolem symbols,
-- in this number of copies
pub record Scope : Type 0 where
  pub symbols : Sig
  pub copies : ℕ

-- that of a form over a signature
abbrev pub scope_of : Sig → SkolemForm → Scope
scope_of sig form = record { symbols = whole sig form; copies = form.copies }

-- the claim is kept, and this variable switches it on
abbrev pub IsSwitch : List Switched → Formula → ℕ → Type 0
IsSwitch kept f x = Contains kept (record { claim = f; switch = x })

-- the literal switches the claim on
abbrev pub IsOn : List Switched → Formula → Lit → Type 0
IsOn kept f l = (l.positive ≡ true) × IsSwitch kept f l.var

-- whatever the first list keeps, the second keeps
abbrev pub KeepsAll : List Switched → List Switched → Type 0
KeepsAll before after = (f : Formula) (x : ℕ) → IsSwitch before f x → IsSwitch after f x

-- Clauses over the variables below a number say that the axioms of equality hold, and for each kept
-- claim that its ground instances hold where its switch is true. They say no more: values of the
-- atoms that meet the axioms can be filled up to values that meet the clauses, with the switch of
-- each claim true whose instances they meet (it can't be that no values are so).
pub record AreSwitched (g : Groundwork) (kept : List Switched) (vars : ℕ)
    (clauses : List (List Lit)) : Type 0 where
  pub base : g.layout.base ≤ vars
  pub within : AreWithin vars clauses
  pub switches : All (λ s. s.switch < vars) kept
  pub axioms : (v : ℕ → Bool) → MeetsAll v clauses → IsEqualityBy g.universe g.layout v
  pub claims : (v : ℕ → Bool) → MeetsAll v clauses →
      All (λ s. v s.switch ≡ true → IsMetBy g.universe g.layout s.claim [] v) kept
  pub complete : (a : ℕ → Bool) → IsEqualityBy g.universe g.layout a →
      ¬ ((v : ℕ → Bool) → Agrees g.layout.base a v → MeetsAll v clauses →
      ¬ All (λ s. IsMetBy g.universe g.layout s.claim [] a → v s.switch ≡ true) kept)

-- so do the clauses that a search was given say of the claims that are kept beside it
abbrev pub AreClaims : Groundwork → Claims → Type 0
AreClaims g c = AreSwitched g c.kept.items c.solver.vars c.solver.clauses
