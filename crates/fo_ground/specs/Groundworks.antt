-- What forms over the same symbols share: their ground terms, and where the atoms over these lie.
use Rattle.std.specs.Prelude.{◌≡◌, ℕ, ◌+◌, Bool, List, [], ◌∷◌, false}
use Rattle.std.specs.List.{All}
use Rattle.fo_core.specs.declared.formula.Formula.{Formula}
use Rattle.fo_core.specs.declared.signature.Sig.{Sig}
use Rattle.fo_norm.specs.declared.form.SkolemForm.{SkolemForm}
use Rattle.fo_norm.specs.Forms.{whole}
use Rattle.prop_core.specs.declared.lit.Lit.{Lit}
use Rattle.fo_terms.specs.Universe.{IsU32}
use Rattle.fo_ground.specs.declared.groundwork.Groundwork.{Groundwork}
use Rattle.fo_ground.specs.Emits.{Adds}
use Rattle.fo_ground.specs.Grounds.{CanGround, form_layout}
use Rattle.fo_ground.specs.Layout.{IsEqualityBy, IsMetBy}

-- all ground terms of some form, and the layout of the atoms over them, whose numbers have 32 bits
pub record IsGroundwork (g : Groundwork) : Type 0 where
  pub sig : Sig
  pub form : SkolemForm
  pub can : CanGround sig form g.universe
  pub layout : g.layout ≡ form_layout sig form g.universe
  pub few : IsU32 g.layout.base

-- its symbols are those of a form over a signature, and its number of copies is the form's
pub record Serves (sig : Sig) (form : SkolemForm) (g : Groundwork) : Type 0 where
  pub symbols : g.layout.sig ≡ whole sig form
  pub copies : g.layout.copies ≡ form.copies

-- clauses over the variables below this number say that the axioms of equality hold
abbrev pub SayEquality : Groundwork → ℕ → List (List Lit) → Type 0
SayEquality g vars clauses = Adds g.layout.base [] (IsEqualityBy g.universe g.layout) g.layout.base [] vars clauses

-- clauses over the variables below this number say that all ground instances of a claim hold where
-- the switch is true
abbrev pub SayBehind : Groundwork → Formula → ℕ → ℕ → List (List Lit) → Type 0
SayBehind g claim switch vars clauses =
    Adds g.layout.base (record { var = switch; positive = false } ∷ []) (IsMetBy g.universe g.layout claim []) (switch + 1) [] vars clauses

-- under these values the axioms of equality and all ground instances of the claims hold
pub record HoldBy (g : Groundwork) (claims : List Formula) (v : ℕ → Bool) : Type 0 where
  pub equality : IsEqualityBy g.universe g.layout v
  pub instances : All (λ f. IsMetBy g.universe g.layout f [] v) claims
