-- Clauses of a form: which variable stands for which atom, and what the clauses mean.
use Rattle.std.specs.Prelude.{◌≡◌, ℕ, ◌≤◌, Bool, true, List, ◌++◌, length, replicate, slice_index_or, ⊤}
use Rattle.fo_core.specs.declared.signature.Sig.{Sig}
use Rattle.fo_core.specs.Tables.{symbol_at}
use Rattle.prop_core.specs.Formula.{MeetsAll, AreWithin}
use Rattle.fo_core.specs.declared.query.TheConstants.{MOST_WEIGHT}
use Rattle.fo_core.specs.Sorted.{IsSig, IsSymbol}
use Rattle.fo_core.specs.TermCounts.{term_counts}
use Rattle.fo_norm.specs.declared.form.SkolemForm.{SkolemForm}
use Rattle.fo_norm.specs.Forms.{whole, IsForm}
use Rattle.fo_terms.specs.Arranged.{IsArranged}
use Rattle.fo_terms.specs.FormWeight.{form_weight}
use Rattle.fo_terms.specs.declared.terms.Universe.{Universe}
use Rattle.fo_terms.specs.Universe.{IsOf, AreOf, IsUniverse}
use Rattle.fo_ground.specs.declared.grounded.Atom.{Atom}
use Rattle.fo_ground.specs.declared.grounded.Atom.TheVariants.{Same, Fact, Helper}
use Rattle.fo_ground.specs.declared.grounded.Grounded.{Grounded}
use Rattle.fo_ground.specs.declared.layout.Layout.{Layout}
use Rattle.fo_ground.specs.Instances.{AreMet}
use Rattle.fo_ground.specs.Layout.{slot, same_var, same_by, fact_by, AreArgs}
use Rattle.fo_ground.specs.Numbers.{atoms_of, layout_of}

-- the list has each equation and each fact at the number of its variable
pub record IsListed (u : Universe) (lay : Layout) (atoms : List Atom) : Type 0 where
  pub same : (s p q : ℕ) → IsOf u.terms s p → IsOf u.terms s q → p ≤ q →
      slice_index_or atoms (same_var u lay p q) Helper ≡ Same p q
  pub facts : (r c : ℕ) (ps : List ℕ) → IsSymbol lay.sig lay.copies true r c → AreArgs u lay r ps →
      slice_index_or atoms (slot u lay r c ps) Helper ≡ Fact r c ps

-- a fact is one of a relation in one of its copies, of terms of its arguments' sorts
abbrev pub IsShaped : Sig → ℕ → Universe → Atom → Type 0
IsShaped sig copies u (Fact r c ps) = IsSymbol sig copies true r c × AreOf u.terms ps (symbol_at sig r).args
IsShaped sig copies u (Same p q) = ⊤
IsShaped sig copies u Helper = ⊤

-- what grounding asks for: a Skolem form over a signature, with all its ground terms as a universe lists
-- them, that weighs no more than the limit
pub record CanGround (sig : Sig) (form : SkolemForm) (u : Universe) : Type 0 where
  pub signature : IsSig sig
  pub skolem : IsForm sig form
  pub universe : IsUniverse (whole sig form) form.copies u.terms
  pub arranged : IsArranged (whole sig form) form.copies u
  pub light : form_weight sig form (term_counts (whole sig form) form.copies) ≤ MOST_WEIGHT

-- the atoms over the ground terms of a form, in the order of their variables
abbrev pub form_atoms : Sig → SkolemForm → Universe → List Atom
form_atoms sig form u = atoms_of (whole sig form) form.copies u

-- how the ground terms and atoms of a form lie
abbrev pub form_layout : Sig → SkolemForm → Universe → Layout
form_layout sig form u = layout_of (whole sig form) form.copies u

-- under these values the axioms of equality and all ground instances of the claims hold
abbrev pub AreMetBy : Sig → SkolemForm → Universe → (ℕ → Bool) → Type 0
AreMetBy sig form u v =
    let lay = form_layout sig form u in
    AreMet u.terms (slot u lay) (same_by u lay v) (fact_by u lay v) (whole sig form) form.copies form.claims

-- The clauses of the form over its ground terms. The atoms of the variables are those of the form and
-- then helpers: each equation and each fact stands at the number of its variable. Values that meet the
-- clauses make the axioms and instances true, and values that do can be filled up to meet the clauses.
pub record IsGrounded (sig : Sig) (form : SkolemForm) (u : Universe) (g : Grounded) : Type 0 where
  pub listed : IsListed u (form_layout sig form u) g.atoms
  pub helpers : (n : ℕ) × (g.atoms ≡ form_atoms sig form u ++ replicate n Helper)
  pub within : AreWithin g.cnf.vars g.cnf.clauses
  pub variables : length g.atoms ≡ g.cnf.vars
  pub base : (form_layout sig form u).base ≤ g.cnf.vars
  pub sound : (v : ℕ → Bool) → MeetsAll v g.cnf.clauses → AreMetBy sig form u v
  pub complete : (a : ℕ → Bool) → AreMetBy sig form u a → (v : ℕ → Bool) × MeetsAll v g.cnf.clauses
