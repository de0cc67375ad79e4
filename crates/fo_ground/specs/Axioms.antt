-- What the axioms of equality say of values of the variables, piece by piece.
use Rattle.std.specs.Prelude.{◌≡◌, ℕ, ◌<◌, Bool, true, List, length, slice_index, slice_set, ⊤}
use Rattle.fo_core.specs.Sorted.{IsSymbol}
use Rattle.fo_core.specs.Tables.{symbol_at}
use Rattle.fo_terms.specs.declared.terms.Universe.{Universe}
use Rattle.fo_terms.specs.Universe.{IsOf, AreOf, sort_at, term_at}
use Rattle.fo_ground.specs.declared.grounded.Atom.{Atom}
use Rattle.fo_ground.specs.declared.grounded.Atom.TheVariants.{Same, Fact, Helper}
use Rattle.fo_ground.specs.declared.layout.Layout.{Layout}
use Rattle.fo_ground.specs.Layout.{same_var, slot}

module _ (u : Universe) (lay : Layout) where
  -- the terms at p and r are the same where both are the same as one more
  abbrev pub IsBetween : ℕ → ℕ → (ℕ → Bool) → Type 0
  IsBetween p r v = (q : ℕ) → IsOf u.terms (sort_at u.terms p) q → v (same_var u lay p q) ≡ true → v (same_var u lay q r) ≡ true → v (same_var u lay p r) ≡ true

  -- the term at p is the same as itself, and so on with each later one of its sort
  pub record IsAlikeRow (p : ℕ) (v : ℕ → Bool) : Type 0 where
    pub itself : v (same_var u lay p p) ≡ true
    pub later : (r : ℕ) → p < r → IsOf u.terms (sort_at u.terms p) r → IsBetween p r v

  abbrev pub AreAlike : (ℕ → Bool) → Type 0
  AreAlike v = (p : ℕ) → p < length u.terms → IsAlikeRow p v

  -- a relation that is true of arguments is true where the one at i is changed to the term at p, if these are the same
  abbrev pub IsFactChangedTo : ℕ → ℕ → List ℕ → ℕ → ℕ → (ℕ → Bool) → Type 0
  IsFactChangedTo r c args i p v = v (same_var u lay (slice_index args i) p) ≡ true → v (slot u lay r c args) ≡ true → v (slot u lay r c (slice_set args i p)) ≡ true

  abbrev pub IsChangedFact : ℕ → ℕ → List ℕ → ℕ → (ℕ → Bool) → Type 0
  IsChangedFact r c args i v = (p : ℕ) → IsOf u.terms (slice_index (symbol_at lay.sig r).args i) p → IsFactChangedTo r c args i p v

  abbrev pub IsChangedAll : ℕ → ℕ → List ℕ → (ℕ → Bool) → Type 0
  IsChangedAll r c args v = (i : ℕ) → i < length args → IsChangedFact r c args i v

  abbrev pub IsChangedAtom : Atom → (ℕ → Bool) → Type 0
  IsChangedAtom (Fact r c args) v = IsChangedAll r c args v
  IsChangedAtom (Same p q) v = ⊤
  IsChangedAtom Helper v = ⊤

  abbrev pub AreChangedFacts : (ℕ → Bool) → Type 0
  AreChangedFacts v = (r c : ℕ) (args : List ℕ) → IsSymbol lay.sig lay.copies true r c → AreOf u.terms args (symbol_at lay.sig r).args → IsChangedAll r c args v

  -- the term at t is the same where its argument at i is changed to the term at p, if these are the same
  abbrev pub IsChangedTo : ℕ → ℕ → ℕ → (ℕ → Bool) → Type 0
  IsChangedTo t i p v = v (same_var u lay (slice_index (term_at u.terms t).args i) p) ≡ true →
      v (same_var u lay t (slot u lay (term_at u.terms t).symbol (term_at u.terms t).copy (slice_set (term_at u.terms t).args i p))) ≡ true

  -- where it is changed to a later one
  abbrev pub IsChangedTerm : ℕ → ℕ → (ℕ → Bool) → Type 0
  IsChangedTerm t i v = (p : ℕ) → slice_index (term_at u.terms t).args i < p → IsOf u.terms (slice_index (symbol_at lay.sig (term_at u.terms t).symbol).args i) p → IsChangedTo t i p v

  abbrev pub IsChangedRow : ℕ → (ℕ → Bool) → Type 0
  IsChangedRow t v = (i : ℕ) → i < length (term_at u.terms t).args → IsChangedTerm t i v

  abbrev pub AreChangedTerms : (ℕ → Bool) → Type 0
  AreChangedTerms v = (t : ℕ) → t < length u.terms → IsChangedRow t v
