-- What the clauses of congruence are made of.
use Rattle.std.proofs.Common.{◌≡◌, ℕ, zero, suc, Bool, ◌+◌, ◌<◌, ◌≤◌, ◌⊎◌, inl, inr, List, [], ◌∷◌, length, get_or, refl, sym, ap, ◌∙◌, arith}
use Rattle.std.proofs.Math.ListN.{set}
use Rattle.std.proofs.lemmas.List.Elements.{AllZip-get_or}
use Rattle.fo_core.specs.Tables.{symbol_at}
use Rattle.fo_terms.specs.declared.terms.Ground.{Ground}
use Rattle.fo_terms.specs.declared.terms.Universe.{Universe}
use Rattle.fo_terms.specs.Universe.{IsOf, AreOf, term_at, sort_at, IsSpare, IsApplied, IsUniverse}
use Rattle.fo_ground.specs.declared.grounded.Atom.{Atom}
use Rattle.fo_ground.specs.declared.grounded.Atom.TheVariants.{Same, Fact, Helper}
use Rattle.fo_ground.specs.Axioms.{IsChangedAtom, AreChangedFacts}
use Rattle.fo_ground.specs.Grounds.{IsShaped}
use Rattle.fo_ground.specs.declared.layout.Layout.{Layout}
use Rattle.fo_ground.specs.Layout.{slot, first_of, size_of, IsLaidOut}
use Rattle.fo_ground.proofs.FactLemmas.{sort-lt}
use Rattle.fo_ground.proofs.FromWorld.{AreOf-set}

-- a list with what stands there put there again
pub set-itself : (xs : List ℕ) (i : ℕ) → i < length xs → set xs i (get_or xs i 0) ≡ xs
set-itself [] i lt = refl
set-itself (x ∷ xs) zero lt = refl
set-itself (x ∷ xs) (suc i) lt = ap (λ ys. x ∷ ys) (set-itself xs i (omega arith))

-- a change taken back
pub set-back : (xs : List ℕ) (i p : ℕ) → i < length xs → set (set xs i p) i (get_or xs i 0) ≡ xs
set-back [] i p lt = refl
set-back (x ∷ xs) zero p lt = refl
set-back (x ∷ xs) (suc i) p lt = ap (λ ys. x ∷ ys) (set-back xs i p (omega arith))

pub set-at : (xs : List ℕ) (i p : ℕ) → i < length xs → get_or (set xs i p) i 0 ≡ p
set-at [] i p lt = absurd (omega arith)
set-at (x ∷ xs) zero p lt = refl
set-at (x ∷ xs) (suc i) p lt = set-at xs i p (omega arith)

pub set-length : (xs : List ℕ) (i p : ℕ) → length (set xs i p) ≡ length xs
set-length [] i p = refl
set-length (x ∷ xs) zero p = refl
set-length (x ∷ xs) (suc i) p = ap suc (set-length xs i p)

module _ (u : Universe) (lay : Layout) (r : IsLaidOut u lay) where
  -- a tuple of arguments, with one that is changed to another of its sort
  module _ (args ss : List ℕ) (of : AreOf u.terms args ss) (i : ℕ) (lt : i < length args) where
    pub arg-of : IsOf u.terms (get_or ss i 0) (get_or args i 0)
    arg-of = AllZip-get_or (λ p s. IsOf u.terms s p) args ss i 0 0 of lt

    pub arg-sort : get_or ss i 0 < lay.sig.sorts
    arg-sort = sort-lt u lay r (get_or ss i 0) (get_or args i 0) arg-of

    -- what stands behind the argument in the block of its sort
    pub later-of : (p first size : ℕ) → first ≡ first_of u lay (get_or ss i 0) → size ≡ size_of u lay (get_or ss i 0) → get_or args i 0 + 1 ≤ p → p < first + size → IsOf u.terms (get_or ss i 0) p
    later-of p first size e f ge below =
        let b = (r.blocks (get_or ss i 0) (get_or args i 0) arg-sort).0 arg-of in
        (r.blocks (get_or ss i 0) p arg-sort).1 (omega (arith, b.0), omega arith)

    pub changed-of : (p : ℕ) → IsOf u.terms (get_or ss i 0) p → AreOf u.terms (set args i p) ss
    changed-of p at = AreOf-set u.terms args ss i p of lt at

  module _ (is : IsUniverse lay.sig lay.copies u.terms) (t : ℕ) (below : t < length u.terms) (i : ℕ) (lt : i < length (term_at u.terms t).args) where
    -- what has an argument is an application
    pub applied : IsApplied lay.sig lay.copies u.terms t
    applied = by_kind (is.grounded t below)
      where
        by_kind : IsSpare (term_at u.terms t) ⊎ IsApplied lay.sig lay.copies u.terms t → IsApplied lay.sig lay.copies u.terms t
        by_kind (inl s) = absurd (omega (arith, lt, ap length s.2))
        by_kind (inr a) = a

    -- and so it is with the argument changed
    pub other-of : (p : ℕ) → IsOf u.terms (get_or (symbol_at lay.sig (term_at u.terms t).symbol).args i 0) p →
        IsOf u.terms (sort_at u.terms t) (slot u lay (term_at u.terms t).symbol (term_at u.terms t).copy (set (term_at u.terms t).args i p))
    other-of p at =
        let g = term_at u.terms t in
        let f = r.places g.symbol g.copy (set g.args i p) applied.symbol (changed-of g.args (symbol_at lay.sig g.symbol).args applied.args i lt p at) in
        (f.0, ap (λ (x : Ground). x.sort) f.1 ∙ sym applied.sort)

pub any-default : {A : Type 0} (xs : List A) (k : ℕ) (d e : A) → k < length xs → get_or xs k d ≡ get_or xs k e
any-default [] k d e lt = absurd (omega arith)
any-default (x ∷ xs) zero d e lt = refl
any-default (x ∷ xs) (suc k) d e lt = any-default xs k d e (omega arith)

module _ (u : Universe) (lay : Layout) where
  -- what is shaped well is changed as all facts are
  pub changed-shaped : (a : Atom) (v : ℕ → Bool) → IsShaped lay.sig lay.copies u a → AreChangedFacts u lay v → IsChangedAtom u lay a v
  changed-shaped (Fact r c args) v s h = h r c args s.0 s.1
  changed-shaped (Same p q) v s h = tt
  changed-shaped Helper v s h = tt
