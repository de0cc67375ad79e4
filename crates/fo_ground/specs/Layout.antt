-- Where ground terms and the variables of atoms lie.
use Rattle.std.specs.Prelude.{◌≡◌, ◌↔◌, ℕ, ◌+◌, ◌-◌, ◌<◌, ◌≤◌, ◌*◌, min, max, Bool, true, false, List, map, length, slice_index}
use Rattle.std.specs.List.{AllZip}
use Rattle.fo_core.specs.declared.term.Term.{Term}
use Rattle.fo_core.specs.declared.formula.Formula.{Formula, Not', more_of-Formula}
use Rattle.fo_core.specs.Tables.{symbol_at, tuples, place}
use Rattle.fo_core.specs.Sorted.{IsSymbol, IsTerm, IsFormula}
use Rattle.fo_norm.specs.Forms.{IsAtom}
use Rattle.fo_terms.specs.declared.terms.Universe.{Universe}
use Rattle.fo_terms.specs.Arranged.{offsets}
use Rattle.fo_terms.specs.Universe.{IsU32, IsOf, AreOf, sort_at, IsTermOf}
use Rattle.prop_core.specs.declared.lit.Lit.{Lit}
use Rattle.fo_ground.specs.declared.layout.Layout.{Layout}
use Rattle.fo_ground.specs.Instances.{IsMet, IsEquality}

-- a literal: an atom, or the negation of one
abbrev pub IsLiteral : Formula → Type 0
IsLiteral (Not' _ (more_of-Formula f _)) = IsAtom f
IsLiteral f = IsAtom f

module _ (u : Universe) (lay : Layout) where
  -- the place of a sort's first term
  abbrev pub first_of : ℕ → ℕ
  first_of s = slice_index u.firsts s

  -- how many terms a sort has
  abbrev pub size_of : ℕ → ℕ
  size_of s = slice_index lay.sizes s

  -- how far these places lie after the first places of their sorts
  abbrev pub locals : List ℕ → List ℕ → List ℕ
  locals = offsets u.firsts

  -- the variable that says whether the terms at two places have one value
  abbrev pub same_var : ℕ → ℕ → ℕ
  same_var p q = slice_index lay.same (min p q) + (max p q - min p q)

  -- where what belongs to a symbol in a copy for these arguments lies: a relation's variable, or the
  -- ground term of a function
  abbrev pub slot : ℕ → ℕ → List ℕ → ℕ
  slot k c ps =
      let ss = (symbol_at lay.sig k).args in
      let ns = map size_of ss in
      slice_index lay.starts k + (c * tuples ns + place ns (locals ss ps))

  -- what values of the variables say of the atoms
  abbrev pub same_by : (ℕ → Bool) → ℕ → ℕ → Bool
  same_by v p q = v (same_var p q)

  abbrev pub fact_by : (ℕ → Bool) → ℕ → ℕ → List ℕ → Bool
  fact_by v r c ps = v (slot r c ps)

  -- under these values the axioms of equality hold
  abbrev pub IsEqualityBy : (ℕ → Bool) → Type 0
  IsEqualityBy v = IsEquality u.terms slot (same_by v) (fact_by v) lay.sig lay.copies

  -- these values meet the instance of a formula
  abbrev pub IsMetBy : Formula → List ℕ → (ℕ → Bool) → Type 0
  IsMetBy f env v = IsMet u.terms slot (same_by v) (fact_by v) f env

  -- terms of the sorts of a symbol's arguments
  abbrev pub AreArgs : ℕ → List ℕ → Type 0
  AreArgs k ps = AreOf u.terms ps (symbol_at lay.sig k).args

  -- at the place stands a term of the sort, by the layout's count
  abbrev pub IsInBlock : ℕ → ℕ → Type 0
  IsInBlock s p = (first_of s ≤ p) × (p < first_of s + size_of s)

  -- terms and variables lie where the layout says, and their numbers have 32 bits
  pub record IsLaidOut : Type 0 where
    pub places : (f c : ℕ) (args : List ℕ) → IsSymbol lay.sig lay.copies false f c → AreArgs f args →
        IsTermOf lay.sig lay.copies u.terms f c args (slot f c args)
    pub sorts : (p : ℕ) → p < length u.terms → sort_at u.terms p < lay.sig.sorts
    pub few_terms : IsU32 (length u.terms)
    pub firsts : length u.firsts ≡ lay.sig.sorts
    pub sizes : length lay.sizes ≡ lay.sig.sorts
    pub blocks : (s p : ℕ) → s < lay.sig.sorts → IsOf u.terms s p ↔ IsInBlock s p
    pub ends : (s : ℕ) → s < lay.sig.sorts → first_of s + size_of s ≤ length u.terms
    pub rows : length lay.same ≡ length u.terms
    pub starts : length lay.starts ≡ length lay.sig.symbols
    pub same : (s p q : ℕ) → IsOf u.terms s p → IsOf u.terms s q → same_var p q < lay.base
    pub slots : (r : Bool) (k c : ℕ) (ps : List ℕ) → IsSymbol lay.sig lay.copies r k c → AreArgs k ps →
        IsU32 (slot k c ps)
    pub facts : (r c : ℕ) (ps : List ℕ) → IsSymbol lay.sig lay.copies true r c → AreArgs r ps →
        slot r c ps < lay.base
    pub few : IsU32 lay.base

  -- a well-sorted term under a well-sorted substitution
  pub record HasPlace (env : List ℕ) (t : Term) : Type 0 where
    pub sorts : List ℕ
    pub places : AreOf u.terms env sorts
    pub sort : ℕ
    pub sorted : IsTerm lay.sig lay.copies t sorts sort

  -- terms of these sorts
  pub record HavePlaces (env : List ℕ) (ts : List Term) (rs : List ℕ) : Type 0 where
    pub sorts : List ℕ
    pub places : AreOf u.terms env sorts
    pub sorted : AllZip (λ t s. IsTerm lay.sig lay.copies t sorts s) ts rs

  -- a well-sorted formula under a well-sorted substitution
  pub record HasInstance (env : List ℕ) (f : Formula) : Type 0 where
    pub sorts : List ℕ
    pub places : AreOf u.terms env sorts
    pub sorted : IsFormula lay.sig lay.copies f sorts

  -- the variable stands for the instance of an atom
  pub record IsVariableOf (f : Formula) (env : List ℕ) (x : ℕ) : Type 0 where
    pub within : x < lay.base
    pub means : (v : ℕ → Bool) → (v x ≡ true) ↔ IsMetBy f env v

  -- the literal stands for the instance of a literal
  pub record IsLiteralOf (f : Formula) (env : List ℕ) (l : Lit) : Type 0 where
    pub within : l.var < lay.base
    pub means : (v : ℕ → Bool) → (v l.var ≡ l.positive) ↔ IsMetBy f env v
