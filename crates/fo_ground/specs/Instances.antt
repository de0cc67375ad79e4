-- Ground instances of formulas, and when truth values of the atoms meet them.
use Rattle.std.specs.Prelude.{◌≡◌, ℕ, ◌<◌, ◌⊎◌, Bool, true, false, List, [], ◌∷◌, ◌++◌, map, length, slice_index, slice_set, ⊤}
use Rattle.std.specs.List.{All}
use Rattle.fo_core.specs.declared.signature.Sig.{Sig}
use Rattle.fo_core.specs.declared.term.Term.{Term, Var, App', Row_of-Term, end_of-Term, more_of-Term}
use Rattle.fo_core.specs.declared.formula.Formula.{Formula, True, False, Rel, Eq, Not', And', Or', All', Ex', Row_of-Formula, end_of-Formula, more_of-Formula}
use Rattle.fo_core.specs.Tables.{symbol_at}
use Rattle.fo_core.specs.Sorted.{IsSymbol}
use Rattle.fo_terms.specs.declared.terms.Ground.{Ground}
use Rattle.fo_terms.specs.Universe.{IsOf, AreOf}

module _ (ts : List Ground) (at : ℕ → ℕ → List ℕ → ℕ) where
  abbrev mutual
    -- the ground instance of a term, by its place, under a substitution of ground terms, by their places, for the variables
    pub place_of : Term → List ℕ → ℕ
    place_of (Var i) env = slice_index env i
    place_of (App' f d _ args) env = at f d (places_of args env)

    pub places_of : {n : _} → Row_of-Term n → List ℕ → List ℕ
    places_of end_of-Term env = []
    places_of (more_of-Term t rest) env = place_of t env ∷ places_of rest env

  module _ (same : ℕ → ℕ → Bool) (fact : ℕ → ℕ → List ℕ → Bool) where
    abbrev mutual
      -- the ground instance of the formula is met, where quantifiers range over the ground terms of their sort
      pub IsMet : Formula → List ℕ → Type 0
      IsMet True env = ⊤
      IsMet False env = ⊥
      IsMet (Rel r d args) env = fact r d (map (λ t. place_of t env) args) ≡ true
      IsMet (Eq a b) env = same (place_of a env) (place_of b env) ≡ true
      IsMet (Not' _ (more_of-Formula f _)) env = ¬ IsMet f env
      IsMet (And' _ fs) env = EachMet fs env
      IsMet (Or' _ fs) env = SomeMet fs env
      IsMet (All' s _ (more_of-Formula f _)) env = (p : ℕ) → IsOf ts s p → IsMet f (env ++ p ∷ [])
      IsMet (Ex' s _ (more_of-Formula f _)) env = (p : ℕ) × IsOf ts s p × IsMet f (env ++ p ∷ [])

      pub EachMet : {n : _} → Row_of-Formula n → List ℕ → Type 0
      EachMet end_of-Formula env = ⊤
      EachMet (more_of-Formula f rest) env = IsMet f env × EachMet rest env

      pub SomeMet : {n : _} → Row_of-Formula n → List ℕ → Type 0
      SomeMet end_of-Formula env = ⊥
      SomeMet (more_of-Formula f rest) env = IsMet f env ⊎ SomeMet rest env

    -- the equations are an equivalence that functions and relations respect in each copy, one argument at a time
    pub record IsEquality (sig : Sig) (copies : ℕ) : Type 0 where
      pub reflexive : (s p : ℕ) → IsOf ts s p → same p p ≡ true
      pub symmetric : (s p q : ℕ) → IsOf ts s p → IsOf ts s q → same p q ≡ true → same q p ≡ true
      pub transitive : (s p q r : ℕ) → IsOf ts s p → IsOf ts s q → IsOf ts s r → same p q ≡ true → same q r ≡ true → same p r ≡ true
      pub functions : (f c : ℕ) (args : List ℕ) (i p : ℕ) → IsSymbol sig copies false f c → AreOf ts args (symbol_at sig f).args → i < length args → IsOf ts (slice_index (symbol_at sig f).args i) p →
          same (slice_index args i) p ≡ true → same (at f c args) (at f c (slice_set args i p)) ≡ true
      pub relations : (r c : ℕ) (args : List ℕ) (i p : ℕ) → IsSymbol sig copies true r c → AreOf ts args (symbol_at sig r).args → i < length args → IsOf ts (slice_index (symbol_at sig r).args i) p →
          same (slice_index args i) p ≡ true → fact r c args ≡ true → fact r c (slice_set args i p) ≡ true

    -- the axioms of equality and all ground instances of the claims are met
    pub record AreMet (sig : Sig) (copies : ℕ) (claims : List Formula) : Type 0 where
      pub equality : IsEquality sig copies
      pub instances : All (λ f. IsMet f []) claims
