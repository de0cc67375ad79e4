-- The clauses of equality, functions and relations together say that the axioms of equality hold.
use Rattle.std.proofs.Common.{ℕ, List, []}
use Rattle.prop_core.specs.declared.lit.Lit.{Lit}
use Rattle.fo_terms.specs.declared.terms.Universe.{Universe}
use Rattle.fo_terms.specs.Universe.{IsUniverse}
use Rattle.fo_ground.specs.declared.layout.Layout.{Layout}
use Rattle.fo_ground.specs.Axioms.{AreAlike, AreChangedFacts, AreChangedTerms}
use Rattle.fo_ground.specs.Emits.{Adds}
use Rattle.fo_ground.specs.Layout.{IsEqualityBy, IsLaidOut}
use Rattle.fo_ground.proofs.AxiomLemmas.{none-within}
use Rattle.fo_ground.proofs.Emitting.{adds_and, adds_same}
use Rattle.fo_ground.proofs.EqualityLemmas.{equality-from, alike-of, facts-of, terms-of}

module _ (u : Universe) (lay : Layout) (r : IsLaidOut u lay) (is : IsUniverse lay.sig lay.copies u.terms) where
  pub axioms-said : (n : ℕ) (K : List (List Lit)) (n1 : ℕ) (K1 : List (List Lit)) (n2 : ℕ) (K2 : List (List Lit)) (n3 : ℕ) (K3 : List (List Lit)) →
      Adds lay.base [] (AreAlike u lay) n K n1 K1 → Adds lay.base [] (AreChangedTerms u lay) n1 K1 n2 K2 → Adds lay.base [] (AreChangedFacts u lay) n2 K2 n3 K3 → Adds lay.base [] (IsEqualityBy u lay) n K n3 K3
  axioms-said n K n1 K1 n2 K2 n3 K3 alike terms facts =
      adds_same lay.base [] (λ v. (AreAlike u lay v × AreChangedTerms u lay v) × AreChangedFacts u lay v) (IsEqualityBy u lay) n K n3 K3
      (λ v h. equality-from u lay r v h.0.0 h.0.1 h.1)
      (λ v e. ((alike-of u lay r v is e, terms-of u lay r v is e), facts-of u lay r v is e))
      (adds_and lay.base [] (λ v. AreAlike u lay v × AreChangedTerms u lay v) (AreChangedFacts u lay) n K n2 K2 n3 K3 (none-within n)
      (adds_and lay.base [] (AreAlike u lay) (AreChangedTerms u lay) n K n1 K1 n2 K2 (none-within n) alike terms) facts)
