-- The pieces of the axioms say that being the same is an equality which functions and relations respect.
use Rattle.std.proofs.Common.{◌≡◌, ℕ, Bool, true, false, ◌<◌, ◌≤◌, ◌⊎◌, inl, inr, List, length, get_or, refl, sym, ap, subst, ◌∙◌, arith}
use Rattle.std.proofs.Math.ListN.{set}
use Rattle.std.proofs.lemmas.Bool.{cases_lt}
use Rattle.fo_core.specs.Tables.{symbol_at}
use Rattle.fo_core.specs.Sorted.{IsSymbol}
use Rattle.fo_terms.specs.declared.terms.Ground.{Ground}
use Rattle.fo_terms.specs.declared.terms.Universe.{Universe}
use Rattle.fo_terms.specs.Universe.{IsOf, AreOf, term_at, sort_at, IsApplied, IsUniverse}
use Rattle.fo_ground.specs.declared.layout.Layout.{Layout}
use Rattle.fo_ground.specs.Axioms.{AreAlike, AreChangedFacts, AreChangedTerms}
use Rattle.fo_ground.specs.Instances.{IsEquality}
use Rattle.fo_ground.specs.Layout.{slot, same_var, same_by, fact_by, IsLaidOut}
use Rattle.fo_ground.proofs.CongruenceLemmas.{set-itself, set-back, set-at, set-length, arg-of, changed-of, applied}
use Rattle.fo_ground.proofs.FactLemmas.{same_var-sym}

-- one order of two numbers or the other
orders : (a b : ℕ) → (a < b) ⊎ ((a ≡ b) ⊎ (b < a))
orders a b = by_case (cases_lt a b)
  where
    by_case : (a < b) ⊎ (b ≤ a) → (a < b) ⊎ ((a ≡ b) ⊎ (b < a))
    by_case (inl lt) = inl lt
    by_case (inr le) = by_case' (cases_lt b a)
      where
        by_case' : (b < a) ⊎ (a ≤ b) → (a < b) ⊎ ((a ≡ b) ⊎ (b < a))
        by_case' (inl lt) = inr (inr lt)
        by_case' (inr ge) = inr (inl (omega arith))

module _ (u : Universe) (lay : Layout) (r : IsLaidOut u lay) (v : ℕ → Bool) where
  abbrev ts : List Ground
  ts = u.terms

  abbrev at : ℕ → ℕ → List ℕ → ℕ
  at = slot u lay

  abbrev Same : ℕ → ℕ → Type 0
  Same p q = v (same_var u lay p q) ≡ true

  turned : (p q : ℕ) → v (same_var u lay p q) ≡ true → v (same_var u lay q p) ≡ true
  turned p q t = subst (λ x. v x ≡ true) (same_var-sym u lay p q) t

  module _ (alike : AreAlike u lay v) where
    transitive : (s p q r : ℕ) → IsOf u.terms s p → IsOf u.terms s q → IsOf u.terms s r → v (same_var u lay p q) ≡ true → v (same_var u lay q r) ≡ true → v (same_var u lay p r) ≡ true
    transitive s p q r a b c t t' = by_order (orders p r)
      where
        by_order : (p < r) ⊎ ((p ≡ r) ⊎ (r < p)) → v (same_var u lay p r) ≡ true
        by_order (inl lt) = (alike p a.0).later r lt (c.0, c.1 ∙ sym a.1) q (b.0, b.1 ∙ sym a.1) t t'
        by_order (inr (inl e)) = subst (λ x. v (same_var u lay p x) ≡ true) e (alike p a.0).itself
        by_order (inr (inr lt)) = turned r p ((alike r c.0).later p lt (a.0, a.1 ∙ sym c.1) q (b.0, b.1 ∙ sym c.1) (turned q r t') (turned p q t))

    module _ (terms : AreChangedTerms u lay v) where
      -- where an argument is changed to a later one
      forward : (f c : ℕ) (args : List ℕ) (i p : ℕ) → IsSymbol lay.sig lay.copies false f c → AreOf u.terms args (symbol_at lay.sig f).args → i < length args → IsOf u.terms (get_or (symbol_at lay.sig f).args i 0) p →
          get_or args i 0 < p → v (same_var u lay (get_or args i 0) p) ≡ true → v (same_var u lay (slot u lay f c args) (slot u lay f c (set args i p))) ≡ true
      forward f c args i p is of lt atp less t =
          let place = r.places f c args is of in
          (subst (λ (g : Ground). (i p : ℕ) → i < length g.args → get_or g.args i 0 < p → IsOf u.terms (get_or (symbol_at lay.sig g.symbol).args i 0) p → v (same_var u lay (get_or g.args i 0) p) ≡ true →
          v (same_var u lay (slot u lay f c args) (slot u lay g.symbol g.copy (set g.args i p))) ≡ true)
          place.1 (λ i p lt less of t. terms (slot u lay f c args) place.0 i lt p less of t)) i p lt less atp t

      functions : (f c : ℕ) (args : List ℕ) (i p : ℕ) → IsSymbol lay.sig lay.copies false f c → AreOf u.terms args (symbol_at lay.sig f).args → i < length args → IsOf u.terms (get_or (symbol_at lay.sig f).args i 0) p →
          v (same_var u lay (get_or args i 0) p) ≡ true → v (same_var u lay (slot u lay f c args) (slot u lay f c (set args i p))) ≡ true
      functions f c args i p is of lt atp t = by_order (orders (get_or args i 0) p)
        where
          changed : AreOf u.terms (set args i p) (symbol_at lay.sig f).args
          changed = changed-of u lay r args (symbol_at lay.sig f).args of i lt p atp

          by_order : (get_or args i 0 < p) ⊎ ((get_or args i 0 ≡ p) ⊎ (p < get_or args i 0)) → v (same_var u lay (slot u lay f c args) (slot u lay f c (set args i p))) ≡ true
          by_order (inl less) = forward f c args i p is of lt atp less t
          by_order (inr (inl e)) =
              let same : args ≡ set args i p = sym (set-itself args i lt) ∙ ap (set args i) e in
              subst (λ xs. v (same_var u lay (slot u lay f c args) (slot u lay f c xs)) ≡ true) same (alike (slot u lay f c args) (r.places f c args is of).0).itself
          by_order (inr (inr more)) =
              let q = get_or args i 0 in
              let now : get_or (set args i p) i 0 ≡ p = set-at args i p lt in
              let in_ : i < length (set args i p) = subst (λ n. i < n) (sym (set-length args i p)) lt in
              let own = arg-of u lay r args (symbol_at lay.sig f).args of i lt in
              let back = forward f c (set args i p) i q is changed in_ own (subst (λ x. x < q) (sym now) more) (subst (λ x. v (same_var u lay x q) ≡ true) (sym now) (turned q p t)) in
              turned (slot u lay f c (set args i p)) (slot u lay f c args) (subst (λ xs. v (same_var u lay (slot u lay f c (set args i p)) (slot u lay f c xs)) ≡ true) (set-back args i p lt) back)

      pub equality-from : AreChangedFacts u lay v → IsEquality u.terms (slot u lay) (same_by u lay v) (fact_by u lay v) lay.sig lay.copies
      equality-from facts = record {
        reflexive = λ s p a. (alike p a.0).itself;
        symmetric = λ s p q a b t. turned p q t;
        transitive = transitive;
        functions = functions;
        relations = λ k c args i p is of lt atp t h. facts k c args is of i lt p atp t h;
      }

  module _ (is : IsUniverse lay.sig lay.copies u.terms) (e : IsEquality u.terms (slot u lay) (same_by u lay v) (fact_by u lay v) lay.sig lay.copies) where
    pub alike-of : AreAlike u lay v
    alike-of p lt = record {
      itself = e.reflexive (sort_at u.terms p) p (lt, refl);
      later = λ r less of q b t t'. e.transitive (sort_at u.terms p) p q r (lt, refl) b of t t';
    }

    pub facts-of : AreChangedFacts u lay v
    facts-of k c args s of i lt p atp t h = e.relations k c args i p s of lt atp t h

    -- an application stands at its place
    place-of : (t : ℕ) → t < length u.terms → (a : IsApplied lay.sig lay.copies u.terms t) → slot u lay (term_at u.terms t).symbol (term_at u.terms t).copy (term_at u.terms t).args ≡ t
    place-of t lt a =
        let g = term_at u.terms t in
        let p = r.places g.symbol g.copy g.args a.symbol a.args in
        let whole : term_at u.terms t ≡ record { symbol = g.symbol; copy = g.copy; args = g.args; sort = (symbol_at lay.sig g.symbol).result } = ap (λ (s : ℕ). record { symbol = g.symbol; copy = g.copy; args = g.args; sort = s }) a.sort in
        is.once (slot u lay g.symbol g.copy g.args) t p.0 lt (p.1 ∙ sym whole)

    pub terms-of : AreChangedTerms u lay v
    terms-of t lt i ilt p less atp h =
        let a = applied u lay r is t lt i ilt in
        let g = term_at u.terms t in
        subst (λ x. v (same_var u lay x (slot u lay g.symbol g.copy (set g.args i p))) ≡ true) (place-of t lt a) (e.functions g.symbol g.copy g.args i p a.symbol a.args ilt atp h)
