-- Truth under a naming is being met by the atoms, by induction on formulas in negation normal form.
use Rattle.std.proofs.Common.{◌≡◌, ◌↔◌, ℕ, Bool, ◌<◌, ◌⊎◌, inl, inr, List, [], ◌∷◌, ◌++◌, length, map, refl, sym, ap, subst, ◌∙◌, arith}
use Rattle.std.specs.List.{AllZip}
use Rattle.std.proofs.lemmas.List.{map-append, get_or-map}
use Rattle.std.proofs.lemmas.List.Elements.{AllZip-push, length_all_zip}
use Rattle.fo_core.specs.declared.signature.Sig.{Sig}
use Rattle.fo_core.specs.declared.term.Term.{Term, Var, App', Row_of-Term, end_of-Term, more_of-Term}
use Rattle.fo_core.specs.declared.formula.Formula.{Formula, True, False, Rel, Eq, Not', And', Or', All', Ex', Row_of-Formula, end_of-Formula, more_of-Formula}
use Rattle.fo_core.specs.Tables.{symbol_at}
use Rattle.fo_core.specs.Truth.{value_in, values_in, TruthIn, EachTrueIn, SomeTrueIn}
use Rattle.fo_core.specs.Sorted.{IsTerm, AreTerms, IsFormula, AreFormulas}
use Rattle.fo_terms.specs.declared.terms.Ground.{Ground}
use Rattle.fo_terms.specs.Universe.{IsOf, AreOf}
use Rattle.fo_norm.specs.Forms.{IsAtom, IsNormal, AreNormal}
use Rattle.fo_ground.specs.Instances.{place_of, places_of, IsMet, EachMet, SomeMet}
use Rattle.fo_ground.specs.Classes.{IsNaming, IsClosed, IsNamed}
use Rattle.fo_ground.proofs.Placed.{place_of-is, places_of-are, list_of-are}

-- truth implies being met; the converse wants every element to be named
pub record Follows (named : Type 0) (T M : Type 0) : Type 0 where
  pub there : T → M
  pub back : named → M → T

follows_and : {N S T P Q : Type 0} → Follows N S P → Follows N T Q → Follows N (S × T) (P × Q)
follows_and h k = record { there = λ e. (h.there e.0, k.there e.1); back = λ n e. (h.back n e.0, k.back n e.1) }

either_way : {P Q R S : Type 0} → (P → Q) → (R → S) → P ⊎ R → Q ⊎ S
either_way h k (inl p) = inl (h p)
either_way h k (inr p) = inr (k p)

follows_or : {N S T P Q : Type 0} → Follows N S P → Follows N T Q → Follows N (S ⊎ T) (P ⊎ Q)
follows_or h k = record { there = either_way h.there k.there; back = λ n. either_way (h.back n) (k.back n) }

module _ (ts : List Ground) (at : ℕ → ℕ → List ℕ → ℕ) (same : ℕ → ℕ → Bool) (fact : ℕ → ℕ → List ℕ → Bool) (sig : Sig) (copies : ℕ) (sizes : List ℕ) (reads : ℕ → ℕ → List ℕ → ℕ) (m : ℕ → ℕ)
    (closed : IsClosed ts at sig copies) (naming : IsNaming ts at same fact sig copies sizes reads m) where
  mutual
    -- evaluating a term gives the name of its ground instance
    pub value-named : (t : Term) (env ss : List ℕ) (s : ℕ) → AreOf ts env ss → IsTerm sig copies t ss s → value_in reads t (map m env) ≡ m (place_of ts at t env)
    value-named (Var i) env ss s h is =
        let lt : i < length env = omega (arith, is.0, length_all_zip (λ p s. IsOf ts s p) env ss h) in get_or-map m env i 0 0 lt
    value-named (App' f d _ args) env ss s h is =
        ap (reads d f) (values-named args env ss (symbol_at sig f).args h is.2)
        ∙ naming.applied f d (places_of ts at args env) is.0 (places_of-are ts at sig copies closed args env ss (symbol_at sig f).args h is.2)

    pub values-named : {n : _} (row : Row_of-Term n) (env ss rs : List ℕ) → AreOf ts env ss → AreTerms sig copies row ss rs → values_in reads row (map m env) ≡ map m (places_of ts at row env)
    values-named end_of-Term env ss [] h is = refl
    values-named end_of-Term env ss (s ∷ rs) h is = absurd is
    values-named (more_of-Term t rest) env ss [] h is = absurd is
    values-named (more_of-Term t rest) env ss (s ∷ rs) h is =
        ap (λ y. y ∷ values_in reads rest (map m env)) (value-named t env ss s h is.0) ∙ ap (λ ys. m (place_of ts at t env) ∷ ys) (values-named rest env ss rs h is.1)

  pub list-named : (xs : List Term) (env ss rs : List ℕ) → AreOf ts env ss → AllZip (λ t s. IsTerm sig copies t ss s) xs rs → map (λ t. value_in reads t (map m env)) xs ≡ map m (map (λ t. place_of ts at t env) xs)
  list-named [] env ss [] h is = refl
  list-named [] env ss (s ∷ rs) h is = absurd is
  list-named (t ∷ xs) env ss [] h is = absurd is
  list-named (t ∷ xs) env ss (s ∷ rs) h is =
      ap (λ y. y ∷ map (λ t. value_in reads t (map m env)) xs) (value-named t env ss s h is.0) ∙ ap (λ ys. m (place_of ts at t env) ∷ ys) (list-named xs env ss rs h is.1)

  -- for atoms both directions hold without that
  pub atom-named : (f : Formula) (env ss : List ℕ) → IsAtom f → AreOf ts env ss → IsFormula sig copies f ss → TruthIn sizes reads f (map m env) ↔ IsMet ts at same fact f env
  atom-named (Rel r d args) env ss a h is =
      let places = map (λ t. place_of ts at t env) args in
      let same_entry : reads d r (map (λ t. value_in reads t (map m env)) args) ≡ reads d r (map m places) = ap (reads d r) (list-named args env ss (symbol_at sig r).args h is.1) in
      let both = naming.facts r d places is.0 (list_of-are ts at sig copies closed args env ss (symbol_at sig r).args h is.1) in
      (λ e. both.1 (sym same_entry ∙ e), λ e. same_entry ∙ both.0 e)
  atom-named (Eq a b) env ss _ h is =
      let left = value-named a env ss is.0 h is.1 in
      let right = value-named b env ss is.0 h is.2 in
      let both = naming.equal is.0 (place_of ts at a env) (place_of ts at b env) (place_of-is ts at sig copies closed a env ss is.0 h is.1) (place_of-is ts at sig copies closed b env ss is.0 h is.2) in
      (λ e. both.1 (sym left ∙ e ∙ right), λ e. left ∙ both.0 e ∙ sym right)
  atom-named True env ss a h is = absurd a
  atom-named False env ss a h is = absurd a
  atom-named (Not' _ _) env ss a h is = absurd a
  atom-named (And' _ _) env ss a h is = absurd a
  atom-named (Or' _ _) env ss a h is = absurd a
  atom-named (All' _ _ _) env ss a h is = absurd a
  atom-named (Ex' _ _ _) env ss a h is = absurd a

  pushed : (s p : ℕ) (f : Formula) (env : List ℕ) → TruthIn sizes reads f (map m (env ++ p ∷ [])) ≡ TruthIn sizes reads f (map m env ++ m p ∷ [])
  pushed s p f env = ap (TruthIn sizes reads f) (map-append m env (p ∷ []))

  mutual
    pub truth-named : (f : Formula) (env ss : List ℕ) → IsNormal f → AreOf ts env ss → IsFormula sig copies f ss → Follows (IsNamed ts sig sizes m) (TruthIn sizes reads f (map m env)) (IsMet ts at same fact f env)
    truth-named True env ss n h is = record { there = λ e. e; back = λ _ e. e }
    truth-named False env ss n h is = record { there = λ e. e; back = λ _ e. e }
    truth-named (Rel r d args) env ss n h is = let both = atom-named (Rel r d args) env ss tt h is in record { there = both.0; back = λ _. both.1 }
    truth-named (Eq a b) env ss n h is = let both = atom-named (Eq a b) env ss tt h is in record { there = both.0; back = λ _. both.1 }
    truth-named (Not' _ (more_of-Formula f _)) env ss n h is =
        let both = atom-named f env ss n h is in record { there = λ e t. e (both.1 t); back = λ _ e t. e (both.0 t) }
    truth-named (And' _ fs) env ss n h is = each-named fs env ss n h is
    truth-named (Or' _ fs) env ss n h is = some-named fs env ss n h is
    truth-named (All' s _ (more_of-Formula f _)) env ss n h is = record {
      there = λ e p of.
          (truth-named f (env ++ p ∷ []) (ss ++ s ∷ []) n (AllZip-push (λ p s. IsOf ts s p) env ss p s h of) is.1).there (subst (λ (A : Type 0). A) (sym (pushed s p f env)) (e (m p) (naming.within s p of)));
      back = λ named e x lt.
          let found = named s x is.0 lt in
          let p = found.0 in
          subst (λ x. TruthIn sizes reads f (map m env ++ x ∷ [])) found.2
          (subst (λ (A : Type 0). A) (pushed s p f env) ((truth-named f (env ++ p ∷ []) (ss ++ s ∷ []) n (AllZip-push (λ p s. IsOf ts s p) env ss p s h found.1) is.1).back named (e p found.1)));
    }
    truth-named (Ex' s _ (more_of-Formula f _)) env ss n h is = absurd n

    pub each-named : {k : _} (row : Row_of-Formula k) (env ss : List ℕ) → AreNormal row → AreOf ts env ss → AreFormulas sig copies row ss → Follows (IsNamed ts sig sizes m) (EachTrueIn sizes reads row (map m env)) (EachMet ts at same fact row env)
    each-named end_of-Formula env ss n h is = record { there = λ e. e; back = λ _ e. e }
    each-named (more_of-Formula f rest) env ss n h is = follows_and (truth-named f env ss n.0 h is.0) (each-named rest env ss n.1 h is.1)

    pub some-named : {k : _} (row : Row_of-Formula k) (env ss : List ℕ) → AreNormal row → AreOf ts env ss → AreFormulas sig copies row ss → Follows (IsNamed ts sig sizes m) (SomeTrueIn sizes reads row (map m env)) (SomeMet ts at same fact row env)
    some-named end_of-Formula env ss n h is = record { there = λ e. e; back = λ _ e. e }
    some-named (more_of-Formula f rest) env ss n h is = follows_or (truth-named f env ss n.0 h is.0) (some-named rest env ss n.1 h is.1)
