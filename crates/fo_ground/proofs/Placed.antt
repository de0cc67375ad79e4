-- Instantiating a well-sorted term gives a ground term of its sort.
use Rattle.std.proofs.Common.{ℕ, ◌<◌, List, [], ◌∷◌, length, get_or, map, subst, arith}
use Rattle.std.specs.List.{AllZip}
use Rattle.std.proofs.lemmas.List.Elements.{AllZip-get_or, length_all_zip}
use Rattle.fo_core.specs.declared.signature.Sig.{Sig}
use Rattle.fo_core.specs.declared.term.Term.{Term, Var, App', Row_of-Term, end_of-Term, more_of-Term}
use Rattle.fo_core.specs.Tables.{symbol_at}
use Rattle.fo_terms.specs.declared.terms.Ground.{Ground}
use Rattle.fo_terms.specs.Universe.{IsOf, AreOf}
use Rattle.fo_ground.specs.Instances.{place_of, places_of}
use Rattle.fo_ground.specs.Classes.{IsClosed}
use Rattle.fo_core.specs.Sorted.{IsTerm, AreTerms}
use Rattle.fo_ground.specs.Instances.{place_of, places_of}

module _ (ts : List Ground) (at : ℕ → ℕ → List ℕ → ℕ) (sig : Sig) (copies : ℕ) (closed : IsClosed ts at sig copies) where
  mutual
    pub place_of-is : (t : Term) (env ss : List ℕ) (s : ℕ) → AreOf ts env ss → IsTerm sig copies t ss s → IsOf ts s (place_of ts at t env)
    place_of-is (Var i) env ss s h is =
        let lt : i < length env = omega (arith, is.0, length_all_zip (λ p s. IsOf ts s p) env ss h) in
        subst (λ s. IsOf ts s (get_or env i 0)) is.1 (AllZip-get_or (λ p s. IsOf ts s p) env ss i 0 0 h lt)
    place_of-is (App' f d _ args) env ss s h is =
        subst (λ s. IsOf ts s (at f d (places_of ts at args env))) is.1 (closed f d (places_of ts at args env) is.0 (places_of-are args env ss (symbol_at sig f).args h is.2))

    pub places_of-are : {n : _} (row : Row_of-Term n) (env ss rs : List ℕ) → AreOf ts env ss → AreTerms sig copies row ss rs → AreOf ts (places_of ts at row env) rs
    places_of-are end_of-Term env ss [] h is = tt
    places_of-are end_of-Term env ss (s ∷ rs) h is = absurd is
    places_of-are (more_of-Term t rest) env ss [] h is = absurd is
    places_of-are (more_of-Term t rest) env ss (s ∷ rs) h is = (place_of-is t env ss s h is.0, places_of-are rest env ss rs h is.1)

  pub list_of-are : (xs : List Term) (env ss rs : List ℕ) → AreOf ts env ss → AllZip (λ t s. IsTerm sig copies t ss s) xs rs → AreOf ts (map (λ t. place_of ts at t env) xs) rs
  list_of-are [] env ss [] h is = tt
  list_of-are [] env ss (s ∷ rs) h is = absurd is
  list_of-are (t ∷ xs) env ss [] h is = absurd is
  list_of-are (t ∷ xs) env ss (s ∷ rs) h is = (place_of-is t env ss s h is.0, list_of-are xs env ss rs h is.1)
