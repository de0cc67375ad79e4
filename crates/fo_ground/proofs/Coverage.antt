-- Congruence of functions, said of each ground term, is congruence of functions.
use Rattle.std.proofs.Common.{◌≡◌, ℕ, Bool, true, false, ◌<◌, List, length, subst}
use Rattle.std.specs.Prelude.{slice_index, slice_set}
use Rattle.fo_core.specs.declared.signature.Sig.{Sig}
use Rattle.fo_core.specs.Tables.{symbol_at}
use Rattle.fo_core.specs.Sorted.{IsSymbol}
use Rattle.fo_terms.specs.declared.terms.Ground.{Ground}
use Rattle.fo_terms.specs.Universe.{IsOf, AreOf, term_at, IsTermOf}

-- the ground term at p stays the same if one argument is replaced by an equal one
abbrev pub PlaceCongruent : List Ground → (ℕ → ℕ → List ℕ → ℕ) → (ℕ → ℕ → Bool) → Sig → ℕ → Type 0
PlaceCongruent ts at same sig p = (i q : ℕ) → i < length (term_at ts p).args → IsOf ts (slice_index (symbol_at sig (term_at ts p).symbol).args i) q → same (slice_index (term_at ts p).args i) q ≡ true →
    same p (at (term_at ts p).symbol (term_at ts p).copy (slice_set (term_at ts p).args i q)) ≡ true

pub functions_covered : (ts : List Ground) (at : ℕ → ℕ → List ℕ → ℕ) (same : ℕ → ℕ → Bool) (sig : Sig) (copies : ℕ) →
    ((f c : ℕ) (args : List ℕ) → IsSymbol sig copies false f c → AreOf ts args (symbol_at sig f).args → IsTermOf sig copies ts f c args (at f c args)) →
    ((p : ℕ) → p < length ts → PlaceCongruent ts at same sig p) →
    (f c : ℕ) (args : List ℕ) (i q : ℕ) → IsSymbol sig copies false f c → AreOf ts args (symbol_at sig f).args → i < length args → IsOf ts (slice_index (symbol_at sig f).args i) q →
    same (slice_index args i) q ≡ true → same (at f c args) (at f c (slice_set args i q)) ≡ true
functions_covered ts at same sig copies places each f c args i q is of lt in_ t =
    let p = places f c args is of in
    (subst (λ (g : Ground). (i q : ℕ) → i < length g.args → IsOf ts (slice_index (symbol_at sig g.symbol).args i) q → same (slice_index g.args i) q ≡ true → same (at f c args) (at g.symbol g.copy (slice_set g.args i q)) ≡ true)
    p.1 (each (at f c args) p.0)) i q lt in_ t
