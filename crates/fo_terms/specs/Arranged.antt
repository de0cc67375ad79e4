-- In which order a universe has the ground terms.
use Rattle.std.specs.Prelude.{◌≡◌, ◌↔◌, ℕ, ◌+◌, ◌-◌, ◌*◌, ◌<◌, ◌≤◌, false, List, [], ◌∷◌, length, map, sum, take, slice_index}
use Rattle.std.specs.List.{filter}
use Rattle.fo_core.specs.declared.signature.Sig.{Sig}
use Rattle.fo_core.specs.Sorted.{IsSymbol}
use Rattle.fo_core.specs.Tables.{symbol_at, place}
use Rattle.fo_core.specs.Weights.{added, power}
use Rattle.fo_terms.specs.declared.terms.Universe.{Universe}
use Rattle.fo_core.specs.TermCounts.{leads_to, applications, term_counts, AreCounts}
use Rattle.fo_terms.specs.Universe.{IsOf, AreOf, IsTermOf}

-- how far these places lie behind the first places of their sorts
abbrev pub offsets : List ℕ → List ℕ → List ℕ → List ℕ
offsets firsts [] ps = []
offsets firsts (s ∷ ss) [] = []
offsets firsts (s ∷ ss) (p ∷ ps) = (p - slice_index firsts s) ∷ offsets firsts ss ps

module _ (sig : Sig) (copies : ℕ) where
  -- how many applications of earlier functions have values of the same sort as function f
  abbrev pub earlier_applications : ℕ → ℕ
  earlier_applications f = added (applications copies (term_counts sig copies)) (filter (leads_to (symbol_at sig f).result) (take f sig.symbols))

  -- over the first places of the sorts: the place of function f, in copy c, applied to the terms at these places. Within a sort terms stand
  -- by function, then by copy, then by arguments in lexicographic order.
  abbrev pub place_of : List ℕ → ℕ → ℕ → List ℕ → ℕ
  place_of firsts f c args =
      let ss = (symbol_at sig f).args in
      slice_index firsts (symbol_at sig f).result + (earlier_applications f + (c * power (term_counts sig copies) ss + place (map (slice_index (term_counts sig copies)) ss) (offsets firsts ss args)))

-- the terms stand sort by sort, each sort's from its first place on, and within a sort by function, copy
-- and arguments
pub record IsArranged (sig : Sig) (copies : ℕ) (u : Universe) : Type 0 where
  pub counts : AreCounts sig copies (term_counts sig copies)
  pub firsts : length u.firsts ≡ sig.sorts
  pub terms : length u.terms ≡ sum (term_counts sig copies)
  pub blocks : (s p : ℕ) → s < sig.sorts → IsOf u.terms s p ↔ ((slice_index u.firsts s ≤ p) × (p < slice_index u.firsts s + slice_index (term_counts sig copies) s))
  pub placed : (f c : ℕ) (args : List ℕ) → IsSymbol sig copies false f c → AreOf u.terms args (symbol_at sig f).args → IsTermOf sig copies u.terms f c args (place_of sig copies u.firsts f c args)
