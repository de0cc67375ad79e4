-- Ground terms. An argument is named by the place at which it stands in a list of ground terms.
use Rattle.std.specs.Prelude.{◌≡◌, ℕ, ◌<◌, ◌^◌, ◌⊎◌, false, List, [], length, slice_index_or}
use Rattle.std.specs.List.{All, AllZip}
use Rattle.fo_core.specs.declared.signature.Sig.{Sig}
use Rattle.fo_core.specs.Sorted.{IsSymbol}
use Rattle.fo_core.specs.Tables.{symbol_at}
use Rattle.fo_terms.specs.declared.terms.Ground.{Ground}

-- a number of 32 bits
abbrev pub IsU32 : ℕ → Type 0
IsU32 n = n < 2 ^ 32

-- the symbol number of a spare constant, which is no symbol's
abbrev pub spare : ℕ
spare = 4294967295

-- what stands where a list has nothing
abbrev pub no_ground : Ground
no_ground = record { symbol = spare; copy = 0; args = []; sort = 0 }

abbrev pub term_at : List Ground → ℕ → Ground
term_at ts p = slice_index_or ts p no_ground

abbrev pub sort_at : List Ground → ℕ → ℕ
sort_at ts p = (term_at ts p).sort

-- at the place stands a term of the sort
abbrev pub IsOf : List Ground → ℕ → ℕ → Type 0
IsOf ts s p = (p < length ts) × (sort_at ts p ≡ s)

-- at these places stand terms of these sorts
abbrev pub AreOf : List Ground → List ℕ → List ℕ → Type 0
AreOf ts = AllZip (λ p s. IsOf ts s p)

-- a spare constant
abbrev pub IsSpare : Ground → Type 0
IsSpare g = (g.symbol ≡ spare) × (g.copy ≡ 0) × (g.args ≡ [])

-- over a signature, Skolem functions included, each of whose mutable symbols has so many copies
module _ (sig : Sig) (copies : ℕ) (ts : List Ground) where
  -- at the place stands a function of the signature in one of its copies, applied to terms of its
  -- arguments' sorts, which stand before it
  pub record IsApplied (p : ℕ) : Type 0 where
    pub symbol : IsSymbol sig copies false (term_at ts p).symbol (term_at ts p).copy
    pub args : AreOf ts (term_at ts p).args (symbol_at sig (term_at ts p).symbol).args
    pub sort : sort_at ts p ≡ (symbol_at sig (term_at ts p).symbol).result
    pub earlier : All (λ q. q < p) (term_at ts p).args

  -- at the place stands this function, in this copy, applied to the terms at these places
  abbrev pub IsTermOf : ℕ → ℕ → List ℕ → ℕ → Type 0
  IsTermOf f c args p = (p < length ts) × (term_at ts p ≡ record { symbol = f; copy = c; args = args; sort = (symbol_at sig f).result })

  -- all ground terms, each once: the applications of all functions in all copies to ground terms, and
  -- a spare constant of each sort that has no other term
  pub record IsUniverse : Type 0 where
    pub grounded : (p : ℕ) → p < length ts → IsSpare (term_at ts p) ⊎ IsApplied p
    pub whole : (f c : ℕ) (args : List ℕ) → IsSymbol sig copies false f c → AreOf ts args (symbol_at sig f).args → (p : ℕ) × IsTermOf f c args p
    pub sorts : (p : ℕ) → p < length ts → sort_at ts p < sig.sorts
    pub nonempty : (s : ℕ) → s < sig.sorts → (p : ℕ) × IsOf ts s p
    pub spares : (p q : ℕ) → p < length ts → q < length ts → IsSpare (term_at ts p) → sort_at ts p ≡ sort_at ts q → p ≡ q
    pub once : (p q : ℕ) → p < length ts → q < length ts → term_at ts p ≡ term_at ts q → p ≡ q
