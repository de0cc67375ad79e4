-- How many ground terms a signature has.
use Rattle.std.specs.Prelude.{◌≡◌, ℕ, zero, suc, ◌*◌, ◌<◌, ◌==◌, ◌&&◌, Bool, not, cond, List, [], length, map, slice_index}
use Rattle.std.specs.List.{filter, range_with_len}
use Rattle.fo_core.specs.declared.signature.Sig.{Sig}
use Rattle.fo_core.specs.declared.signature.Symbol.{Symbol}
use Rattle.fo_core.specs.Weights.{added, power}

-- whether the symbol is a function with values of sort t
abbrev pub leads_to : ℕ → Symbol → Bool
leads_to t s = not s.relation && (s.result == t)

-- in how many copies a symbol is read: an immutable one in one alone
abbrev pub copies_of : ℕ → Symbol → ℕ
copies_of copies s = cond s.mutable copies 1

-- how often a function is applied, in all its copies, to terms of which each sort has so many
abbrev pub applications : ℕ → List ℕ → Symbol → ℕ
applications copies U s = copies_of copies s * power U s.args

-- the functions with values of sort t
abbrev pub functions_to : Sig → ℕ → List Symbol
functions_to sig t = filter (leads_to t) sig.symbols

-- over a signature, Skolem functions included, each of whose mutable symbols has so many copies
module _ (sig : Sig) (copies : ℕ) where
  -- how many terms of sort t are functions applied to terms of which each sort has so many. A sort to
  -- which no function leads has a spare constant.
  abbrev pub count_over : List ℕ → ℕ → ℕ
  count_over U t = cond (length (functions_to sig t) == 0) 1 (added (applications copies U) (functions_to sig t))

  -- how many ground terms each sort has in which functions nest no deeper than so many
  abbrev pub counts_within : ℕ → List ℕ
  counts_within zero = []
  counts_within (suc depth) = map (count_over (counts_within depth)) (range_with_len 0 sig.sorts)

  -- how many ground terms each sort has. Where each function leads from sorts with lower numbers to one
  -- with a higher number, functions nest no deeper than there are sorts.
  abbrev pub term_counts : List ℕ
  term_counts = counts_within sig.sorts

  -- each sort has as many terms as functions to it are applied to such terms, or a spare constant
  pub record AreCounts (U : List ℕ) : Type 0 where
    pub one_each : length U ≡ sig.sorts
    pub each : (t : ℕ) → t < sig.sorts → slice_index U t ≡ count_over U t
