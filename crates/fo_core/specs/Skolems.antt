-- The Skolem symbols of a formula, and signatures with more symbols.
use Rattle.std.specs.Prelude.{ℕ, Bool, true, false, not, List, [], ◌∷◌, ◌++◌}
use Rattle.fo_core.specs.declared.signature.Sig.{Sig}
use Rattle.fo_core.specs.declared.signature.Symbol.{Symbol}
use Rattle.fo_core.specs.declared.formula.Formula.{Formula, Not', And', Or', All', Ex', Row_of-Formula, end_of-Formula, more_of-Formula}

-- the Skolem function of an existential of sort s under universals of the sorts us
abbrev pub skolem : List ℕ → ℕ → Symbol
skolem us s = record { relation = false; mutable = false; args = us; result = s }

abbrev mutual
  -- one Skolem function for each existential that the formula (true), or its negation (false), has
  -- in negation normal form, from left to right, an outer one first; its arguments are the enclosing
  -- universals, from outside in, where the formula itself stands under universals of the sorts us
  pub skolem_symbols : Bool → Formula → List ℕ → List Symbol
  skolem_symbols b (Not' _ (more_of-Formula f _)) us = skolem_symbols (not b) f us
  skolem_symbols b (And' _ fs) us = skolem_symbols_row b fs us
  skolem_symbols b (Or' _ fs) us = skolem_symbols_row b fs us
  skolem_symbols true (All' s _ (more_of-Formula f _)) us = skolem_symbols true f (us ++ s ∷ [])
  skolem_symbols false (All' s _ (more_of-Formula f _)) us = skolem us s ∷ skolem_symbols false f us
  skolem_symbols true (Ex' s _ (more_of-Formula f _)) us = skolem us s ∷ skolem_symbols true f us
  skolem_symbols false (Ex' s _ (more_of-Formula f _)) us = skolem_symbols false f (us ++ s ∷ [])
  skolem_symbols b _ us = []

  pub skolem_symbols_row : {n : _} → Bool → Row_of-Formula n → List ℕ → List Symbol
  skolem_symbols_row b end_of-Formula us = []
  skolem_symbols_row b (more_of-Formula f rest) us = skolem_symbols b f us ++ skolem_symbols_row b rest us

-- those of a list of formulas, one formula behind the other
abbrev pub skolem_symbols_list : Bool → List Formula → List ℕ → List Symbol
skolem_symbols_list b [] us = []
skolem_symbols_list b (f ∷ fs) us = skolem_symbols b f us ++ skolem_symbols_list b fs us

-- the signature with more symbols behind its own
abbrev pub extended : Sig → List Symbol → Sig
extended sig more = record { sorts = sig.sorts; symbols = sig.symbols ++ more }
