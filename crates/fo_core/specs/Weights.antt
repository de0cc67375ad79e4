-- How often the nodes of formulas stand for something else, where universals range over so many values.
use Rattle.std.specs.Prelude.{ℕ, ◌+◌, Bool, true, false, not, List, [], ◌∷◌, ◌++◌, map, slice_index}
use Rattle.fo_core.specs.declared.signature.Symbol.{Symbol}
use Rattle.fo_core.specs.declared.formula.Formula.{Formula, Not', And', Or', All', Ex', Row_of-Formula, end_of-Formula, more_of-Formula}
use Rattle.fo_core.specs.Tables.{tuples}

-- the sum of a number for each element of a list
abbrev pub added : {X : Type 0} → (X → ℕ) → List X → ℕ
added f [] = 0
added f (x ∷ xs) = f x + added f xs

-- the product of U over these sorts
abbrev pub power : List ℕ → List ℕ → ℕ
power U us = tuples (map (slice_index U) us)

-- where a universal of sort s ranges over U(s) values
module _ (U : List ℕ) where
  abbrev mutual
    -- over the nodes of the formula (true), or of its negation (false), in negation normal form, the
    -- sum of the products of U over the enclosing universals, where the formula itself stands under
    -- universals of the sorts us. A node is a connective, a quantifier, True, False, or a literal
    -- with its Not.
    pub nodes : Bool → Formula → List ℕ → ℕ
    nodes b (Not' _ (more_of-Formula f _)) us = nodes (not b) f us
    nodes b (And' _ fs) us = power U us + nodes_row b fs us
    nodes b (Or' _ fs) us = power U us + nodes_row b fs us
    nodes true (All' s _ (more_of-Formula f _)) us = power U us + nodes true f (us ++ s ∷ [])
    nodes false (All' s _ (more_of-Formula f _)) us = power U us + nodes false f us
    nodes true (Ex' s _ (more_of-Formula f _)) us = power U us + nodes true f us
    nodes false (Ex' s _ (more_of-Formula f _)) us = power U us + nodes false f (us ++ s ∷ [])
    nodes b _ us = power U us

    pub nodes_row : {n : _} → Bool → Row_of-Formula n → List ℕ → ℕ
    nodes_row b end_of-Formula us = 0
    nodes_row b (more_of-Formula f rest) us = nodes b f us + nodes_row b rest us

  -- the nodes of closed claims
  abbrev pub claim_nodes : List Formula → ℕ
  claim_nodes fs = added (λ f. nodes true f []) fs

  -- a node for each Skolem function, under its arguments
  abbrev pub skolem_nodes : List Symbol → ℕ
  skolem_nodes ss = added (λ (s : Symbol). power U s.args) ss
