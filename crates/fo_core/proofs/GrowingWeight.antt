-- More terms of each sort give more nodes, and more weight to a signature.
use Rattle.std.proofs.Common.{ℕ, Bool, true, false, not, ◌+◌, ◌*◌, ◌≤◌, List, [], ◌∷◌, ◌++◌, arith}
use Rattle.std.specs.Prelude.{slice_index}
use Rattle.std.proofs.lemmas.Nat.{mul-le}
use Rattle.fo_core.specs.declared.signature.Sig.{Sig}
use Rattle.fo_core.specs.declared.signature.Symbol.{Symbol}
use Rattle.fo_core.specs.declared.formula.Formula.{Formula, True, False, Rel, Eq, Not', And', Or', All', Ex', Row_of-Formula, end_of-Formula, more_of-Formula}
use Rattle.fo_core.specs.QueryWeight.{sort_weight, symbol_weight, signature_weight}
use Rattle.fo_core.specs.TermCounts.{copies_of}
use Rattle.fo_core.specs.Weights.{added, power, nodes, nodes_row, claim_nodes}
use Rattle.fo_core.proofs.GrowingCounts.{AtMost, added-le, index-le, power-le}

sort-le : (m n : ℕ) → m ≤ n → sort_weight m ≤ sort_weight n
sort-le m n le =
    let pairs = mul-le m m n n le le in
    let triples = mul-le (m * m) m (n * n) n pairs le in
    omega arith

sorts-le : (U V : List ℕ) → AtMost U V → added sort_weight U ≤ added sort_weight V
sorts-le [] [] h = omega arith
sorts-le [] (v ∷ V) h = absurd h
sorts-le (u ∷ U) [] h = absurd h
sorts-le (u ∷ U) (v ∷ V) h = omega (arith, sort-le u v h.0, sorts-le U V h.1)

module _ (U V : List ℕ) (h : AtMost U V) where
  place-le : (us : List ℕ) (a : ℕ) → power U us * slice_index U a ≤ power V us * slice_index V a
  place-le us a =
      mul-le (power U us) (slice_index U a) (power V us) (slice_index V a) (power-le U V h us) (index-le U V h a)

  symbol-le : (copies : ℕ) (s : Symbol) → symbol_weight copies U s ≤ symbol_weight copies V s
  symbol-le copies s =
      let places = added-le (λ a. power U s.args * slice_index U a) (λ a. power V s.args * slice_index V a)
      (place-le s.args) s.args in
      mul-le (copies_of copies s) _ (copies_of copies s) _ (omega arith) places

  pub signature-le : (sig : Sig) (copies : ℕ) →
      signature_weight sig copies U ≤ signature_weight sig copies V
  signature-le sig copies =
      let sorts = sorts-le U V h in
      let symbols = added-le (symbol_weight copies U) (symbol_weight copies V) (symbol-le copies) sig.symbols in
      omega arith

  both : (a b c d : ℕ) → a ≤ b → c ≤ d → a + c ≤ b + d
  both a b c d p q = omega arith

  -- a node, and what stands below it
  with_node : (us : List ℕ) (m n : ℕ) → m ≤ n → power U us + m ≤ power V us + n
  with_node us m n = both (power U us) (power V us) m n (power-le U V h us)

  mutual
    pub nodes-le : (b : Bool) (f : Formula) (us : List ℕ) → nodes U b f us ≤ nodes V b f us
    nodes-le true True us = power-le U V h us
    nodes-le false True us = power-le U V h us
    nodes-le true False us = power-le U V h us
    nodes-le false False us = power-le U V h us
    nodes-le b (Rel r d args) us = power-le U V h us
    nodes-le b (Eq x y) us = power-le U V h us
    nodes-le b (Not' _ (more_of-Formula f _)) us = nodes-le (not b) f us
    nodes-le b (And' _ row) us = with_node us _ _ (row-le b row us)
    nodes-le b (Or' _ row) us = with_node us _ _ (row-le b row us)
    nodes-le true (All' s _ (more_of-Formula f _)) us = with_node us _ _ (nodes-le true f (us ++ s ∷ []))
    nodes-le false (All' s _ (more_of-Formula f _)) us = with_node us _ _ (nodes-le false f us)
    nodes-le true (Ex' s _ (more_of-Formula f _)) us = with_node us _ _ (nodes-le true f us)
    nodes-le false (Ex' s _ (more_of-Formula f _)) us = with_node us _ _ (nodes-le false f (us ++ s ∷ []))

    row-le : {n : _} (b : Bool) (row : Row_of-Formula n) (us : List ℕ) →
        nodes_row U b row us ≤ nodes_row V b row us
    row-le b end_of-Formula us = omega arith
    row-le b (more_of-Formula f rest) us = both (nodes U b f us) (nodes V b f us) _ _ (nodes-le b f us) (row-le b rest us)

  pub claims-le : (fs : List Formula) → claim_nodes U fs ≤ claim_nodes V fs
  claims-le fs = added-le (λ f. nodes U true f []) (λ f. nodes V true f []) (λ f. nodes-le true f []) fs
