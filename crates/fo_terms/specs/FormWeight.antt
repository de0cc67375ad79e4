-- The weight of a Skolem form.
use Rattle.std.specs.Prelude.{ℕ, ◌+◌, ◌≤◌, List, sum}
use Rattle.std.specs.List.{All}
use Rattle.fo_core.specs.declared.signature.Sig.{Sig}
use Rattle.fo_core.specs.Weights.{claim_nodes, skolem_nodes}
use Rattle.fo_norm.specs.declared.form.SkolemForm.{SkolemForm}
use Rattle.fo_core.specs.QueryWeight.{cut, signature_weight}
use Rattle.fo_terms.specs.declared.terms.TheConstants.{MOST_TERMS}
use Rattle.fo_terms.specs.Universe.{IsU32}

-- the weight of a form, where each sort has so many terms: that of a query with this form. An
-- existential's node is that of its Skolem function, below the universals that are its arguments.
abbrev pub form_weight : Sig → SkolemForm → List ℕ → ℕ
form_weight sig form U = cut ((claim_nodes U form.claims + skolem_nodes U form.skolems) + signature_weight sig form.copies U)

-- the numbers of terms of the sorts, where they are so few that a universe lists them: each sort has at
-- most MOST_TERMS, and places of all of them have 32 bits
pub record AreFew (U : List ℕ) : Type 0 where
  pub each : All (λ n. n ≤ MOST_TERMS) U
  pub all : IsU32 (sum U)
