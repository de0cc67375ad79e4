-- The weight of a query: how much there is once all is instantiated by ground terms.
use Rattle.std.specs.Prelude.{ℕ, ◌+◌, ◌*◌, ◌≤◌, min, true, List, [], ◌∷◌, ◌++◌, slice_index}
use Rattle.fo_core.specs.declared.query.Query.{Query}
use Rattle.fo_core.specs.declared.formula.Formula.{Formula}
use Rattle.fo_core.specs.declared.signature.Sig.{Sig}
use Rattle.fo_core.specs.declared.signature.Symbol.{Symbol}
use Rattle.fo_core.specs.Skolems.{skolem_symbols_list, extended}
use Rattle.fo_core.specs.Weights.{added, power, claim_nodes}
use Rattle.fo_core.specs.TermCounts.{copies_of, term_counts}

-- a number, or the greatest of 64 bits where it is above that
abbrev pub cut : ℕ → ℕ
cut n = min n 18446744073709551615

-- a sort with n terms: these, their pairs and their triples
abbrev pub sort_weight : ℕ → ℕ
sort_weight n = n + (n * n + n * n * n)

-- a symbol: in each of its copies and for each of its argument places, the tuples of arguments with
-- one more term of that place's sort
abbrev pub symbol_weight : ℕ → List ℕ → Symbol → ℕ
symbol_weight copies U s = copies_of copies s * added (λ a. power U s.args * slice_index U a) s.args

-- the sorts, and the signature's own symbols, where each sort has so many terms
abbrev pub signature_weight : Sig → ℕ → List ℕ → ℕ
signature_weight sig copies U = added sort_weight U + added (symbol_weight copies U) sig.symbols

-- the weight of a query: the nodes of its claims, its sorts and its symbols, where each sort has as many
-- terms as are built from all symbols in all copies and the Skolem functions
abbrev pub query_weight : Sig → Query → ℕ
query_weight sig q =
    let U = term_counts (extended sig (skolem_symbols_list true q.claims [])) q.copies in
    cut (claim_nodes U q.claims + signature_weight sig q.copies U)

-- no query is heavier with the claim f than with the claim g in its place
abbrev pub IsNoHeavier : Formula → Formula → Type 0
IsNoHeavier f g =
    (sig : Sig) (copies : ℕ) (before after : List Formula) →
    query_weight sig (record { copies = copies; claims = before ++ f ∷ after })
    ≤ query_weight sig (record { copies = copies; claims = before ++ g ∷ after })
