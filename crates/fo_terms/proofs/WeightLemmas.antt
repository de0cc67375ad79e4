-- The weight of a form.
use Rattle.std.proofs.Common.{◌≡◌, ℕ, true, ◌+◌, ◌*◌, ◌<◌, ◌≤◌, ◌⊎◌, inl, inr, List, [], ◌∷◌, get_or, map, refl, sym, ap, ◌∙◌, arith}
use Rattle.std.specs.List.{All}
use Rattle.std.proofs.lemmas.Bool.{cases_lt}
use Rattle.std.proofs.lemmas.List.Elements.{All-from_get_or, All-weaker}
use Rattle.std.proofs.lemmas.Nat.{mul-le}
use Rattle.fo_core.specs.declared.query.Query.{Query}
use Rattle.fo_core.specs.declared.query.TheConstants.{MOST_WEIGHT}
use Rattle.fo_core.specs.declared.signature.Sig.{Sig}
use Rattle.fo_core.specs.declared.signature.Symbol.{Symbol}
use Rattle.fo_core.specs.Skolems.{skolem_symbols_list, extended}
use Rattle.fo_core.specs.Sorted.{IsFormula}
use Rattle.fo_core.specs.Weights.{added, claim_nodes, skolem_nodes}
use Rattle.fo_norm.specs.declared.form.SkolemForm.{SkolemForm}
use Rattle.fo_norm.specs.Forms.{whole, IsForm}
use Rattle.fo_core.specs.TermCounts.{term_counts}
use Rattle.fo_terms.specs.FormWeight.{AreFew, form_weight}
use Rattle.fo_terms.specs.Weighable.{CanWeigh}
use Rattle.fo_core.specs.QueryWeight.{cut, query_weight, signature_weight, sort_weight, symbol_weight}
use Rattle.fo_terms.proofs.RankLemmas.{added-sum_by}
use Rattle.fo_terms.proofs.Sums.{added-at}

-- a form's claims can be weighed
pub claims-weigh : (sig : Sig) (form : SkolemForm) (n : ℕ) → IsForm sig form → n ≡ sig.sorts → All (CanWeigh n) form.claims
claims-weigh sig form n of e =
    All-weaker (λ f. IsFormula (whole sig form) form.copies f []) (CanWeigh n)
    (λ f h. record { sig = whole sig form; copies = form.copies; variables = []; sorted = h; sorts = sym e }) form.claims of.claims

-- either nothing is cut, or the sorts alone weigh as much as there can be
cut-or_heavy : (xs : List ℕ) → (map cut xs ≡ xs) ⊎ ((18446744073709551615 ≤ added sort_weight xs) × (18446744073709551615 ≤ added sort_weight (map cut xs)))
cut-or_heavy [] = inl refl
cut-or_heavy (x ∷ xs) = by_case (cases_lt 18446744073709551615 x) (cut-or_heavy xs)
  where
    by_case : (18446744073709551615 < x) ⊎ (x ≤ 18446744073709551615) → (map cut xs ≡ xs) ⊎ ((18446744073709551615 ≤ added sort_weight xs) × (18446744073709551615 ≤ added sort_weight (map cut xs))) →
        (cut x ∷ map cut xs ≡ x ∷ xs) ⊎ ((18446744073709551615 ≤ sort_weight x + added sort_weight xs) × (18446744073709551615 ≤ sort_weight (cut x) + added sort_weight (map cut xs)))
    by_case (inl above) rest = let e : cut x ≡ 18446744073709551615 = omega arith in inr (omega arith, omega (arith, e))
    by_case (inr le) (inl same) = let e : cut x ≡ x = omega arith in inl (ap (λ y. y ∷ map cut xs) e ∙ ap (λ ys. x ∷ ys) same)
    by_case (inr le) (inr heavy) = inr (omega (arith, heavy.0), omega (arith, heavy.1))

-- cut numbers of terms give the same weight
pub weight-cut : (sig : Sig) (form : SkolemForm) (U : List ℕ) → form_weight sig form (map cut U) ≡ form_weight sig form U
weight-cut sig form U = by_case (cut-or_heavy U)
  where
    heavy : (a b c d e f : ℕ) → 18446744073709551615 ≤ b → 18446744073709551615 ≤ e → cut (a + (b + c)) ≡ cut (d + (e + f))
    heavy a b c d e f le less = omega arith

    by_case : (map cut U ≡ U) ⊎ ((18446744073709551615 ≤ added sort_weight U) × (18446744073709551615 ≤ added sort_weight (map cut U))) → form_weight sig form (map cut U) ≡ form_weight sig form U
    by_case (inl same) = ap (form_weight sig form) same
    by_case (inr h) =
        heavy (claim_nodes (map cut U) form.claims + skolem_nodes (map cut U) form.skolems) (added sort_weight (map cut U)) (added (symbol_weight form.copies (map cut U)) sig.symbols)
        (claim_nodes U form.claims + skolem_nodes U form.skolems) (added sort_weight U) (added (symbol_weight form.copies U) sig.symbols) h.1 h.0

-- 159 terms of a sort weigh more than 4,000,000
light-sort : (n : ℕ) → sort_weight n ≤ 4000000 → n ≤ 158
light-sort n le = by_case (cases_lt 158 n)
  where
    by_case : (158 < n) ⊎ (n ≤ 158) → n ≤ 158
    by_case (inr few) = few
    by_case (inl many) =
        let pairs : 159 * 159 ≤ n * n = mul-le 159 159 n n (omega arith) (omega arith) in
        let triples : 25281 * 159 ≤ n * n * n = mul-le 25281 159 (n * n) n (omega (arith, pairs)) (omega arith) in
        absurd (omega (arith, triples))

sum-weight : (xs : List ℕ) → added (λ x. x) xs ≤ added sort_weight xs
sum-weight [] = omega arith
sum-weight (x ∷ xs) = omega (arith, sum-weight xs)

-- a weight within the limit leaves few terms
pub few_of_weight : (sig : Sig) (form : SkolemForm) (U : List ℕ) → form_weight sig form U ≤ MOST_WEIGHT → AreFew U
few_of_weight sig form U le =
    let sorts : added sort_weight U ≤ 4000000 =
    within (claim_nodes U form.claims + skolem_nodes U form.skolems) (added sort_weight U) (added (symbol_weight form.copies U) sig.symbols) le in
    record {
      each = All-from_get_or (λ n. n ≤ 158) U 0 (λ i lt. light-sort (get_or U i 0) (omega (arith, sorts, added-at sort_weight U i 0 lt)));
      all = omega (arith, sorts, sum-weight U, added-sum_by (λ x. x) U);
    }
  where
    within : (a b c : ℕ) → cut (a + (b + c)) ≤ 4000000 → b ≤ 4000000
    within a b c le = omega arith

-- the weight of a query is that of its Skolem form
pub weight-query : (sig : Sig) (q : Query) (form : SkolemForm) → form.copies ≡ q.copies → form.skolems ≡ skolem_symbols_list true q.claims [] → ((U : List ℕ) → claim_nodes U q.claims ≡ claim_nodes U form.claims + skolem_nodes U form.skolems) →
    form_weight sig form (term_counts (whole sig form) form.copies) ≡ query_weight sig q
weight-query sig q form copies skolems nodes =
    ap (λ m. cut (m + signature_weight sig form.copies (term_counts (whole sig form) form.copies))) (sym (nodes (term_counts (whole sig form) form.copies)))
    ∙ ap (λ n. cut (claim_nodes (term_counts (whole sig form) n) q.claims + signature_weight sig n (term_counts (whole sig form) n))) copies
    ∙ ap (λ (ss : List Symbol). cut (claim_nodes (term_counts (extended sig ss) q.copies) q.claims + signature_weight sig q.copies (term_counts (extended sig ss) q.copies))) skolems
