-- How many terms each sort has, and where the applications of each function begin, term by term and symbol by symbol.
use Rattle.std.proofs.Common.{◌≡◌, ℕ, Bool, true, false, cond, min, ◌+◌, ◌-◌, ◌<◌, ◌≤◌, ◌^◌, ◌⊎◌, inl, inr, List, [], ◌∷◌, ◌++◌, length, set, take, drop, refl, sym, ap, subst, ◌∙◌, arith}
use Rattle.std.specs.List.{All, filter}
use Rattle.std.specs.Prelude.{slice_index}
use Rattle.std.proofs.lemmas.Bool.{cases_eq, cases_lt}
use Rattle.std.proofs.lemmas.List.{ext_get_or, get_or-set_other, get_or-set_same, get_or_append_left, get_or_push, take-append-drop}
use Rattle.std.proofs.lemmas.List.Elements.{filter-append, filter_more}
use Rattle.fo_core.specs.declared.signature.Sig.{Sig}
use Rattle.fo_core.specs.declared.signature.Symbol.{Symbol}
use Rattle.fo_core.specs.Sorted.{HasSorts}
use Rattle.fo_core.specs.Tables.{no_symbol, symbol_at}
use Rattle.fo_core.specs.Weights.{added}
use Rattle.fo_core.proofs.TableLemmas.{filtered_at}
use Rattle.fo_terms.specs.declared.terms.Universe.{Universe}
use Rattle.fo_terms.specs.Arranged.{IsArranged, earlier_applications}
use Rattle.fo_core.specs.TermCounts.{applications, leads_to, term_counts}
use Rattle.fo_terms.specs.Universe.{IsUniverse, sort_at}
use Rattle.fo_terms.proofs.Functions.{count-some, function_count, function_sum, leads_to-is}
use Rattle.fo_terms.proofs.Sums.{added-append, added-push}

-- how many of the first p places lie in a sort's block
abbrev pub counted_of : List ℕ → List ℕ → ℕ → ℕ → ℕ
counted_of firsts sizes p s = min p (slice_index firsts s + slice_index sizes s) - slice_index firsts s

module _ (sig : Sig) (n : ℕ) (u : Universe) (universe : IsUniverse sig n u.terms) (arranged : IsArranged sig n u) where
  abbrev U : List ℕ
  U = term_counts sig n

  abbrev first : ℕ → ℕ
  first s = slice_index u.firsts s

  abbrev size : ℕ → ℕ
  size s = slice_index U s

  pub ends : (s : ℕ) → s < sig.sorts → first s + size s ≤ length u.terms
  ends s lt =
      let some = universe.nonempty s lt in
      let b = (arranged.blocks s some.0 lt).0 some.1 in
      let last = (arranged.blocks s (first s + size s - 1) lt).1 (omega (arith, b.0, b.1), omega (arith, b.0, b.1)) in
      omega (arith, last.0, b.0, b.1)

  -- how many of the first p terms are of sort s
  abbrev pub counted : ℕ → ℕ → ℕ
  counted p s = counted_of u.firsts U p s

  -- one more term is counted
  pub count-more : (p : ℕ) → p < length u.terms → (sizes : List ℕ) → length sizes ≡ sig.sorts → ((s : ℕ) → s < sig.sorts → slice_index sizes s ≡ counted p s) →
      (s : ℕ) → s < sig.sorts → slice_index (set sizes (sort_at u.terms p) (slice_index sizes (sort_at u.terms p) + 1)) s ≡ counted (p + 1) s
  count-more p lt sizes len so_far s known = by_case (cases_eq s (sort_at u.terms p))
    where
      within : (f e : ℕ) → f ≤ p → p < e → min p e - f + 1 ≡ min (p + 1) e - f
      within f e le less = omega arith

      outside : (f e : ℕ) → ((f ≤ p) × (p < e) → ⊥) → min p e - f ≡ min (p + 1) e - f
      outside f e not_in = by_place (cases_lt p f)
        where
          by_place : (p < f) ⊎ (f ≤ p) → min p e - f ≡ min (p + 1) e - f
          by_place (inl before) = omega arith
          by_place (inr le) = by_end (cases_lt p e)
            where
              by_end : (p < e) ⊎ (e ≤ p) → min p e - f ≡ min (p + 1) e - f
              by_end (inl less) = absurd (not_in (le, less))
              by_end (inr past) = omega arith

      by_case : (s ≡ sort_at u.terms p) ⊎ (s ≡ sort_at u.terms p → ⊥) → slice_index (set sizes (sort_at u.terms p) (slice_index sizes (sort_at u.terms p) + 1)) s ≡ counted (p + 1) s
      by_case (inl here) =
          let b = (arranged.blocks s p known).0 (lt, sym here) in
          subst (λ t. slice_index (set sizes t (slice_index sizes t + 1)) s ≡ counted (p + 1) s) here
          (get_or-set_same sizes s (slice_index sizes s + 1) 0 (omega arith) ∙ ap (λ m. m + 1) (so_far s known) ∙ within (first s) (first s + size s) b.0 b.1)
      by_case (inr other) =
          get_or-set_other sizes (sort_at u.terms p) s (slice_index sizes (sort_at u.terms p) + 1) 0 other
          ∙ so_far s known
          ∙ outside (first s) (first s + size s) (λ b. other (sym ((arranged.blocks s p known).1 b).1))

  pub counted-all : (sizes : List ℕ) (p : ℕ) → length u.terms ≤ p → length sizes ≡ sig.sorts → ((s : ℕ) → s < sig.sorts → slice_index sizes s ≡ counted p s) → sizes ≡ U
  counted-all sizes p le len so_far =
      ext_get_or 0 sizes U (len ∙ sym arranged.counts.one_each) (λ s lt. let known : s < sig.sorts = omega arith in so_far s known ∙ whole (first s) (size s) (omega (arith, ends s known)))
    where
      whole : (f m : ℕ) → f + m ≤ p → min p (f + m) - f ≡ m
      whole f m less = omega arith

  -- the applications of functions to a sort, one function more
  pub applications-more : (t k : ℕ) → k < length sig.symbols →
      added (applications n U) (filter (leads_to t) (take k sig.symbols)) + cond (leads_to t (symbol_at sig k)) (applications n U (symbol_at sig k)) 0 ≡ added (applications n U) (filter (leads_to t) (take (k + 1) sig.symbols))
  applications-more t k lt = by_test (leads_to t (symbol_at sig k)) (filter_more (leads_to t) sig.symbols k no_symbol lt)
    where
      by_test : (b : Bool) → filter (leads_to t) (take (k + 1) sig.symbols) ≡ filter (leads_to t) (take k sig.symbols) ++ cond b (symbol_at sig k ∷ []) [] →
          added (applications n U) (filter (leads_to t) (take k sig.symbols)) + cond b (applications n U (symbol_at sig k)) 0 ≡ added (applications n U) (filter (leads_to t) (take (k + 1) sig.symbols))
      by_test true e = sym (ap (added (applications n U)) e ∙ added-push (applications n U) (filter (leads_to t) (take k sig.symbols)) (symbol_at sig k))
      by_test false e = sym (ap (added (applications n U)) e ∙ added-append (applications n U) (filter (leads_to t) (take k sig.symbols)) [])

  -- they have places of 32 bits
  pub applications-few : (k : ℕ) → k < length sig.symbols → (symbol_at sig k).relation ≡ false → (symbol_at sig k).result < sig.sorts → length u.terms < 2 ^ 32 →
      first (symbol_at sig k).result + (earlier_applications sig n k + applications n U (symbol_at sig k)) < 2 ^ 32
  applications-few k lt function known few =
      let t = (symbol_at sig k).result in
      let passes = leads_to-is t (symbol_at sig k) function refl in
      let found = filtered_at (leads_to t) sig.symbols k no_symbol lt passes in
      let more = applications-more t k lt in
      let one = ap (λ b. cond b (applications n U (symbol_at sig k)) 0) passes in
      let parts = ap (λ (ss : List Symbol). added (applications n U) (filter (leads_to t) ss)) (sym (take-append-drop (k + 1) sig.symbols))
      ∙ ap (added (applications n U)) (filter-append (leads_to t) (take (k + 1) sig.symbols) (drop (k + 1) sig.symbols))
      ∙ added-append (applications n U) (filter (leads_to t) (take (k + 1) sig.symbols)) (filter (leads_to t) (drop (k + 1) sig.symbols)) in
      let total = count-some sig n U t (omega (arith, found.0, function_count sig t)) in
      omega (arith, more, one, parts, total, function_sum sig (applications n U) t, arranged.counts.each t known, ends t known)

  -- the starts and the next places, one function more
  module _ (k : ℕ) (s : Symbol) (lt : k < length sig.symbols) (is : s ≡ symbol_at sig k) (next : List ℕ)
      (so_far : (t : ℕ) → t < sig.sorts → slice_index next t ≡ first t + added (applications n U) (filter (leads_to t) (take k sig.symbols))) where
    pub next-more : (later sizes : List ℕ) → sizes ≡ U → ((t : ℕ) → t < length next → slice_index later t ≡ slice_index next t + cond (leads_to t s) (applications n sizes s) 0) → length next ≡ sig.sorts →
        (t : ℕ) → t < sig.sorts → slice_index later t ≡ first t + added (applications n U) (filter (leads_to t) (take (k + 1) sig.symbols))
    next-more later sizes same more len t known =
        let one = more t (omega arith) ∙ ap (λ (x : Symbol). slice_index next t + cond (leads_to t x) (applications n sizes x) 0) is
        ∙ ap (λ (xs : List ℕ). slice_index next t + cond (leads_to t (symbol_at sig k)) (applications n xs (symbol_at sig k)) 0) same in
        omega (arith, one, so_far t known, applications-more t k lt)

    pub starts-more : (starts later : List ℕ) → All (HasSorts sig.sorts) sig.symbols → later ≡ starts ++ cond s.relation 0 (slice_index next s.result) ∷ [] → length starts ≡ k →
        ((f : ℕ) → f < k → (symbol_at sig f).relation ≡ false → slice_index starts f ≡ first (symbol_at sig f).result + earlier_applications sig n f) →
        (f : ℕ) → f < k + 1 → (symbol_at sig f).relation ≡ false → slice_index later f ≡ first (symbol_at sig f).result + earlier_applications sig n f
    starts-more starts later sorted more len before_it f less function = by_place (cases_lt f k)
      where
        by_place : (f < k) ⊎ (k ≤ f) → slice_index later f ≡ first (symbol_at sig f).result + earlier_applications sig n f
        by_place (inl earlier) =
            ap (λ (xs : List ℕ). slice_index xs f) more
            ∙ get_or_append_left starts (cond s.relation 0 (slice_index next s.result) ∷ []) 0 f (omega arith)
            ∙ before_it f earlier function
        by_place (inr le) =
            let e : f ≡ k = omega arith in
            let here = is ∙ ap (symbol_at sig) (sym e) in
            let known = (sorted k no_symbol lt).result (ap (λ j. (symbol_at sig j).relation) (sym e) ∙ function) in
            ap (λ (xs : List ℕ). slice_index xs f) more
            ∙ get_or_push starts (cond s.relation 0 (slice_index next s.result)) 0 f (omega arith)
            ∙ ap (λ (x : Symbol). cond x.relation 0 (slice_index next x.result)) here
            ∙ ap (λ b. cond b 0 (slice_index next (symbol_at sig f).result)) function
            ∙ so_far (symbol_at sig f).result (subst (λ j. (symbol_at sig j).result < sig.sorts) (sym e) known)
            ∙ ap (λ j. first (symbol_at sig f).result + added (applications n U) (filter (leads_to (symbol_at sig f).result) (take j sig.symbols))) (sym e)
