-- How the beginnings of rows and of relations' atoms follow one another.
use Rattle.std.proofs.Common.{◌≡◌, ℕ, zero, suc, Bool, true, false, cond, ◌+◌, ◌-◌, ◌*◌, ◌<◌, List, [], ◌∷◌, ◌++◌, length, get_or, take, drop, drop-cons, map, refl, sym, ap, subst, ◌∙◌, arith, length-append, add-one}
use Rattle.std.specs.List.{range_with_len, flat_map}
use Rattle.std.specs.Prelude.{slice_index}
use Rattle.std.proofs.lemmas.List.{take_all}
use Rattle.std.proofs.lemmas.List.Concat.{flat_map-append, flat_map-cons}
use Rattle.std.proofs.lemmas.List.FromFn.{get_or-range_with_len, length-range_with_len, length-map-range_with_len}
use Rattle.std.proofs.lemmas.List.{append-nil}
use Rattle.std.proofs.Math.Seq.{take-suc}
use Rattle.fo_core.specs.declared.signature.Sig.{Sig}
use Rattle.fo_core.specs.Tables.{symbol_at}
use Rattle.fo_core.specs.Weights.{power}
use Rattle.fo_terms.specs.declared.terms.Universe.{Universe}
use Rattle.fo_core.specs.TermCounts.{counts_within, term_counts, count_over}
use Rattle.fo_ground.specs.declared.grounded.Atom.TheVariants.{Same}
use Rattle.fo_ground.specs.Numbers.{row, row_end, rows, row_start, fact_count, fact_at, facts_of, fact_start, atoms_of}
use Rattle.fo_ground.proofs.CongruenceLemmas.{any-default}

-- an element of a slice is that of the list that it shows
pub item-is : {A : Type 0} (items xs : List A) (k : ℕ) (d x : A) → x ≡ get_or items k x → k < length items → items ≡ xs → x ≡ get_or xs k d
item-is items xs k d x is lt e = is ∙ any-default items k x d lt ∙ ap (λ ys. get_or ys k d) e

-- one more factor of a product
pub power-step : (U ss : List ℕ) (i acc : ℕ) → i < length ss → acc * power U (drop i ss) ≡ (acc * slice_index U (get_or ss i 0)) * power U (drop (i + 1) ss)
power-step U ss i acc lt = rw (add-one, drop-cons ss i 0) (algebra (slice_index U (get_or ss i 0)) (power U (drop (suc i) ss)))
  where
    algebra : (n T : ℕ) → acc * (n * T) ≡ (acc * n) * T
    algebra n T = omega arith

-- one more piece of a list of pieces
module _ {A : Type 0} (f : ℕ → List A) (n i : ℕ) (lt : i < n) where
  next-number : take (i + 1) (range_with_len 0 n) ≡ take i (range_with_len 0 n) ++ i ∷ []
  next-number =
      let in_ : i < length (range_with_len 0 n) = subst (λ m. i < m) (sym (length-range_with_len 0 n)) lt in
      let e : get_or (range_with_len 0 n) i 0 ≡ i = get_or-range_with_len 0 n i 0 lt ∙ (let z : 0 + i ≡ i = omega arith in z) in
      rw add-one (take-suc (range_with_len 0 n) i 0 in_ ∙ ap (λ x. take i (range_with_len 0 n) ++ x ∷ []) e)

  pub pieces-next : flat_map f (take (i + 1) (range_with_len 0 n)) ≡ flat_map f (take i (range_with_len 0 n)) ++ f i
  pieces-next =
      ap (flat_map f) next-number
      ∙ flat_map-append f (take i (range_with_len 0 n)) (i ∷ [])
      ∙ ap (λ ys. flat_map f (take i (range_with_len 0 n)) ++ ys) (flat_map-cons f i [] ∙ append-nil (f i))

  pub pieces-more : length (flat_map f (take (i + 1) (range_with_len 0 n))) ≡ length (flat_map f (take i (range_with_len 0 n))) + length (f i)
  pieces-more =
      ap (λ xs. length (flat_map f xs)) next-number
      ∙ ap length (flat_map-append f (take i (range_with_len 0 n)) (i ∷ []))
      ∙ length-append (flat_map f (take i (range_with_len 0 n))) (flat_map f (i ∷ []))
      ∙ ap (λ m. length (flat_map f (take i (range_with_len 0 n))) + m) (ap length (flat_map-cons f i [] ∙ append-nil (f i)))

pub pieces-all : {A : Type 0} (f : ℕ → List A) (n : ℕ) → length (flat_map f (take n (range_with_len 0 n))) ≡ length (flat_map f (range_with_len 0 n))
pieces-all f n = ap (λ xs. length (flat_map f xs)) (take_all n (range_with_len 0 n) (let e = length-range_with_len 0 n in omega (arith, e)))

-- there is one number of terms for each sort
pub term_counts-length : (sig : Sig) (copies : ℕ) → length (term_counts sig copies) ≡ sig.sorts
term_counts-length sig copies = by_sorts sig.sorts refl
  where
    by_sorts : (n : ℕ) → sig.sorts ≡ n → length (counts_within sig copies n) ≡ sig.sorts
    by_sorts zero e = sym e
    by_sorts (suc n) e = length-map-range_with_len (count_over sig copies (counts_within sig copies n)) 0 sig.sorts

module _ (sig : Sig) (copies : ℕ) (u : Universe) where
  pub row_start-more : (p : ℕ) → p < length u.terms → row_start sig copies u (p + 1) ≡ row_start sig copies u p + (row_end sig copies u p - p)
  row_start-more p lt = pieces-more (row sig copies u) (length u.terms) p lt ∙ ap (λ m. row_start sig copies u p + m) (length-map-range_with_len (λ q. Same p q) p (row_end sig copies u p - p))

  pub row_start-all : row_start sig copies u (length u.terms) ≡ length (rows sig copies u)
  row_start-all = pieces-all (row sig copies u) (length u.terms)

  facts-length : (k : ℕ) (b : Bool) → (symbol_at sig k).relation ≡ b → length (facts_of sig copies u k) ≡ cond b (fact_count sig copies u k) 0
  facts-length k true e = ap (λ b. length (cond b (map (fact_at sig copies u k) (range_with_len 0 (fact_count sig copies u k))) [])) e ∙ length-map-range_with_len (fact_at sig copies u k) 0 (fact_count sig copies u k)
  facts-length k false e = ap (λ b. length (cond b (map (fact_at sig copies u k) (range_with_len 0 (fact_count sig copies u k))) [])) e

  pub fact_start-relation : (k : ℕ) → k < length sig.symbols → (symbol_at sig k).relation ≡ true → fact_start sig copies u (k + 1) ≡ fact_start sig copies u k + fact_count sig copies u k
  fact_start-relation k lt e =
      let more = pieces-more (facts_of sig copies u) (length sig.symbols) k lt in
      let len = facts-length k true e in
      omega (arith, more, len)

  pub fact_start-function : (k : ℕ) → k < length sig.symbols → (symbol_at sig k).relation ≡ false → fact_start sig copies u (k + 1) ≡ fact_start sig copies u k
  fact_start-function k lt e =
      let more = pieces-more (facts_of sig copies u) (length sig.symbols) k lt in
      let len = facts-length k false e in
      omega (arith, more, len)

  pub fact_start-first : fact_start sig copies u 0 ≡ length (rows sig copies u)
  fact_start-first = (let z : length (rows sig copies u) + 0 ≡ length (rows sig copies u) = omega arith in z)

  pub fact_start-all : fact_start sig copies u (length sig.symbols) ≡ length (atoms_of sig copies u)
  fact_start-all = ap (λ m. length (rows sig copies u) + m) (pieces-all (facts_of sig copies u) (length sig.symbols)) ∙ sym (length-append (rows sig copies u) (flat_map (facts_of sig copies u) (range_with_len 0 (length sig.symbols))))
