-- Each atom is of the universe.
use Rattle.std.proofs.Common.{◌≡◌, ℕ, Bool, true, false, cond, ◌+◌, ◌-◌, ◌%◌, ◌<◌, List, [], ◌∷◌, length, get_or, map, refl, sym, subst, ◌∙◌, arith}
use Rattle.std.specs.List.{All, AllZip, range_with_len, flat_map}
use Rattle.std.proofs.lemmas.List.Concat.{flat_map-cons}
use Rattle.std.proofs.lemmas.List.Elements.{All-nil, All-head, All-tail, All-append, All-get_or}
use Rattle.std.proofs.lemmas.List.FromFn.{get_or-range_with_len, length-range_with_len, get_or-map-range_with_len, length-map-range_with_len}
use Rattle.std.proofs.Math.Nat.{mod-lt, div-lt_iff_lt-mul}
use Rattle.fo_core.specs.declared.signature.Sig.{Sig}
use Rattle.fo_core.specs.Tables.{no_symbol, symbol_at}
use Rattle.fo_core.specs.Sorted.{HasSorts, IsSig}
use Rattle.fo_terms.specs.declared.terms.Universe.{Universe}
use Rattle.fo_terms.specs.Arranged.{IsArranged}
use Rattle.fo_core.specs.TermCounts.{copies_of}
use Rattle.fo_terms.specs.Universe.{AreOf}
use Rattle.fo_ground.specs.declared.grounded.Atom.TheVariants.{Same}
use Rattle.fo_ground.specs.Grounds.{IsShaped}
use Rattle.fo_ground.specs.Numbers.{count_of, first_at, row, row_end, rows, tuple_count, fact_count, fact_at, facts_of, atoms_of}
use Rattle.fo_ground.proofs.ClassTables.{positive_of}
use Rattle.fo_terms.specs.Blocks.{raised}
use Rattle.fo_core.proofs.TupleLemmas.{tuple-below}
use Rattle.fo_core.specs.Tuples.{tuple_at}

module _ {A : Type 0} (P : A → Type 0) where
  pub All-flat : (f : ℕ → List A) (xs : List ℕ) → All (λ x. All P (f x)) xs → All P (flat_map f xs)
  All-flat f [] h = All-nil P
  All-flat f (x ∷ xs) h = subst (All P) (sym (flat_map-cons f x xs)) (All-append P (f x) (flat_map f xs) (All-head (λ x. All P (f x)) x xs h) (All-flat f xs (All-tail (λ x. All P (f x)) x xs h)))

  pub All-numbers : (f : ℕ → A) (a n : ℕ) → ((k : ℕ) → k < n → P (f (a + k))) → All P (map f (range_with_len a n))
  All-numbers f a n each i d lt =
      let lt' : i < n = subst (λ m. i < m) (length-map-range_with_len f a n) lt in
      subst P (sym (get_or-map-range_with_len f a n i (a + i) d lt' refl)) (each i lt')

pub All-below : (Q : ℕ → Type 0) (n : ℕ) → ((k : ℕ) → k < n → Q k) → All Q (range_with_len 0 n)
All-below Q n each i d lt =
    let lt' : i < n = subst (λ m. i < m) (length-range_with_len 0 n) lt in
    let e : get_or (range_with_len 0 n) i d ≡ i = get_or-range_with_len 0 n i d lt' ∙ (let z : 0 + i ≡ i = omega arith in z) in
    subst Q (sym e) (each i lt')

module _ (sig : Sig) (copies : ℕ) (u : Universe) (sorts : IsSig sig) (arranged : IsArranged sig copies u) where
  abbrev count : ℕ → ℕ
  count = count_of sig copies u

  pub raised-are : (ss xs : List ℕ) → All (λ s. s < sig.sorts) ss → AllZip (λ x n. x < n) xs (map count ss) → AreOf u.terms (raised u.firsts ss xs) ss
  raised-are [] [] below h = tt
  raised-are [] (x ∷ xs) below h = absurd h
  raised-are (s ∷ ss) [] below h = absurd h
  raised-are (s ∷ ss) (x ∷ xs) below h = (
    (arranged.blocks s (first_at sig copies u s + x) (All-head (λ s. s < sig.sorts) s ss below)).1 (omega arith, omega (arith, h.0)),
    raised-are ss xs (All-tail (λ s. s < sig.sorts) s ss below) h.1,
  )

  fact-shaped : (k j : ℕ) → k < length sig.symbols → (symbol_at sig k).relation ≡ true → j < fact_count sig copies u k → IsShaped sig copies u (fact_at sig copies u k j)
  fact-shaped k j lt is below =
      let T = tuple_count sig copies u k in
      let some : 0 < T = positive_of (copies_of copies (symbol_at sig k)) T j below in
      let has : HasSorts sig.sorts (symbol_at sig k) = All-get_or (HasSorts sig.sorts) sig.symbols k no_symbol lt sorts.sorts in (
        record { within = lt; kind = is; copy = (div-lt_iff_lt-mul some).1 below },
        raised-are (symbol_at sig k).args (tuple_at (map count (symbol_at sig k).args) (j % T)) has.args (tuple-below (map count (symbol_at sig k).args) (j % T) (mod-lt j some)),
      )

  facts-shaped : (k : ℕ) → k < length sig.symbols → All (IsShaped sig copies u) (facts_of sig copies u k)
  facts-shaped k lt = by_kind (symbol_at sig k).relation refl
    where
      by_kind : (b : Bool) → (symbol_at sig k).relation ≡ b → All (IsShaped sig copies u) (cond b (map (fact_at sig copies u k) (range_with_len 0 (fact_count sig copies u k))) [])
      by_kind true e = All-numbers (IsShaped sig copies u) (fact_at sig copies u k) 0 (fact_count sig copies u k)
          (λ j below. subst (λ i. IsShaped sig copies u (fact_at sig copies u k i)) (let z : j ≡ 0 + j = omega arith in z) (fact-shaped k j lt e below))
      by_kind false e = All-nil (IsShaped sig copies u)

  row-shaped : (p : ℕ) → All (IsShaped sig copies u) (row sig copies u p)
  row-shaped p = All-numbers (IsShaped sig copies u) (λ q. Same p q) p (row_end sig copies u p - p) (λ k lt. tt)

  pub shaped : All (IsShaped sig copies u) (atoms_of sig copies u)
  shaped = All-append (IsShaped sig copies u) (rows sig copies u) (flat_map (facts_of sig copies u) (range_with_len 0 (length sig.symbols)))
      (All-flat (IsShaped sig copies u) (row sig copies u) (range_with_len 0 (length u.terms)) (All-below (λ p. All (IsShaped sig copies u) (row sig copies u p)) (length u.terms) (λ p lt. row-shaped p)))
      (All-flat (IsShaped sig copies u) (facts_of sig copies u) (range_with_len 0 (length sig.symbols)) (All-below (λ k. All (IsShaped sig copies u) (facts_of sig copies u k)) (length sig.symbols) facts-shaped))
