-- Where the list of atoms has each equation and each fact.
use Rattle.std.proofs.Common.{◌≡◌, ℕ, zero, suc, true, cond, ◌+◌, ◌-◌, ◌*◌, ◌%◌, ◌<◌, ◌≤◌, List, [], ◌∷◌, ◌++◌, length, get_or, take, map, refl, sym, ap, subst, ◌∙◌, arith, length-append}
use Rattle.std.specs.List.{AllZip, range_with_len, flat_map}
use Rattle.std.specs.Prelude.{slice_index}
use Rattle.std.proofs.lemmas.List.{get_or_append_left, get_or-append-add}
use Rattle.std.proofs.lemmas.List.Concat.{get_or-flat_map}
use Rattle.std.proofs.lemmas.List.Folds.{length-flat_map-take}
use Rattle.std.proofs.lemmas.Nat.{div-mul-add, mod-mul-add}
use Rattle.std.proofs.lemmas.List.FromFn.{get_or-range_with_len, length-range_with_len, get_or-map-range_with_len, length-map-range_with_len}
use Rattle.fo_core.specs.declared.signature.Sig.{Sig}
use Rattle.fo_core.specs.Tables.{symbol_at, tuples, place}
use Rattle.fo_core.specs.Sorted.{IsSymbol}
use Rattle.fo_core.proofs.TableLemmas.{place-lt}
use Rattle.fo_terms.specs.declared.terms.Universe.{Universe}
use Rattle.fo_terms.specs.Arranged.{IsArranged}
use Rattle.fo_core.specs.TermCounts.{copies_of}
use Rattle.fo_terms.specs.Universe.{IsOf, AreOf, sort_at, IsUniverse}
use Rattle.fo_ground.specs.declared.grounded.Atom.{Atom}
use Rattle.fo_ground.specs.declared.grounded.Atom.TheVariants.{Same, Fact, Helper}
use Rattle.fo_ground.specs.declared.layout.Layout.{Layout}
use Rattle.fo_ground.specs.Layout.{locals, same_var, slot}
use Rattle.fo_ground.specs.Grounds.{IsListed}
use Rattle.fo_ground.specs.Numbers.{count_of, first_at, row, row_end, rows, fact_count, fact_at, facts_of, atoms_of, fact_start, term_start, symbol_start, row_start, layout_of}
use Rattle.fo_ground.proofs.FactLemmas.{same_var-ordered, below_size}
use Rattle.fo_terms.specs.Blocks.{raised}
use Rattle.fo_core.proofs.TupleLemmas.{tuple-place}
use Rattle.fo_core.specs.Tuples.{tuple_at}

-- the j-th element of the i-th piece of a list of n pieces
module _ {A : Type 0} (f : ℕ → List A) (n i j : ℕ) (d : A) (lt : i < n) (below : j < length (f i)) where
  abbrev numbers : List ℕ
  numbers = range_with_len 0 n

  piece : get_or numbers i 0 ≡ i
  piece = get_or-range_with_len 0 n i 0 lt ∙ (let z : 0 + i ≡ i = omega arith in z)

  in_numbers : i < length numbers
  in_numbers = subst (λ m. i < m) (sym (length-range_with_len 0 n)) lt

  pub piece-at : get_or (flat_map f (range_with_len 0 n)) (length (flat_map f (take i (range_with_len 0 n))) + j) d ≡ get_or (f i) j d
  piece-at = get_or-flat_map f numbers i j 0 d in_numbers (subst (λ m. j < length (f m)) (sym piece) below) ∙ ap (λ m. get_or (f m) j d) piece

  pub piece-lt : length (flat_map f (take i (range_with_len 0 n))) + j < length (flat_map f (range_with_len 0 n))
  piece-lt = let le = length-flat_map-take f numbers i 0 in_numbers in let e : length (f (get_or numbers i 0)) ≡ length (f i) = ap (λ m. length (f m)) piece in omega (arith, le, e)

-- a number of two digits
pub two_digits : (c n T P : ℕ) → c < n → P < T → c * T + P < n * T
two_digits c zero T P lt p = absurd (omega arith)
two_digits zero (suc n) T P lt p = omega arith
two_digits (suc c) (suc n) T P lt p = let r = two_digits c n T P (omega arith) p in omega arith

-- how far q lies behind p in a row that ends after q
within_row : (p q first count : ℕ) → p ≤ q → q < first + count → (q - p < (first + count) - p) × (p + (q - p) ≡ q)
within_row p q first count le lt = (omega arith, omega arith)

module _ (sig : Sig) (copies : ℕ) (u : Universe) (is : IsUniverse sig copies u.terms) (arranged : IsArranged sig copies u) where
  abbrev lay : Layout
  lay = layout_of sig copies u

  abbrev count : ℕ → ℕ
  count = count_of sig copies u

  pub in_block : (s p : ℕ) → IsOf u.terms s p → (first_at sig copies u s ≤ p) × (p < first_at sig copies u s + count s)
  in_block s p of = (arranged.blocks s p (subst (λ s. s < sig.sorts) of.1 (is.sorts p of.0))).0 of

  pub same-at : (s p q : ℕ) → IsOf u.terms s p → IsOf u.terms s q → p ≤ q →
      (same_var u lay p q < length (atoms_of sig copies u)) × (get_or (atoms_of sig copies u) (same_var u lay p q) Helper ≡ Same p q)
  same-at s p q a b le =
      let n = length u.terms in
      let j = q - p in
      let f = row sig copies u in
      let in_ = in_block (sort_at u.terms p) q (b.0, b.1 ∙ sym a.1) in
      let far = within_row p q (first_at sig copies u (sort_at u.terms p)) (count (sort_at u.terms p)) le in_.1 in
      let len : length (f p) ≡ row_end sig copies u p - p = length-map-range_with_len (λ q. Same p q) p (row_end sig copies u p - p) in
      let below : j < length (f p) = subst (λ n. j < n) (sym len) far.0 in
      let lies : slice_index lay.same p ≡ row_start sig copies u p = get_or-map-range_with_len (row_start sig copies u) 0 n p p 0 a.0 (omega arith) in
      let at = piece-at f n p j Helper a.0 below in
      let lt = piece-lt f n p j Helper a.0 below in
      let sum : same_var u lay p q ≡ row_start sig copies u p + j = same_var-ordered u lay p q le ∙ ap (λ x. x + j) lies in
      let rest = flat_map (facts_of sig copies u) (range_with_len 0 (length sig.symbols)) in (
        subst (λ x. x < length (atoms_of sig copies u)) (sym sum) (omega (arith, lt, length-append (rows sig copies u) rest)),
        ap (λ x. get_or (atoms_of sig copies u) x Helper) sum
            ∙ get_or_append_left (rows sig copies u) rest Helper (row_start sig copies u p + j) lt
            ∙ at ∙ get_or-map-range_with_len (λ q. Same p q) p (row_end sig copies u p - p) j q Helper far.0 far.1,
      )

  pub locals-lt : (ps ss : List ℕ) → AreOf u.terms ps ss → AllZip (λ x n. x < n) (locals u lay ss ps) (map count ss)
  locals-lt [] [] h = tt
  locals-lt [] (s ∷ ss) h = absurd h
  locals-lt (p ∷ ps) [] h = absurd h
  locals-lt (p ∷ ps) (s ∷ ss) h = let b = in_block s p h.0 in (below_size p (first_at sig copies u s) (count s) b.0 b.1, locals-lt ps ss h.1)

  raised-locals : (ps ss : List ℕ) → AreOf u.terms ps ss → raised u.firsts ss (locals u lay ss ps) ≡ ps
  raised-locals [] [] h = refl
  raised-locals [] (s ∷ ss) h = absurd h
  raised-locals (p ∷ ps) [] h = absurd h
  raised-locals (p ∷ ps) (s ∷ ss) h =
      let b = in_block s p h.0 in
      let e : first_at sig copies u s + (p - first_at sig copies u s) ≡ p = omega (arith, b.0) in
      ap (λ q. q ∷ raised u.firsts ss (locals u lay ss ps)) e ∙ ap (λ qs. p ∷ qs) (raised-locals ps ss h.1)

  pub start-is : (k : ℕ) → k < length sig.symbols → slice_index lay.starts k ≡ symbol_start sig copies u k
  start-is k lt = get_or-map-range_with_len (symbol_start sig copies u) 0 (length sig.symbols) k k 0 lt (omega arith)

  pub fact-at : (r c : ℕ) (ps : List ℕ) → IsSymbol sig copies true r c → AreOf u.terms ps (symbol_at sig r).args →
      (slot u lay r c ps < length (atoms_of sig copies u)) × (get_or (atoms_of sig copies u) (slot u lay r c ps) Helper ≡ Fact r c ps)
  fact-at r c ps s of =
      let ss = (symbol_at sig r).args in
      let ns = map count ss in
      let ls = locals u lay ss ps in
      let below = locals-lt ps ss of in
      let k-lt = place-lt ns ls below in
      let j = c * tuples ns + place ns ls in
      let f = facts_of sig copies u in
      let n = length sig.symbols in
      let in_all : j < fact_count sig copies u r = two_digits c (copies_of copies (symbol_at sig r)) (tuples ns) (place ns ls) s.copy k-lt in
      let there : f r ≡ map (fact_at sig copies u r) (range_with_len 0 (fact_count sig copies u r)) = ap (λ b. cond b (map (fact_at sig copies u r) (range_with_len 0 (fact_count sig copies u r))) []) s.kind in
      let len : length (f r) ≡ fact_count sig copies u r = ap length there ∙ length-map-range_with_len (fact_at sig copies u r) 0 (fact_count sig copies u r) in
      let j-in : j < length (f r) = subst (λ n. j < n) (sym len) in_all in
      let at = piece-at f n r j Helper s.within j-in in
      let lt = piece-lt f n r j Helper s.within j-in in
      let value : get_or (f r) j Helper ≡ fact_at sig copies u r j = ap (λ xs. get_or xs j Helper) there ∙ get_or-map-range_with_len (fact_at sig copies u r) 0 (fact_count sig copies u r) j j Helper in_all (omega arith) in
      let named : fact_at sig copies u r j ≡ Fact r c ps =
      ap (λ (d : ℕ). Fact r d (raised u.firsts ss (tuple_at ns (j % tuples ns)))) (div-mul-add c (tuples ns) (place ns ls) k-lt)
      ∙ ap (λ (m : ℕ). Fact r c (raised u.firsts ss (tuple_at ns m))) (mod-mul-add c (tuples ns) (place ns ls) k-lt)
      ∙ ap (λ (xs : List ℕ). Fact r c (raised u.firsts ss xs)) (tuple-place ns ls below)
      ∙ ap (λ (qs : List ℕ). Fact r c qs) (raised-locals ps ss of) in
      let before = length (flat_map f (take r (range_with_len 0 n))) in
      let lies : slice_index lay.starts r ≡ fact_start sig copies u r = start-is r s.within ∙ ap (λ b. cond b (fact_start sig copies u r) (term_start sig copies u r)) s.kind in
      let sum : slot u lay r c ps ≡ length (rows sig copies u) + (before + j) = ap (λ x. x + j) lies ∙ (let z : fact_start sig copies u r + j ≡ length (rows sig copies u) + (before + j) = omega arith in z) in
      let rest = flat_map f (range_with_len 0 n) in (
        subst (λ x. x < length (atoms_of sig copies u)) (sym sum) (omega (arith, lt, length-append (rows sig copies u) rest)),
        ap (λ x. get_or (atoms_of sig copies u) x Helper) sum
            ∙ get_or-append-add (rows sig copies u) rest (before + j) Helper
            ∙ at ∙ value ∙ named,
      )

  -- helpers behind the atoms move none of them
  pub listed : (helpers : List Atom) → IsListed u lay (atoms_of sig copies u ++ helpers)
  listed helpers = record {
    same = λ s p q a b le. let r = same-at s p q a b le in get_or_append_left (atoms_of sig copies u) helpers Helper (same_var u lay p q) r.0 ∙ r.1;
    facts = λ k c ps s of. let r = fact-at k c ps s of in get_or_append_left (atoms_of sig copies u) helpers Helper (slot u lay k c ps) r.0 ∙ r.1;
  }
