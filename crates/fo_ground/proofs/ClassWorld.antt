-- The quotient world: a ground term's value there is its class.
use Rattle.std.proofs.Common.{◌≡◌, ◌↔◌, ℕ, Bool, true, false, cond, ◌+◌, ◌<◌, ◌≤◌, List, [], ◌∷◌, length, get_or, map, refl, sym, ap, subst, ◌∙◌, arith, true≢false, zero-add}
use Rattle.std.specs.List.{All, AllZip, filter}
use Rattle.std.specs.Prelude.{slice_index, slice_index_or}
use Rattle.std.proofs.Math.ListN.{set}
use Rattle.std.proofs.lemmas.List.FromFn.{get_or-map-range_with_len, length-map-range_with_len}
use Rattle.std.proofs.lemmas.List.Elements.{All-head, All-tail, All-get_or}
use Rattle.fo_core.specs.declared.signature.Sig.{Sig}
use Rattle.fo_core.specs.declared.signature.Symbol.{Symbol}
use Rattle.fo_core.specs.declared.world.World.{World}
use Rattle.fo_core.specs.Tables.{no_symbol, no_table, symbol_at, tuples, place, is_like, arg_sizes, range_of, rank, table_of, entry, IsTable, AreTables, Fits}
use Rattle.fo_core.specs.Truth.{reading}
use Rattle.fo_core.specs.Sorted.{IsSymbol, HasSorts, IsSig}
use Rattle.fo_terms.specs.declared.terms.Ground.{Ground}
use Rattle.fo_terms.specs.Universe.{IsOf, AreOf, sort_at}
use Rattle.fo_ground.specs.Instances.{IsEquality}
use Rattle.fo_ground.specs.Classes.{IsNaming, IsClosed, IsNamed, bit, heads_of, class_of, class_count, heads_at, class_entry, class_table, class_tables, class_world}
use Rattle.fo_ground.proofs.Heads.{head-is, class_of-lt, head-same, class-same, class_of-head, class-equal}
use Rattle.fo_ground.proofs.Changes.{all_changed}
use Rattle.fo_ground.proofs.ClassTables.{class_table-at, class_tables-at, class_tables-are}
use Rattle.fo_core.specs.Tuples.{tuple_at}
use Rattle.fo_core.proofs.TupleLemmas.{tuple-below}

-- ground terms of a signature, closed under its functions, with one of each sort
pub record IsBasis (ts : List Ground) (at : ℕ → ℕ → List ℕ → ℕ) (sig : Sig) (copies : ℕ) : Type 0 where
  pub signature : IsSig sig
  pub closed : IsClosed ts at sig copies
  pub sorts : (p : ℕ) → p < length ts → sort_at ts p < sig.sorts
  pub nonempty : (s : ℕ) → s < sig.sorts → (p : ℕ) × IsOf ts s p
  pub some_copy : 1 ≤ copies

module _ (ts : List Ground) (at : ℕ → ℕ → List ℕ → ℕ) (same : ℕ → ℕ → Bool) (fact : ℕ → ℕ → List ℕ → Bool) (sig : Sig) (copies : ℕ)
    (basis : IsBasis ts at sig copies) (e : IsEquality ts at same fact sig copies) where
  abbrev w : World
  w = class_world ts at same fact sig copies

  abbrev cls : ℕ → ℕ
  cls = class_of ts at same fact

  abbrev count : ℕ → ℕ
  count = class_count ts at same fact

  size-is : (s : ℕ) → s < sig.sorts → slice_index w.sizes s ≡ count s
  size-is s lt = get_or-map-range_with_len count 0 sig.sorts s s 0 lt (omega arith)

  sizes-are : (ss : List ℕ) → All (λ s. s < sig.sorts) ss → map (slice_index w.sizes) ss ≡ map count ss
  sizes-are [] h = refl
  sizes-are (s ∷ ss) h =
      ap (λ n. n ∷ map (slice_index w.sizes) ss) (size-is s (All-head (λ s. s < sig.sorts) s ss h)) ∙ ap (λ ns. count s ∷ ns) (sizes-are ss (All-tail (λ s. s < sig.sorts) s ss h))

  sorts-of : (k : ℕ) → k < length sig.symbols → HasSorts sig.sorts (symbol_at sig k)
  sorts-of k lt = All-get_or (HasSorts sig.sorts) sig.symbols k no_symbol lt basis.signature.sorts

  arg_sizes-are : (k : ℕ) → k < length sig.symbols → arg_sizes w.sizes (symbol_at sig k) ≡ map count (symbol_at sig k).args
  arg_sizes-are k lt = sizes-are (symbol_at sig k).args (sorts-of k lt).args

  is_like-itself : (s : Symbol) (b : Bool) → s.mutable ≡ b → is_like b s ≡ true
  is_like-itself s b e = subst (λ b. is_like b s ≡ true) e (itself s.mutable)
    where
      itself : (b : Bool) → is_like b (record s { mutable = b }) ≡ true
      itself true = refl
      itself false = refl

  -- looking up a symbol in the quotient world finds its class table
  table_of-is : (r : Bool) (k c : ℕ) → IsSymbol sig copies r k c → table_of sig w c k ≡ class_table ts at same fact c k (symbol_at sig k)
  table_of-is r k c is = by_kind (symbol_at sig k).mutable refl
    where
      found : (c : ℕ) → get_or (class_tables ts at same fact (symbol_at sig k).mutable c 0 sig.symbols) (rank sig k) no_table ≡ class_table ts at same fact c k (symbol_at sig k)
      found c =
          class_tables-at ts at same fact (symbol_at sig k).mutable c 0 k sig.symbols no_symbol no_table is.within (is_like-itself (symbol_at sig k) (symbol_at sig k).mutable refl)
          ∙ ap (λ n. class_table ts at same fact c n (symbol_at sig k)) (let z : 0 + k ≡ k = omega arith in z)

      by_kind : (b : Bool) → (symbol_at sig k).mutable ≡ b →
          cond b (slice_index_or (slice_index_or w.copies c []) (rank sig k) no_table) (slice_index_or w.fixed (rank sig k) no_table) ≡ class_table ts at same fact c k (symbol_at sig k)
      by_kind true m =
          let below : c < copies = subst (λ b. c < cond b copies 1) m is.copy in
          ap (λ ts. get_or ts (rank sig k) no_table) (get_or-map-range_with_len (λ c. class_tables ts at same fact true c 0 sig.symbols) 0 copies c c [] below (omega arith))
          ∙ ap (λ b. get_or (class_tables ts at same fact b c 0 sig.symbols) (rank sig k) no_table) (sym m) ∙ found c
      by_kind false m =
          let below : c < 1 = subst (λ b. c < cond b copies 1) m is.copy in
          let none : 0 ≡ c = omega arith in
          ap (λ b. get_or (class_tables ts at same fact b 0 0 sig.symbols) (rank sig k) no_table) (sym m) ∙ found 0 ∙ ap (λ c. class_table ts at same fact c k (symbol_at sig k)) none

  entry-is : (r : Bool) (k c : ℕ) (xs : List ℕ) → IsSymbol sig copies r k c → AllZip (λ x n. x < n) xs (map count (symbol_at sig k).args) → entry sig w c k xs ≡ class_entry ts at same fact c k (symbol_at sig k) xs
  entry-is r k c xs is h =
      let s = symbol_at sig k in
      ap (λ t. slice_index t.values (place (arg_sizes w.sizes s) xs)) (table_of-is r k c is)
      ∙ class_table-at ts at same fact c k s (arg_sizes w.sizes s) xs (sym (arg_sizes-are k is.within)) (subst (AllZip (λ x n. x < n) xs) (sym (arg_sizes-are k is.within)) h)

  -- class numbers are below the sizes, and first terms are of their sorts
  classes-lt : (ps ss : List ℕ) → AreOf ts ps ss → AllZip (λ x n. x < n) (map cls ps) (map count ss)
  classes-lt [] [] h = tt
  classes-lt [] (s ∷ ss) h = absurd h
  classes-lt (p ∷ ps) [] h = absurd h
  classes-lt (p ∷ ps) (s ∷ ss) h = (class_of-lt ts at same fact sig copies e s p h.0, classes-lt ps ss h.1)

  heads_at-are : (xs ss : List ℕ) → AllZip (λ x n. x < n) xs (map count ss) → AreOf ts (heads_at ts at same fact ss xs) ss
  heads_at-are [] [] h = tt
  heads_at-are [] (s ∷ ss) h = absurd h
  heads_at-are (x ∷ xs) [] h = absurd h
  heads_at-are (x ∷ xs) (s ∷ ss) h = (head-is ts at same fact sig copies e s x h.0, heads_at-are xs ss h.1)

  heads_at-same : (ps ss : List ℕ) → AreOf ts ps ss → AllZip (λ x y. same x y ≡ true) (heads_at ts at same fact ss (map cls ps)) ps
  heads_at-same [] [] h = tt
  heads_at-same [] (s ∷ ss) h = absurd h
  heads_at-same (p ∷ ps) [] h = absurd h
  heads_at-same (p ∷ ps) (s ∷ ss) h = (head-same ts at same fact sig copies e s p h.0, heads_at-same ps ss h.1)

  same-back : (ps qs ss : List ℕ) → AreOf ts ps ss → AreOf ts qs ss → AllZip (λ x y. same x y ≡ true) ps qs → AllZip (λ x y. same x y ≡ true) qs ps
  same-back [] [] ss a b h = tt
  same-back [] (q ∷ qs) ss a b h = absurd h
  same-back (p ∷ ps) [] ss a b h = absurd h
  same-back (p ∷ ps) (q ∷ qs) [] a b h = absurd a
  same-back (p ∷ ps) (q ∷ qs) (s ∷ ss) a b h = (e.symmetric s p q a.0 b.0 h.0, same-back ps qs ss a.1 b.1 h.1)

  -- functions and relations respect equality in all arguments at once
  functions-same : (f c : ℕ) (ps qs : List ℕ) → IsSymbol sig copies false f c → AreOf ts ps (symbol_at sig f).args → AreOf ts qs (symbol_at sig f).args → AllZip (λ x y. same x y ≡ true) ps qs → same (at f c ps) (at f c qs) ≡ true
  functions-same f c ps qs is a b z =
      let s = symbol_at sig f in
      all_changed ts same s.args (λ xs. same (at f c ps) (at f c xs) ≡ true)
      (λ xs i p of next lt h t q.
      e.transitive s.result (at f c ps) (at f c xs) (at f c (set xs i p)) (basis.closed f c ps is a) (basis.closed f c xs is of) (basis.closed f c (set xs i p) is next) q (e.functions f c xs i p is of lt h t))
      ps qs a b z (e.reflexive s.result (at f c ps) (basis.closed f c ps is a))

  relations-same : (r c : ℕ) (ps qs : List ℕ) → IsSymbol sig copies true r c → AreOf ts ps (symbol_at sig r).args → AreOf ts qs (symbol_at sig r).args → AllZip (λ x y. same x y ≡ true) ps qs → fact r c ps ≡ true → fact r c qs ≡ true
  relations-same r c ps qs is a b z = all_changed ts same (symbol_at sig r).args (λ xs. fact r c xs ≡ true) (λ xs i p of next lt h t q. e.relations r c xs i p is of lt h t q) ps qs a b z

  is_one : (b : Bool) → (b ≡ true) ↔ (bit b ≡ 1)
  is_one true = (λ _. refl, λ _. refl)
  is_one false = (λ t. absurd (true≢false (sym t)), λ z. absurd (omega arith))

  -- class numbers are a naming by the quotient world
  pub naming : IsNaming ts at same fact sig copies w.sizes (reading sig w 0) cls
  naming = record {
    within = λ s p of. subst (λ n. cls p < n) (sym (size-is s (subst (λ s. s < sig.sorts) of.1 (basis.sorts p of.0)))) (class_of-lt ts at same fact sig copies e s p of);
    applied = λ f c args is of.
        let s = symbol_at sig f in
        let lt = classes-lt args s.args of in
        let hs = heads_at ts at same fact s.args (map cls args) in
        let are = heads_at-are (map cls args) s.args lt in
        ap (λ d. entry sig w d f (map cls args)) (zero-add c)
        ∙ entry-is false f c (map cls args) is lt
        ∙ ap (λ b. cond b (bit (fact f c hs)) (cls (at f c hs))) is.kind
        ∙ class-equal ts at same fact sig copies e s.result (at f c hs) (at f c args) (basis.closed f c hs is are) (basis.closed f c args is of) (functions-same f c hs args is are of (heads_at-same args s.args of));
    equal = λ s p q a b. (class-equal ts at same fact sig copies e s p q a b, class-same ts at same fact sig copies e s p q a b);
    facts = λ r c args is of.
        let s = symbol_at sig r in
        let lt = classes-lt args s.args of in
        let hs = heads_at ts at same fact s.args (map cls args) in
        let are = heads_at-are (map cls args) s.args lt in
        let z = heads_at-same args s.args of in
        let value : reading sig w 0 c r (map cls args) ≡ bit (fact r c hs) = ap (λ d. entry sig w d r (map cls args)) (zero-add c) ∙ entry-is true r c (map cls args) is lt ∙ ap (λ b. cond b (bit (fact r c hs)) (cls (at r c hs))) is.kind in
        let one = is_one (fact r c hs) in
        (λ t. value ∙ one.0 (relations-same r c args hs is of are (same-back hs args s.args are of z) t), λ v. relations-same r c hs args is are of z (one.1 (sym value ∙ v)));
  }

  -- every element of the quotient world is named, by the first term of the class
  pub named : IsNamed ts sig w.sizes cls
  named s x within lt =
      let lt' : x < count s = subst (λ n. x < n) (size-is s within) lt in
      (slice_index (heads_of ts at same fact s) x, head-is ts at same fact sig copies e s x lt', class_of-head ts at same fact sig copies e s x lt')

  -- entries of class tables are in range
  class_entry-lt : (k c : ℕ) (xs : List ℕ) → k < length sig.symbols → c < cond (symbol_at sig k).mutable copies 1 → AllZip (λ x n. x < n) xs (map count (symbol_at sig k).args) → class_entry ts at same fact c k (symbol_at sig k) xs < range_of w.sizes (symbol_at sig k)
  class_entry-lt k c xs lt within h = by_kind (symbol_at sig k).relation refl
    where
      bit-lt : (b : Bool) → bit b < 2
      bit-lt true = omega arith
      bit-lt false = omega arith

      by_kind : (b : Bool) → (symbol_at sig k).relation ≡ b →
          cond b (bit (fact k c (heads_at ts at same fact (symbol_at sig k).args xs))) (cls (at k c (heads_at ts at same fact (symbol_at sig k).args xs))) < cond b 2 (slice_index w.sizes (symbol_at sig k).result)
      by_kind true e = bit-lt _
      by_kind false e' =
          let s = symbol_at sig k in
          let is : IsSymbol sig copies false k c = record { within = lt; kind = e'; copy = within } in
          subst (λ n. cls (at k c (heads_at ts at same fact s.args xs)) < n) (sym (size-is s.result ((sorts-of k lt).result e')))
          (class_of-lt ts at same fact sig copies e s.result _ (basis.closed k c (heads_at ts at same fact s.args xs) is (heads_at-are xs s.args h)))

  pub table-is : (k c : ℕ) → k < length sig.symbols → c < cond (symbol_at sig k).mutable copies 1 → IsTable w.sizes (symbol_at sig k) (class_table ts at same fact c k (symbol_at sig k))
  table-is k c lt within =
      let s = symbol_at sig k in
      let counts = map count s.args in
      record {
        total = length-map-range_with_len (λ i. class_entry ts at same fact c k s (tuple_at counts i)) 0 (tuples counts) ∙ ap tuples (sym (arg_sizes-are k lt));
        in_range = λ j d below.
            let below' : j < tuples counts = subst (λ n. j < n) (length-map-range_with_len (λ i. class_entry ts at same fact c k s (tuple_at counts i)) 0 (tuples counts)) below in
            subst (λ v. v < range_of w.sizes s) (sym (get_or-map-range_with_len (λ i. class_entry ts at same fact c k s (tuple_at counts i)) 0 (tuples counts) j j d below' (omega arith)))
            (class_entry-lt k c (tuple_at counts j) lt within (tuple-below counts j below'));
      }

  mutable_is : (s : Symbol) (b : Bool) → is_like b s ≡ true → s.mutable ≡ b
  mutable_is s b h = by_both s.mutable b h
    where
      by_both : (m b : Bool) → is_like b (record s { mutable = m }) ≡ true → m ≡ b
      by_both true true h = refl
      by_both false false h = refl
      by_both true false h = absurd (true≢false (sym h))
      by_both false true h = absurd (true≢false (sym h))

  tables-are : (b : Bool) (c : ℕ) → c < cond b copies 1 → AreTables w.sizes (filter (is_like b) sig.symbols) (class_tables ts at same fact b c 0 sig.symbols)
  tables-are b c within = class_tables-are ts at same fact w.sizes b c 0 no_symbol sig.symbols (λ j lt like.
      subst (λ n. IsTable w.sizes (symbol_at sig j) (class_table ts at same fact c n (symbol_at sig j))) (let z : j ≡ 0 + j = omega arith in z) (table-is j c lt (subst (λ b. c < cond b copies 1) (sym (mutable_is (symbol_at sig j) b like)) within)))

  pub fits : Fits sig w
  fits = record {
    sorts = length-map-range_with_len count 0 sig.sorts;
    nonempty = λ s d lt.
        let lt' : s < sig.sorts = subst (λ n. s < n) (length-map-range_with_len count 0 sig.sorts) lt in
        let some = basis.nonempty s lt' in
        let below = class_of-lt ts at same fact sig copies e s some.0 some.1 in
        subst (λ n. 1 ≤ n) (sym (get_or-map-range_with_len count 0 sig.sorts s s d lt' (omega arith))) (omega arith);
    fixed = tables-are false 0 (omega arith);
    some_copy = subst (λ n. 1 ≤ n) (sym (length-map-range_with_len (λ c. class_tables ts at same fact true c 0 sig.symbols) 0 copies)) basis.some_copy;
    copies = λ c d lt.
        let lt' : c < copies = subst (λ n. c < n) (length-map-range_with_len (λ c. class_tables ts at same fact true c 0 sig.symbols) 0 copies) lt in
        subst (AreTables w.sizes (filter (is_like true) sig.symbols)) (sym (get_or-map-range_with_len (λ c. class_tables ts at same fact true c 0 sig.symbols) 0 copies c c d lt' (omega arith))) (tables-are true c lt');
  }
