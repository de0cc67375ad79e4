-- The entries of a class table, and its place among the tables of its kind.
use Rattle.std.proofs.Common.{◌≡◌, ℕ, zero, suc, Bool, true, false, cond, ◌+◌, ◌*◌, ◌<◌, List, [], ◌∷◌, length, get_or, take, map, refl, sym, ap, subst, ◌∙◌, arith}
use Rattle.std.specs.List.{AllZip, filter}
use Rattle.std.specs.Prelude.{slice_index}
use Rattle.std.proofs.lemmas.List.FromFn.{get_or-map-range_with_len}
use Rattle.fo_core.specs.declared.signature.Symbol.{Symbol}
use Rattle.fo_core.specs.declared.world.Table.{Table}
use Rattle.fo_core.specs.Tables.{tuples, place, is_like, IsTable, AreTables}
use Rattle.fo_core.proofs.TableLemmas.{place-lt}
use Rattle.fo_terms.specs.declared.terms.Ground.{Ground}
use Rattle.fo_ground.specs.Classes.{class_count, class_entry, class_table, class_tables}
use Rattle.fo_core.specs.Tuples.{tuple_at}
use Rattle.fo_core.proofs.TupleLemmas.{tuple-place}

pub positive_of : (n T k : ℕ) → k < n * T → 0 < T
positive_of n zero k lt = absurd (omega arith)
positive_of n (suc T) k lt = omega arith

module _ (ts : List Ground) (at : ℕ → ℕ → List ℕ → ℕ) (same : ℕ → ℕ → Bool) (fact : ℕ → ℕ → List ℕ → Bool) where
  -- a class table at a tuple's place has the tuple's entry
  pub class_table-at : (c k : ℕ) (s : Symbol) (ns xs : List ℕ) → map (class_count ts at same fact) s.args ≡ ns → AllZip (λ x n. x < n) xs ns →
      slice_index (class_table ts at same fact c k s).values (place ns xs) ≡ class_entry ts at same fact c k s xs
  class_table-at c k s ns xs e h =
      let counts = map (class_count ts at same fact) s.args in
      let h' : AllZip (λ x n. x < n) xs counts = subst (AllZip (λ x n. x < n) xs) (sym e) h in
      ap (λ ns. slice_index (class_table ts at same fact c k s).values (place ns xs)) (sym e)
      ∙ get_or-map-range_with_len (λ i. class_entry ts at same fact c k s (tuple_at counts i)) 0 (tuples counts) (place counts xs) (place counts xs) 0 (place-lt counts xs h') (omega arith)
      ∙ ap (class_entry ts at same fact c k s) (tuple-place counts xs h')

  -- the table of a symbol stands at the symbol's rank
  pub class_tables-at : (b : Bool) (c k j : ℕ) (ss : List Symbol) (d : Symbol) (t : Table) → j < length ss → is_like b (get_or ss j d) ≡ true →
      get_or (class_tables ts at same fact b c k ss) (length (filter (is_like b) (take j ss))) t ≡ class_table ts at same fact c (k + j) (get_or ss j d)
  class_tables-at b c k j [] d t lt h = absurd (omega arith)
  class_tables-at b c k zero (s ∷ ss) d t lt h =
      ap (λ x. get_or (cond x (class_table ts at same fact c k s ∷ class_tables ts at same fact b c (suc k) ss) (class_tables ts at same fact b c (suc k) ss)) 0 t) h
      ∙ ap (λ n. class_table ts at same fact c n s) (let e : k ≡ k + 0 = omega arith in e)
  class_tables-at b c k (suc j) (s ∷ ss) d t lt h =
      after (is_like b s) ∙ class_tables-at b c (suc k) j ss d t (omega arith) h ∙ ap (λ n. class_table ts at same fact c n (get_or ss j d)) (let e : suc k + j ≡ k + suc j = omega arith in e)
    where
      after : (x : Bool) →
          get_or (cond x (class_table ts at same fact c k s ∷ class_tables ts at same fact b c (suc k) ss) (class_tables ts at same fact b c (suc k) ss))
          (length (cond x (s ∷ filter (is_like b) (take j ss)) (filter (is_like b) (take j ss)))) t
          ≡ get_or (class_tables ts at same fact b c (suc k) ss) (length (filter (is_like b) (take j ss))) t
      after true = refl
      after false = refl

  -- class tables are tables for their symbols if each of them is
  pub class_tables-are : (sizes : List ℕ) (b : Bool) (c k : ℕ) (d : Symbol) (ss : List Symbol) →
      ((j : ℕ) → j < length ss → is_like b (get_or ss j d) ≡ true → IsTable sizes (get_or ss j d) (class_table ts at same fact c (k + j) (get_or ss j d))) →
      AreTables sizes (filter (is_like b) ss) (class_tables ts at same fact b c k ss)
  class_tables-are sizes b c k d [] each = tt
  class_tables-are sizes b c k d (s ∷ ss) each =
      by_kind (is_like b s) refl
      (class_tables-are sizes b c (suc k) d ss (λ j lt h. subst (λ n. IsTable sizes (get_or ss j d) (class_table ts at same fact c n (get_or ss j d))) (let e : k + suc j ≡ suc k + j = omega arith in e) (each (suc j) (omega arith) h)))
    where
      by_kind : (x : Bool) → is_like b s ≡ x → AreTables sizes (filter (is_like b) ss) (class_tables ts at same fact b c (suc k) ss) →
          AreTables sizes (cond x (s ∷ filter (is_like b) ss) (filter (is_like b) ss)) (cond x (class_table ts at same fact c k s ∷ class_tables ts at same fact b c (suc k) ss) (class_tables ts at same fact b c (suc k) ss))
      by_kind true e rest = (subst (λ n. IsTable sizes s (class_table ts at same fact c n s)) (let e : k + 0 ≡ k = omega arith in e) (each 0 (omega arith) e), rest)
      by_kind false e rest = rest
