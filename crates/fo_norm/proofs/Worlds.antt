-- What the symbols read in a world with more tables.
use Rattle.std.proofs.Common.{◌≡◌, ℕ, zero, suc, Bool, true, false, cond, ◌+◌, ◌-◌, ◌<◌, ◌≤◌, ◌⊎◌, inl, inr, List, [], ◌∷◌, ◌++◌, length, get_or, map, take, refl, sym, ap, subst, ◌∙◌, arith}
use Rattle.std.specs.Bool.{beq}
use Rattle.std.specs.List.{All, AllZip, filter}
use Rattle.std.specs.Prelude.{slice_index}
use Rattle.std.proofs.lemmas.Bool.{cases_lt}
use Rattle.std.proofs.lemmas.List.{get_or_append_left, get_or-append-add, take-append-le}
use Rattle.std.proofs.lemmas.List.Elements.{All-head, All-tail, All-nil}
use Rattle.fo_core.specs.declared.signature.Sig.{Sig}
use Rattle.fo_core.specs.declared.signature.Symbol.{Symbol}
use Rattle.fo_core.specs.declared.formula.Formula.{Formula}
use Rattle.fo_core.specs.declared.world.Table.{Table}
use Rattle.fo_core.specs.declared.world.World.{World}
use Rattle.fo_core.specs.Tables.{no_symbol, no_table, symbol_at, place, arg_sizes, range_of, is_like, rank, table_of, entry, AreTables, Fits}
use Rattle.fo_core.specs.Sorted.{IsFormula}
use Rattle.fo_core.specs.Truth.{Truth, TruthIn, reading}
use Rattle.fo_core.proofs.TableLemmas.{fixed_at, place-lt}
use Rattle.fo_core.specs.Skolems.{extended, skolem_symbols}
use Rattle.fo_norm.specs.Extended.{with_tables}
use Rattle.fo_norm.specs.Skolem.{formed}
use Rattle.fo_norm.proofs.Readings.{Agree, agree-itself, IsSlot, vector, vector-none}
use Rattle.fo_norm.proofs.Backward.{Under, InRange, sound}
use Rattle.fo_norm.proofs.Forward.{Tabled, Outcome, complete}

tables-length : (w : World) (ss : List Symbol) (ts : List Table) → AreTables w.sizes ss ts → length ts ≡ length ss
tables-length w [] [] h = refl
tables-length w [] (t ∷ ts) h = absurd h
tables-length w (s ∷ ss) [] h = absurd h
tables-length w (s ∷ ss) (t ∷ ts) h = ap suc (tables-length w ss ts h.1)

not_mutable-like : (s : Symbol) → s.mutable ≡ false → is_like false s ≡ true
not_mutable-like s is = ap (λ b. beq b false) is

count-front : {X : Type 0} (p : X → Bool) (ys : List X) (i : ℕ) → i ≤ length ys → All (λ y. p y ≡ true) ys → length (filter p (take i ys)) ≡ i
count-front p ys zero le all = refl
count-front p [] (suc i) le all = absurd (omega arith)
count-front {X} p (y ∷ ys) (suc i) le all =
    ap (λ b. length (cond b (y ∷ filter p (take i ys)) (filter p (take i ys)))) (All-head (λ y. p y ≡ true) y ys all) ∙ ap suc (count-front p ys i (omega arith) (All-tail (λ y. p y ≡ true) y ys all))

-- behind a list, all that pass are counted
count-behind : {X : Type 0} (p : X → Bool) (xs ys : List X) (i n : ℕ) → n ≡ length xs + i → i ≤ length ys → All (λ y. p y ≡ true) ys → length (filter p (take n (xs ++ ys))) ≡ length (filter p xs) + i
count-behind p [] ys i n e le all =
    let same : n ≡ i = omega arith in
    ap (λ n. length (filter p (take n ys))) same ∙ count-front p ys i le all ∙ omega arith
count-behind {X} p (x ∷ xs) ys i zero e le all = absurd (omega arith)
count-behind {X} p (x ∷ xs) ys i (suc n) e le all = step (p x) (count-behind p xs ys i n (omega arith) le all)
  where
    step : (b : Bool) → length (filter p (take n (xs ++ ys))) ≡ length (filter p xs) + i →
        length (cond b (x ∷ filter p (take n (xs ++ ys))) (filter p (take n (xs ++ ys)))) ≡ length (cond b (x ∷ filter p xs) (filter p xs)) + i
    step true e = omega (arith, e)
    step false e = e

module _ (sig : Sig) (S : List Symbol) (w : World) (ts : List Table) (fits : Fits sig w) (fixed : All (λ (s : Symbol). s.mutable ≡ false) S) (tables : AreTables w.sizes S ts) (c : ℕ) where
  symbol-old : (k : ℕ) → k < length sig.symbols → symbol_at (extended sig S) k ≡ symbol_at sig k
  symbol-old k lt = get_or_append_left sig.symbols S no_symbol k lt

  rank-old : (k : ℕ) → k < length sig.symbols → rank (extended sig S) k ≡ rank sig k
  rank-old k lt =
      ap (λ (s : Symbol). length (filter (is_like s.mutable) (take k (sig.symbols ++ S)))) (symbol-old k lt)
      ∙ ap (λ xs. length (filter (is_like (symbol_at sig k).mutable) xs)) (take-append-le k sig.symbols S (omega arith))

  table-old : (k : ℕ) → k < length sig.symbols → table_of (extended sig S) (with_tables w ts) c k ≡ table_of sig w c k
  table-old k lt =
      ap (λ (s : Symbol). cond s.mutable (get_or (get_or w.copies c []) (rank (extended sig S) k) no_table) (get_or (w.fixed ++ ts) (rank (extended sig S) k) no_table)) (symbol-old k lt)
      ∙ ap (λ r. cond (symbol_at sig k).mutable (get_or (get_or w.copies c []) r no_table) (get_or (w.fixed ++ ts) r no_table)) (rank-old k lt)
      ∙ by_kind (symbol_at sig k).mutable refl
    where
      by_kind : (b : Bool) → (symbol_at sig k).mutable ≡ b →
          cond b (get_or (get_or w.copies c []) (rank sig k) no_table) (get_or (w.fixed ++ ts) (rank sig k) no_table) ≡ cond b (get_or (get_or w.copies c []) (rank sig k) no_table) (get_or w.fixed (rank sig k) no_table)
      by_kind true is = refl
      by_kind false is = get_or_append_left w.fixed ts no_table (rank sig k) (fixed_at sig w k fits lt is).0

  pub entry-old : (k : ℕ) (xs : List ℕ) → k < length sig.symbols → entry (extended sig S) (with_tables w ts) c k xs ≡ entry sig w c k xs
  entry-old k xs lt =
      ap (λ (t : Table). get_or t.values (place (arg_sizes w.sizes (symbol_at (extended sig S) k)) xs) 0) (table-old k lt)
      ∙ ap (λ s. get_or (table_of sig w c k).values (place (arg_sizes w.sizes s) xs) 0) (symbol-old k lt)

  symbol-new : (i : ℕ) → symbol_at (extended sig S) (length sig.symbols + i) ≡ get_or S i no_symbol
  symbol-new i = get_or-append-add sig.symbols S i no_symbol

  like_fixed : All (λ s. is_like false s ≡ true) S
  like_fixed k d lt = not_mutable-like (get_or S k d) (fixed k d lt)

  rank-new : (i : ℕ) → i < length S → rank (extended sig S) (length sig.symbols + i) ≡ length w.fixed + i
  rank-new i lt =
      ap (λ b. length (filter (is_like b) (take (length sig.symbols + i) (sig.symbols ++ S)))) (ap (λ (s : Symbol). s.mutable) (symbol-new i) ∙ fixed i no_symbol lt)
      ∙ count-behind (is_like false) sig.symbols S i (length sig.symbols + i) refl (omega arith) like_fixed
      ∙ ap (λ n. n + i) (sym (tables-length w (filter (is_like false) sig.symbols) w.fixed fits.fixed))

  pub entry-new : (i : ℕ) (xs : List ℕ) → i < length S → entry (extended sig S) (with_tables w ts) c (length sig.symbols + i) xs ≡ slice_index (get_or ts i no_table).values (place (arg_sizes w.sizes (get_or S i no_symbol)) xs)
  entry-new i xs lt =
      ap (λ (s : Symbol). get_or (cond s.mutable (get_or (get_or w.copies c []) (rank (extended sig S) (length sig.symbols + i)) no_table) (get_or (w.fixed ++ ts) (rank (extended sig S) (length sig.symbols + i)) no_table)).values (place (arg_sizes w.sizes s) xs) 0) (symbol-new i)
      ∙ ap (λ b. get_or (cond b (get_or (get_or w.copies c []) (rank (extended sig S) (length sig.symbols + i)) no_table) (get_or (w.fixed ++ ts) (rank (extended sig S) (length sig.symbols + i)) no_table)).values (place (arg_sizes w.sizes (get_or S i no_symbol)) xs) 0) (fixed i no_symbol lt)
      ∙ ap (λ r. get_or (get_or (w.fixed ++ ts) r no_table).values (place (arg_sizes w.sizes (get_or S i no_symbol)) xs) 0) (rank-new i lt)
      ∙ ap (λ (t : Table). get_or t.values (place (arg_sizes w.sizes (get_or S i no_symbol)) xs) 0) (get_or-append-add w.fixed ts i no_table)

-- what a table in range gives, at each place
abbrev pub at_places : World → (ℕ → ℕ → List ℕ → ℕ) → ℕ → List Symbol → List Table → Type 0
at_places w J next S ts = (i : ℕ) → i < length S → (d : ℕ) (xs : List ℕ) → J d (next + i) xs ≡ slice_index (get_or ts i no_table).values (place (arg_sizes w.sizes (get_or S i no_symbol)) xs)

places-more : (w : World) (J : ℕ → ℕ → List ℕ → ℕ) (next : ℕ) (s : Symbol) (S : List Symbol) (t : Table) (ts : List Table) → ((d : ℕ) (xs : List ℕ) → J d next xs ≡ slice_index t.values (place (arg_sizes w.sizes s) xs)) → at_places w J (next + 1) S ts → at_places w J next (s ∷ S) (t ∷ ts)
places-more w J next s S t ts h r zero lt d xs = let e : next + 0 ≡ next = omega arith in ap (λ n. J d n xs) e ∙ h d xs
places-more w J next s S t ts h r (suc i) lt d xs = let e : next + suc i ≡ next + 1 + i = omega arith in ap (λ n. J d n xs) e ∙ r i (omega arith) d xs

pub tables_from : (w : World) (J : ℕ → ℕ → List ℕ → ℕ) (next : ℕ) (S : List Symbol) → Tabled w J next S → (ts : List Table) × AreTables w.sizes S ts × at_places w J next S ts
tables_from w J next [] h = ([], tt, λ i lt. absurd (omega arith))
tables_from w J next (s ∷ S) h =
    let r = tables_from w J (next + 1) S h.1 in (h.0.0 ∷ r.0, (h.0.1, r.1), places-more w J next s S h.0.0 r.0 h.0.2 r.2)

pub range_from : (w : World) (J : ℕ → ℕ → List ℕ → ℕ) (next : ℕ) (S : List Symbol) (ts : List Table) → AreTables w.sizes S ts → All (λ (s : Symbol). s.relation ≡ false) S → at_places w J next S ts → InRange w.sizes J next S
range_from w J next [] ts h all places = tt
range_from w J next (s ∷ S) [] h all places = absurd h
range_from w J next (s ∷ S) (t ∷ ts) h all places = (
  λ xs e.
      let lt = place-lt (map (slice_index w.sizes) s.args) xs (sizes-map xs s.args e) in
      let is = let e0 : next ≡ next + 0 = omega arith in ap (λ n. J 0 n xs) e0 ∙ places 0 (omega arith) 0 xs in
      let range : range_of w.sizes s ≡ slice_index w.sizes s.result = ap (λ b. cond b 2 (slice_index w.sizes s.result)) (All-head (λ (s : Symbol). s.relation ≡ false) s S all) in
      let below = h.0.in_range (place (arg_sizes w.sizes s) xs) 0 (omega (arith, h.0.total, lt)) in
      rw is (subst (λ r. get_or t.values (place (arg_sizes w.sizes s) xs) 0 < r) range below),
  range_from w J (next + 1) S ts h.1 (All-tail (λ (s : Symbol). s.relation ≡ false) s S all) (λ i lt d xs.
      let e1 : next + 1 + i ≡ next + suc i = omega arith in ap (λ n. J d n xs) e1 ∙ places (suc i) (omega arith) d xs),
)
  where
    sizes-map : (us rs : List ℕ) → AllZip (λ x s. x < slice_index w.sizes s) us rs → AllZip (λ x n. x < n) us (map (slice_index w.sizes) rs)
    sizes-map [] [] h = tt
    sizes-map [] (r ∷ rs) h = absurd h
    sizes-map (x ∷ us) [] h = absurd h
    sizes-map (x ∷ us) (r ∷ rs) h = (h.0, sizes-map us rs h.1)

under-none : (next : ℕ) → Under next [] [] []
under-none next = record { slotted = refl; are = All-nil (IsSlot next 0) }

module _ (sig : Sig) (copies : ℕ) (w : World) (fits : Fits sig w) (f : Formula) (is : IsFormula sig copies f []) (relations : All (λ (s : Symbol). s.relation ≡ false) (skolem_symbols true f [])) (fixed : All (λ (s : Symbol). s.mutable ≡ false) (skolem_symbols true f [])) where
  abbrev S : List Symbol
  S = skolem_symbols true f []

  abbrev n : ℕ
  n = length sig.symbols

  -- the formula holds, and so tables exist with which its Skolem form holds
  pub there : Truth sig w 0 f [] → (ts : List Table) × AreTables w.sizes (skolem_symbols true f []) ts × Truth (extended sig (skolem_symbols true f [])) (with_tables w ts) 0 (formed true f [] [] (length sig.symbols)) []
  there h = (made.0, made.1, o.holds (reading (extended sig S) (with_tables w made.0) 0) agree [] tt (subst (λ vs. TruthIn w.sizes (reading sig w 0) f vs) (sym (vector-none (reading sig w 0) [])) h))
    where
      o : Outcome sig w copies fits (reading sig w 0) n S [] (λ us. TruthIn w.sizes (reading sig w 0) f (vector (reading sig w 0) us [])) (λ J us. TruthIn w.sizes J (formed true f [] [] n) us)
      o = complete sig w copies fits true f (reading sig w 0) [] [] [] n is (under-none n) (agree-itself n (reading sig w 0)) (omega arith)

      made : (ts : List Table) × AreTables w.sizes S ts × at_places w o.made n S ts
      made = tables_from w o.made n S o.tables

      by_place : (d k : ℕ) (xs : List ℕ) → k < n + length S → (k < n) ⊎ (n ≤ k) → o.made d k xs ≡ entry (extended sig S) (with_tables w made.0) (0 + d) k xs
      by_place d k xs lt (inl old) = sym (o.kept.same d k xs old) ∙ sym (entry-old sig S w made.0 fits fixed made.1 (0 + d) k xs old)
      by_place d k xs lt (inr new) =
          let e : n + (k - n) ≡ k = omega arith in
          subst (λ k. o.made d k xs ≡ entry (extended sig S) (with_tables w made.0) (0 + d) k xs) e
          (made.2 (k - n) (omega arith) d xs ∙ sym (entry-new sig S w made.0 fits fixed made.1 (0 + d) (k - n) xs (omega arith)))

      agree : Agree (n + length S) o.made (reading (extended sig S) (with_tables w made.0) 0)
      agree = record { same = λ d k xs lt. by_place d k xs lt (cases_lt k n) }

  -- and back
  pub back : (ts : List Table) → AreTables w.sizes (skolem_symbols true f []) ts → Truth (extended sig (skolem_symbols true f [])) (with_tables w ts) 0 (formed true f [] [] (length sig.symbols)) [] → Truth sig w 0 f []
  back ts tables h =
      let J = reading (extended sig S) (with_tables w ts) 0 in
      let agree : Agree n (reading sig w 0) J = record { same = λ d k xs lt. sym (entry-old sig S w ts fits fixed tables (0 + d) k xs lt) } in
      subst (λ vs. TruthIn w.sizes (reading sig w 0) f vs) (vector-none J [])
      (sound sig copies w.sizes (reading sig w 0) J agree true f [] [] [] [] n is (under-none n) tt (range_from w J n S ts tables relations (places ts tables)) h)
    where
      places : (ts : List Table) → AreTables w.sizes S ts → at_places w (reading (extended sig S) (with_tables w ts) 0) n S ts
      places ts tables i lt d xs = entry-new sig S w ts fits fixed tables (0 + d) i xs lt
