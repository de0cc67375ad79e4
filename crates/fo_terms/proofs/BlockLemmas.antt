-- What the blocks hold, and where.
use Rattle.std.proofs.Common.{◌≡◌, ℕ, zero, suc, Bool, true, false, cond, ◌+◌, ◌-◌, ◌*◌, ◌<◌, ◌≤◌, ◌⊎◌, inl, inr, List, [], ◌∷◌, length, get_or, take, drop, refl, sym, ap, subst, ◌∙◌, arith, length-append}
use Rattle.std.specs.List.{AllPairs, filter, flat_map, range_with_len}
use Rattle.std.specs.Prelude.{◌==◌}
use Rattle.std.proofs.lemmas.Bool.{cases_lt, cases_order}
use Rattle.std.proofs.lemmas.List.{get_or_append_left, get_or-append_right, map-id, take_at, take-append-drop}
use Rattle.std.proofs.lemmas.List.Concat.{get_or-flat_map}
use Rattle.std.proofs.lemmas.List.Elements.{filter-append}
use Rattle.std.proofs.lemmas.List.FromFn.{get_or-range_with_len, get_or-map-range_with_len, length-map-range_with_len, length-range_with_len, take-map-range_with_len}
use Rattle.std.proofs.lemmas.List.Kept.{AllPairs-filter}
use Rattle.fo_core.specs.declared.signature.Sig.{Sig}
use Rattle.fo_core.specs.declared.signature.Symbol.{Symbol}
use Rattle.fo_core.specs.Tables.{symbol_at}
use Rattle.fo_core.specs.Weights.{added, power}
use Rattle.fo_core.proofs.TableLemmas.{filtered_at}
use Rattle.fo_terms.specs.declared.terms.Ground.{Ground}
use Rattle.fo_terms.specs.Blocks.{function_numbers, application, copy_block, function_block, sort_block, spare_of}
use Rattle.fo_core.specs.TermCounts.{leads_to, copies_of, applications, count_over}
use Rattle.fo_terms.specs.Universe.{no_ground}
use Rattle.fo_terms.proofs.Functions.{symbols-listed, filter-map, nonzero, count-none, count-some, leads_to-is, numbers-are}
use Rattle.fo_terms.proofs.Sums.{added-same, added-const, added-map, added-more, added-take, length-flat_map}

-- the element at a place of lists that stand one behind the other
pub record Covered {X Y : Type 0} (f : Y → List X) (ys : List Y) (e : Y) (d : X) (p : ℕ) : Type 0 where
  pub i : ℕ
  pub within : i < length ys
  pub j : ℕ
  pub below : j < length (f (get_or ys i e))
  pub is : p ≡ length (flat_map f (take i ys)) + j
  pub item : get_or (flat_map f ys) p d ≡ get_or (f (get_or ys i e)) j d

pub cover : {X Y : Type 0} (f : Y → List X) (ys : List Y) (e : Y) (d : X) (p : ℕ) → p < length (flat_map f ys) → Covered f ys e d p
cover f [] e d p lt = absurd (omega arith)
cover {X} {Y} f (y ∷ ys) e d p lt = by_place (cases_lt p (length (f y))) (λ le. cover f ys e d (p - length (f y)) (omega (arith, length-append (f y) (flat_map f ys))))
  where
    by_place : (p < length (f y)) ⊎ (length (f y) ≤ p) → (length (f y) ≤ p → Covered f ys e d (p - length (f y))) → Covered f (y ∷ ys) e d p
    by_place (inl here) rest = record { i = 0; within = omega arith; j = p; below = here; is = omega arith; item = get_or_append_left (f y) (flat_map f ys) d p here }
    by_place (inr le) rest =
        let r = rest le in
        record {
          i = suc r.i;
          within = omega (arith, r.within);
          j = r.j;
          below = r.below;
          is = omega (arith, r.is, length-append (f y) (flat_map f (take r.i ys)));
          item = get_or-append_right (f y) (flat_map f ys) (length (f y)) p d refl le ∙ r.item;
        }

-- where an element of one of these lists stands among all
pub flat-at : {X Y : Type 0} (f : Y → List X) (ys : List Y) (i j : ℕ) (e : Y) (d : X) (y : Y) (start : ℕ) → i < length ys → get_or ys i e ≡ y → j < length (f y) → length (flat_map f (take i ys)) ≡ start →
    (start + j < length (flat_map f ys)) × (get_or (flat_map f ys) (start + j) d ≡ get_or (f y) j d)
flat-at f ys i j e d y start lt is below begins =
    let item = get_or-flat_map f ys i j e d lt (subst (λ y. j < length (f y)) (sym is) below) in
    let more = added-more (λ y. length (f y)) ys i e lt in
    let le = added-take (λ y. length (f y)) (i + 1) ys in
    let size = ap (λ y. length (f y)) is in (
      omega (arith, more, le, size, length-flat_map f ys, length-flat_map f (take i ys)),
      ap (λ m. get_or (flat_map f ys) (m + j) d) (sym begins) ∙ item ∙ ap (λ y. get_or (f y) j d) is,
    )

take-range : (k n : ℕ) → k ≤ n → take k (range_with_len 0 n) ≡ range_with_len 0 k
take-range k n le = ap (take k) (sym (map-id (range_with_len 0 n))) ∙ take-map-range_with_len (λ x. x) 0 n k le ∙ map-id (range_with_len 0 k)

range-at : (n i d : ℕ) → i < n → get_or (range_with_len 0 n) i d ≡ i
range-at n i d lt = get_or-range_with_len 0 n i d lt ∙ (let e : 0 + i ≡ i = omega arith in e)

module _ (sig : Sig) (n : ℕ) (firsts U : List ℕ) where
  abbrev pub functions_block : ℕ → List Ground
  functions_block k = function_block firsts U n k (symbol_at sig k)

  -- how many applications of earlier functions have values of the same sort
  abbrev pub earlier : ℕ → ℕ
  earlier k = added (applications n U) (filter (leads_to (symbol_at sig k).result) (take k sig.symbols))

  copy-length : (k : ℕ) (s : Symbol) (c : ℕ) → length (copy_block firsts U k s c) ≡ power U s.args
  copy-length k s c = length-map-range_with_len (application firsts U k s c) 0 (power U s.args)

  copies-length : (k : ℕ) (s : Symbol) (m : ℕ) → length (flat_map (copy_block firsts U k s) (range_with_len 0 m)) ≡ m * power U s.args
  copies-length k s m =
      length-flat_map (copy_block firsts U k s) (range_with_len 0 m)
      ∙ added-same (λ c. length (copy_block firsts U k s c)) (λ _. power U s.args) (range_with_len 0 m) (λ i d lt. copy-length k s (get_or (range_with_len 0 m) i d))
      ∙ added-const (power U s.args) (range_with_len 0 m)
      ∙ ap (λ l. l * power U s.args) (length-range_with_len 0 m)

  functions-length : (ks : List ℕ) → length (flat_map functions_block ks) ≡ added (λ k. applications n U (symbol_at sig k)) ks
  functions-length ks =
      length-flat_map functions_block ks
      ∙ added-same (λ k. length (functions_block k)) (λ k. applications n U (symbol_at sig k)) ks (λ i d lt. copies-length (get_or ks i d) (symbol_at sig (get_or ks i d)) (copies_of n (symbol_at sig (get_or ks i d))))

  -- the block of a sort without functions, and with some
  block-none : (t : ℕ) → length (function_numbers sig t) ≡ 0 → sort_block firsts U sig n t ≡ spare_of t ∷ []
  block-none t none = ap (λ m. cond (m == 0) (spare_of t ∷ []) (flat_map functions_block (function_numbers sig t))) none

  block-some : (t : ℕ) → 0 < length (function_numbers sig t) → sort_block firsts U sig n t ≡ flat_map functions_block (function_numbers sig t)
  block-some t some = ap (λ (b : Bool). cond b (spare_of t ∷ []) (flat_map functions_block (function_numbers sig t))) (nonzero (length (function_numbers sig t)) some)

  pub block-length : (t : ℕ) → length (sort_block firsts U sig n t) ≡ count_over sig n U t
  block-length t = by_length (length (function_numbers sig t)) refl
    where
      by_length : (m : ℕ) → length (function_numbers sig t) ≡ m → length (sort_block firsts U sig n t) ≡ count_over sig n U t
      by_length zero e = ap length (block-none t e) ∙ sym (count-none sig n U t e)
      by_length (suc m) e = ap length (block-some t (omega arith)) ∙ functions-length (function_numbers sig t) ∙ sym (count-some sig n U t (omega arith))

  -- where a function stands among those to its sort
  module _ (t k : ℕ) (within : k < length sig.symbols) (function : (symbol_at sig k).relation ≡ false) (result : (symbol_at sig k).result ≡ t) where
    abbrev leads : ℕ → Bool
    leads j = leads_to t (symbol_at sig j)

    abbrev all : List ℕ
    all = range_with_len 0 (length sig.symbols)

    abbrev rank : ℕ
    rank = length (filter leads (take k all))

    ranked : (rank < length (function_numbers sig t)) × (get_or (function_numbers sig t) rank 0 ≡ k)
    ranked =
        let at : get_or all k 0 ≡ k = range-at (length sig.symbols) k 0 within in
        let passes : leads (get_or all k 0) ≡ true = ap leads at ∙ leads_to-is t (symbol_at sig k) function result in
        let r = filtered_at leads all k 0 (omega (arith, length-range_with_len 0 (length sig.symbols))) passes in
        (r.0, r.1 ∙ at)

    take-rank : take rank (function_numbers sig t) ≡ filter leads (take k all)
    take-rank =
        ap (λ (ks : List ℕ). take rank (filter leads ks)) (sym (take-append-drop k all))
        ∙ ap (take rank) (filter-append leads (take k all) (drop k all))
        ∙ take_at (filter leads (take k all)) (filter leads (drop k all)) rank refl

    start-is : length (flat_map functions_block (take rank (function_numbers sig t))) ≡ earlier k
    start-is =
        functions-length (take rank (function_numbers sig t))
        ∙ ap (added (λ j. applications n U (symbol_at sig j))) (take-rank ∙ ap (filter leads) (take-range k (length sig.symbols) (omega arith)))
        ∙ sym (added-map (applications n U) (symbol_at sig) (filter leads (range_with_len 0 k)))
        ∙ ap (added (applications n U)) (sym (filter-map (leads_to t) (symbol_at sig) (range_with_len 0 k)))
        ∙ ap (λ (ss : List Symbol). added (applications n U) (filter (leads_to t) ss)) (sym (take-map-range_with_len (symbol_at sig) 0 (length sig.symbols) k (omega arith)) ∙ ap (take k) (sym (symbols-listed sig)))
        ∙ ap (λ r. added (applications n U) (filter (leads_to r) (take k sig.symbols))) (sym result)

    abbrev s : Symbol
    s = symbol_at sig k

    abbrev T : ℕ
    T = power U (symbol_at sig k).args

    module _ (c x : ℕ) (copy : c < copies_of n (symbol_at sig k)) (below : x < power U (symbol_at sig k).args) where
      at-copy : get_or (copy_block firsts U k s c) x no_ground ≡ application firsts U k s c x
      at-copy = get_or-map-range_with_len (application firsts U k s c) 0 T x x no_ground below (omega arith)

      at-function : (c * T + x < length (functions_block k)) × (get_or (functions_block k) (c * T + x) no_ground ≡ application firsts U k s c x)
      at-function =
          let m = copies_of n s in
          let copies = range_with_len 0 m in
          let before = ap (λ (cs : List ℕ). length (flat_map (copy_block firsts U k s) cs)) (take-range c m (omega arith)) ∙ copies-length k s c in
          let r = flat-at (copy_block firsts U k s) copies c x 0 no_ground c (c * T) (omega (arith, length-range_with_len 0 m)) (range-at m c 0 copy) (omega (arith, copy-length k s c)) before in
          (r.0, r.1 ∙ at-copy)

      -- the place of an application in the block of its sort
      pub at-block : (earlier k + (c * T + x) < length (sort_block firsts U sig n t)) × (get_or (sort_block firsts U sig n t) (earlier k + (c * T + x)) no_ground ≡ application firsts U k s c x)
      at-block =
          let numbers = function_numbers sig t in
          let r = flat-at functions_block numbers rank (c * T + x) 0 no_ground k (earlier k) ranked.0 ranked.1 at-function.0 start-is in
          let found : (earlier k + (c * T + x) < length (flat_map functions_block numbers)) × (get_or (flat_map functions_block numbers) (earlier k + (c * T + x)) no_ground ≡ application firsts U k s c x) = (r.0, r.1 ∙ at-function.1) in
          subst (λ (ts : List Ground). (earlier k + (c * T + x) < length ts) × (get_or ts (earlier k + (c * T + x)) no_ground ≡ application firsts U k s c x)) (sym (block-some t (omega (arith, ranked.0)))) found

  -- an application in the block of its sort
  pub record IsEntry (t j : ℕ) (g : Ground) : Type 0 where
    pub k : ℕ
    pub c : ℕ
    pub x : ℕ
    pub within : k < length sig.symbols
    pub function : (symbol_at sig k).relation ≡ false
    pub result : (symbol_at sig k).result ≡ t
    pub copy : c < copies_of n (symbol_at sig k)
    pub below : x < power U (symbol_at sig k).args
    pub term : g ≡ application firsts U k (symbol_at sig k) c x
    pub place : j ≡ earlier k + (c * power U (symbol_at sig k).args + x)

  -- the spare constant of a sort to which no function leads
  pub record IsAlone (t j : ℕ) (g : Ground) : Type 0 where
    pub none : length (function_numbers sig t) ≡ 0
    pub place : j ≡ 0
    pub term : g ≡ spare_of t

  -- numbers of functions rise
  numbers-rise : (t : ℕ) → AllPairs (λ i j. i < j) (function_numbers sig t)
  numbers-rise t = AllPairs-filter (λ i j. i < j) (λ k. leads_to t (symbol_at sig k)) (range_with_len 0 (length sig.symbols)) range-rises
    where
      range-rises : AllPairs (λ i j. i < j) (range_with_len 0 (length sig.symbols))
      range-rises i j d lt within =
          let below : j < length sig.symbols = omega (arith, length-range_with_len 0 (length sig.symbols)) in
          omega (arith, range-at (length sig.symbols) i d (omega arith), range-at (length sig.symbols) j d below)

  numbers-once : (t i j : ℕ) → i < length (function_numbers sig t) → j < length (function_numbers sig t) → get_or (function_numbers sig t) i 0 ≡ get_or (function_numbers sig t) j 0 → i ≡ j
  numbers-once t i j wi wj e = by_order (cases_order i j)
    where
      by_order : (i ≡ j) ⊎ ((i < j) ⊎ (j < i)) → i ≡ j
      by_order (inl same) = same
      by_order (inr (inl lt)) = absurd (omega (arith, numbers-rise t i j 0 lt wj))
      by_order (inr (inr lt)) = absurd (omega (arith, numbers-rise t j i 0 lt wi))

  start-of : (t i : ℕ) → i < length (function_numbers sig t) → length (flat_map functions_block (take i (function_numbers sig t))) ≡ earlier (get_or (function_numbers sig t) i 0)
  start-of t i lt =
      let k = get_or (function_numbers sig t) i 0 in
      let are = numbers-are sig t i 0 lt in
      let r = ranked t k are.0 are.1 are.2 in
      ap (λ m. length (flat_map functions_block (take m (function_numbers sig t)))) (numbers-once t i (rank t k are.0 are.1 are.2) lt r.0 (sym r.1)) ∙ start-is t k are.0 are.1 are.2

  -- what stands in the block of a sort
  pub block-cases : (t j : ℕ) → j < length (sort_block firsts U sig n t) → IsAlone t j (get_or (sort_block firsts U sig n t) j no_ground) ⊎ IsEntry t j (get_or (sort_block firsts U sig n t) j no_ground)
  block-cases t j lt = by_length (length (function_numbers sig t)) refl
    where
      entry : j < length (flat_map functions_block (function_numbers sig t)) → IsEntry t j (get_or (flat_map functions_block (function_numbers sig t)) j no_ground)
      entry inside = from_function (cover functions_block (function_numbers sig t) 0 no_ground j inside)
        where
          from_copy : (o : Covered functions_block (function_numbers sig t) 0 no_ground j) →
              Covered (copy_block firsts U (get_or (function_numbers sig t) o.i 0) (symbol_at sig (get_or (function_numbers sig t) o.i 0))) (range_with_len 0 (copies_of n (symbol_at sig (get_or (function_numbers sig t) o.i 0)))) 0 no_ground o.j →
              IsEntry t j (get_or (flat_map functions_block (function_numbers sig t)) j no_ground)
          from_copy o r =
              let k = get_or (function_numbers sig t) o.i 0 in
              let s = symbol_at sig k in
              let m = copies_of n s in
              let are = numbers-are sig t o.i 0 o.within in
              let copy : r.i < m = omega (arith, r.within, length-range_with_len 0 m) in
              let c-is = range-at m r.i 0 copy in
              let x-below : r.j < power U s.args = omega (arith, r.below, copy-length k s (get_or (range_with_len 0 m) r.i 0)) in
              let before = ap (λ (cs : List ℕ). length (flat_map (copy_block firsts U k s) cs)) (take-range r.i m (omega arith)) ∙ copies-length k s r.i in
              record {
                k = k;
                c = r.i;
                x = r.j;
                within = are.0;
                function = are.1;
                result = are.2;
                copy = copy;
                below = x-below;
                term = o.item ∙ r.item ∙ ap (λ c. get_or (copy_block firsts U k s c) r.j no_ground) c-is
                    ∙ get_or-map-range_with_len (application firsts U k s r.i) 0 (power U s.args) r.j r.j no_ground x-below (omega arith);
                place = omega (arith, o.is, r.is, start-of t o.i o.within, before);
              }

          from_function : Covered functions_block (function_numbers sig t) 0 no_ground j → IsEntry t j (get_or (flat_map functions_block (function_numbers sig t)) j no_ground)
          from_function o = from_copy o (cover (copy_block firsts U (get_or (function_numbers sig t) o.i 0) (symbol_at sig (get_or (function_numbers sig t) o.i 0))) (range_with_len 0 (copies_of n (symbol_at sig (get_or (function_numbers sig t) o.i 0)))) 0 no_ground o.j o.below)

      by_length : (m : ℕ) → length (function_numbers sig t) ≡ m → IsAlone t j (get_or (sort_block firsts U sig n t) j no_ground) ⊎ IsEntry t j (get_or (sort_block firsts U sig n t) j no_ground)
      by_length zero e =
          let only = block-none t e in
          let first : j ≡ 0 = omega (arith, ap length only) in
          inl (record { none = e; place = first; term = ap (λ (ts : List Ground). get_or ts j no_ground) only ∙ ap (λ i. get_or (spare_of t ∷ []) i no_ground) first })
      by_length (suc m) e =
          let some = block-some t (omega arith) in
          inr (subst (λ (ts : List Ground). IsEntry t j (get_or ts j no_ground)) (sym some) (entry (subst (λ (ts : List Ground). j < length ts) some lt)))
