-- The world that is cut out of a list of values.
use Rattle.std.proofs.Common.{◌≡◌, ℕ, zero, suc, true, false, Result, Ok, Err, IfOk, ◌+◌, ◌-◌, ◌<◌, ◌≤◌, List, [], ◌∷◌, ◌++◌, length, map, sum, take, drop, get_or, refl, sym, ap, subst, ◌∙◌, arith, add-one, append_assoc, length-append}
use Rattle.std.specs.List.{All, filter, flat_map}
use Rattle.std.proofs.Math.Seq.{drop-cons}
use Rattle.std.proofs.lemmas.List.{length-replicate}
use Rattle.std.proofs.lemmas.List.Sums.{sum_by-cons}
use Rattle.std.proofs.lemmas.List.Concat.{flat_map-cons}
use Rattle.fo_core.specs.declared.signature.Sig.{Sig}
use Rattle.fo_core.specs.declared.signature.Symbol.{Symbol}
use Rattle.fo_core.specs.declared.world.Table.{Table}
use Rattle.fo_core.specs.declared.world.World.{World}
use Rattle.fo_core.specs.Tables.{tuples, arg_sizes, range_of, is_like}
use Rattle.fo_core.specs.Cells.{cells}
use Rattle.fo_least.proofs.Built.{ranges_in, tables_for, copies_for, world_for, IsWorldOf, built-is}
use Rattle.fo_min.specs.Cut.{value_count, counts_like, cut, cut_copies, AreInRange}

pub cut_more : (ns : List ℕ) (i : ℕ) (vs : List ℕ) → i < length ns → cut (drop i ns) vs ≡ record { values = take (get_or ns i 0) vs } ∷ cut (drop (i + 1) ns) (drop (get_or ns i 0) vs)
cut_more ns i vs lt = rw (add-one, drop-cons ns i 0) refl

count-replicate : (sizes : List ℕ) (s : Symbol) → length (ranges_in sizes s) ≡ value_count sizes s
count-replicate sizes s = length-replicate (tuples (arg_sizes sizes s)) (range_of sizes s)

tables-cut : (sizes : List ℕ) (ss : List Symbol) (vs : List ℕ) → tables_for sizes ss vs ≡ cut (map (value_count sizes) ss) vs
tables-cut sizes [] vs = refl
tables-cut sizes (s ∷ ss) vs =
    let first : ℕ → List Table = λ n. record { values = take n vs } ∷ tables_for sizes ss (drop n vs) in
    let rest : List Table → List Table = λ ts. record { values = take (value_count sizes s) vs } ∷ ts in
    ap first (count-replicate sizes s) ∙ ap rest (tables-cut sizes ss (drop (value_count sizes s) vs))

counts-sum : (sizes : List ℕ) (ss : List Symbol) → length (flat_map (ranges_in sizes) ss) ≡ sum (map (value_count sizes) ss)
counts-sum sizes [] = refl
counts-sum sizes (s ∷ ss) =
    ap length (flat_map-cons (ranges_in sizes) s ss) ∙ length-append (ranges_in sizes s) (flat_map (ranges_in sizes) ss)
    ∙ ap (λ n. n + length (flat_map (ranges_in sizes) ss)) (count-replicate sizes s) ∙ ap (λ n. value_count sizes s + n) (counts-sum sizes ss)
    ∙ sym (sum_by-cons (λ n. n) (value_count sizes s) (map (value_count sizes) ss))

copies-cut : (sizes : List ℕ) (ss : List Symbol) (n : ℕ) (vs : List ℕ) → copies_for sizes ss n vs ≡ cut_copies (map (value_count sizes) ss) n vs
copies-cut sizes ss zero vs = refl
copies-cut sizes ss (suc n) vs =
    let one : ℕ → List (List Table) = λ m. tables_for sizes ss (take m vs) ∷ copies_for sizes ss n (drop m vs) in
    let total = sum (map (value_count sizes) ss) in
    ap one (counts-sum sizes ss) ∙ ap (λ ts. ts ∷ copies_for sizes ss n (drop total vs)) (tables-cut sizes ss (take total vs))
    ∙ ap (λ cs. cut (map (value_count sizes) ss) (take total vs) ∷ cs) (copies-cut sizes ss n (drop total vs))

-- what is cut out is the world of these sizes and values
module _ (sig : Sig) (copies : ℕ) (sizes values : List ℕ) where
  abbrev fixed_counts : List ℕ
  fixed_counts = counts_like sizes sig.symbols false

  abbrev copy_counts : List ℕ
  copy_counts = counts_like sizes sig.symbols true

  same-world : (w : World) → w.sizes ≡ sizes → w.fixed ≡ cut fixed_counts (take (sum fixed_counts) values) → w.copies ≡ cut_copies copy_counts copies (drop (sum fixed_counts) values) →
      w ≡ world_for sig copies sizes values
  same-world w s f c =
      let fixed = filter (is_like false) sig.symbols in
      let of_sizes : List ℕ → World = λ ns. record { sizes = ns; fixed = w.fixed; copies = w.copies } in
      let of_fixed : List Table → World = λ ts. record { sizes = sizes; fixed = ts; copies = w.copies } in
      let of_copies : List (List Table) → World = λ cs. record { sizes = sizes; fixed = cut fixed_counts (take (sum fixed_counts) values); copies = cs } in
      let cut_at : ℕ → World = λ n. record {
        sizes = sizes;
        fixed = tables_for sizes fixed (take n values);
        copies = copies_for sizes (filter (is_like true) sig.symbols) copies (drop n values);
      } in
      let of_cut : List Table → World = λ ts. record { sizes = sizes; fixed = ts; copies = cut_copies copy_counts copies (drop (sum fixed_counts) values) } in
      let of_cuts : List (List Table) → World = λ cs. record { sizes = sizes; fixed = tables_for sizes fixed (take (sum fixed_counts) values); copies = cs } in
      ap of_sizes s ∙ ap of_fixed f ∙ ap of_copies c
      ∙ ap of_cut (sym (tables-cut sizes fixed (take (sum fixed_counts) values)))
      ∙ ap of_cuts (sym (copies-cut sizes (filter (is_like true) sig.symbols) copies (drop (sum fixed_counts) values)))
      ∙ ap cut_at (sym (counts-sum sizes fixed))

  pub cut-world : {E : Type 0} (r : Result World E) → IfOk r (λ w. w.sizes ≡ sizes) → IfOk r (λ w. w.fixed ≡ cut fixed_counts (take (sum fixed_counts) values)) →
      IfOk r (λ w. w.copies ≡ cut_copies copy_counts copies (drop (sum fixed_counts) values)) →
      length sizes ≡ sig.sorts → All (λ n. 1 ≤ n) sizes → 1 ≤ copies → length values ≡ length (cells sig sizes copies) → AreInRange sig copies sizes values →
      IfOk r (IsWorldOf sig copies sizes values)
  cut-world (Ok w) s f c sorts positive some all in_range =
      subst (IsWorldOf sig copies sizes values) (sym (same-world w s f c)) (built-is sig copies sizes values sorts positive some all in_range)
  cut-world (Err e) s f c sorts positive some all in_range = tt

pub if-ok : {X E : Type 0} (P Q : X → Type 0) (r : Result X E) → ((x : X) → P x → Q x) → IfOk r P → IfOk r Q
if-ok P Q (Ok x) h p = h x p
if-ok P Q (Err e) h p = tt

copies-more : (ns : List ℕ) (copies d : ℕ) (vs : List ℕ) → d < copies → cut_copies ns (copies - d) vs ≡ cut ns (take (sum ns) vs) ∷ cut_copies ns (copies - (d + 1)) (drop (sum ns) vs)
copies-more ns copies d vs lt =
    let e : copies - d ≡ suc (copies - (d + 1)) = omega arith in
    ap (λ n. cut_copies ns n vs) e

-- one copy more is cut off
pub copy-cut : (ns : List ℕ) (copies d n : ℕ) (cs now whole : List (List Table)) (rest left : List ℕ) (own : List ℕ) (ts : List Table) → d < copies → n ≡ sum ns →
    cs ++ cut_copies ns (copies - d) rest ≡ whole → own ≡ take n rest → ts ≡ cut ns own → now ≡ cs ++ ts ∷ [] → left ≡ drop n rest →
    now ++ cut_copies ns (copies - (d + 1)) left ≡ whole
copy-cut ns copies d n cs now whole rest left own ts lt n_is told own_is ts_is now_is left_is =
    ap (λ l. l ++ cut_copies ns (copies - (d + 1)) left) now_is ∙ append_assoc cs (ts ∷ []) (cut_copies ns (copies - (d + 1)) left)
    ∙ ap (λ t. cs ++ t ∷ cut_copies ns (copies - (d + 1)) left) (ts_is ∙ ap (cut ns) (own_is ∙ ap (λ m. take m rest) n_is))
    ∙ ap (λ l. cs ++ cut ns (take (sum ns) rest) ∷ cut_copies ns (copies - (d + 1)) l) (left_is ∙ ap (λ m. drop m rest) n_is)
    ∙ ap (λ l. cs ++ l) (sym (copies-more ns copies d rest lt)) ∙ told
