-- Variables by their numbers, in order.
use Rattle.std.proofs.Common.{◌≡◌, ℕ, suc, zero, ◌+◌, ◌-◌, ◌<◌, ◌≤◌, ◌⊎◌, ◌++◌, inl, inr, Bool, true, false, cond, nat_eq, nat_lt, List, [], ◌∷◌, length, get_or, take, drop, map, refl, sym, ap, ◌∙◌, subst, arith, IsSorted, append-nil, Option, Some, None}
use Rattle.std.proofs.lemmas.Bool.{eqb-true, eq-eqb, ltb-true, ltb-false}
use Rattle.std.proofs.lemmas.List.{take_more, take_all}
use Rattle.std.proofs.lemmas.List.Elements.{filter-append}
use Rattle.std.specs.List.{filter, list_any}
use Rattle.std.specs.Ordering.{nat_cmp, is_lt}
use Rattle.pyv_meaning.specs.Closing.{firsts, names_word}
use Rattle.pyv_meaning.specs.Declaring.{words}
use Rattle.pyv_meaning.specs.Scope.{number}
use Rattle.pyv_meaning.specs.Tree.{Name}
use Rattle.pyv_sorts.specs.Closures.{no_name, has, Picks}
use Rattle.pyv_sorts.specs.Placing.{name_in, names_in}
use Rattle.pyv_sorts.specs.declared.placed.Placed.{Placed}
use Rattle.pyv_sorts.proofs.Uniting.{either, same_or_not}

-- ---- numbers in a list

pub has_at : (ns : List ℕ) (m : ℕ) → m < length ns → has ns (get_or ns m 0) ≡ true
has_at [] m lt = absurd (omega (arith, lt))
has_at (n ∷ ns) zero lt = rw (eq-eqb n n refl) refl
has_at (n ∷ ns) (suc m) lt = elim (either (nat_eq (get_or ns m 0) n)) [ inl t ↦ rw t refl | inr f ↦ rw f (has_at ns m (omega (arith, lt))) ]

pub at_has : (ns : List ℕ) (k : ℕ) → has ns k ≡ true → (m : ℕ) × (m < length ns) × (get_or ns m 0 ≡ k)
at_has [] k h = absurd (cc)
at_has (n ∷ ns) k h =
    elim (either (nat_eq k n)) [
      | inl t ↦ (0, omega arith, sym (eqb-true k n t))
      | inr f ↦ let r = at_has ns k (sym (rw f refl) ∙ h) in (suc r.0, omega (arith, r.1), r.2)
    ]

less : (a b : ℕ) → nat_lt a b ≡ true → is_lt (nat_cmp a b) ≡ true
less a b t = rw t refl

not_less : (a b : ℕ) → is_lt (nat_cmp a b) ≡ false → b ≤ a
not_less a b h = elim (either (nat_lt a b)) [ inl t ↦ absurd (true_false (sym (less a b t) ∙ h)) | inr f ↦ ltb-false a b f ]
  where
    true_false : true ≡ false → ⊥
    true_false e = absurd (cc)

-- sorted numbers rise
rises : (ns : List ℕ) → IsSorted nat_cmp ns → (i d : ℕ) → i + d < length ns → get_or ns i 0 ≤ get_or ns (i + d) 0
rises ns s i zero lt = let same : get_or ns i 0 ≡ get_or ns (i + 0) 0 = ap (λ k. get_or ns k 0) (omega arith) in omega (arith, same)
rises ns s i (suc d) lt =
    let step = not_less (get_or ns (i + d + 1) 0) (get_or ns (i + d) 0) (s (i + d) 0 (omega arith) (omega (arith, lt))) in
    let rest = rises ns s i d (omega (arith, lt)) in
    let same : get_or ns (i + suc d) 0 ≡ get_or ns (i + d + 1) 0 = ap (λ k. get_or ns k 0) (omega arith) in
    omega (arith, step, rest, same)

-- one more number is below the next place
pub all_below : (ns : List ℕ) (i old new : ℕ) → ((m : ℕ) → m < i → get_or ns m 0 < old) → old ≤ new → get_or ns i 0 < new → (m : ℕ) → m < i + 1 → get_or ns m 0 < new
all_below ns i old new low le lt m less =
    elim (same_or_not m i) [
      | inl e ↦ let same : get_or ns m 0 ≡ get_or ns i 0 = ap (λ k. get_or ns k 0) e in omega (arith, same, lt)
      | inr n ↦ let l = low m (omega (arith, less, n)) in omega (arith, l, le)
    ]

-- ---- what passes among the first of a list

module _ (P : Name → Bool) (vs : List Name) where
  pub no_more : (a d : ℕ) → a + d ≤ length vs → ((j : ℕ) → a ≤ j → j < a + d → P (get_or vs j no_name) ≡ false) → filter P (take (a + d) vs) ≡ filter P (take a vs)
  no_more a zero le h = ap (λ k. filter P (take k vs)) (omega arith)
  no_more a (suc d) le h =
      ap (λ k. filter P (take k vs)) (omega arith)
      ∙ ap (filter P) (take_more vs (a + d) no_name (omega (arith, le)))
      ∙ filter-append P (take (a + d) vs) (get_or vs (a + d) no_name ∷ [])
      ∙ ap (λ ys. filter P (take (a + d) vs) ++ ys) (left_out (get_or vs (a + d) no_name) (h (a + d) (omega arith) (omega arith)))
      ∙ append-nil (filter P (take (a + d) vs))
      ∙ no_more a d (omega (arith, le)) (λ j l m. h j l (omega (arith, m)))
    where
      left_out : (n : Name) → P n ≡ false → filter P (n ∷ []) ≡ []
      left_out n e = rw e refl

  pub one_more : (k : ℕ) → k < length vs → P (get_or vs k no_name) ≡ true → filter P (take (k + 1) vs) ≡ filter P (take k vs) ++ get_or vs k no_name ∷ []
  one_more k lt e =
      ap (filter P) (take_more vs k no_name lt) ∙ filter-append P (take k vs) (get_or vs k no_name ∷ []) ∙ ap (λ ys. filter P (take k vs) ++ ys) (kept (get_or vs k no_name) e)
    where
      kept : (n : Name) → P n ≡ true → filter P (n ∷ []) ≡ n ∷ []
      kept n e = rw e refl

  module _ (ns : List ℕ) (sorted : IsSorted nat_cmp ns) (h : Picks P vs ns) (i next : ℕ) (low : (m : ℕ) → m < i → get_or ns m 0 < next) where
    -- from the next place up to the number, nothing passes
    between : i < length ns → (j : ℕ) → next ≤ j → j < get_or ns i 0 → P (get_or vs j no_name) ≡ false
    between lt j le less =
        elim (either (P (get_or vs j no_name))) [
          | inr f ↦ f
          | inl t ↦
              let within : get_or ns i 0 < length vs = h.within (get_or ns i 0) (has_at ns i lt) in
              let r = at_has ns j (h.all j (omega (arith, less, within)) t) in
              absurd (elim (either (nat_lt r.0 i)) [
                | inl b ↦ let l = low r.0 (ltb-true r.0 i b) in omega (arith, l, r.2, le)
                | inr b ↦
                    let ge = ltb-false r.0 i b in
                    let up = rises ns sorted i (r.0 - i) (omega (arith, ge, r.1)) in
                    let same : get_or ns (i + (r.0 - i)) 0 ≡ get_or ns r.0 0 = ap (λ k. get_or ns k 0) (omega (arith, ge)) in
                    omega (arith, up, same, r.2, less)
              ])
        ]

    pub picks_next : i < length ns → next ≤ get_or ns i 0 → filter P (take (get_or ns i 0 + 1) vs) ≡ filter P (take next vs) ++ get_or vs (get_or ns i 0) no_name ∷ []
    picks_next lt le =
        let k = get_or ns i 0 in
        let within : get_or ns i 0 < length vs = h.within (get_or ns i 0) (has_at ns i lt) in
        let same : next + (get_or ns i 0 - next) ≡ get_or ns i 0 = omega (arith, le) in
        one_more (get_or ns i 0) within (h.passes (get_or ns i 0) (has_at ns i lt))
        ∙ ap (λ ys. ys ++ get_or vs (get_or ns i 0) no_name ∷ []) (ap (λ n. filter P (take n vs)) (sym same) ∙ no_more next (get_or ns i 0 - next) (omega (arith, same, within)) (λ j a b. between lt j a (omega (arith, b, same))))

    -- behind the last number nothing passes
    pub picks_end : length ns ≤ i → next ≤ length vs → filter P (take next vs) ≡ filter P vs
    picks_end le bound =
        let same : next + (length vs - next) ≡ length vs = omega (arith, bound) in
        sym (ap (filter P) (sym (take_all (length vs) vs (omega arith))) ∙ ap (λ n. filter P (take n vs)) (sym same) ∙ no_more next (length vs - next) (omega (arith, same)) (λ j a b.
        elim (either (P (get_or vs j no_name))) [
          | inr f ↦ f
          | inl t ↦
              let r = at_has ns j (h.all j (omega (arith, b, same)) t) in
              let l = low r.0 (omega (arith, r.1, le)) in
              absurd (omega (arith, l, r.2, a))
        ]))

-- ---- first names

pub firsts_both : (known xs ys : List Name) → firsts known (xs ++ ys) ≡ firsts (firsts known xs) ys
firsts_both known [] ys = refl
firsts_both known (x ∷ xs) ys = firsts_both (cond (names_word known x.word) known (known ++ x ∷ [])) xs ys

-- ---- names as the code has them

pub name_at : (ps : List Placed) (k : ℕ) (d : Placed) → k < length ps → get_or (names_in ps) k no_name ≡ name_in (get_or ps k d)
name_at [] k d lt = absurd (omega (arith, lt))
name_at (p ∷ ps) zero d lt = refl
name_at (p ∷ ps) (suc k) d lt = name_at ps k d (omega (arith, lt))

pub names_more : (ps : List Placed) (p : Placed) → names_in (ps ++ p ∷ []) ≡ names_in ps ++ name_in p ∷ []
names_more [] p = refl
names_more (q ∷ ps) p = ap (λ t. name_in q ∷ t) (names_more ps p)

pub names_length : (ps : List Placed) → length (names_in ps) ≡ length ps
names_length [] = refl
names_length (p ∷ ps) = ap suc (names_length ps)

-- the variable of the number is pushed
pub picks_pushed : (P : Name → Bool) (ps : List Placed) (ns : List ℕ) → IsSorted nat_cmp ns → Picks P (names_in ps) ns → (i next new : ℕ) → ((m : ℕ) → m < i → get_or ns m 0 < next) → (old out : List Placed) (d : Placed)
    → i < length ns → next ≤ get_or ns i 0 → get_or ns i 0 < length ps → new ≡ get_or ns i 0 + 1 → out ≡ old ++ get_or ps (get_or ns i 0) d ∷ [] → names_in old ≡ filter P (take next (names_in ps))
    → names_in out ≡ filter P (take new (names_in ps))
picks_pushed P ps ns sorted h i next new low old out d lt le within is pushed before =
    ap names_in pushed ∙ names_more old (get_or ps (get_or ns i 0) d)
    ∙ ap (λ ys. ys ++ name_in (get_or ps (get_or ns i 0) d) ∷ []) before
    ∙ ap (λ (n : Name). filter P (take next (names_in ps)) ++ n ∷ []) (sym (name_at ps (get_or ns i 0) d within))
    ∙ sym (picks_next P (names_in ps) ns sorted h i next low lt le)
    ∙ ap (λ k. filter P (take k (names_in ps))) (sym is)
