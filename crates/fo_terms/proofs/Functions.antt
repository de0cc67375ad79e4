-- The functions with values of a sort, and their numbers.
use Rattle.std.proofs.Common.{◌≡◌, ℕ, Bool, true, false, not, cond, ◌+◌, ◌-◌, ◌<◌, ◌&&◌, ◌^◌, List, [], ◌∷◌, ◌++◌, length, get_or, map, refl, sym, ap, ◌∙◌, arith, length-append}
use Rattle.std.specs.List.{All, filter, range_with_len}
use Rattle.std.specs.Prelude.{◌==◌}
use Rattle.std.proofs.lemmas.Bool.Decides.{Decides-eqb}
use Rattle.std.proofs.lemmas.List.{length-map, map-id}
use Rattle.std.proofs.lemmas.List.Elements.{All-append, All-filter, All-from_get_or, All-weaker, filter_passes}
use Rattle.std.proofs.lemmas.List.FromFn.{fill_by_all, get_or-range_with_len, length-range_with_len, filter_of_map_range_with_len_more}
use Rattle.fo_core.specs.declared.signature.Sig.{Sig}
use Rattle.fo_core.specs.declared.signature.Symbol.{Symbol}
use Rattle.fo_core.specs.Sorted.{HasSorts, IsSig}
use Rattle.fo_core.specs.Tables.{no_symbol, symbol_at}
use Rattle.fo_core.specs.Weights.{added}
use Rattle.fo_norm.specs.declared.form.SkolemForm.{SkolemForm}
use Rattle.fo_norm.specs.Forms.{whole, IsForm, IsSkolem}
use Rattle.fo_terms.specs.Blocks.{function_numbers}
use Rattle.fo_core.specs.TermCounts.{leads_to, applications, functions_to, count_over}
use Rattle.fo_terms.proofs.Sums.{added-map}

-- a form's symbols together have sorts of the signature
pub whole_sorts : (sig : Sig) (form : SkolemForm) → IsSig sig → IsForm sig form → All (HasSorts sig.sorts) (whole sig form).symbols
whole_sorts sig form is of = All-append (HasSorts sig.sorts) sig.symbols form.skolems is.sorts (All-weaker (IsSkolem sig.sorts) (HasSorts sig.sorts) (λ s h. h.sorts) form.skolems of.skolems)

pub whole_few : (sig : Sig) (form : SkolemForm) → IsForm sig form → length (whole sig form).symbols < 2 ^ 32 - 1
whole_few sig form of = omega (arith, of.few, length-append sig.symbols form.skolems)

pub nonzero : (n : ℕ) → 0 < n → (n == 0) ≡ false
nonzero n some = by_test (n == 0) refl
  where
    by_test : (b : Bool) → (n == 0) ≡ b → b ≡ false
    by_test false e = refl
    by_test true e = absurd (omega (arith, (Decides-eqb n 0).0 e))

pub filter-map : {X Y : Type 0} (p : Y → Bool) (h : X → Y) (xs : List X) → filter p (map h xs) ≡ map h (filter (λ x. p (h x)) xs)
filter-map p h [] = refl
filter-map {X} {Y} p h (x ∷ xs) = by_test (p (h x)) (filter-map p h xs)
  where
    by_test : (b : Bool) → filter p (map h xs) ≡ map h (filter (λ x. p (h x)) xs) → cond b (h x ∷ filter p (map h xs)) (filter p (map h xs)) ≡ map h (cond b (x ∷ filter (λ x. p (h x)) xs) (filter (λ x. p (h x)) xs))
    by_test true e = ap (λ ys. h x ∷ ys) e
    by_test false e = e

module _ (sig : Sig) where
  pub symbols-listed : sig.symbols ≡ map (symbol_at sig) (range_with_len 0 (length sig.symbols))
  symbols-listed = fill_by_all (symbol_at sig) sig.symbols (length sig.symbols) no_symbol refl (λ k lt. refl)

  pub functions_to-numbers : (t : ℕ) → functions_to sig t ≡ map (symbol_at sig) (function_numbers sig t)
  functions_to-numbers t = ap (filter (leads_to t)) symbols-listed ∙ filter-map (leads_to t) (symbol_at sig) (range_with_len 0 (length sig.symbols))

  pub function_count : (t : ℕ) → length (functions_to sig t) ≡ length (function_numbers sig t)
  function_count t = ap length (functions_to-numbers t) ∙ length-map (function_numbers sig t) (symbol_at sig)

  pub function_sum : (f : Symbol → ℕ) (t : ℕ) → added f (functions_to sig t) ≡ added (λ k. f (symbol_at sig k)) (function_numbers sig t)
  function_sum f t = ap (added f) (functions_to-numbers t) ∙ added-map f (symbol_at sig) (function_numbers sig t)

  module _ (copies : ℕ) (U : List ℕ) (t : ℕ) where
    pub count-none : length (function_numbers sig t) ≡ 0 → count_over sig copies U t ≡ 1
    count-none none =
        let e : length (functions_to sig t) ≡ 0 = function_count t ∙ none in
        ap (λ n. cond (n == 0) 1 (added (applications copies U) (functions_to sig t))) e

    pub count-some : 0 < length (function_numbers sig t) → count_over sig copies U t ≡ added (λ k. applications copies U (symbol_at sig k)) (function_numbers sig t)
    count-some some =
        let e = nonzero (length (functions_to sig t)) (omega (arith, function_count t)) in
        ap (λ (b : Bool). cond b 1 (added (applications copies U) (functions_to sig t))) e ∙ function_sum (applications copies U) t

  -- one more number is looked at
  pub numbers-more : (t n : ℕ) → filter (λ k. leads_to t (symbol_at sig k)) (range_with_len 0 (n + 1)) ≡ filter (λ k. leads_to t (symbol_at sig k)) (range_with_len 0 n) ++ cond (leads_to t (symbol_at sig n)) (n ∷ []) []
  numbers-more t n =
      let p = λ (k : ℕ). leads_to t (symbol_at sig k) in
      ap (filter p) (sym (map-id (range_with_len 0 (n + 1))))
      ∙ filter_of_map_range_with_len_more p (λ k. k) 0 n n (omega arith)
      ∙ ap (λ (ks : List ℕ). filter p ks ++ cond (p n) (n ∷ []) []) (map-id (range_with_len 0 n))

pub leads_to-true : (t : ℕ) (s : Symbol) → leads_to t s ≡ true → (s.relation ≡ false) × (s.result ≡ t)
leads_to-true t s = by_kind s.relation
  where
    by_kind : (r : Bool) → (not r && (s.result == t)) ≡ true → (r ≡ false) × (s.result ≡ t)
    by_kind true e = cc
    by_kind false e = (refl, (Decides-eqb s.result t).0 e)

pub leads_to-is : (t : ℕ) (s : Symbol) → s.relation ≡ false → s.result ≡ t → leads_to t s ≡ true
leads_to-is t s r e = ap (λ b. not b && (s.result == t)) r ∙ (Decides-eqb s.result t).1 e

pub leads_to-not : (t : ℕ) (s : Symbol) → ¬ ((s.relation ≡ false) × (s.result ≡ t)) → leads_to t s ≡ false
leads_to-not t s not_so = by_test (leads_to t s) refl
  where
    by_test : (b : Bool) → leads_to t s ≡ b → b ≡ false
    by_test false e = refl
    by_test true e = absurd (not_so (leads_to-true t s e))

-- what the numbers of functions are
pub numbers-are : (sig : Sig) (t : ℕ) → All (λ k. (k < length sig.symbols) × ((symbol_at sig k).relation ≡ false) × ((symbol_at sig k).result ≡ t)) (function_numbers sig t)
numbers-are sig t = λ i d lt.
    let p = λ (k : ℕ). leads_to t (symbol_at sig k) in
    let all = range_with_len 0 (length sig.symbols) in
    let below : All (λ k. k < length sig.symbols) all =
    All-from_get_or (λ k. k < length sig.symbols) all 0 (λ j less. let bound : j < length sig.symbols = omega (arith, length-range_with_len 0 (length sig.symbols)) in omega (arith, get_or-range_with_len 0 (length sig.symbols) j 0 bound)) in
    let kind = leads_to-true t (symbol_at sig (get_or (filter p all) i d)) (filter_passes p all i d lt) in
    (All-filter p (λ k. k < length sig.symbols) all below i d lt, kind.0, kind.1)
