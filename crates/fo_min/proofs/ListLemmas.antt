-- Lists over ranges of numbers that grow by one.
use Rattle.std.proofs.Common.{◌≡◌, ℕ, Bool, true, false, cond, ◌+◌, List, [], ◌∷◌, ◌++◌, refl, sym, ap, ◌∙◌, append-nil, append_assoc}
use Rattle.std.specs.List.{filter, flat_map, range_with_len}
use Rattle.std.proofs.lemmas.Grind.{flat_map-append}
pub use Rattle.fo_core.proofs.Pieces.{map_more, flat_map_more}
use Rattle.fo_core.proofs.Pieces.{range-more}

filter-append : (p : ℕ → Bool) (xs : List ℕ) (y : ℕ) → filter p (xs ++ y ∷ []) ≡ filter p xs ++ cond (p y) (y ∷ []) []
filter-append p [] y = by_case (p y)
  where
    by_case : (b : Bool) → cond b (y ∷ []) [] ≡ cond b (y ∷ []) []
    by_case b = refl
filter-append p (x ∷ xs) y = by_case (p x) (filter-append p xs y)
  where
    by_case : (b : Bool) → filter p (xs ++ y ∷ []) ≡ filter p xs ++ cond (p y) (y ∷ []) [] →
        cond b (x ∷ filter p (xs ++ y ∷ [])) (filter p (xs ++ y ∷ [])) ≡ cond b (x ∷ filter p xs) (filter p xs) ++ cond (p y) (y ∷ []) []
    by_case true e = ap (λ l. x ∷ l) e
    by_case false e = e

filtered : {X : Type 0} (f : ℕ → List X) (b : Bool) (y : ℕ) → flat_map f (cond b (y ∷ []) []) ≡ cond b (f y) []
filtered f true y = append-nil (f y)
filtered f false y = refl

pub filter_more : {X : Type 0} (f : ℕ → List X) (p : ℕ → Bool) (n : ℕ) →
    flat_map f (filter p (range_with_len 0 (n + 1))) ≡ flat_map f (filter p (range_with_len 0 n)) ++ cond (p n) (f n) []
filter_more f p n =
    ap (λ l. flat_map f (filter p l)) (range-more n) ∙ ap (flat_map f) (filter-append p (range_with_len 0 n) n)
    ∙ flat_map-append f (filter p (range_with_len 0 n)) (cond (p n) (n ∷ []) [])
    ∙ ap (λ l. flat_map f (filter p (range_with_len 0 n)) ++ l) (filtered f (p n) n)

-- one number more that passes, or doesn't
module _ {X : Type 0} (f : ℕ → List X) (p : ℕ → Bool) (n : ℕ) (start before now : List X) (b : before ≡ start ++ flat_map f (filter p (range_with_len 0 n))) where
  pub table-added : p n ≡ true → now ≡ before ++ f n → now ≡ start ++ flat_map f (filter p (range_with_len 0 (n + 1)))
  table-added passes e =
      e ∙ ap (λ xs. xs ++ f n) b ∙ append_assoc start (flat_map f (filter p (range_with_len 0 n))) (f n)
      ∙ ap (λ xs. start ++ xs) (sym (filter_more f p n ∙ ap (λ c. flat_map f (filter p (range_with_len 0 n)) ++ cond c (f n) []) passes))

  pub table-left : p n ≡ false → now ≡ before → now ≡ start ++ flat_map f (filter p (range_with_len 0 (n + 1)))
  table-left fails e =
      e ∙ b ∙ ap (λ xs. start ++ xs) (sym (filter_more f p n ∙ ap (λ c. flat_map f (filter p (range_with_len 0 n)) ++ cond c (f n) []) fails ∙ append-nil (flat_map f (filter p (range_with_len 0 n)))))

pub copy-added : {X : Type 0} (f : ℕ → List X) (n : ℕ) (start before now : List X) → before ≡ start ++ flat_map f (range_with_len 0 n) → now ≡ before ++ f n → now ≡ start ++ flat_map f (range_with_len 0 (n + 1))
copy-added f n start before now b e =
    e ∙ ap (λ xs. xs ++ f n) b ∙ append_assoc start (flat_map f (range_with_len 0 n)) (f n) ∙ ap (λ xs. start ++ xs) (sym (flat_map_more f n))
