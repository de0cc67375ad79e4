-- Lists that grow behind other lists.
use Rattle.std.proofs.Common.{◌≡◌, ℕ, ◌+◌, ◌<◌, List, [], ◌∷◌, ◌++◌, length, get_or, map, take, sym, ap, ◌∙◌, arith}
use Rattle.std.specs.List.{flat_map, range_with_len}
use Rattle.std.proofs.lemmas.List.{append_assoc, append-nil, map-id, take_more}
use Rattle.std.proofs.lemmas.List.Concat.{flat_map-append}
use Rattle.std.proofs.lemmas.List.FromFn.{map-range_with_len_more}

pub range-more : (n : ℕ) → range_with_len 0 (n + 1) ≡ range_with_len 0 n ++ n ∷ []
range-more n = sym (map-id (range_with_len 0 (n + 1))) ∙ map-range_with_len_more (λ k. k) 0 n n (omega arith) ∙ ap (λ (ks : List ℕ). ks ++ n ∷ []) (map-id (range_with_len 0 n))

module _ {X : Type 0} (old ts : List X) where
  pub mapped-more : (f : ℕ → X) (n : ℕ) → ts ≡ old ++ map f (range_with_len 0 n) → ts ++ f n ∷ [] ≡ old ++ map f (range_with_len 0 (n + 1))
  mapped-more f n is =
      ap (λ (xs : List X). xs ++ f n ∷ []) is
      ∙ append_assoc old (map f (range_with_len 0 n)) (f n ∷ [])
      ∙ ap (λ (xs : List X). old ++ xs) (sym (map-range_with_len_more f 0 n n (omega arith)))

  flat_push : {Y : Type 0} (f : Y → List X) (ys : List Y) (y : Y) → flat_map f (ys ++ y ∷ []) ≡ flat_map f ys ++ f y
  flat_push f ys y = flat_map-append f ys (y ∷ []) ∙ ap (λ (xs : List X). flat_map f ys ++ xs) (append-nil (f y))

  flat_one : {Y : Type 0} (f : Y → List X) (ys zs : List Y) (y : Y) → zs ≡ ys ++ y ∷ [] → ts ≡ old ++ flat_map f ys → ts ++ f y ≡ old ++ flat_map f zs
  flat_one f ys zs y more is =
      ap (λ (xs : List X). xs ++ f y) is
      ∙ append_assoc old (flat_map f ys) (f y)
      ∙ ap (λ (xs : List X). old ++ xs) (sym (flat_push f ys y) ∙ ap (flat_map f) (sym more))

  pub flat-range_more : (f : ℕ → List X) (n : ℕ) → ts ≡ old ++ flat_map f (range_with_len 0 n) → ts ++ f n ≡ old ++ flat_map f (range_with_len 0 (n + 1))
  flat-range_more f n is = flat_one f (range_with_len 0 n) (range_with_len 0 (n + 1)) n (range-more n) is

  pub flat-more : {Y : Type 0} (f : Y → List X) (ys : List Y) (i : ℕ) (d : Y) → i < length ys → ts ≡ old ++ flat_map f (take i ys) → ts ++ f (get_or ys i d) ≡ old ++ flat_map f (take (i + 1) ys)
  flat-more f ys i d lt is = flat_one f (take i ys) (take (i + 1) ys) (get_or ys i d) (take_more ys i d lt) is
