-- Shares of a list: they lie one after another and cover it, and answers to each share, one after
-- another, are answers to all of it.
use Rattle.std.proofs.Common.{◌≡◌, ℕ, zero, suc, ◌+◌, ◌-◌, ◌<◌, ◌≤◌, min, List, [], ◌∷◌, ◌++◌, length, get_or, take, drop, Some, refl, sym, ap, subst, ◌∙◌, add-zero, zero-add, arith}
use Rattle.std.proofs.Math.Seq.{take-add, take-length}
use Rattle.std.proofs.lemmas.List.{drop-drop, take_more}
use Rattle.std.specs.List.{AllZip, flat_map, slice_get, slice_range}
use Rattle.up_rounds.specs.Crew.{share_begin, share_of}

-- the shares lie one after another
share_begin-rises : (n s k j : ℕ) → share_begin n s k ≤ share_begin n s (k + j)
share_begin-rises n s k j = omega arith

-- the last one ends where the list does
share_begin-ends : (n s w : ℕ) → 0 < w → s ≡ min n w → share_begin n s s ≡ n
share_begin-ends n zero w some e = omega arith
share_begin-ends n (suc s) w some e = omega arith

ranges-join : {X : Type 0} (xs : List X) (a b c : ℕ) → a ≤ b → b ≤ c →
    slice_range xs a c ≡ slice_range xs a b ++ slice_range xs b c
ranges-join xs a b c ab bc =
    let e : (b - a) + (c - b) ≡ c - a = omega arith in
    let f : a + (b - a) ≡ b = omega arith in
    let t = take-add (b - a) (c - b) (drop a xs) in
    let d = drop-drop (b - a) a xs in
    cc

whole-range : {X : Type 0} (xs : List X) (a b : ℕ) → a ≡ 0 → b ≡ length xs →
    slice_range xs a b ≡ xs
whole-range xs a b start end =
    let e : b - a ≡ length xs = omega arith in
    let t = take-length xs in
    let d : drop 0 xs ≡ xs = refl in
    cc

module _ {A B : Type 0} (R : A → B → Type 0) where
  AllZip-append : (xs us : List A) (ys vs : List B) → AllZip R xs ys → AllZip R us vs →
      AllZip R (xs ++ us) (ys ++ vs)
  AllZip-append [] us [] vs h i = i
  AllZip-append [] us (y ∷ ys) vs h i = absurd h
  AllZip-append (x ∷ xs) us [] vs h i = absurd h
  AllZip-append (x ∷ xs) us (y ∷ ys) vs h i = (h.0, AllZip-append xs us ys vs h.1 i)

  pub AllZip-one_more : (xs : List A) (ys : List B) (i : ℕ) (x : A) (y : B) → i < length xs →
      x ≡ get_or xs i x → AllZip R (take i xs) ys → R x y → AllZip R (take (i + 1) xs) (ys ++ y ∷ [])
  AllZip-one_more xs ys i x y lt at h r =
      let e : take (i + 1) xs ≡ take i xs ++ x ∷ [] =
      take_more xs i x lt ∙ ap (λ z. take i xs ++ z ∷ []) (sym at) in
      subst (λ zs. AllZip R zs (ys ++ y ∷ [])) (sym e)
      (AllZip-append (take i xs) (x ∷ []) ys (y ∷ []) h (r, tt))

  pub AllZip-read : (xs : List A) (ys : List B) (k : ℕ) (x : A) (y : B) → AllZip R xs ys →
      slice_get xs k ≡ Some x → slice_get ys k ≡ Some y → R x y
  AllZip-read [] ys k x y h e f = cc
  AllZip-read (a ∷ xs) [] k x y h e f = absurd h
  AllZip-read (a ∷ xs) (b ∷ ys) zero x y h e f =
      let p : a ≡ x = cc in
      let q : b ≡ y = cc in
      subst (λ z. R z y) p (subst (R a) q h.0)
  AllZip-read (a ∷ xs) (b ∷ ys) (suc k) x y h e f = AllZip-read xs ys k x y h.1 e f

  -- blocks of answers to the shares from this one on
  shares-from : {C : Type 0} (block : C → List B) (xs : List A) (s k : ℕ) (cells : List C) →
      ((i : ℕ) (d : C) → i < length cells →
      AllZip R (share_of xs s (k + i)) (block (get_or cells i d))) →
      AllZip R
      (slice_range xs (share_begin (length xs) s k)
      (share_begin (length xs) s (k + length cells)))
      (flat_map block cells)
  shares-from block xs s k [] each =
      let b = share_begin (length xs) s in
      let e : b (k + 0) - b k ≡ 0 = omega arith in
      subst (λ m. AllZip R (take m (drop (b k) xs)) []) (sym e) tt
  shares-from block xs s k (c ∷ cells) each =
      let b : ℕ → ℕ = share_begin (length xs) s in
      let here : AllZip R (share_of xs s (k + 0)) (block c) = each 0 c (omega arith) in
      let first : AllZip R (share_of xs s k) (block c) =
      subst (λ m. AllZip R (share_of xs s m) (block c)) (add-zero k) here in
      let others = shares-from block xs s (k + 1) cells
      (λ i d lt.
      let e : k + suc i ≡ k + 1 + i = omega arith in
      subst (λ m. AllZip R (share_of xs s m) (block (get_or cells i d))) e
      (each (suc i) d (omega arith))) in
      let e : k + 1 + length cells ≡ k + suc (length cells) = omega arith in
      let joined = ranges-join xs (b k) (b (k + 1)) (b (k + 1 + length cells))
      (share_begin-rises (length xs) s k 1)
      (share_begin-rises (length xs) s (k + 1) (length cells)) in
      subst (λ m. AllZip R (slice_range xs (b k) (b m)) (flat_map block (c ∷ cells))) e
      (subst (λ zs. AllZip R zs (flat_map block (c ∷ cells))) (sym joined)
      (AllZip-append (share_of xs s k) _ (block c) (flat_map block cells) first others))

  -- blocks of answers to all shares
  pub shares-cover : {C : Type 0} (block : C → List B) (xs : List A) (w : ℕ) (cells : List C) →
      0 < w → length cells ≡ min (length xs) w →
      ((i : ℕ) (d : C) → i < length cells →
      AllZip R (share_of xs (length cells) i) (block (get_or cells i d))) →
      AllZip R xs (flat_map block cells)
  shares-cover block xs w cells some many each =
      let s = length cells in
      let b : ℕ → ℕ = share_begin (length xs) s in
      let from = shares-from block xs s 0 cells
      (λ i d lt.
      let e : i ≡ 0 + i = omega arith in
      subst (λ m. AllZip R (share_of xs s m) (block (get_or cells i d))) e (each i d lt)) in
      let start : b 0 ≡ 0 = omega arith in
      let end : b (0 + s) ≡ length xs =
      ap b (zero-add s) ∙ share_begin-ends (length xs) s w some many in
      subst (λ zs. AllZip R zs (flat_map block cells)) (whole-range xs (b 0) (b (0 + s)) start end) from
