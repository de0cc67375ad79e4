-- Lists that are paired from the front on.
use Rattle.std.proofs.Common.{◌≡◌, ◌∙◌, ◌+◌, ◌<◌, ◌≤◌, ℕ, List, [], ◌∷◌, ◌++◌, map, drop, get_or, length, sym, subst, ap, append_assoc, add-one}
use Rattle.std.proofs.Math.Seq.{drop-cons}
use Rattle.std.proofs.lemmas.List.{append-nil, drop_all}
use Rattle.std.specs.List.{AllZip}

-- these are paired with the first ones of all, and the others are left
pub record IsPaired {A B : Type 0} (R : A → B → Type 0) (all : List A) (done : List B) (left : List A) : Type 0 where
  -- what pairs with those left makes a whole with what is done
  pub whole : (ys : List B) → AllZip R left ys → AllZip R all (done ++ ys)
  -- where something pairs with all, something does with those left
  pub rest : (ys : List B) → AllZip R all ys → (zs : List B) × AllZip R left zs

module _ {X A B : Type 0} (R : A → B → Type 0) (f : X → A) (xs : List X) where
  cut_at : (i : ℕ) (x : X) → i < length xs → map f (drop i xs) ≡ f (get_or xs i x) ∷ map f (drop (i + 1) xs)
  cut_at i x in_range = ap (map f) (drop-cons xs i x in_range ∙ ap (λ (j : ℕ). get_or xs i x ∷ drop j xs) (sym (add-one i)))

  tail_of : (a : A) (left : List A) → ((zs : List B) × AllZip R (a ∷ left) zs) → (zs : List B) × AllZip R left zs
  tail_of a left ([], h) = absurd h
  tail_of a left (z ∷ zs, h) = (zs, h.1)

  head_of : (a : A) (left : List A) → ((y : B) → R a y → ⊥) → ((zs : List B) × AllZip R (a ∷ left) zs) → ⊥
  head_of a left none ([], h) = absurd h
  head_of a left none (z ∷ zs, h) = none z h.0

  -- the next one is paired too
  pub one_paired : (done : List B) (i : ℕ) (x : X) (y : B) → i < length xs → IsPaired R (map f xs) done (map f (drop i xs)) → R (f (get_or xs i x)) y → IsPaired R (map f xs) (done ++ y ∷ []) (map f (drop (i + 1) xs))
  one_paired done i x y in_range p r = of (subst (λ (l : List A). IsPaired R (map f xs) done l) (cut_at i x in_range) p)
    where
      of : IsPaired R (map f xs) done (f (get_or xs i x) ∷ map f (drop (i + 1) xs)) → IsPaired R (map f xs) (done ++ y ∷ []) (map f (drop (i + 1) xs))
      of q = record {
        whole = λ ys more. subst (λ (l : List B). AllZip R (map f xs) l) (sym (append_assoc done (y ∷ []) ys)) (q.whole (y ∷ ys) (r, more));
        rest = λ ys h. tail_of (f (get_or xs i x)) (map f (drop (i + 1) xs)) (q.rest ys h);
      }

  -- all are paired
  pub all_paired : (done : List B) (i : ℕ) → length xs ≤ i → IsPaired R (map f xs) done (map f (drop i xs)) → AllZip R (map f xs) done
  all_paired done i past p =
      let q : IsPaired R (map f xs) done [] = subst (λ (l : List A). IsPaired R (map f xs) done l) (ap (map f) (drop_all i xs past)) p in
      subst (λ (l : List B). AllZip R (map f xs) l) (append-nil done) (q.whole [] tt)

  -- where nothing pairs with the next one, nothing does with all
  pub never_paired : (done : List B) (i : ℕ) (x : X) → i < length xs → IsPaired R (map f xs) done (map f (drop i xs)) → ((y : B) → R (f (get_or xs i x)) y → ⊥) → (ys : List B) → AllZip R (map f xs) ys → ⊥
  never_paired done i x in_range p none ys h =
      head_of (f (get_or xs i x)) (map f (drop (i + 1) xs)) none
      ((subst (λ (l : List A). IsPaired R (map f xs) done l) (cut_at i x in_range) p).rest ys h)
