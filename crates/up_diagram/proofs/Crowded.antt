-- Variables that are all to differ have as many values as they are.
use Rattle.std.proofs.Common.{◌≡◌, ℕ, zero, suc, true, false, Bool, cond, ◌+◌, ◌<◌, ◌≤◌, inl, inr, List, [], ◌∷◌, length, get_or, map, refl, sym, subst, ◌∙◌, arith}
use Rattle.std.specs.Prelude.{slice_index, nat_eq}
use Rattle.std.specs.List.{All, AllByRecursion, AllZip, Contains, IsDistinct, filter, list_any, range_with_len}
use Rattle.std.proofs.lemmas.Bool.{eq-eqb, eqb-true, ne_eqb}
use Rattle.std.proofs.lemmas.Cmp.{nat_eq_equiv}
use Rattle.std.proofs.lemmas.List.{length-map}
use Rattle.std.proofs.lemmas.List.Elements.{All-filter, filter_passes}
use Rattle.std.proofs.lemmas.List.Folds.{Any-from_list_any, list_any-from_Any}
use Rattle.std.proofs.lemmas.List.FromFn.{length-range_with_len}
use Rattle.std.proofs.lemmas.Map.Made.{length-le_from_is_member}
use Rattle.fo_core.specs.declared.signature.Sig.{Sig}
use Rattle.fo_core.specs.declared.world.World.{World}
use Rattle.fo_core.proofs.ListFacts.{all_mapped}
use Rattle.fo_core.proofs.Pieces.{Contains-filter, range-Contains}
use Rattle.fo_core.proofs.Zips.{AllZip-at, AllZip-length}
use Rattle.up_diagram.specs.declared.cube.Flat.{Flat}
use Rattle.up_diagram.specs.declared.cube.Flat.TheVariants.{Differ}
use Rattle.up_diagram.specs.Cubes.{IsTrueFlat, HasSort}
use Rattle.up_diagram.specs.Covers.{HasLiteral, IsAlike}
use Rattle.up_diagram.specs.Trying.{HoldsFrom, BecomesOne}
use Rattle.up_diagram.specs.Crowds.{of_sort, AreTooMany, IsProper}
use Rattle.up_diagram.proofs.Places.{below}

-- values of the numbers that pass, where any two of these have different ones
module _ (p : ℕ → Bool) (f : ℕ → ℕ) (n : ℕ) (apart : (i j : ℕ) → i < j → j < n → p i ≡ true → p j ≡ true → ¬ (f i ≡ f j)) where
  unlike : (a b m : ℕ) → a < b → b + m ≤ n → p a ≡ true → AllByRecursion (λ y. nat_eq (f a) y ≡ false) (map f (filter p (range_with_len b m)))
  unlike a b zero lt le is = tt
  unlike a b (suc m) lt le is = by_test (p b) refl (unlike a (b + 1) m (omega (arith, lt)) (omega (arith, le)) is)
    where
      by_test : (t : Bool) → p b ≡ t → AllByRecursion (λ y. nat_eq (f a) y ≡ false) (map f (filter p (range_with_len (b + 1) m))) →
          AllByRecursion (λ y. nat_eq (f a) y ≡ false) (map f (cond t (b ∷ filter p (range_with_len (b + 1) m)) (filter p (range_with_len (b + 1) m))))
      by_test true passes rest = (ne_eqb (f a) (f b) (apart a b lt (omega (arith, le)) is passes), rest)
      by_test false fails rest = rest

  distinct_from : (a m : ℕ) → a + m ≤ n → IsDistinct nat_eq (map f (filter p (range_with_len a m)))
  unfolding IsDistinct
  distinct_from a zero le = tt
  distinct_from a (suc m) le = by_test (p a) refl (distinct_from (a + 1) m (omega (arith, le)))
    where
      by_test : (t : Bool) → p a ≡ t → IsDistinct nat_eq (map f (filter p (range_with_len (a + 1) m))) →
          IsDistinct nat_eq (map f (cond t (a ∷ filter p (range_with_len (a + 1) m)) (filter p (range_with_len (a + 1) m))))
      by_test true passes rest = (unlike a (a + 1) m (omega arith) (omega (arith, le)) passes, rest)
      by_test false fails rest = rest

-- distinct numbers, each among others, are no more than these
few : (xs room : List ℕ) → IsDistinct nat_eq xs → All (Contains room) xs → length xs ≤ length room
few xs room distinct all = length-le_from_is_member nat_eq_equiv xs room distinct member
  where
    member : (q : ℕ) → list_any (nat_eq q) xs ≡ true → list_any (nat_eq q) room ≡ true
    member q is =
        let found = Any-from_list_any (nat_eq q) xs is in
        let there = all found.0 found.1 found.2 in
        let same : q ≡ get_or xs found.0 found.1 = eqb-true q found.1 found.4 ∙ sym found.3 in
        list_any-from_Any (nat_eq q) room (there.0, get_or xs found.0 found.1, there.1, there.2, eq-eqb q (get_or xs found.0 found.1) same)

module _ (Serves : ℕ → ℕ → Type 0) (Holds : List ℕ → Flat → Type 0) (sorts : List ℕ) (lits : List Flat)
    (differ : (ys : List ℕ) (i j : ℕ) → Holds ys (Differ i j) → ¬ (slice_index ys i ≡ slice_index ys j))
    (s : ℕ) (room : List ℕ) (among : (x : ℕ) → Serves x s → Contains room x) (crowd : AreTooMany sorts lits s (length room)) where
  abbrev has_it : ℕ → Bool
  has_it v = nat_eq (slice_index sorts v) s

  module _ (ys : List ℕ) (values : AllZip Serves ys sorts) (hold : All (Holds ys) lits) where
    apart : (i j : ℕ) → i < j → j < length sorts → has_it i ≡ true → has_it j ≡ true → ¬ (slice_index ys i ≡ slice_index ys j)
    apart i j lt less first second =
        let found = crowd.apart i j lt less (eqb-true (slice_index sorts i) s first) (eqb-true (slice_index sorts j) s second) in
        differ ys i j (subst (Holds ys) (found.3 ∙ found.4) (hold found.0 found.1 found.2))

    serves : (k v : ℕ) → k < length (of_sort sorts s) → Contains room (slice_index ys (get_or (of_sort sorts s) k v))
    serves k v lt =
        let u = get_or (of_sort sorts s) k v in
        let low : u < length sorts = All-filter has_it (λ v. v < length sorts) (range_with_len 0 (length sorts)) (below (length sorts)) k v lt in
        let is : slice_index sorts u ≡ s = eqb-true (slice_index sorts u) s (filter_passes has_it (range_with_len 0 (length sorts)) k v lt) in
        among (slice_index ys u) (subst (Serves (slice_index ys u)) is (AllZip-at Serves ys sorts u 0 0 values (omega (arith, low, AllZip-length Serves ys sorts values))))

    none-left : ⊥
    none-left =
        let count = length-map (of_sort sorts s) (slice_index ys) in
        let enough = few (map (slice_index ys) (of_sort sorts s)) room (distinct_from has_it (slice_index ys) (length sorts) apart 0 (length sorts) (omega arith)) (all_mapped (Contains room) (slice_index ys) (of_sort sorts s) serves) in
        omega (arith, crowd.many, count, enough)

  pub no-room : ¬ HoldsFrom Serves Holds sorts lits []
  no-room h = none-left h.0 h.1 h.2

-- elements of a sort are below its size
pub not-enough-elements : (sig : Sig) (w : World) (c : ℕ) (sorts : List ℕ) (lits : List Flat) (s : ℕ) → AreTooMany sorts lits s (slice_index w.sizes s) →
    ¬ HoldsFrom (λ x s. x < slice_index w.sizes s) (IsTrueFlat sig w c) sorts lits []
not-enough-elements sig w c sorts lits s crowd =
    no-room (λ x s. x < slice_index w.sizes s) (IsTrueFlat sig w c) sorts lits (λ ys i j h. h) s (range_with_len 0 (slice_index w.sizes s)) (λ x lt. range-Contains (slice_index w.sizes s) x lt)
    (subst (AreTooMany sorts lits s) (sym (length-range_with_len 0 (slice_index w.sizes s))) crowd)

-- images of a sort are among the variables of that sort, and images that differ are different ones
differ-apart : (others : List Flat) → All IsProper others → (a b : ℕ) → HasLiteral others (Differ a b) → ¬ (a ≡ b)
differ-apart others proper a b found same = by_order found.4
  where
    is_proper : IsProper found.1
    is_proper = subst IsProper found.3 (proper found.0 found.1 found.2)

    by_order : IsAlike (Differ a b) found.1 → ⊥
    by_order (inl e) = (subst IsProper e is_proper) same
    by_order (inr e) = (subst IsProper e is_proper) (sym same)

pub not-enough-images : (others : List Flat) (places : List ℕ) → All IsProper others → (sorts : List ℕ) (lits : List Flat) (s : ℕ) → AreTooMany sorts lits s (length (of_sort places s)) →
    ¬ HoldsFrom (HasSort places) (BecomesOne others) sorts lits []
not-enough-images others places proper sorts lits s crowd =
    no-room (HasSort places) (BecomesOne others) sorts lits (λ ys i j h. differ-apart others proper (slice_index ys i) (slice_index ys j) h) s (of_sort places s)
    (λ x h. Contains-filter (λ v. nat_eq (slice_index places v) s) (range_with_len 0 (length places)) x (range-Contains (length places) x h.within) (eq-eqb (slice_index places x) s h.sort))
    crowd
