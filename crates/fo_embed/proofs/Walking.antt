-- Walks over two tables, element by element.
use Rattle.std.proofs.Common.{◌≡◌, ℕ, true, false, Bool, ◌↔◌, ◌+◌, ◌-◌, ◌*◌, ◌<◌, ◌≤◌, List, [], ◌∷◌, length, get_or, take, drop, refl, sym, subst, ◌∙◌, arith}
use Rattle.std.specs.List.{All}
use Rattle.std.specs.Prelude.{slice_index, IsTrue}
use Rattle.std.proofs.Math.Nat.{mul-le-mul_right, le-mul_of_pos_right}
use Rattle.std.proofs.lemmas.Nat.{mul-add-lt}
use Rattle.std.proofs.lemmas.List.{take_all, get_or_default}
use Rattle.std.proofs.lemmas.List.Elements.{All-nil, All-cons, All-head, All-tail}
use Rattle.fo_core.specs.declared.signature.Symbol.{Symbol}
use Rattle.fo_core.specs.declared.world.World.{World}
use Rattle.fo_core.specs.Tables.{tuples}
use Rattle.fo_core.specs.Embedding.{image, images}
use Rattle.fo_core.proofs.Answered.{never, always}
use Rattle.fo_core.proofs.TableLemmas.{tuples-positive}
use Rattle.fo_embed.specs.Placing.{images_of, IsKept}
use Rattle.fo_embed.specs.Asked.{CanWalk, IsBlock, AgreeFrom, sizes_at, place_from}
use Rattle.fo_embed.proofs.Placed.{placed-at}

positive-at : (sizes : List ℕ) (s : ℕ) → All (λ n. 1 ≤ n) sizes → s < length sizes → 1 ≤ slice_index sizes s
positive-at sizes s h lt = h s 0 lt

sizes-positive : (sizes sorts : List ℕ) → All (λ n. 1 ≤ n) sizes → All (λ s. s < length sizes) sorts → All (λ n. 1 ≤ n) (sizes_at sizes sorts)
sizes-positive sizes [] h known = All-nil (λ n. 1 ≤ n)
sizes-positive sizes (s ∷ sorts) h known =
    All-cons (λ n. 1 ≤ n) (slice_index sizes s) (sizes_at sizes sorts) (positive-at sizes s h (All-head (λ s. s < length sizes) s sorts known))
    (sizes-positive sizes sorts h (All-tail (λ s. s < length sizes) s sorts known))

-- one element more
block-step : (n x at T len : ℕ) → (at + 1) * (n * T) ≤ len → x < n → ((at * n + x) + 1) * T ≤ len
block-step n x at T len h lt =
    let more = mul-add-lt at n x (at + 1) (omega arith) lt in
    let below : at * n + x < (at + 1) * n = omega (arith, more) in
    let le : ((at * n + x) + 1) * T ≤ ((at + 1) * n) * T = mul-le-mul_right T (omega (arith, below)) in
    omega (arith, le, h)

pub block-more : (sizes sorts : List ℕ) (at x : ℕ) (values : List ℕ) → 0 < length sorts → IsBlock sizes sorts at values → x < slice_index sizes (get_or sorts 0 0) →
    IsBlock sizes (drop 1 sorts) (at * slice_index sizes (get_or sorts 0 0) + x) values
block-more sizes [] at x values some h lt = absurd (omega arith)
block-more sizes (s ∷ sorts) at x values some h lt = block-step (slice_index sizes s) x at (tuples (sizes_at sizes sorts)) (length values) h lt

-- the number of what begins a tuple is below the number of values
pub block-within : (sizes sorts : List ℕ) (at : ℕ) (values : List ℕ) → All (λ n. 1 ≤ n) sizes → All (λ s. s < length sizes) sorts → IsBlock sizes sorts at values → at < length values
block-within sizes sorts at values nonempty known h =
    let some : 1 ≤ tuples (sizes_at sizes sorts) = tuples-positive (sizes_at sizes sorts) (sizes-positive sizes sorts nonempty known) in
    let le : at + 1 ≤ (at + 1) * tuples (sizes_at sizes sorts) = le-mul_of_pos_right (at + 1) (omega (arith, some)) in
    omega (arith, le, h)

pub whole-block : (sizes sorts values : List ℕ) → length values ≡ tuples (sizes_at sizes sorts) → IsBlock sizes sorts 0 values
whole-block sizes sorts values e = let one : (0 + 1) * tuples (sizes_at sizes sorts) ≡ tuples (sizes_at sizes sorts) = omega arith in omega (arith, one, e)

module _ (v w : World) (maps : List (List ℕ)) (s : Symbol) where
  pub walk-more : (sorts : List ℕ) → 0 < length sorts → CanWalk v w maps s sorts → CanWalk v w maps s (drop 1 sorts)
  walk-more [] some h = absurd (omega arith)
  walk-more (n ∷ sorts) some h = record {
    nonempty = h.nonempty;
    nonempty_to = h.nonempty_to;
    same_sorts = h.same_sorts;
    part = h.part;
    known = All-tail (λ n. n < length v.sizes) n sorts h.known;
    result = h.result;
  }

  pub walk-sort : (sorts : List ℕ) → 0 < length sorts → CanWalk v w maps s sorts → get_or sorts 0 0 < length v.sizes
  walk-sort [] some h = absurd (omega arith)
  walk-sort (n ∷ sorts) some h = All-head (λ n. n < length v.sizes) n sorts h.known

  pub known-to : (sorts : List ℕ) → CanWalk v w maps s sorts → All (λ n. n < length w.sizes) sorts
  known-to sorts h = subst (λ n. All (λ s. s < n) sorts) (sym h.same_sorts) h.known

  -- an element with an image is below the size of its sort, and so is the image
  pub walk-below : (sorts : List ℕ) (n x : ℕ) → CanWalk v w maps s sorts → x < length (images_of maps n) → x < slice_index v.sizes n
  walk-below sorts n x h lt = omega (arith, h.part.some n, lt)

  -- the blocks of the tuples that go on with an element, and with its image
  pub next-here : (sorts : List ℕ) (at x : ℕ) (here : List ℕ) → 0 < length sorts → CanWalk v w maps s sorts → IsBlock v.sizes sorts at here → x < length (images_of maps (get_or sorts 0 0)) →
      let next = at * slice_index v.sizes (get_or sorts 0 0) + x in IsBlock v.sizes (drop 1 sorts) next here × (next < length here)
  next-here sorts at x here some h block lt =
      let next = block-more v.sizes sorts at x here some block (walk-below sorts (get_or sorts 0 0) x h lt) in
      (next, block-within v.sizes (drop 1 sorts) _ here h.nonempty (walk-more sorts some h).known next)

  pub next-there : (sorts : List ℕ) (to x : ℕ) (there : List ℕ) → 0 < length sorts → CanWalk v w maps s sorts → IsBlock w.sizes sorts to there → x < length (images_of maps (get_or sorts 0 0)) →
      let next = to * slice_index w.sizes (get_or sorts 0 0) + image maps (get_or sorts 0 0) x in IsBlock w.sizes (drop 1 sorts) next there × (next < length there)
  next-there sorts to x there some h block lt =
      let next = block-more w.sizes sorts to (image maps (get_or sorts 0 0) x) there some block (h.part.in_range (get_or sorts 0 0) x lt) in
      (next, block-within w.sizes (drop 1 sorts) _ there h.nonempty_to (known-to (drop 1 sorts) (walk-more sorts some h)) next)

  pub items-are : (n : ℕ) (items found : List ℕ) → n < length maps → items ≡ found → found ≡ get_or maps n found → items ≡ images_of maps n
  items-are n items found lt e is = e ∙ is ∙ get_or_default maps n found [] lt

  module _ (here there : List ℕ) where
    abbrev Agreed : List ℕ → ℕ → ℕ → Type 0
    Agreed = AgreeFrom v.sizes w.sizes maps s here there

    -- with no sort left
    pub agree-none : (sorts : List ℕ) (at to : ℕ) (b : Bool) → length sorts ≡ 0 → (IsTrue b ↔ IsKept s maps (slice_index here at) (slice_index there to)) → IsTrue b ↔ Agreed sorts at to
    agree-none (n ∷ sorts) at to b e h = absurd (omega arith)
    agree-none [] at to b e h = (λ t. all (h.0 t), λ a. h.1 (one (a [] tt)))
      where
        here-is : at * 1 + 0 ≡ at
        here-is = omega arith

        there-is : to * 1 + 0 ≡ to
        there-is = omega arith

        one : IsKept s maps (slice_index here (at * 1 + 0)) (slice_index there (to * 1 + 0)) → IsKept s maps (slice_index here at) (slice_index there to)
        one k = subst (λ i. IsKept s maps (slice_index here i) (slice_index there to)) here-is (subst (λ i. IsKept s maps (slice_index here (at * 1 + 0)) (slice_index there i)) there-is k)

        back : IsKept s maps (slice_index here at) (slice_index there to) → IsKept s maps (slice_index here (at * 1 + 0)) (slice_index there (to * 1 + 0))
        back k = subst (λ i. IsKept s maps (slice_index here i) (slice_index there (to * 1 + 0))) (sym here-is) (subst (λ i. IsKept s maps (slice_index here at) (slice_index there i)) (sym there-is) k)

        all : IsKept s maps (slice_index here at) (slice_index there to) → Agreed [] at to
        all k [] h = back k
        all k (x ∷ xs) h = absurd h

    -- with a sort: for each element with an image
    module _ (n : ℕ) (sorts : List ℕ) (at to : ℕ) where
      abbrev Next : ℕ → Type 0
      Next x = Agreed sorts (at * slice_index v.sizes n + x) (to * slice_index w.sizes n + image maps n x)

      place-is : (sizes : List ℕ) (at x : ℕ) (xs : List ℕ) → place_from sizes sorts (at * slice_index sizes n + x) xs ≡ place_from sizes (n ∷ sorts) at (x ∷ xs)
      place-is sizes at x xs = omega arith

      pub agree-next : Agreed (n ∷ sorts) at to → (x : ℕ) → x < length (images_of maps n) → Next x
      agree-next h x lt = λ xs e.
          subst (λ i. IsKept s maps (slice_index here i) (slice_index there (place_from w.sizes sorts (to * slice_index w.sizes n + image maps n x) (images maps sorts xs)))) (sym (place-is v.sizes at x xs))
          (subst (λ i. IsKept s maps (slice_index here (place_from v.sizes (n ∷ sorts) at (x ∷ xs))) (slice_index there i)) (sym (place-is w.sizes to (image maps n x) (images maps sorts xs)))
          (h (x ∷ xs) (subst (λ k. x < k) (sym (placed-at maps n)) lt, e)))

      pub agree-all : ((x : ℕ) → x < length (images_of maps n) → Next x) → Agreed (n ∷ sorts) at to
      agree-all h [] e = absurd e
      agree-all h (x ∷ xs) e =
          subst (λ i. IsKept s maps (slice_index here i) (slice_index there (place_from w.sizes (n ∷ sorts) to (image maps n x ∷ images maps sorts xs)))) (place-is v.sizes at x xs)
          (subst (λ i. IsKept s maps (slice_index here (place_from v.sizes sorts (at * slice_index v.sizes n + x) xs)) (slice_index there i)) (place-is w.sizes to (image maps n x) (images maps sorts xs))
          (h x (subst (λ k. x < k) (placed-at maps n) e.0) xs e.1))

    pub agree-false : (sorts : List ℕ) (at to x : ℕ) → 0 < length sorts → x < length (images_of maps (get_or sorts 0 0)) →
        ¬ Agreed (drop 1 sorts) (at * slice_index v.sizes (get_or sorts 0 0) + x) (to * slice_index w.sizes (get_or sorts 0 0) + image maps (get_or sorts 0 0) x) → IsTrue false ↔ Agreed sorts at to
    agree-false [] at to x some lt fails = absurd (omega arith)
    agree-false (n ∷ sorts) at to x some lt fails = never (Agreed (n ∷ sorts) at to) (λ h. fails (agree-next n sorts at to h x lt))

    pub agree-true : (sorts : List ℕ) (at to i : ℕ) → 0 < length sorts → length (images_of maps (get_or sorts 0 0)) ≤ i →
        ((x : ℕ) → x < i → Agreed (drop 1 sorts) (at * slice_index v.sizes (get_or sorts 0 0) + x) (to * slice_index w.sizes (get_or sorts 0 0) + image maps (get_or sorts 0 0) x)) → IsTrue true ↔ Agreed sorts at to
    agree-true [] at to i some le h = absurd (omega arith)
    agree-true (n ∷ sorts) at to i some le h = always (Agreed (n ∷ sorts) at to) (agree-all n sorts at to (λ x lt. h x (omega (arith, le, lt))))

pub rest_of : (ps : List ℕ) → take (length ps - 1) (drop 1 ps) ≡ drop 1 ps
rest_of [] = refl
rest_of (p ∷ ps) = take_all (length (p ∷ ps) - 1) ps (omega arith)
