-- Tuples of elements by their numbers, and the list of them all.
use Rattle.std.proofs.Common.{◌≡◌, ℕ, zero, suc, ◌+◌, ◌*◌, ◌/◌, ◌%◌, ◌<◌, List, [], ◌∷◌, length, get_or, map, refl, sym, ap, ◌∙◌, arith, length-append}
use Rattle.std.specs.List.{All, AllZip, Contains, flat_map, range_with_len}
use Rattle.std.proofs.Math.Nat.{mod-lt, div-lt_iff_lt-mul}
use Rattle.std.proofs.lemmas.List.Concat.{flat_map-cons}
use Rattle.std.proofs.lemmas.List.{length-map, get_or-map}
use Rattle.std.proofs.lemmas.List.Elements.{All-nil, All-cons}
use Rattle.std.proofs.lemmas.List.FromFn.{length-range_with_len, get_or-range_with_len}
use Rattle.std.proofs.lemmas.Nat.{div-mul-add, mod-mul-add, div-add-mod'}
use Rattle.fo_core.specs.Tables.{tuples, place}
use Rattle.fo_core.specs.Tuples.{tuple_at, all_tuples}
use Rattle.fo_core.proofs.ListFacts.{all_mapped, all_flat, all_range}
use Rattle.fo_core.proofs.Pieces.{map-map, map-flat_map, flat_map-agree, Contains-flat_map, Contains-map, range-Contains, range-shift, range-blocks}
use Rattle.fo_core.proofs.TableLemmas.{place-lt}

pub factor-positive : (n T k : ℕ) → k < n * T → 0 < T
factor-positive n zero k lt = absurd (omega arith)
factor-positive n (suc T) k lt = omega arith

pub tuple-place : (ns xs : List ℕ) → AllZip (λ x n. x < n) xs ns → tuple_at ns (place ns xs) ≡ xs
tuple-place [] [] h = refl
tuple-place [] (x ∷ xs) h = absurd h
tuple-place (n ∷ ns) [] h = absurd h
tuple-place (n ∷ ns) (x ∷ xs) h =
    let lt = place-lt ns xs h.1 in
    ap (λ d. d ∷ tuple_at ns ((x * tuples ns + place ns xs) % tuples ns)) (div-mul-add x (tuples ns) (place ns xs) lt)
    ∙ ap (λ r. x ∷ tuple_at ns r) (mod-mul-add x (tuples ns) (place ns xs) lt) ∙ ap (λ ys. x ∷ ys) (tuple-place ns xs h.1)

pub tuple-below : (ns : List ℕ) (j : ℕ) → j < tuples ns → AllZip (λ x n. x < n) (tuple_at ns j) ns
tuple-below [] j lt = tt
tuple-below (n ∷ ns) j lt =
    let some = factor-positive n (tuples ns) j lt in
    ((div-lt_iff_lt-mul some).1 lt, tuple-below ns (j % tuples ns) (mod-lt j some))

pub place-tuple : (ns : List ℕ) (j : ℕ) → j < tuples ns → place ns (tuple_at ns j) ≡ j
place-tuple [] j lt = omega arith
place-tuple (n ∷ ns) j lt =
    let some = factor-positive n (tuples ns) j lt in
    ap (λ r. j / tuples ns * tuples ns + r) (place-tuple ns (j % tuples ns) (mod-lt j some)) ∙ div-add-mod' j (tuples ns)

pub tuples-below : (ns : List ℕ) → All (λ xs. AllZip (λ x n. x < n) xs ns) (all_tuples ns)
tuples-below [] = All-cons (λ xs. AllZip (λ x n. x < n) xs []) [] [] tt (All-nil (λ xs. AllZip (λ x n. x < n) xs []))
tuples-below (n ∷ ns) =
    all_flat (λ xs. AllZip (λ x n. x < n) xs (n ∷ ns)) (λ x. map (λ xs. x ∷ xs) (all_tuples ns)) (range_with_len 0 n)
    (all_range (λ x. All (λ xs. AllZip (λ x n. x < n) xs (n ∷ ns)) (map (λ xs. x ∷ xs) (all_tuples ns))) n
    (λ x lt. all_mapped (λ xs. AllZip (λ x n. x < n) xs (n ∷ ns)) (λ xs. x ∷ xs) (all_tuples ns) (λ k d in_. (lt, tuples-below ns k d in_))))

-- the tuples stand at the places 0, 1, 2 ..
pub tuple-places : (ns : List ℕ) → map (place ns) (all_tuples ns) ≡ range_with_len 0 (tuples ns)
tuple-places [] = refl
tuple-places (n ∷ ns) =
    map-flat_map (place (n ∷ ns)) (λ x. map (λ xs. x ∷ xs) (all_tuples ns)) (range_with_len 0 n)
    ∙ flat_map-agree (λ x. map (place (n ∷ ns)) (map (λ xs. x ∷ xs) (all_tuples ns))) (λ x. range_with_len (x * tuples ns) (tuples ns)) (range_with_len 0 n) (λ k d lt. block (tuple-places ns) (get_or (range_with_len 0 n) k d))
    ∙ range-blocks (tuples ns) 0 n
    ∙ (let e : 0 * tuples ns ≡ 0 = omega arith in ap (λ a. range_with_len a (n * tuples ns)) e)
  where
    block : map (place ns) (all_tuples ns) ≡ range_with_len 0 (tuples ns) → (x : ℕ) → map (place (n ∷ ns)) (map (λ xs. x ∷ xs) (all_tuples ns)) ≡ range_with_len (x * tuples ns) (tuples ns)
    block so_far x =
        map-map (place (n ∷ ns)) (λ xs. x ∷ xs) (all_tuples ns)
        ∙ sym (map-map (λ y. x * tuples ns + y) (place ns) (all_tuples ns))
        ∙ ap (map (λ y. x * tuples ns + y)) so_far
        ∙ range-shift (x * tuples ns) 0 (tuples ns)
        ∙ (let e : x * tuples ns + 0 ≡ x * tuples ns = omega arith in ap (λ a. range_with_len a (tuples ns)) e)

-- every tuple of elements below the sizes is one of all
pub tuple-found : (ns xs : List ℕ) → AllZip (λ x n. x < n) xs ns → Contains (all_tuples ns) xs
tuple-found [] [] h = (0, omega arith, refl)
tuple-found [] (x ∷ xs) h = absurd h
tuple-found (n ∷ ns) [] h = absurd h
tuple-found (n ∷ ns) (x ∷ xs) h =
    Contains-flat_map (λ x. map (λ xs. x ∷ xs) (all_tuples ns)) (range_with_len 0 n) x (x ∷ xs) (range-Contains n x h.0) (Contains-map (λ xs. x ∷ xs) (all_tuples ns) xs (tuple-found ns xs h.1))

copied_length : {X : Type 0} (ts : List X) (f : ℕ → X → X) (xs : List ℕ) → length (flat_map (λ x. map (f x) ts) xs) ≡ length xs * length ts
copied_length ts f [] = omega arith
copied_length ts f (x ∷ xs) =
    ap length (flat_map-cons (λ x. map (f x) ts) x xs)
    ∙ length-append (map (f x) ts) (flat_map (λ x. map (f x) ts) xs)
    ∙ ap (λ n. n + length (flat_map (λ x. map (f x) ts) xs)) (length-map ts (f x))
    ∙ ap (λ n. length ts + n) (copied_length ts f xs)
    ∙ omega arith

pub tuples_number : (ns : List ℕ) → length (all_tuples ns) ≡ tuples ns
tuples_number [] = refl
tuples_number (n ∷ ns) =
    copied_length (all_tuples ns) (λ x xs. x ∷ xs) (range_with_len 0 n)
    ∙ ap (λ m. m * length (all_tuples ns)) (length-range_with_len 0 n)
    ∙ ap (λ m. n * m) (tuples_number ns)

-- each stands at the place of its number
pub tuples-each : (ns : List ℕ) (j : ℕ) (d : List ℕ) → j < tuples ns → get_or (all_tuples ns) j d ≡ tuple_at ns j
tuples-each ns j d lt = sym (tuple-place ns (get_or (all_tuples ns) j d) (tuples-below ns j d within)) ∙ ap (tuple_at ns) numbered
  where
    within : j < length (all_tuples ns)
    within = omega (arith, tuples_number ns, lt)

    numbered : place ns (get_or (all_tuples ns) j d) ≡ j
    numbered =
        sym (get_or-map (place ns) (all_tuples ns) j d 0 within)
        ∙ ap (λ (ps : List ℕ). get_or ps j 0) (tuple-places ns)
        ∙ get_or-range_with_len 0 (tuples ns) j 0 lt
        ∙ (let e : 0 + j ≡ j = omega arith in e)
