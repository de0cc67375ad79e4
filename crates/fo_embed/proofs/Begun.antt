-- Maps that begin others, with one image more and one image less.
use Rattle.std.proofs.Common.{◌≡◌, ℕ, zero, suc, ◌+◌, ◌<◌, List, [], ◌∷◌, ◌++◌, length, get_or, take, refl, sym, ap, subst, ◌∙◌, arith, length-append}
use Rattle.std.proofs.lemmas.Grind.{take_at_read}
use Rattle.std.proofs.lemmas.List.{get_or-take, take_all}
use Rattle.fo_core.specs.Embedding.{image, images}
use Rattle.fo_core.specs.Runs.{AreElements}
use Rattle.fo_embed.specs.Placing.{images_of, placed, with_image}
use Rattle.fo_embed.specs.Searching.{Begin}
use Rattle.fo_embed.proofs.Placed.{placed-at}

pub begin-length : (maps other : List (List ℕ)) → Begin maps other → length other ≡ length maps
begin-length [] [] h = refl
begin-length [] (b ∷ other) h = absurd h
begin-length (m ∷ maps) [] h = absurd h
begin-length (m ∷ maps) (b ∷ other) h = ap suc (begin-length maps other h.1)

-- each begins itself, and maps without images begin all
pub begin-self : (maps : List (List ℕ)) → Begin maps maps
begin-self [] = tt
begin-self (m ∷ maps) = (sym (take_all (length m) m (omega arith)), begin-self maps)

pub begin-empty : (maps other : List (List ℕ)) → ((t : ℕ) → images_of maps t ≡ []) → length other ≡ length maps → Begin maps other
begin-empty [] [] h e = tt
begin-empty [] (b ∷ other) h e = absurd (omega (arith, e))
begin-empty (m ∷ maps) [] h e = absurd (omega (arith, e))
begin-empty (m ∷ maps) (b ∷ other) h e = (h 0 ∙ sym (ap (λ zs. take (length zs) b) (h 0)), begin-empty maps other (λ t. h (suc t)) (omega (arith, e)))

-- the images of the one are images of the other
begin-at : (maps other : List (List ℕ)) (s : ℕ) → Begin maps other → images_of maps s ≡ take (length (images_of maps s)) (images_of other s)
begin-at [] [] s h = refl
begin-at [] (b ∷ other) s h = absurd h
begin-at (m ∷ maps) [] s h = absurd h
begin-at (m ∷ maps) (b ∷ other) zero h = h.0
begin-at (m ∷ maps) (b ∷ other) (suc s) h = begin-at maps other s h.1

pub begin-image : (maps other : List (List ℕ)) (s x : ℕ) → Begin maps other → x < length (images_of maps s) → image other s x ≡ image maps s x
begin-image maps other s x h lt =
    sym (ap (λ zs. get_or zs x 0) (begin-at maps other s h) ∙ get_or-take (length (images_of maps s)) (images_of other s) x 0 lt)

pub begin-images : (maps other : List (List ℕ)) → Begin maps other → (ss xs : List ℕ) → AreElements (placed maps) xs ss → images maps ss xs ≡ images other ss xs
begin-images maps other h [] [] e = refl
begin-images maps other h [] (x ∷ xs) e = refl
begin-images maps other h (s ∷ ss) [] e = refl
begin-images maps other h (s ∷ ss) (x ∷ xs) e =
    ap (λ y. y ∷ images maps ss xs) (sym (begin-image maps other s x h (subst (λ n. x < n) (placed-at maps s) e.0)))
    ∙ ap (λ ys. image other s x ∷ ys) (begin-images maps other h ss xs e.1)

-- with one image more
pub begin-more : (maps other : List (List ℕ)) (s y : ℕ) → Begin maps other → s < length maps → length (images_of maps s) < length (images_of other s) →
    image other s (length (images_of maps s)) ≡ y → Begin (with_image maps s y) other
begin-more [] other s y h in_ lt is = absurd (omega (arith, in_))
begin-more (m ∷ maps) [] s y h in_ lt is = absurd h
begin-more (m ∷ maps) (b ∷ other) zero y h in_ lt is = (
  ap (λ zs. zs ++ y ∷ []) h.0 ∙ ap (λ z. take (length m) b ++ z ∷ []) (sym is) ∙ sym (take_at_read b (length m) 0 lt).1
      ∙ ap (λ n. take n b) (sym (length-append m (y ∷ []))),
  h.1,
)
begin-more (m ∷ maps) (b ∷ other) (suc s) y h in_ lt is = (h.0, begin-more maps other s y h.1 (omega (arith, in_)) lt is)

abbrev rest_of : List ℕ → List ℕ
rest_of [] = []
rest_of (x ∷ xs) = xs

push-begins : (m b : List ℕ) (y k : ℕ) → k ≡ length m + 1 → m ++ y ∷ [] ≡ take k b → (m ≡ take (length m) b) × (length m < length b) × (get_or b (length m) 0 ≡ y)
push-begins m b y zero is e = absurd (omega (arith, is))
push-begins [] [] y (suc k) is e = absurd (omega (arith, ap length e))
push-begins [] (z ∷ b) y (suc k) is e = (refl, omega arith, sym (ap (λ zs. get_or zs 0 0) e))
push-begins (n ∷ m) [] y (suc k) is e = absurd (omega (arith, ap length e))
push-begins (n ∷ m) (z ∷ b) y (suc k) is e =
    let rest = push-begins m b y k (omega (arith, is)) (ap rest_of e) in
    (ap (λ zs. zs ++ m) (ap (λ zs. get_or zs 0 0 ∷ []) e) ∙ ap (λ zs. z ∷ zs) rest.0, omega (arith, rest.1), rest.2)

-- with one image less
pub begin-less : (maps other : List (List ℕ)) (s y : ℕ) → s < length maps → Begin (with_image maps s y) other →
    Begin maps other × (length (images_of maps s) < length (images_of other s)) × (image other s (length (images_of maps s)) ≡ y)
begin-less [] other s y in_ h = absurd (omega (arith, in_))
begin-less (m ∷ maps) [] zero y in_ h = absurd h
begin-less (m ∷ maps) [] (suc s) y in_ h = absurd h
begin-less (m ∷ maps) (b ∷ other) zero y in_ h =
    let pushed = push-begins m b y (length (m ++ y ∷ [])) (length-append m (y ∷ [])) h.0 in
    ((pushed.0, h.1), pushed.1, pushed.2)
begin-less (m ∷ maps) (b ∷ other) (suc s) y in_ h =
    let rest = begin-less maps other s y (omega (arith, in_)) h.1 in
    ((h.0, rest.0), rest.1, rest.2)
