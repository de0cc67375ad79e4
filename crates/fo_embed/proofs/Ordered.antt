-- Which of two lists of images comes first.
use Rattle.std.proofs.Common.{◌≡◌, ℕ, zero, suc, ◌<◌, List, [], ◌∷◌, ◌++◌, length, get_or, take, refl, sym, ap, subst, ◌∙◌, arith, inl, inr}
use Rattle.std.specs.List.{concat}
use Rattle.std.specs.Prelude.{slice_index}
use Rattle.std.proofs.lemmas.List.{take_all}
use Rattle.fo_core.specs.SortGraph.{ComesFirst}
use Rattle.fo_core.specs.Embedding.{image}
use Rattle.fo_embed.specs.Placing.{images_of}
use Rattle.fo_embed.specs.Searching.{Begin}

pub comes-self : (xs : List ℕ) → ComesFirst xs xs
comes-self [] = tt
comes-self (x ∷ xs) = inr (refl, comes-self xs)

comes-prefix : (ms xs ys : List ℕ) → ComesFirst xs ys → ComesFirst (ms ++ xs) (ms ++ ys)
comes-prefix [] xs ys h = h
comes-prefix (m ∷ ms) xs ys h = inr (refl, comes-prefix ms xs ys h)

-- two lists that begin alike, up to a place where the one has less than the other
comes-at : (ms us vs xs ys : List ℕ) → ms ≡ take (length ms) us → ms ≡ take (length ms) vs → length ms < length us → length ms < length vs →
    slice_index us (length ms) < slice_index vs (length ms) → ComesFirst (us ++ xs) (vs ++ ys)
comes-at ms [] vs xs ys e f l k lt = absurd (omega (arith, l))
comes-at ms (a ∷ us) [] xs ys e f l k lt = absurd (omega (arith, k))
comes-at [] (a ∷ us) (b ∷ vs) xs ys e f l k lt = inl lt
comes-at (m ∷ ms) (a ∷ us) (b ∷ vs) xs ys e f l k lt =
    let same : a ≡ b = sym (ap (λ zs. get_or zs 0 0) e) ∙ ap (λ zs. get_or zs 0 0) f in
    inr (same, comes-at ms us vs xs ys (ap (drop_first) e) (ap (drop_first) f) (omega (arith, l)) (omega (arith, k)) lt)
  where
    drop_first : List ℕ → List ℕ
    drop_first [] = []
    drop_first (z ∷ zs) = zs

whole : (ms us : List ℕ) → ms ≡ take (length ms) us → length us ≡ length ms → us ≡ ms
whole ms us e l = sym (e ∙ take_all (length ms) us (omega (arith, l)))

-- of two that begin alike the one whose next image is less comes first
pub comes-before : (maps us vs : List (List ℕ)) (s : ℕ) → Begin maps us → Begin maps vs → s < length maps →
    ((t : ℕ) → t < s → length (images_of us t) ≡ length (images_of maps t)) → ((t : ℕ) → t < s → length (images_of vs t) ≡ length (images_of maps t)) →
    length (images_of maps s) < length (images_of us s) → length (images_of maps s) < length (images_of vs s) →
    image us s (length (images_of maps s)) < image vs s (length (images_of maps s)) → ComesFirst (concat us) (concat vs)
comes-before [] us vs s h k in_ full full' l l' lt = absurd (omega (arith, in_))
comes-before (m ∷ maps) [] vs s h k in_ full full' l l' lt = absurd h
comes-before (m ∷ maps) (a ∷ us) [] s h k in_ full full' l l' lt = absurd k
comes-before (m ∷ maps) (a ∷ us) (b ∷ vs) zero h k in_ full full' l l' lt = comes-at m a b (concat us) (concat vs) h.0 k.0 l l' lt
comes-before (m ∷ maps) (a ∷ us) (b ∷ vs) (suc s) h k in_ full full' l l' lt =
    let rest = comes-before maps us vs s h.1 k.1 (omega (arith, in_)) (λ t u. full (suc t) (omega (arith, u))) (λ t u. full' (suc t) (omega (arith, u))) l l' lt in
    let first : a ≡ m = whole m a h.0 (full 0 (omega arith)) in
    let second : b ≡ m = whole m b k.0 (full' 0 (omega arith)) in
    subst (λ zs. ComesFirst (zs ++ concat us) (b ++ concat vs)) (sym first) (subst (λ zs. ComesFirst (m ++ concat us) (zs ++ concat vs)) (sym second) (comes-prefix m (concat us) (concat vs) rest))

-- maps that are begun by full ones are these
pub begun-full : (maps other : List (List ℕ)) → Begin maps other → ((t : ℕ) → t < length maps → length (images_of other t) ≡ length (images_of maps t)) → other ≡ maps
begun-full [] [] h full = refl
begun-full [] (b ∷ other) h full = absurd h
begun-full (m ∷ maps) [] h full = absurd h
begun-full (m ∷ maps) (b ∷ other) h full =
    ap (λ zs. zs ∷ other) (whole m b h.0 (full 0 (omega arith))) ∙ ap (λ zs. m ∷ zs) (begun-full maps other h.1 (λ t lt. full (suc t) (omega (arith, lt))))
