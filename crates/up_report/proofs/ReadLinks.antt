-- Maps and links are read exactly.
use Rattle.std.proofs.Common.{◌≡◌, ℕ, zero, suc, ◌-◌, ◌^◌, ◌<◌, ◌≤◌, List, [], ◌∷◌, ◌++◌, length, flat_map, codes, decimal, Ok, refl, sym, ap, subst, ◌∙◌, append_assoc, arith}
use Rattle.std.specs.Prelude.{⊤}
use Rattle.std.specs.List.{AllByRecursion}
use Rattle.std.proofs.lemmas.List.{append-nil}
use Rattle.std.proofs.lemmas.List.Elements.{All-from_recursion, recursion_from_All}
use Rattle.fo_core.specs.declared.names.Names.{Names}
use Rattle.fo_core.specs.declared.signature.Sig.{Sig}
use Rattle.fo_core.specs.declared.world.World.{World}
use Rattle.fo_core.specs.Sorted.{IsSig}
use Rattle.fo_text.specs.Texts.{NamesEach, HasText, after_space, text_of}
use Rattle.fo_text.specs.Reading.{Read, ◌>>=◌, literal_at, values_at}
use Rattle.fo_text.proofs.Exact.{Exact, exact_done, exact_then, exact_after, exact_words, exact_pair}
use Rattle.fo_text.proofs.Whole.{exact_copied}
use Rattle.fo_text.proofs.Worlds.{AreValues, values_text, exact_values}
use Rattle.up_claims.specs.declared.verdict.Link.{Link}
use Rattle.up_report.specs.Ranges.{HasCopies, AreImages, AreMaps, HasLink, HasLinks}
use Rattle.up_report.specs.Reading.{map_at, maps_at, state_at, link_at, links_at}
use Rattle.up_report.specs.Texts.{map_line, map_lines, link_text, links_text}
use Rattle.fo_text.specs.Reading.{world_of_copies_at}

-- ---- lists

-- only the empty list, and nothing is read
pub nothing : {A : Type 0} (Fits : List A → Type 0) (text : List A → List ℕ) (read : List ℕ → Read (List A)) → ((bytes : List ℕ) → read bytes ≡ Ok ([], bytes)) → Fits [] → text [] ≡ [] → ((xs : List A) → Fits xs → xs ≡ []) → Exact Fits text read
nothing {A} Fits text read is fit empty only =
    let none : List A = [] in
    exact_words (λ xs. xs ≡ none) Fits (λ xs. []) text (λ bytes. Ok (none, bytes)) read is
    (λ xs e. (subst Fits (sym e) fit, ap text e ∙ empty)) only (exact_done none)

pub by_recursion : {X : Type 0} (P Q : X → Type 0) → ((x : X) → P x → Q x) → (xs : List X) → AllByRecursion P xs → AllByRecursion Q xs
by_recursion P Q h [] a = tt
by_recursion P Q h (x ∷ xs) a = (h x a.0, by_recursion P Q h xs a.1)

-- ---- the line of a map

spaced : (v : ℕ) (vs : List ℕ) → flat_map after_space (v ∷ vs) ++ 10 ∷ [] ≡ 32 ∷ values_text (v ∷ vs)
spaced v [] = ap (λ (l : List ℕ). 32 ∷ l ++ 10 ∷ []) (append-nil (decimal v))
spaced v (w ∷ vs) =
    ap (λ (l : List ℕ). 32 ∷ l) (append_assoc (decimal v) (flat_map after_space (w ∷ vs)) (10 ∷ []) ∙ ap (λ (l : List ℕ). decimal v ++ l) (spaced w vs) ∙ sym (append_assoc (decimal v) (32 ∷ []) (values_text (w ∷ vs))))

line_words : (n : ℕ) (name vs : List ℕ) → length vs ≡ suc n → map_line name vs ≡ codes "map " ++ (name ++ (codes " " ++ values_text vs))
line_words n name [] e = absurd (omega (arith, e))
line_words n name (v ∷ vs) e = ap (λ (l : List ℕ). codes "map " ++ (name ++ l)) (spaced v vs)

to_images : (n m : ℕ) (vs : List ℕ) → 1 ≤ m → AreValues n (m - 1) vs → AreImages n m vs
to_images n m vs some h = record { total = h.0; in_range = All-from_recursion (λ y. y < m) vs (by_recursion (λ y. y ≤ m - 1) (λ y. y < m) (λ y k. omega arith) vs h.1) }

from_images : (n m : ℕ) (vs : List ℕ) → AreImages n m vs → AreValues n (m - 1) vs
from_images n m vs h = (h.total, by_recursion (λ y. y < m) (λ y. y ≤ m - 1) (λ y k. omega arith) vs (recursion_from_All (λ y. y < m) vs h.in_range))

exact_line : (name : List ℕ) (n m : ℕ) → 1 ≤ m → m < 2 ^ 32 → Exact (AreImages (suc n) m) (map_line name) (map_at name (suc n) m)
unfolding map_at
exact_line name n m some small =
    let Values : List ℕ → Type 0 = AreValues (suc n) (m - 1) in
    let read = values_at (suc n) (m - 1) in
    let spaces = exact_after Values values_text read (codes " ") (exact_values n (m - 1) (omega arith)) in
    let named = exact_after Values (λ vs. codes " " ++ values_text vs) (λ bytes. literal_at (codes " ") bytes >>= read) name spaces in
    let whole = exact_after Values (λ vs. name ++ (codes " " ++ values_text vs)) (λ bytes. literal_at name bytes >>= λ r. literal_at (codes " ") r >>= read) (codes "map ") named in
    exact_words Values (AreImages (suc n) m) (λ vs. codes "map " ++ (name ++ (codes " " ++ values_text vs))) (map_line name) (map_at name (suc n) m) (map_at name (suc n) m) (λ bytes. refl)
    (λ vs h. (to_images (suc n) m vs some h, line_words n name vs h.0)) (λ vs h. from_images (suc n) m vs h) whole

exact_line_by : (name : List ℕ) (n m : ℕ) → 1 ≤ n → 1 ≤ m → m < 2 ^ 32 → Exact (AreImages n m) (map_line name) (map_at name n m)
exact_line_by name zero m some more small = absurd (omega arith)
exact_line_by name (suc n) m some more small = exact_line name n m more small

-- ---- the lines of the maps

pub record AreSizes (count : ℕ) (sizes : List ℕ) : Type 0 where
  pub one_each : length sizes ≡ count
  pub some : AllByRecursion (λ n. 1 ≤ n) sizes
  pub small : AllByRecursion (λ n. n < 2 ^ 32) sizes

size_rest : (count n : ℕ) (sizes : List ℕ) → AreSizes (suc count) (n ∷ sizes) → AreSizes count sizes
size_rest count n sizes h = record { one_each = omega (arith, h.one_each); some = h.some.1; small = h.small.1 }

pub exact_maps : (names : List (List ℕ)) (from to : List ℕ) → AreSizes (length names) from → AreSizes (length names) to → Exact (AreMaps from to) (map_lines names) (maps_at names from to)
unfolding maps_at
exact_maps [] [] [] h k = nothing (AreMaps [] []) (map_lines []) (maps_at [] [] []) (λ bytes. refl) tt refl only
  where
    only : (maps : List (List ℕ)) → AreMaps [] [] maps → maps ≡ []
    only [] h = refl
    only (images ∷ maps) h = absurd h
exact_maps [] [] (m ∷ to) h k = absurd (omega (arith, k.one_each))
exact_maps [] (n ∷ from) to h k = absurd (omega (arith, h.one_each))
exact_maps (name ∷ names) [] to h k = absurd (omega (arith, h.one_each))
exact_maps (name ∷ names) (n ∷ from) [] h k = absurd (omega (arith, k.one_each))
exact_maps (name ∷ names) (n ∷ from) (m ∷ to) h k =
    exact_pair (AreImages n m) (map_line name) (map_at name n m) (λ images. AreMaps from to) (λ images. map_lines names) (λ images. maps_at names from to)
    (AreMaps (n ∷ from) (m ∷ to)) (map_lines (name ∷ names)) (maps_at (name ∷ names) (n ∷ from) (m ∷ to)) (λ images maps. images ∷ maps)
    (λ bytes. refl) (λ images maps f g. ((f, g), refl)) back (exact_line_by name n m h.some.0 k.some.0 k.small.0)
    (λ images f. exact_maps names from to (size_rest (length names) n from h) (size_rest (length names) m to k))
  where
    back : (maps : List (List ℕ)) → AreMaps (n ∷ from) (m ∷ to) maps → (images : List ℕ) × (rest : List (List ℕ)) × AreImages n m images × AreMaps from to rest × (images ∷ rest ≡ maps)
    back [] f = absurd f
    back (images ∷ maps) f = (images, maps, f.0, f.1, refl)

-- ---- what links are read

-- this many links, the first with an origin of this many copies, and each other with one of two
abbrev pub LinksFit : Sig → ℕ → ℕ → List Link → Type 0
LinksFit sig zero copies [] = ⊤
LinksFit sig zero copies (link ∷ links) = ⊥
LinksFit sig (suc n) copies [] = ⊥
LinksFit sig (suc n) copies (link ∷ links) = HasLink sig copies link × LinksFit sig n 2 links

-- ---- a link

module _ (sig : Sig) (names : Names) (is_sig : IsSig sig) (named : NamesEach sig names) where
  sizes_of : (w : World) → HasText sig w → AreSizes (length names.sorts) w.sizes
  sizes_of w h = record {
    one_each = h.fits.sorts ∙ sym named.sorts;
    some = recursion_from_All (λ n. 1 ≤ n) w.sizes h.fits.nonempty;
    small = recursion_from_All (λ n. n < 2 ^ 32) w.sizes h.sizes;
  }

  -- a world of this many copies
  pub exact_world_of_copies : (copies : ℕ) → 1 ≤ copies → copies < 2 ^ 32 → Exact (HasCopies sig copies) (text_of sig names) (world_of_copies_at sig names copies)
  exact_world_of_copies = exact_copied sig names is_sig named

  pub text_of_read : (copies : ℕ) (bytes : List ℕ) (w : World) (rest : List ℕ) → 1 ≤ copies → copies < 2 ^ 32 → world_of_copies_at sig names copies bytes ≡ Ok (w, rest) → HasText sig w
  text_of_read copies bytes w rest some few e = ((exact_world_of_copies copies some few).takes bytes w rest e).1.0

  pub sizes_of_read : (copies : ℕ) (bytes : List ℕ) (w : World) (rest : List ℕ) → 1 ≤ copies → copies < 2 ^ 32 → world_of_copies_at sig names copies bytes ≡ Ok (w, rest) → length w.sizes ≡ length names.sorts
  sizes_of_read copies bytes w rest some few e = (text_of_read copies bytes w rest some few e).fits.sorts ∙ sym named.sorts

  -- what follows a link's origin
  record FromOrigin (origin : World) (link : Link) : Type 0 where
    pub origin_is : link.origin ≡ origin
    pub state : HasCopies sig 1 link.state
    pub map : AreMaps link.state.sizes origin.sizes link.map.images

  abbrev state_text : Link → List ℕ
  state_text link = text_of sig names link.state ++ map_lines names.sorts link.map.images

  exact_state : (origin : World) → HasText sig origin → Exact (FromOrigin origin) state_text (state_at sig names origin)
  unfolding state_at
  exact_state origin h =
      exact_pair (HasCopies sig 1) (text_of sig names) (world_of_copies_at sig names 1) (λ state. AreMaps state.sizes origin.sizes) (λ state. map_lines names.sorts) (λ state. maps_at names.sorts state.sizes origin.sizes)
      (FromOrigin origin) state_text (state_at sig names origin) (λ state maps. record { origin = origin; state = state; map = record { images = maps } })
      (λ bytes. refl) (λ state maps f g. (record { origin_is = refl; state = f; map = g }, refl))
      (λ link s. (link.state, link.map.images, s.state, s.map, ap (λ (w : World). record { origin = w; state = link.state; map = link.map }) (sym s.origin_is)))
      (exact_world_of_copies 1 (omega arith) (omega arith)) (λ state f. exact_maps names.sorts state.sizes origin.sizes (sizes_of state f.0) (sizes_of origin h))

  link_joins : (copies : ℕ) (origin : World) (link : Link) → HasCopies sig copies origin → FromOrigin origin link → HasLink sig copies link × (link_text sig names link ≡ text_of sig names origin ++ state_text link)
  link_joins copies origin link h s = (
    record {
      origin = subst (HasCopies sig copies) (sym s.origin_is) h;
      state = s.state;
      map = subst (λ (w : World). AreMaps link.state.sizes w.sizes link.map.images) (sym s.origin_is) s.map;
    },
    ap (λ (w : World). text_of sig names w ++ state_text link) s.origin_is,
  )

  pub exact_link : (copies : ℕ) → 1 ≤ copies → copies < 2 ^ 32 → Exact (HasLink sig copies) (link_text sig names) (link_at sig names copies)
  unfolding link_at
  exact_link copies some few =
      exact_then (HasCopies sig copies) (text_of sig names) (world_of_copies_at sig names copies) FromOrigin (λ origin link. state_text link) (state_at sig names)
      (HasLink sig copies) (link_text sig names) (link_at sig names copies) (λ bytes. refl)
      (link_joins copies) (λ link h. (link.origin, h.origin, record { origin_is = refl; state = h.state; map = h.map }))
      (exact_world_of_copies copies some few) (λ origin h. exact_state origin h.0)

  -- ---- links

  pub exact_links : (n copies : ℕ) → 1 ≤ copies → copies < 2 ^ 32 → Exact (LinksFit sig n copies) (links_text sig names) (links_at sig names n copies)
  unfolding links_at
  exact_links zero copies some few = nothing (LinksFit sig zero copies) (links_text sig names) (links_at sig names zero copies) (λ bytes. refl) tt refl only
    where
      only : (links : List Link) → LinksFit sig zero copies links → links ≡ []
      only [] h = refl
      only (link ∷ links) h = absurd h
  exact_links (suc n) copies some few =
      exact_pair (HasLink sig copies) (link_text sig names) (link_at sig names copies) (λ link. LinksFit sig n 2) (λ link. links_text sig names) (λ link. links_at sig names n 2)
      (LinksFit sig (suc n) copies) (links_text sig names) (links_at sig names (suc n) copies) (λ link links. link ∷ links)
      (λ bytes. refl) (λ link links f g. ((f, g), refl)) back (exact_link copies some few) (λ link f. exact_links n 2 (omega arith) (omega arith))
    where
      back : (links : List Link) → LinksFit sig (suc n) copies links → (link : Link) × (rest : List Link) × HasLink sig copies link × LinksFit sig n 2 rest × (link ∷ rest ≡ links)
      back [] h = absurd h
      back (link ∷ links) h = (link, links, h.0, h.1, refl)

  twos : (links : List Link) → AllByRecursion (HasLink sig 2) links → LinksFit sig (length links) 2 links
  twos [] h = tt
  twos (link ∷ links) h = (h.0, twos links h.1)

  are_twos : (n : ℕ) (links : List Link) → LinksFit sig n 2 links → (length links ≡ n) × AllByRecursion (HasLink sig 2) links
  are_twos zero [] h = (refl, tt)
  are_twos zero (link ∷ links) h = absurd h
  are_twos (suc n) [] h = absurd h
  are_twos (suc n) (link ∷ links) h = let t = are_twos n links h.1 in (omega (arith, t.0), (h.0, t.1))

  pub to_links : (n : ℕ) (links : List Link) → 1 ≤ n → LinksFit sig n 1 links → HasLinks sig links × (length links ≡ n)
  to_links zero links some h = absurd (omega (arith, some))
  to_links (suc n) [] some h = absurd h
  to_links (suc n) (link ∷ links) some h = let t = are_twos n links h.1 in ((h.0, All-from_recursion (HasLink sig 2) links t.1), omega (arith, t.0))

  pub from_links : (links : List Link) → HasLinks sig links → (1 ≤ length links) × LinksFit sig (length links) 1 links
  from_links [] h = absurd h
  from_links (link ∷ links) h = (omega arith, (h.0, twos links (recursion_from_All (HasLink sig 2) links h.1)))
