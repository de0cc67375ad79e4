-- Maps that give images to some of the elements, the first ones of each sort.
use Rattle.std.specs.Prelude.{◌≡◌, ℕ, ◌<◌, ◌≤◌, true, false, List, [], ◌∷◌, ◌++◌, length, map, slice_index, slice_index_or, slice_set}
use Rattle.std.specs.List.{All}
use Rattle.fo_core.specs.declared.signature.Sig.{Sig}
use Rattle.fo_core.specs.declared.signature.Symbol.{Symbol}
use Rattle.fo_core.specs.declared.world.World.{World}
use Rattle.fo_core.specs.Runs.{AreElements}
use Rattle.fo_core.specs.Tables.{symbol_at, entry}
use Rattle.fo_core.specs.Embedding.{image, images}

-- no number stands twice
abbrev pub AreDistinct : List ℕ → Type 0
AreDistinct xs = (i j : ℕ) → i < length xs → j < length xs → slice_index xs i ≡ slice_index xs j → i ≡ j

-- the images of an injective map between sorts of these sizes
pub record IsInjection (from to : ℕ) (xs : List ℕ) : Type 0 where
  pub total : length xs ≡ from
  pub in_range : All (λ y. y < to) xs
  pub injective : AreDistinct xs

-- the images of the elements of a sort
abbrev pub images_of : List (List ℕ) → ℕ → List ℕ
images_of maps s = slice_index_or maps s []

-- how many elements of each sort have an image
abbrev pub placed : List (List ℕ) → List ℕ
placed maps = map length maps

-- for each sort an injective map of its first elements, between domains of these sizes
pub record IsPart (from to : List ℕ) (maps : List (List ℕ)) : Type 0 where
  pub one_each : length maps ≡ length from
  pub some : (s : ℕ) → length (images_of maps s) ≤ slice_index from s
  pub in_range : (s x : ℕ) → x < length (images_of maps s) → image maps s x < slice_index to s
  pub injective : (s : ℕ) → AreDistinct (images_of maps s)

-- a value of the symbol becomes the other one: a truth value stays, an element goes to its image,
-- where it has one
pub record IsKept (s : Symbol) (maps : List (List ℕ)) (here there : ℕ) : Type 0 where
  pub relation : s.relation ≡ true → there ≡ here
  pub function : s.relation ≡ false → here < length (images_of maps s.result) → there ≡ image maps s.result here

-- the symbol says of the images what it says of elements that have images
abbrev pub Agrees : Sig → World → ℕ → World → ℕ → List (List ℕ) → ℕ → Type 0
Agrees sig v c w d maps k =
    (xs : List ℕ) → AreElements (placed maps) xs (symbol_at sig k).args →
    IsKept (symbol_at sig k) maps (entry sig v c k xs) (entry sig w d k (images maps (symbol_at sig k).args xs))

abbrev pub AllAgree : Sig → World → ℕ → World → ℕ → List (List ℕ) → Type 0
AllAgree sig v c w d maps = (k : ℕ) → k < length sig.symbols → Agrees sig v c w d maps k

-- the maps in which the next element of the sort has this image
abbrev pub with_image : List (List ℕ) → ℕ → ℕ → List (List ℕ)
with_image maps s y = slice_set maps s (images_of maps s ++ y ∷ [])
