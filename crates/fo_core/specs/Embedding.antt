-- Embeddings of one state in another: injective maps of the elements that keep and reflect every
-- relation and commute with every function.
use Rattle.std.specs.Prelude.{◌≡◌, ℕ, ◌<◌, true, false, List, [], ◌∷◌, length, slice_index, slice_index_or}
use Rattle.fo_core.specs.declared.signature.Sig.{Sig}
use Rattle.fo_core.specs.declared.world.World.{World}
use Rattle.fo_core.specs.Runs.{AreElements}
use Rattle.fo_core.specs.Tables.{symbol_at, entry}

-- Maps are given sort by sort, each by the list of the images of elements 0, 1 and so on.
-- the image of element x of sort s
abbrev pub image : List (List ℕ) → ℕ → ℕ → ℕ
image maps s x = slice_index (slice_index_or maps s []) x

-- the images of elements of these sorts
abbrev pub images : List (List ℕ) → List ℕ → List ℕ → List ℕ
images maps [] xs = []
images maps (s ∷ ss) [] = []
images maps (s ∷ ss) (x ∷ xs) = image maps s x ∷ images maps ss xs

-- for each sort an injective map between domains of these sizes
pub record AreInjections (from to : List ℕ) (maps : List (List ℕ)) : Type 0 where
  pub one_each : length maps ≡ length from
  pub total : (s : ℕ) → s < length from → length (slice_index_or maps s []) ≡ slice_index from s
  pub in_range : (s x : ℕ) → s < length from → x < slice_index from s → image maps s x < slice_index to s
  pub injective :
      (s x y : ℕ) → s < length from → x < slice_index from s → y < slice_index from s →
      image maps s x ≡ image maps s y → x ≡ y

-- The maps embed copy c of one world in copy d of the other: a relation holds of elements exactly
-- where it holds of their images, and the image of a function's value is the value at the images. So
-- each constant is mapped to the constant of the same symbol.
pub record IsEmbedding (sig : Sig) (v : World) (c : ℕ) (w : World) (d : ℕ) (maps : List (List ℕ)) : Type 0 where
  pub injections : AreInjections v.sizes w.sizes maps
  pub relations :
      (k : ℕ) (xs : List ℕ) → k < length sig.symbols → (symbol_at sig k).relation ≡ true →
      AreElements v.sizes xs (symbol_at sig k).args →
      entry sig w d k (images maps (symbol_at sig k).args xs) ≡ entry sig v c k xs
  pub functions :
      (k : ℕ) (xs : List ℕ) → k < length sig.symbols → (symbol_at sig k).relation ≡ false →
      AreElements v.sizes xs (symbol_at sig k).args →
      entry sig w d k (images maps (symbol_at sig k).args xs)
      ≡ image maps (symbol_at sig k).result (entry sig v c k xs)
