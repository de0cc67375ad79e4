-- How far a search for an embedding has come.
use Rattle.std.specs.Prelude.{◌≡◌, ℕ, ◌<◌, ◌≤◌, List, [], length, take, slice_index}
use Rattle.std.specs.List.{AllZip}
use Rattle.std.specs.List.{concat}
use Rattle.fo_core.specs.declared.signature.Sig.{Sig}
use Rattle.fo_core.specs.declared.world.World.{World}
use Rattle.fo_core.specs.Embedding.{IsEmbedding, image}
use Rattle.fo_core.specs.SortGraph.{ComesFirst}
use Rattle.fo_embed.specs.Placing.{IsPart, AllAgree, images_of}

-- no sort of the one world has more elements than that of the other
abbrev pub AreNoLarger : List ℕ → List ℕ → Type 0
AreNoLarger from to = (s : ℕ) → s < length from → slice_index from s ≤ slice_index to s

-- all elements of the sorts before s have images, and none of those behind it
pub record IsFilledTo (sizes : List ℕ) (maps : List (List ℕ)) (s : ℕ) : Type 0 where
  pub full : (t : ℕ) → t < s → length (images_of maps t) ≡ slice_index sizes t
  pub empty : (t : ℕ) → s < t → images_of maps t ≡ []

-- the first elements have images, up to some of the sort s, on which the tables agree
pub record IsBegun (sig : Sig) (v : World) (c : ℕ) (w : World) (d : ℕ) (maps : List (List ℕ)) (s : ℕ) : Type 0 where
  pub part : IsPart v.sizes w.sizes maps
  pub agree : AllAgree sig v c w d maps
  pub filled : IsFilledTo v.sizes maps s
  pub sort : s ≤ length maps

-- the images of the one begin those of the other
abbrev pub Begin : List (List ℕ) → List (List ℕ) → Type 0
Begin maps others = AllZip (λ xs ys. xs ≡ take (length xs) ys) maps others

-- no embedding begins so
abbrev pub HasNoneBehind : Sig → World → ℕ → World → ℕ → List (List ℕ) → Type 0
HasNoneBehind sig v c w d maps = (other : List (List ℕ)) → Begin maps other → ¬ IsEmbedding sig v c w d other

-- none begins so that has this image for the next element of the sort
abbrev pub HasNoneWith : Sig → World → ℕ → World → ℕ → List (List ℕ) → ℕ → ℕ → Type 0
HasNoneWith sig v c w d maps s y =
    (other : List (List ℕ)) → Begin maps other → image other s (length (images_of maps s)) ≡ y → ¬ IsEmbedding sig v c w d other

-- of the embeddings that begin so, the first
pub record IsFirstBehind (sig : Sig) (v : World) (c : ℕ) (w : World) (d : ℕ) (begun maps : List (List ℕ)) : Type 0 where
  pub embeds : IsEmbedding sig v c w d maps
  pub begins : Begin begun maps
  pub first :
      (other : List (List ℕ)) → Begin begun other → IsEmbedding sig v c w d other →
      ComesFirst (concat maps) (concat other)
