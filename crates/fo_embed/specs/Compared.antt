-- Two states that may be compared, and the first embedding of the one in the other.
use Rattle.std.specs.Prelude.{ℕ, ◌<◌, List, length}
use Rattle.std.specs.List.{concat}
use Rattle.fo_core.specs.declared.signature.Sig.{Sig}
use Rattle.fo_core.specs.declared.world.World.{World}
use Rattle.fo_core.specs.Tables.{Fits}
use Rattle.fo_core.specs.Sorted.{IsSig}
use Rattle.fo_core.specs.SortGraph.{ComesFirst}
use Rattle.fo_core.specs.Embedding.{IsEmbedding}

-- copy c of the one world and copy d of the other are there, and both worlds fit the signature
pub record CanCompare (sig : Sig) (v : World) (c : ℕ) (w : World) (d : ℕ) : Type 0 where
  pub signature : IsSig sig
  pub from : Fits sig v
  pub from_copy : c < length v.copies
  pub to : Fits sig w
  pub to_copy : d < length w.copies

-- an embedding whose images, sort by sort, come first in lexicographic order
pub record IsFirstEmbedding (sig : Sig) (v : World) (c : ℕ) (w : World) (d : ℕ) (maps : List (List ℕ)) : Type 0 where
  pub embeds : IsEmbedding sig v c w d maps
  pub first : (other : List (List ℕ)) → IsEmbedding sig v c w d other → ComesFirst (concat maps) (concat other)
