-- Chains: runs in which each state may be exchanged for one that embeds in it before the next step. As
-- universal sentences pass to embedded states, they are true all along a chain where they are true at
-- the start and kept by steps.
use Rattle.std.specs.Prelude.{◌≡◌, ℕ, ◌-◌, List, [], ◌∷◌, length}
use Rattle.fo_core.specs.declared.system.System.{System}
use Rattle.fo_core.specs.declared.world.World.{World}
use Rattle.fo_core.specs.Embedding.{IsEmbedding}
use Rattle.fo_core.specs.RunLaws.{IsLoneState, IsLoneInitial}
use Rattle.fo_core.specs.Runs.{IsStep, Violates, alone}
use Rattle.fo_core.specs.Tables.{Fits}
use Rattle.up_claims.specs.declared.verdict.Link.{Link}

-- the world fits the signature and has two copies, which are a step
pub record IsLoneStep (sys : System) (w : World) : Type 0 where
  pub fits : Fits sys.sig w
  pub two_copies : length w.copies ≡ 2
  pub step : IsStep sys w 0

-- the link's state is one, and embeds by the link's map in this copy of its origin
pub record IsEmbedded (sys : System) (link : Link) (copy : ℕ) : Type 0 where
  pub state : IsLoneState sys link.state
  pub embeds : IsEmbedding sys.sig link.state 0 link.origin copy link.map.images

-- a first link: its origin is one initial state
pub record IsFirstLink (sys : System) (link : Link) : Type 0 where
  pub origin : IsLoneInitial sys link.origin
  pub embedded : IsEmbedded sys link 0

-- a link behind one with this state: its origin is a step from it
pub record IsNextLink (sys : System) (before : World) (link : Link) : Type 0 where
  pub origin : IsLoneStep sys link.origin
  pub same : alone link.origin 0 ≡ before
  pub embedded : IsEmbedded sys link 1

-- the links go on from this state, and the last state violates a safety
abbrev pub GoesOn : System → World → List Link → Type 0
GoesOn sys state [] = Violates sys state 0
GoesOn sys state (link ∷ links) = IsNextLink sys state link × GoesOn sys link.state links

-- a chain: a first link, and links that go on from its state
abbrev pub IsChain : System → List Link → Type 0
IsChain sys [] = ⊥
IsChain sys (link ∷ links) = IsFirstLink sys link × GoesOn sys link.state links

-- how many steps a chain has: one for each link behind the first
abbrev pub steps_of_chain : List Link → ℕ
steps_of_chain links = length links - 1
