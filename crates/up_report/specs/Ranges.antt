-- The ranges of reports: which of them have a text.
use Rattle.std.specs.Prelude.{◌≡◌, ℕ, ◌+◌, ◌^◌, ◌<◌, ◌≤◌, List, [], ◌∷◌, length, ⊤}
use Rattle.std.specs.List.{All}
use Rattle.fo_core.specs.declared.signature.Sig.{Sig}
use Rattle.fo_core.specs.declared.world.World.{World}
use Rattle.fo_text.specs.Parts.{IsBetween}
use Rattle.fo_text.specs.Texts.{HasText}
use Rattle.up_claims.specs.declared.report.Numbers.{Numbers}
use Rattle.up_claims.specs.declared.report.Report.{Report}
use Rattle.up_claims.specs.declared.verdict.Kept.{Kept}
use Rattle.up_claims.specs.declared.verdict.Leave.{Leave}
use Rattle.up_claims.specs.declared.verdict.Link.{Link}
use Rattle.up_claims.specs.declared.verdict.Verdict.{Verdict}
use Rattle.up_claims.specs.declared.verdict.Verdict.TheVariants as verdict
use Rattle.up_report.specs.ClauseTexts.{HasClause}

-- a world of this many copies that has a text
abbrev pub HasCopies : Sig → ℕ → World → Type 0
HasCopies sig copies w = HasText sig w × (length w.copies ≡ copies)

-- ---- links

-- the images of this many elements, each an element of a sort of size `to`
pub record AreImages (from to : ℕ) (images : List ℕ) : Type 0 where
  pub total : length images ≡ from
  pub in_range : All (λ y. y < to) images

-- for each sort of these sizes the images of its elements, in the same sort of the other sizes
abbrev pub AreMaps : List ℕ → List ℕ → List (List ℕ) → Type 0
AreMaps [] [] [] = ⊤
AreMaps (n ∷ from) (m ∷ to) (images ∷ maps) = AreImages n m images × AreMaps from to maps
AreMaps _ _ _ = ⊥

-- a link with an origin of this many copies
pub record HasLink (sig : Sig) (copies : ℕ) (link : Link) : Type 0 where
  pub origin : HasCopies sig copies link.origin
  pub state : HasCopies sig 1 link.state
  pub map : AreMaps link.state.sizes link.origin.sizes link.map.images

-- links: the origin of the first is one state, and that of each other one is a step
abbrev pub HasLinks : Sig → List Link → Type 0
HasLinks sig [] = ⊥
HasLinks sig (link ∷ links) = HasLink sig 1 link × All (HasLink sig 2) links

-- ---- leaves

-- a step that leaves the frame of this number, with the number of one of this many clauses
pub record HasLeave (sig : Sig) (clauses level : ℕ) (leave : Leave) : Type 0 where
  pub level_is : leave.level ≡ level
  pub clause : leave.clause < clauses
  pub small : leave.clause < 2 ^ 32
  pub step : HasCopies sig 2 leave.step

-- leaves of the frames from this one on, in order
abbrev pub HasLeaves : Sig → ℕ → ℕ → List Leave → Type 0
HasLeaves sig clauses level [] = ⊤
HasLeaves sig clauses level (leave ∷ leaves) =
    HasLeave sig clauses level leave × HasLeaves sig clauses (level + 1) leaves

-- a leave for each frame from 1 to the last, and clauses of levels up to the one after it
pub record HasFrames (sig : Sig) (last : ℕ) (clauses : List Kept) (leaves : List Leave) :
    Type 0 where
  pub last_is : IsBetween 1 64 last
  pub clauses_are : All (HasClause sig 1 (last + 1)) clauses
  pub one_each : length leaves ≡ last
  pub leaves_are : HasLeaves sig (length clauses) 1 leaves

-- ---- reports

-- what a verdict with a text holds: numbers of frames and steps up to 64, others of 32 or 64 bits,
-- well-sorted clauses of the levels that it may have, and worlds with texts
abbrev pub HasVerdict : Sig → Verdict → Type 0
HasVerdict sig (verdict.Safe frame clauses) =
    IsBetween 1 64 frame × All (HasClause sig (frame + 1) 65) clauses
HasVerdict sig (verdict.Unsafe run) = HasText sig run × (length run.copies ≤ 65)
HasVerdict sig (verdict.NoUniversal links) = HasLinks sig links × (length links ≤ 65)
HasVerdict sig (verdict.Bounded last clauses leaves) = HasFrames sig last clauses leaves
HasVerdict sig (verdict.Spent steps) = steps < 2 ^ 32
HasVerdict sig (verdict.Over kind weight) = weight < 2 ^ 64
HasVerdict sig (verdict.NoRun steps) = steps ≤ 64

-- numbers of 64 bits
pub record AreNumbers (n : Numbers) : Type 0 where
  pub productive : n.productive < 2 ^ 64
  pub frontier : n.frontier < 2 ^ 64
  pub clauses : n.clauses < 2 ^ 64

-- a report that has a text
pub record HasReport (sig : Sig) (r : Report) : Type 0 where
  pub verdict_is : HasVerdict sig r.verdict
  pub numbers_are : AreNumbers r.numbers
