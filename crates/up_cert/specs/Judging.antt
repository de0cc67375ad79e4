-- What the judging of a verdict answers.
use Rattle.std.specs.Prelude.{◌≡◌, ℕ, ◌<◌, List, [], ◌∷◌, ◌++◌, ⊤}
use Rattle.std.specs.List.{All}
use Rattle.fo_core.specs.declared.query.Query.{Query}
use Rattle.fo_core.specs.declared.signature.Sig.{Sig}
use Rattle.fo_core.specs.declared.system.System.{System}
use Rattle.fo_core.specs.Finds.{HasWorld, HasNoWorld, IsLight}
use Rattle.fo_core.specs.QueryWeight.{query_weight}
use Rattle.up_claims.specs.declared.verdict.Verdict.{Verdict}
use Rattle.up_claims.specs.declared.verdict.Verdict.TheVariants as verdict
use Rattle.up_cert.specs.declared.judged.Judged.{Judged}
use Rattle.up_cert.specs.declared.judged.Judged.TheVariants.{Holds, Wrong, Over, Nothing}
use Rattle.up_cert.specs.declared.spot.Spot.{Spot}
use Rattle.up_cert.specs.VerdictSpots.{spots_of, Passes, queries_at}

module _ (sig : Sig) (limit : ℕ) where
  -- the queries are asked in their order, and it comes to this one: those before it have no world,
  -- and none of them is above the limit
  pub record ComesTo (queries : List Query) (q : Query) : Type 0 where
    pub before : List Query
    pub after : List Query
    pub parts : queries ≡ before ++ q ∷ after
    pub none : All (HasNoWorld sig) before
    pub light : All (IsLight sig limit) before

  -- the first of the queries that has a world isn't above the limit, nor are those before it
  pub record FindsWorld (queries : List Query) : Type 0 where
    pub query : Query
    pub reached : ComesTo queries query
    pub light : IsLight sig limit query
    pub found : HasWorld sig query

  -- the first of the queries that is above the limit, where those before it have no world, has this
  -- weight
  pub record FindsHeavy (queries : List Query) (weight : ℕ) : Type 0 where
    pub query : Query
    pub reached : ComesTo queries query
    pub weighs : weight ≡ query_weight sig query
    pub above : limit < weight

  -- where something is decided by queries, a world of one of them was found
  abbrev pub IsRefuted : List Query → Type 0
  IsRefuted [] = ⊤
  IsRefuted (q ∷ queries) = FindsWorld (q ∷ queries)

  -- it is so, and none of the queries that decide it is above the limit
  pub record IsCleared (A : Type 0) (queries : List Query) : Type 0 where
    pub so : A
    pub light : All (IsLight sig limit) queries

  -- it isn't so, as was found by queries that aren't above the limit
  pub record IsDenied (A : Type 0) (queries : List Query) : Type 0 where
    pub not_so : ¬ A
    pub refuted : IsRefuted queries

module _ (sys : System) (limit : ℕ) (told : Verdict) where
  -- the spot passes, and none of its queries is above the limit
  abbrev pub Clears : Spot → Type 0
  Clears s = IsCleared sys.sig limit (Passes sys told s) (queries_at sys told s)

  -- of these spots, tried in their order, it comes to this one: those before it pass
  pub record IsSpotReached (spots : List Spot) (s : Spot) : Type 0 where
    pub before : List Spot
    pub after : List Spot
    pub parts : spots ≡ before ++ s ∷ after
    pub cleared : All Clears before

  -- the first spot that doesn't pass
  pub record FailsFirst (spots : List Spot) (s : Spot) : Type 0 where
    pub reached : IsSpotReached spots s
    pub denied : IsDenied sys.sig limit (Passes sys told s) (queries_at sys told s)

  -- the spots before one pass, and of its queries the first above the limit has this weight
  pub record IsOverFirst (spots : List Spot) (weight : ℕ) : Type 0 where
    pub spot : Spot
    pub reached : IsSpotReached spots spot
    pub heavy : FindsHeavy sys.sig limit (queries_at sys told spot) weight

  -- all of these spots pass; or the first doesn't that is told; or a query is above the limit
  abbrev pub IsFound : List Spot → Judged → Type 0
  IsFound spots Holds = All Clears spots
  IsFound spots (Wrong s) = FailsFirst spots s
  IsFound spots (Over weight) = IsOverFirst spots weight
  IsFound spots Nothing = ⊥

-- What judging a verdict answers: what is found of its spots. That steps were spent, or that a
-- query was above the limit, says nothing of the system, and of these two nothing is told.
abbrev pub IsJudged : System → ℕ → Verdict → Judged → Type 0
IsJudged sys limit (verdict.Spent steps) judged = judged ≡ Nothing
IsJudged sys limit (verdict.Over kind weight) judged = judged ≡ Nothing
IsJudged sys limit told judged = IsFound sys limit told (spots_of told) judged
