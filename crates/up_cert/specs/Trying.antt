-- How what a verdict asks for is tried: one thing, or one after the other.
use Rattle.std.specs.Prelude.{◌≡◌, ℕ, ◌<◌, List, Option, None, Some}
use Rattle.fo_core.specs.declared.query.Query.{Query}
use Rattle.fo_core.specs.declared.signature.Sig.{Sig}
use Rattle.fo_core.specs.declared.system.System.{System}
use Rattle.fo_core.specs.Finds.{HasWorld, IsLight}
use Rattle.fo_core.specs.QueryWeight.{query_weight}
use Rattle.up_claims.specs.declared.verdict.Verdict.{Verdict}
use Rattle.up_cert.specs.declared.answer.Answer.{Answer}
use Rattle.up_cert.specs.declared.answer.Answer.TheVariants as answer
use Rattle.up_cert.specs.declared.answer.Halt.{Halt}
use Rattle.up_cert.specs.declared.answer.Halt.TheVariants as halt
use Rattle.up_cert.specs.declared.judged.Judged.{Judged}
use Rattle.up_cert.specs.declared.judged.Judged.TheVariants as judged
use Rattle.up_cert.specs.declared.spot.Spot.{Spot}
use Rattle.up_cert.specs.declared.spot.What.{What}
use Rattle.up_cert.specs.Judging.{IsCleared, IsDenied, FindsHeavy, IsFound}
use Rattle.up_cert.specs.VerdictSpots.{spot}

module _ (sig : Sig) (limit : ℕ) where
  -- it is so, or isn't, or a query is above the limit
  abbrev pub IsTried : Type 0 → List Query → Answer → Type 0
  IsTried A queries answer.Passes = IsCleared sig limit A queries
  IsTried A queries answer.Fails = IsDenied sig limit A queries
  IsTried A queries (answer.Over weight) = FindsHeavy sig limit queries weight

  -- the same, where one query decides it
  abbrev pub IsAnswered : Type 0 → Query → Answer → Type 0
  IsAnswered A q answer.Passes = IsLight sig limit q × A
  IsAnswered A q answer.Fails = IsLight sig limit q × HasWorld sig q × (¬ A)
  IsAnswered A q (answer.Over weight) = (weight ≡ query_weight sig q) × (limit < weight)

  -- of what is asked for by number, and decided by these queries
  module _ (A : ℕ → Type 0) (queries : ℕ → List Query) where
    -- that of each number below n is so
    abbrev pub AreCleared : ℕ → Type 0
    AreCleared n = (k : ℕ) → k < n → IsCleared sig limit (A k) (queries k)

    -- those before number k, of n, are so
    pub record IsNumberReached (n k : ℕ) : Type 0 where
      pub within : k < n
      pub cleared : AreCleared k

    -- the first of n that isn't so
    pub record IsFirstDenied (n k : ℕ) : Type 0 where
      pub reached : IsNumberReached n k
      pub denied : IsDenied sig limit (A k) (queries k)

    -- the first of n that has a query above the limit, of this weight
    pub record IsFirstHeavy (n weight : ℕ) : Type 0 where
      pub number : ℕ
      pub reached : IsNumberReached n number
      pub heavy : FindsHeavy sig limit (queries number) weight

    -- all of n are so, or the first isn't, or has a query above the limit
    abbrev pub Halts : ℕ → Option Halt → Type 0
    Halts n None = AreCleared n
    Halts n (Some (halt.Fails k)) = IsFirstDenied n k
    Halts n (Some (halt.Over weight)) = IsFirstHeavy n weight

-- ---- what is told of spots of one kind

abbrev pub halt_told : What → Halt → Judged
halt_told what (halt.Fails k) = judged.Wrong (spot what k)
halt_told what (halt.Over weight) = judged.Over weight

abbrev pub answer_told : What → Answer → Judged
answer_told what answer.Passes = judged.Holds
answer_told what answer.Fails = judged.Wrong (spot what 0)
answer_told what (answer.Over weight) = judged.Over weight

-- where the first that fails is looked for
abbrev pub look_told : Option Spot → Judged
look_told None = judged.Holds
look_told (Some s) = judged.Wrong s

-- spots without queries are looked at: all pass, or the first doesn't that is told
abbrev pub Looks : System → Verdict → List Spot → Option Spot → Type 0
Looks sys told spots first = (limit : ℕ) → IsFound sys limit told spots (look_told first)
