-- What the verification of a system answers.
use Rattle.std.specs.Prelude.{◌≡◌, ◌≤◌, ◌<◌, ◌⊎◌, ℕ, List, ◌∷◌, ◌++◌, ⊤}
use Rattle.std.specs.List.{All}
use Rattle.fo_core.specs.declared.system.System.{System}
use Rattle.fo_core.specs.declared.world.World.{World}
use Rattle.fo_core.specs.declared.query.Query.{Query}
use Rattle.fo_core.specs.declared.signature.Sig.{Sig}
use Rattle.fo_min.specs.declared.found.Excess.{Excess}
use Rattle.fo_min.specs.declared.found.Least.TheVariants as least
use Rattle.fo_min.specs.Found.{IsFoundLeast}
use Rattle.up_claims.specs.Breaking.{Breaks}
use Rattle.up_claims.specs.Claims.{properties}
use Rattle.up_claims.specs.Inductive.{IsInductive}
use Rattle.up_claims.specs.VerifyQueries.{Case, verify_cases, verify_query_of, verify_weight, NeverBreaks}
use Rattle.up_verify.specs.declared.verified.Failure.{Failure}
use Rattle.up_verify.specs.declared.verified.Verified.{Verified}
use Rattle.up_verify.specs.declared.verified.Verified.TheVariants.{Inductive, Fails, Over}

-- the query of the case isn't above the limit
abbrev pub IsLightCase : System → ℕ → Case → Type 0
IsLightCase sys limit c = verify_weight sys c ≤ limit

-- and no world meets it
pub record Passes (sys : System) (limit : ℕ) (c : Case) : Type 0 where
  pub light : IsLightCase sys limit c
  pub never : NeverBreaks sys c

-- a verification comes to this one of the cases: those before it pass
pub record IsReached (sys : System) (limit : ℕ) (cases : List Case) (c : Case) : Type 0 where
  pub before : List Case
  pub after : List Case
  pub parts : cases ≡ before ++ c ∷ after
  pub passed : All (Passes sys limit) before

-- the first case that doesn't pass is one whose query is light, and this world meets it
pub record FailsFirst (sys : System) (limit : ℕ) (cases : List Case) (c : Case) (w : World) : Type 0 where
  pub reached : IsReached sys limit cases c
  pub light : IsLightCase sys limit c
  pub breaks : Breaks sys c.step c.property w

-- the first case that doesn't pass is one whose query is above the limit
pub record IsOverFirst (sys : System) (limit : ℕ) (cases : List Case) (c : Case) : Type 0 where
  pub reached : IsReached sys limit cases c
  pub heavy : limit < verify_weight sys c

-- ---- which world shows a failure

-- the search for the least world that meets the query gives this one, or a query of the search is
-- above the limit
abbrev pub IsShown : Sig → Query → ℕ → World → Type 0
IsShown sig q limit w =
    IsFoundLeast sig q limit (least.Model w) ⊎ (x : Excess) × IsFoundLeast sig q limit (least.Over x)

abbrev pub IsShownCase : System → ℕ → Case → World → Type 0
IsShownCase sys limit c w = IsShown sys.sig (verify_query_of sys c) limit w

-- ---- systems

-- safeties and invariants together are inductive, and no query is above the limit
pub record IsVerified (sys : System) (limit : ℕ) : Type 0 where
  pub inductive : IsInductive sys (properties sys)
  pub light : All (IsLightCase sys limit) (verify_cases sys)

-- the case that a failure tells of
abbrev pub case_of : Failure → Case
case_of f = record { step = f.step; property = f.property }

-- they are inductive; or the first case that doesn't pass fails or is too heavy
abbrev pub IsVerification : System → ℕ → Verified → Type 0
IsVerification sys limit Inductive = IsVerified sys limit
IsVerification sys limit (Fails f) =
    FailsFirst sys limit (verify_cases sys) (case_of f) f.world × IsShownCase sys limit (case_of f) f.world
IsVerification sys limit (Over weight) = (c : Case) × IsOverFirst sys limit (verify_cases sys) c × (weight ≡ verify_weight sys c)

-- the answers say the same, but for the world that shows a failure
abbrev pub AreAlike : Verified → Verified → Type 0
AreAlike Inductive Inductive = ⊤
AreAlike (Fails f) (Fails g) = case_of f ≡ case_of g
AreAlike (Over m) (Over n) = m ≡ n
AreAlike _ _ = ⊥
