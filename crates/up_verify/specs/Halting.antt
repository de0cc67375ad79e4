-- What is found of a list of cases.
use Rattle.std.specs.Prelude.{◌≡◌, ℕ, List, Option, None, Some}
use Rattle.std.specs.List.{All}
use Rattle.fo_core.specs.declared.system.System.{System}
use Rattle.up_claims.specs.VerifyQueries.{Case, verify_weight}
use Rattle.up_verify.specs.Verifying.{Passes, FailsFirst, IsOverFirst, IsShownCase, case_of}
use Rattle.up_verify.specs.declared.verifying.Halt.{Halt}
use Rattle.up_verify.specs.declared.verifying.Halt.TheVariants.{Fails, Over}

-- all pass, or the first that doesn't
abbrev pub Finds : System → ℕ → List Case → Option Halt → Type 0
Finds sys limit cases None = All (Passes sys limit) cases
Finds sys limit cases (Some (Fails f)) =
    FailsFirst sys limit cases (case_of f) f.world × IsShownCase sys limit (case_of f) f.world
Finds sys limit cases (Some (Over weight)) = (c : Case) × IsOverFirst sys limit cases c × (weight ≡ verify_weight sys c)
