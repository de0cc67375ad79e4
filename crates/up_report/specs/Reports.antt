-- When bytes are a report, and where they stop being one.
use Rattle.std.specs.Prelude.{◌≡◌, ℕ, ◌+◌, ◌<◌, ◌≤◌, List, length, take}
use Rattle.fo_core.specs.declared.names.Names.{Names}
use Rattle.fo_core.specs.declared.signature.Sig.{Sig}
use Rattle.fo_text.specs.Parts.{StartsWith}
use Rattle.up_claims.specs.declared.report.Report.{Report}
use Rattle.up_report.specs.Ranges.{HasReport}
use Rattle.up_report.specs.Texts.{report_text}

-- the bytes are the text of this report
pub record IsReport (sig : Sig) (names : Names) (bytes : List ℕ) (r : Report) : Type 0 where
  pub ranged : HasReport sig r
  pub text : bytes ≡ report_text sig names r

-- some report's text begins with these bytes
abbrev pub BeginsReport : Sig → Names → List ℕ → Type 0
BeginsReport sig names front =
    (r : Report) × HasReport sig r × StartsWith (report_text sig names r) front

-- The bytes are no report, and p is the first place by which none goes on: the bytes before p begin
-- one, and with the byte at p, if there is one, they don't.
pub record StopsAt (sig : Sig) (names : Names) (bytes : List ℕ) (p : ℕ) : Type 0 where
  pub none : (r : Report) → ¬ IsReport sig names bytes r
  pub within : p ≤ length bytes
  pub begins : BeginsReport sig names (take p bytes)
  pub stops : p < length bytes → ¬ BeginsReport sig names (take (p + 1) bytes)
