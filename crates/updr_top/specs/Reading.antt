-- What the code that reads a report promises.
use Rattle.std.specs.Prelude.{◌≡◌, ℕ, List}
use Rattle.pyv_sorts.specs.declared.model.Elaborated.{Elaborated}
use Rattle.up_claims.specs.declared.report.Report.{Report}
use Rattle.up_core.specs.View.{CoreView}
use Rattle.up_report.specs.Reports.{IsReport, StopsAt}
use Rattle.updr_told.specs.Ends.{End, refusal}
use Rattle.updr_told.specs.declared.status.Status.TheVariants.{ReportNotRead}
use Rattle.updr_top.specs.Reported.{not_read_words}

-- the bytes are the text of this report, over the model's signature, and of no other
pub record IsTheReport (e : Elaborated) (bytes : List ℕ) (r : Report) : Type 0 where
  pub is : IsReport e.sys.sig e.names bytes r
  pub only : (other : Report) → IsReport e.sys.sig e.names bytes other → other ≡ r

-- they are the text of none, and the end tells the first place at which no report goes on
pub record RefusesReport (e : Elaborated) (bytes : List ℕ) (end : End CoreView) : Type 0 where
  pub place : ℕ
  pub stops : StopsAt e.sys.sig e.names bytes place
  pub is : end ≡ refusal ReportNotRead (not_read_words bytes place)
