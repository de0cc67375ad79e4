-- A report that is read after its model: how its text is refused, and rows over what it says.
use Rattle.std.specs.Prelude.{◌≡◌, ℕ, List, [], ◌∷◌, ◌++◌, codes, ⊤}
use Rattle.fo_core.specs.declared.order.Purpose.TheVariants.{Infer}
use Rattle.fo_core.specs.SortGraph.{IsStratified}
use Rattle.pyv_strat.specs.Refusal.{IsUnstratified}
use Rattle.up_claims.specs.declared.report.Report.{Report}
use Rattle.up_claims.specs.declared.verdict.Verdict.{Verdict}
use Rattle.up_claims.specs.declared.verdict.Verdict.TheVariants as verdict
use Rattle.up_core.specs.View.{CoreView}
use Rattle.up_report.specs.Reports.{IsReport, StopsAt}
use Rattle.updr_told.specs.Places.{column_at, line_at, place_words}
use Rattle.updr_told.specs.declared.status.Status.TheVariants.{NotStratified, ReportNotRead}
use Rattle.updr_table.specs.Rows.{Row, content_at}
use Rattle.updr_table.specs.Stages.{refused_else}
use Rattle.updr_model.specs.Cycles.{unstratified_words}
use Rattle.updr_model.specs.OnModel.{Given}

-- ---- the stage that reads a report

-- what the first file means, with the contents of all files, and the report that the second one is
pub record Reported : Type 0 where
  pub given : Given
  pub report : Report

-- the second file is the text of this report, over the model's signature
abbrev pub IsSecond : Given → Report → Type 0
IsSecond g r = IsReport g.meant.sys.sig g.meant.names (content_at g.contents 1) r

-- it is the text of this report and of no other
pub record MeansReported (g : Given) (r : Reported) : Type 0 where
  pub is : IsSecond g r.report
  pub only : (other : Report) → IsSecond g other → other ≡ r.report
  pub same : r.given ≡ g

-- it is the text of none
abbrev pub HasNoReport : Given → Type 0
HasNoReport g = (r : Report) → ¬ IsSecond g r

-- the line and the column at which a report isn't read
abbrev pub not_read_words : List ℕ → ℕ → List ℕ
not_read_words bytes place =
    codes "report "
    ++ (place_words (line_at bytes place) (column_at bytes place) ++ codes ": not read")

-- a text that is none is refused, and the first place is told at which no report goes on
abbrev pub not_read : Row Given CoreView
not_read = record {
  status = ReportNotRead;
  comes = HasNoReport;
  says = λ g words left.
      (place : ℕ) × StopsAt g.meant.sys.sig g.meant.names (content_at g.contents 1) place
      × (words ≡ not_read_words (content_at g.contents 1) place);
}

-- a text that is no report is refused; else the rows over the report
abbrev pub over_report : List (Row Reported CoreView) → List (Row Given CoreView)
over_report rows = refused_else (not_read ∷ []) MeansReported rows

-- ---- the stage that asks for an order of the sorts, where the verdict is judged by queries

-- whether such a verdict holds is a matter of queries
abbrev pub IsAsked : Verdict → Type 0
IsAsked (verdict.Unsafe w) = ⊥
IsAsked (verdict.Spent steps) = ⊥
IsAsked (verdict.Over kind weight) = ⊥
IsAsked _ = ⊤

-- where queries are to be asked, the system is stratified for them
abbrev pub HasOrder : Reported → Type 0
HasOrder r = IsAsked r.report.verdict → IsStratified r.given.meant.sys Infer

pub record IsOrderedReported (r s : Reported) : Type 0 where
  pub ordered : HasOrder r
  pub same : s ≡ r

-- queries are to be asked and it isn't; the first of the shortest cycles of its sort graph is told
abbrev pub not_ordered : Row Reported CoreView
not_ordered = record {
  status = NotStratified;
  comes = λ r. IsAsked r.report.verdict × (¬ IsStratified r.given.meant.sys Infer);
  says = λ r words left.
      (cycle : List ℕ) × IsUnstratified r.given.meant.sys Infer cycle
      × (words ≡ unstratified_words r.given.meant.names cycle);
}

-- such a system is refused; else the rows over the report
abbrev pub if_ordered : List (Row Reported CoreView) → List (Row Reported CoreView)
if_ordered rows = refused_else (not_ordered ∷ []) IsOrderedReported rows
