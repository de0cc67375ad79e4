-- The command `check`: whether what a report says of a model is so.
use Rattle.std.specs.Prelude.{◌≡◌, ℕ, List, [], ◌∷◌, ◌++◌, None, codes, decimal, slice_index_or, ⊤}
use Rattle.std.specs.List.{All}
use Rattle.fo_core.specs.declared.system.System.{System}
use Rattle.fo_core.specs.Finds.{IsLight}
use Rattle.up_claims.specs.declared.verdict.Verdict.{Verdict}
use Rattle.up_claims.specs.declared.verdict.Verdict.TheVariants as verdict
use Rattle.up_claims.specs.Judging.{judge_queries}
use Rattle.up_claims.specs.Verdicts.{Holds}
use Rattle.up_cert.specs.declared.judged.Judged.TheVariants as judged
use Rattle.up_cert.specs.declared.spot.Spot.{Spot}
use Rattle.up_cert.specs.declared.spot.What.{What}
use Rattle.up_cert.specs.declared.spot.What.TheVariants as what
use Rattle.up_cert.specs.Judging.{IsJudged}
use Rattle.up_core.specs.View.{CoreView}
use Rattle.updr_told.specs.declared.status.Status.TheVariants as status
use Rattle.updr_words.specs.Forms.{Form}
use Rattle.updr_words.specs.Jobs.{Job}
use Rattle.updr_table.specs.Commands.{Command}
use Rattle.updr_table.specs.Rows.{Row}
use Rattle.updr_model.specs.OnModel.{Given, model_command}
use Rattle.updr_top.specs.Options.{weight_option}
use Rattle.updr_top.specs.Reported.{Reported, if_ordered, over_report}

-- `check MODEL REPORT --weight W`
abbrev pub check_form : Form
check_form = record {
  name = codes "check";
  files = codes "MODEL" ∷ codes "REPORT" ∷ [];
  numbers = weight_option ∷ [];
  flags = [];
}

-- ---- what is printed

-- of a run only copy 0 is to be initial, and no number is told
abbrev pub init_words : Verdict → ℕ → List ℕ
init_words (verdict.Unsafe w) k = codes "init"
init_words _ k = codes "init " ++ decimal k

-- how a spot of the verdict is printed
abbrev pub spot_words : Verdict → What → ℕ → List ℕ
spot_words told what.State k = codes "state " ++ decimal k
spot_words told what.Init k = init_words told k
spot_words told what.Step k = codes "step " ++ decimal k
spot_words told what.Safety k = codes "safety"
spot_words told what.Start k = codes "start"
spot_words told what.Map k = codes "map " ++ decimal k
spot_words told what.Leave k = codes "leave " ++ decimal k
spot_words told what.Run k = codes "run"

abbrev pub wrong_text : Verdict → Spot → List ℕ
wrong_text told spot = codes "wrong " ++ spot_words told spot.what spot.number ++ codes "\n"

abbrev pub over_check_text : ℕ → List ℕ
over_check_text weight = codes "over check " ++ decimal weight ++ codes "\n"

-- ---- what a judgement comes to; each query may weigh at most so much

-- the verdict says something of the system
abbrev pub Claims : Verdict → Type 0
Claims (verdict.Spent steps) = ⊥
Claims (verdict.Over kind weight) = ⊥
Claims _ = ⊤

-- what it says is so, and none of the queries that are to have no world for that is above the
-- limit
pub record IsConfirmed (sys : System) (limit : ℕ) (told : Verdict) : Type 0 where
  pub claims : Claims told
  pub holds : Holds sys told
  pub light : All (IsLight sys.sig limit) (judge_queries sys told)

-- it isn't so, and this spot is the first that fails, as is found by queries that aren't above the
-- limit
pub record IsWrongAt (sys : System) (limit : ℕ) (told : Verdict) (spot : Spot) : Type 0 where
  pub not_so : ¬ Holds sys told
  pub first : IsJudged sys limit told (judged.Wrong spot)

-- a query of this weight is above the limit, and all that is asked before it passes
abbrev pub IsOverAt : System → ℕ → Verdict → ℕ → Type 0
IsOverAt sys limit told weight = IsJudged sys limit told (judged.Over weight)

-- ---- the table; none of its ends leaves anything

abbrev pub holds : ℕ → Row Reported CoreView
holds limit = record {
  status = status.Holds;
  comes = λ r. IsConfirmed r.given.meant.sys limit r.report.verdict;
  says = λ r text left. (text ≡ codes "holds\n") × (left ≡ None);
}

abbrev pub wrong : ℕ → Row Reported CoreView
wrong limit = record {
  status = status.Wrong;
  comes = λ r. (spot : Spot) × IsWrongAt r.given.meant.sys limit r.report.verdict spot;
  says = λ r text left.
      (spot : Spot) × IsWrongAt r.given.meant.sys limit r.report.verdict spot
      × (text ≡ wrong_text r.report.verdict spot) × (left ≡ None);
}

abbrev pub too_heavy : ℕ → Row Reported CoreView
too_heavy limit = record {
  status = status.Over;
  comes = λ r. (weight : ℕ) × IsOverAt r.given.meant.sys limit r.report.verdict weight;
  says = λ r text left.
      (weight : ℕ) × IsOverAt r.given.meant.sys limit r.report.verdict weight
      × (text ≡ over_check_text weight) × (left ≡ None);
}

abbrev pub nothing : Row Reported CoreView
nothing = record {
  status = status.NothingToCheck;
  comes = λ r. ¬ Claims r.report.verdict;
  says = λ r text left. (text ≡ codes "nothing to check\n") × (left ≡ None);
}

abbrev pub judge_table : ℕ → List (Row Reported CoreView)
judge_table limit = holds limit ∷ wrong limit ∷ too_heavy limit ∷ nothing ∷ []

abbrev pub check_limit : Job → ℕ
check_limit job = slice_index_or job.numbers 0 0

abbrev pub check_rows : Job → List (Row Given CoreView)
check_rows job = over_report (if_ordered (judge_table (check_limit job)))

abbrev pub check_command : Command CoreView
check_command = model_command check_form check_rows
