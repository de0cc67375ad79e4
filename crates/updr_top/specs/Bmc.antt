-- The command `bmc`: the shortest violating run of few steps.
use Rattle.std.specs.Prelude.{◌≡◌, ◌≤◌, ℕ, List, [], ◌∷◌, ◌++◌, None, codes, refl, slice_index_or}
use Rattle.std.specs.List.{All}
use Rattle.std.proofs.Common.{arith}
use Rattle.clap.proofs.OnLiterals.{clap_on_literals}
use Rattle.fo_core.specs.declared.order.Purpose.TheVariants as purpose
use Rattle.fo_core.specs.declared.system.System.{System}
use Rattle.fo_core.specs.declared.world.World.{World}
use Rattle.fo_core.specs.Asked.{least_queries}
use Rattle.fo_core.specs.Finds.{IsLight}
use Rattle.fo_min.specs.declared.found.Excess.{Excess}
use Rattle.pyv_sorts.specs.declared.model.Elaborated.{Elaborated}
use Rattle.up_claims.specs.Breaking.{IsViolatingRunOf}
use Rattle.up_claims.specs.declared.kind.Kind.TheVariants.{Unroll}
use Rattle.up_claims.specs.declared.report.Report.{Report}
use Rattle.up_claims.specs.declared.verdict.Verdict.{Verdict}
use Rattle.up_claims.specs.declared.verdict.Verdict.TheVariants as verdict
use Rattle.up_claims.specs.RunQueries.{run_query, run_queries, HasNoRunOf, IsLeastRun}
use Rattle.up_core.specs.View.{CoreView}
use Rattle.up_report.specs.Texts.{report_text}
use Rattle.up_unroll.specs.Unrolling.{IsUnrollExcess}
use Rattle.updr_told.specs.declared.status.Status.TheVariants.{Holds, Unsafe, Over}
use Rattle.updr_words.specs.declared.form.Giving.TheVariants.{ByOption}
use Rattle.updr_words.specs.Forms.{Form, Number}
use Rattle.updr_words.specs.Jobs.{Job}
use Rattle.updr_table.specs.Commands.{Command}
use Rattle.updr_table.specs.Rows.{Row}
use Rattle.updr_model.specs.OnModel.{Given, IsSoundStratified, if_stratified, model_command}
use Rattle.updr_top.specs.Options.{weight_option}

-- `--depth`, the most steps of a run that is looked for: from 0 to 32, and without it 10
abbrev pub depth_option : Number
depth_option = record { name = codes "depth"; giving = ByOption; usual = codes "10"; least = 0; most = 32 }

-- `bmc MODEL --depth D --weight W`
abbrev pub bmc_form : Form
bmc_form = record { name = codes "bmc"; files = codes "MODEL" ∷ []; numbers = depth_option ∷ weight_option ∷ []; flags = [] }

-- ---- what is printed

-- the report of a verdict that no search with frames came to
abbrev pub report_of : Verdict → Report
report_of told = record { verdict = told; numbers = record { productive = 0; frontier = 0; clauses = 0 } }

abbrev pub verdict_text : Elaborated → Verdict → List ℕ
verdict_text e told = report_text e.sys.sig e.names (report_of told)

-- ---- what there is: runs of at most so many steps, and queries of the search for them in their order

-- a query is above the limit
abbrev pub IsAbove : ℕ → ℕ → System → Type 0
IsAbove depth limit sys = (x : Excess) × IsUnrollExcess sys limit depth x

-- a violating run exists, and no query is above the limit
pub record HasRun (depth limit : ℕ) (sys : System) : Type 0 where
  pub steps : ℕ
  pub run : World
  pub within : steps ≤ depth
  pub violates : IsViolatingRunOf sys steps run
  pub light : ¬ IsAbove depth limit sys

-- none exists, and no query is above the limit
pub record HasNoRun (depth limit : ℕ) (sys : System) : Type 0 where
  pub none : (k : ℕ) → k ≤ depth → HasNoRunOf sys k
  pub light : ¬ IsAbove depth limit sys

-- the least violating run of fewest steps, and no query that was asked to find it is above the limit
pub record FindsRun (sys : System) (limit depth : ℕ) (w : World) : Type 0 where
  pub steps : ℕ
  pub least : IsLeastRun sys depth steps w
  pub light : All (IsLight sys.sig limit) (run_queries sys steps ++ least_queries sys.sig (run_query sys steps) w)

-- ---- the table; none of its ends leaves anything

-- the least of the shortest runs is reported
abbrev pub found : ℕ → ℕ → Row Given CoreView
found depth limit = record {
  status = Unsafe;
  comes = λ g. HasRun depth limit g.meant.sys;
  says = λ g text left.
      (w : World) × FindsRun g.meant.sys limit depth w
      × (text ≡ verdict_text g.meant (verdict.Unsafe w)) × (left ≡ None);
}

abbrev pub not_found : ℕ → ℕ → Row Given CoreView
not_found depth limit = record {
  status = Holds;
  comes = λ g. HasNoRun depth limit g.meant.sys;
  says = λ g text left. (text ≡ verdict_text g.meant (verdict.NoRun depth)) × (left ≡ None);
}

-- the weight of the first query above the limit is reported
abbrev pub above : ℕ → ℕ → Row Given CoreView
above depth limit = record {
  status = Over;
  comes = λ g. IsAbove depth limit g.meant.sys;
  says = λ g text left.
      (x : Excess) × IsUnrollExcess g.meant.sys limit depth x
      × (text ≡ verdict_text g.meant (verdict.Over Unroll x.weight)) × (left ≡ None);
}

abbrev pub bmc_table : ℕ → ℕ → List (Row Given CoreView)
bmc_table depth limit = found depth limit ∷ not_found depth limit ∷ above depth limit ∷ []

abbrev pub bmc_depth : Job → ℕ
bmc_depth job = slice_index_or job.numbers 0 0

abbrev pub bmc_limit : Job → ℕ
bmc_limit job = slice_index_or job.numbers 1 0

abbrev pub bmc_rows : Job → List (Row Given CoreView)
bmc_rows job = bmc_table (bmc_depth job) (bmc_limit job)

abbrev pub bmc_command : Command CoreView
bmc_command = model_command bmc_form (λ job. if_stratified purpose.Infer (bmc_rows job))

-- ---- it is sound

pub bmc_sound : IsSoundStratified purpose.Infer bmc_form bmc_rows
unfolding clap_on_literals
bmc_sound = record {
  simple = refl;
  model = omega arith;
  table = λ job. refl;
  exclusive = λ job g model. (
    (λ h. ((λ n. n.none h.steps h.within h.run h.violates), ((λ a. h.light a), tt))),
    ((λ n. ((λ a. n.light a), tt)), ((λ _. tt), tt)),
  );
}
