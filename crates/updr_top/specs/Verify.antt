-- The command `verify`: whether a model's safeties and invariants together are inductive.
use Rattle.std.specs.Prelude.{◌≡◌, ℕ, List, [], ◌∷◌, ◌++◌, Option, Some, None, codes, decimal, refl, slice_index_or}
use Rattle.std.proofs.Common.{arith}
use Rattle.clap.proofs.OnLiterals.{clap_on_literals}
use Rattle.fo_core.specs.declared.names.Names.{Names}
use Rattle.fo_core.specs.declared.order.Purpose.TheVariants as purpose
use Rattle.fo_core.specs.declared.world.World.{World}
use Rattle.fo_text.specs.Texts.{text_of}
use Rattle.up_claims.specs.VerifyQueries.{Case, verify_cases, verify_weight}
use Rattle.pyv_sorts.specs.declared.model.Elaborated.{Elaborated}
use Rattle.up_core.specs.View.{CoreView}
use Rattle.up_verify.specs.Verifying.{IsVerified, FailsFirst, IsOverFirst, IsShownCase}
use Rattle.up_verify.proofs.Cases.{fails_or_over, verified_or_fails, verified_or_over}
use Rattle.updr_told.specs.declared.status.Status.TheVariants.{Holds, NotInductive, Over}
use Rattle.updr_words.specs.Forms.{Form}
use Rattle.updr_words.specs.Jobs.{Job}
use Rattle.updr_table.specs.Commands.{Command}
use Rattle.updr_table.specs.Rows.{Row}
use Rattle.updr_model.specs.OnModel.{Given, IsSoundStratified, if_stratified, model_command}
use Rattle.updr_top.specs.Options.{weight_option}

-- `verify MODEL --weight W`
abbrev pub verify_form : Form
verify_form = record { name = codes "verify"; files = codes "MODEL" ∷ []; numbers = weight_option ∷ []; flags = [] }

-- ---- what is printed

abbrev pub step_name : Names → ℕ → List ℕ
step_name names t = slice_index_or names.steps t []

-- which property fails: at the start, or by the transition of this number
abbrev pub case_words : Names → Option ℕ → ℕ → List ℕ
case_words names None p = codes "init property " ++ decimal p
case_words names (Some t) p = codes "step " ++ (step_name names t ++ (codes " property " ++ decimal p))

-- that line, and the world that shows it
abbrev pub failing_text : Elaborated → Case → World → List ℕ
failing_text e c w = codes "not inductive " ++ case_words e.names c.step c.property ++ codes "\n" ++ text_of e.sys.sig e.names w

abbrev pub heavy_text : ℕ → List ℕ
heavy_text weight = codes "over verify " ++ decimal weight ++ codes "\n"

-- ---- the table; each query may weigh at most this, and no end leaves anything

-- inductive, and no query is above the limit
abbrev pub inductive : ℕ → Row Given CoreView
inductive limit = record {
  status = Holds;
  comes = λ g. IsVerified g.meant.sys limit;
  says = λ g text left. (text ≡ codes "inductive\n") × (left ≡ None);
}

-- a query has a world and none up to it is above the limit; it is shown by the least world, but where
-- the search for that comes to a query above the limit
abbrev pub failing : ℕ → Row Given CoreView
failing limit = record {
  status = NotInductive;
  comes = λ g. (c : Case) × (w : World) × FailsFirst g.meant.sys limit (verify_cases g.meant.sys) c w;
  says = λ g text left.
      (c : Case) × (w : World) × FailsFirst g.meant.sys limit (verify_cases g.meant.sys) c w
      × IsShownCase g.meant.sys limit c w × (text ≡ failing_text g.meant c w) × (left ≡ None);
}

-- a query is above the limit and none before it has a world
abbrev pub too_heavy : ℕ → Row Given CoreView
too_heavy limit = record {
  status = Over;
  comes = λ g. (c : Case) × IsOverFirst g.meant.sys limit (verify_cases g.meant.sys) c;
  says = λ g text left.
      (c : Case) × IsOverFirst g.meant.sys limit (verify_cases g.meant.sys) c
      × (text ≡ heavy_text (verify_weight g.meant.sys c)) × (left ≡ None);
}

abbrev pub verify_table : ℕ → List (Row Given CoreView)
verify_table limit = inductive limit ∷ failing limit ∷ too_heavy limit ∷ []

abbrev pub verify_limit : Job → ℕ
verify_limit job = slice_index_or job.numbers 0 0

abbrev pub verify_rows : Job → List (Row Given CoreView)
verify_rows job = verify_table (verify_limit job)

abbrev pub verify_command : Command CoreView
verify_command = model_command verify_form (λ job. if_stratified purpose.Verify (verify_rows job))

-- ---- it is sound

pub verify_sound : IsSoundStratified purpose.Verify verify_form verify_rows
unfolding clap_on_literals
verify_sound = record {
  simple = refl;
  model = omega arith;
  table = λ job. refl;
  exclusive = λ job g model. (
    (λ v. (
      (λ (c, w, f). verified_or_fails g.meant.sys (verify_limit job) model.system c w v f),
      ((λ (c, o). verified_or_over g.meant.sys (verify_limit job) c v o), tt),
    )),
    ((λ (c, w, f). ((λ (d, o). fails_or_over g.meant.sys (verify_limit job) (verify_cases g.meant.sys) c d w f o), tt)), ((λ _. tt), tt)),
  );
}
