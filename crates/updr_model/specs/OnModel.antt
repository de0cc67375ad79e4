-- Commands over a model that was read: how its text is refused, and rows over the system that it means.
use Rattle.std.specs.Prelude.{◌≡◌, ℕ, List, [], ◌∷◌, ◌≤◌, length, true}
use Rattle.fo_core.specs.declared.order.Purpose.{Purpose}
use Rattle.fo_core.specs.SortGraph.{IsStratified}
use Rattle.pyv_sorts.specs.declared.model.Elaborated.{Elaborated}
use Rattle.pyv_strat.specs.Refusal.{IsUnstratified}
use Rattle.updr_told.specs.declared.status.Status.{Status}
use Rattle.updr_told.specs.declared.status.Status.TheVariants as status
use Rattle.updr_words.specs.Forms.{Form, IsSimple}
use Rattle.updr_words.specs.Jobs.{Job}
use Rattle.updr_table.specs.Commands.{Command}
use Rattle.updr_table.specs.Rows.{AtMostOne, Contents, Row, content_at, is_table}
use Rattle.updr_table.specs.Stages.{refused_else, staged}
use Rattle.updr_model.specs.Cycles.{unstratified_words}
use Rattle.updr_model.specs.Faults.{Telling}
use Rattle.updr_model.specs.Texts.{IsFault, IsModel, MeansText, words_at}

-- ---- the stage that reads a model

-- the system that the first file means, with its names, and the contents of all files
pub record Given : Type 0 where
  pub meant : Elaborated
  pub contents : Contents

-- the first of these files means this system
pub record MeansGiven (contents : Contents) (g : Given) : Type 0 where
  pub text : MeansText (content_at contents 0) g.meant.sys g.meant.names
  pub same : g.contents ≡ contents

-- the first file is refused with this status, which is that of its first fault
abbrev pub fault_row : {L : Type 0} → Status → Row Contents L
fault_row status = record {
  status = status;
  comes = λ contents. (t : Telling) × IsFault (content_at contents 0) t × (t.status ≡ status);
  says = λ contents words left. (t : Telling) × IsFault (content_at contents 0) t × (t.status ≡ status) × (words ≡ words_at (content_at contents 0) t);
}

abbrev pub fault_rows : {L : Type 0} → List (Row Contents L)
fault_rows = fault_row status.NotRead ∷ fault_row status.Unsupported ∷ fault_row status.Sorts ∷ []

-- a text that means no system is refused; else the rows over what it means
abbrev pub over_model : {L : Type 0} → List (Row Given L) → List (Row Contents L)
over_model rows = refused_else fault_rows MeansGiven rows

-- the command of these words, and of these rows over the model that its first file is
abbrev pub model_command : {L : Type 0} → Form → (Job → List (Row Given L)) → Command L
model_command form rows = record { form = form; rows = λ job. over_model (rows job) }

-- What such a command has to meet: clap states what it reads, it has a file, no status stands twice, and at
-- most one row comes over the systems that texts mean.
pub record IsSoundOnModel {L : Type 0} (form : Form) (rows : Job → List (Row Given L)) : Type 0 where
  pub simple : IsSimple form
  pub model : 1 ≤ length form.files
  pub table : (job : Job) → is_table (over_model (rows job)) ≡ true
  pub exclusive : (job : Job) (g : Given) → IsModel g.meant.sys g.meant.names → AtMostOne (rows job) g

-- ---- the stage that asks whether the system is stratified

-- it isn't for this purpose, and the first of the shortest cycles of its sort graph is told
abbrev pub cycle_row : {L : Type 0} → Purpose → Row Given L
cycle_row purpose = record {
  status = status.NotStratified;
  comes = λ g. ¬ IsStratified g.meant.sys purpose;
  says = λ g words left. (cycle : List ℕ) × IsUnstratified g.meant.sys purpose cycle × (words ≡ unstratified_words g.meant.names cycle);
}

-- it is
pub record IsStratifiedGiven (purpose : Purpose) (g h : Given) : Type 0 where
  pub stratified : IsStratified g.meant.sys purpose
  pub same : h ≡ g

-- a system that isn't stratified is refused; else the rows over it
abbrev pub if_stratified : {L : Type 0} → Purpose → List (Row Given L) → List (Row Given L)
if_stratified purpose rows = refused_else (cycle_row purpose ∷ []) (IsStratifiedGiven purpose) rows

-- What a command that asks for it has to meet.
pub record IsSoundStratified {L : Type 0} (purpose : Purpose) (form : Form) (rows : Job → List (Row Given L)) : Type 0 where
  pub simple : IsSimple form
  pub model : 1 ≤ length form.files
  pub table : (job : Job) → is_table (over_model (if_stratified purpose (rows job))) ≡ true
  pub exclusive : (job : Job) (g : Given) → IsModel g.meant.sys g.meant.names → AtMostOne (rows job) g

-- ---- a text that a command makes, in place of a file

-- the rows over the system that this text means, whatever was read
abbrev pub over_text : {L : Type 0} → List ℕ → List (Row Given L) → List (Row Contents L)
over_text text rows = staged (λ contents made. made ≡ text ∷ []) (over_model rows)
