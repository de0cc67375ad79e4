-- The rows of commands over a model exclude each other.
use Rattle.std.proofs.Common.{◌≡◌, ◌∙◌, ℕ, List, [], ◌∷◌, sym, ap₂, subst}
use Rattle.fo_core.specs.declared.names.Names.{Names}
use Rattle.fo_core.specs.declared.order.Purpose.{Purpose}
use Rattle.fo_core.specs.declared.system.System.{System}
use Rattle.pyv_sorts.specs.declared.model.Elaborated.{Elaborated}
use Rattle.updr_told.specs.declared.status.Status.{Status}
use Rattle.updr_told.specs.declared.status.Status.TheVariants as status
use Rattle.updr_words.specs.Forms.{Form}
use Rattle.updr_words.specs.Jobs.{Job}
use Rattle.updr_table.specs.Commands.{IsSound}
use Rattle.updr_table.specs.Rows.{AtMostOne, Contents, Row, content_at}
use Rattle.updr_table.specs.Stages.{IsStage}
use Rattle.updr_table.proofs.Staging.{stage_one}
use Rattle.updr_model.specs.OneMeaning.{one_status, no_fault, one_meaning, is_model}
use Rattle.updr_model.specs.OnModel.{Given, MeansGiven, fault_row, fault_rows, over_model, model_command, IsSoundOnModel, cycle_row, IsStratifiedGiven, if_stratified, IsSoundStratified, over_text}
use Rattle.updr_model.specs.Texts.{IsModel}

-- ---- the stage that reads a model

one_given : (x : Contents) (a b : Given) → MeansGiven x a → MeansGiven x b → a ≡ b
one_given x a b p q =
    let same = one_meaning (content_at x 0) a.meant.sys a.meant.names p.text b.meant.sys b.meant.names q.text in
    whole a.meant b.meant a.contents b.contents (meant a.meant.sys b.meant.sys a.meant.names b.meant.names same.0 same.1) (p.same ∙ sym q.same)
  where
    meant : (s t : System) (m n : Names) → s ≡ t → m ≡ n → ◌≡◌ {A = Elaborated} (record { sys = s; names = m }) (record { sys = t; names = n })
    meant s t m n f g = ap₂ (λ (x : System) (y : Names). record { sys = x; names = y }) f g

    whole : (e f : Elaborated) (c d : Contents) → e ≡ f → c ≡ d → ◌≡◌ {A = Given} (record { meant = e; contents = c }) (record { meant = f; contents = d })
    whole e f c d g h = ap₂ (λ (x : Elaborated) (y : Contents). record { meant = x; contents = y }) g h

-- of two rows of other statuses one comes
never_both : (L : Type 0) (x : Contents) (a b : Status) → ¬ (a ≡ b) → (fault_row {L = L} a).comes x → (fault_row {L = L} b).comes x → ⊥
never_both L x a b differ (s, f, is) (t, g, other) = differ (sym is ∙ one_status (content_at x 0) s t f g ∙ other)

pub reads_model : {L : Type 0} → IsStage (fault_rows {L = L}) MeansGiven
reads_model {L = L} = record { one = one_given; exclusive = exclusive; apart = λ x. (none x status.NotRead, (none x status.Unsupported, (none x status.Sorts, tt))) }
  where
    exclusive : (x : Contents) → AtMostOne (fault_rows {L = L}) x
    exclusive x = (
      (λ a. (never_both L x status.NotRead status.Unsupported (λ is. cc) a, (never_both L x status.NotRead status.Sorts (λ is. cc) a, tt))),
      ((λ a. (never_both L x status.Unsupported status.Sorts (λ is. cc) a, tt)), ((λ a. tt), tt)),
    )

    none : (x : Contents) (s : Status) → (fault_row {L = L} s).comes x → (g : Given) → MeansGiven x g → ⊥
    none x s (t, f, is) g means = no_fault (content_at x 0) g.meant.sys g.meant.names means.text t f

-- at most one row comes over a model, where at most one does over each system that a text means
pub one_on_model : {L : Type 0} (rows : List (Row Given L)) → ((g : Given) → IsModel g.meant.sys g.meant.names → AtMostOne rows g) → (x : Contents) → AtMostOne (over_model rows) x
one_on_model rows one x = stage_one fault_rows MeansGiven reads_model rows x (λ g means. one g (is_model (content_at x 0) g.meant.sys g.meant.names means.text))

pub sound_model : {L : Type 0} (form : Form) (rows : Job → List (Row Given L)) → IsSoundOnModel form rows → IsSound (model_command form rows)
sound_model form rows sound = record {
  simple = sound.simple;
  table = sound.table;
  exclusive = λ job. one_on_model (rows job) (sound.exclusive job);
}

-- ---- the stage that asks whether the system is stratified

asks_order : {L : Type 0} (purpose : Purpose) → IsStage (cycle_row {L = L} purpose ∷ []) (IsStratifiedGiven purpose)
asks_order purpose = record {
  one = λ x a b p q. p.same ∙ sym q.same;
  exclusive = λ x. ((λ _. tt), tt);
  apart = λ x. ((λ none a p. none p.stratified), tt);
}

-- nor of a system that has to be stratified
pub one_stratified : {L : Type 0} (purpose : Purpose) (rows : List (Row Given L)) → ((g : Given) → IsModel g.meant.sys g.meant.names → AtMostOne rows g) → (g : Given) → IsModel g.meant.sys g.meant.names → AtMostOne (if_stratified purpose rows) g
one_stratified purpose rows one g is = stage_one (cycle_row purpose ∷ []) (IsStratifiedGiven purpose) (asks_order purpose) rows g (λ h p. same_row h p.same)
  where
    same_row : (h : Given) → h ≡ g → AtMostOne rows h
    same_row h same = one h (subst (λ (x : Given). IsModel x.meant.sys x.meant.names) (sym same) is)

pub sound_stratified : {L : Type 0} (purpose : Purpose) (form : Form) (rows : Job → List (Row Given L)) → IsSoundStratified purpose form rows → IsSoundOnModel form (λ job. if_stratified purpose (rows job))
sound_stratified purpose form rows sound = record {
  simple = sound.simple;
  model = sound.model;
  table = sound.table;
  exclusive = λ job. one_stratified purpose (rows job) (sound.exclusive job);
}

-- ---- a text that a command makes

makes : {L : Type 0} (text : List ℕ) → IsStage {L = L} [] (λ (x : Contents) (made : Contents). made ≡ text ∷ [])
makes text = record { one = λ x a b p q. p ∙ sym q; exclusive = λ x. tt; apart = λ x. tt }

pub one_on_text : {L : Type 0} (text : List ℕ) (rows : List (Row Given L)) → ((g : Given) → IsModel g.meant.sys g.meant.names → AtMostOne rows g) → (x : Contents) → AtMostOne (over_text text rows) x
one_on_text text rows one x = stage_one [] _ (makes text) (over_model rows) x (λ made is. one_on_model rows one made)
