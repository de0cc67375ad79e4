-- How `demo` ends.
use Rattle.std.proofs.Common.{◌≡◌, ◌≤◌, ℕ, List, [], ◌∷◌, refl, subst}
use Rattle.std.specs.Prelude.{slice_index_or}
use Rattle.fo_core.specs.declared.order.Purpose.TheVariants as purpose
use Rattle.fo_core.specs.SortGraph.{IsStratified}
use Rattle.pyv_sorts.specs.declared.model.Elaborated.{Elaborated}
use Rattle.up_core.specs.View.{CoreView}
use Rattle.up_gen.specs.Models.{model_text_of}
use Rattle.up_gen.specs.declared.models.TheConstants.{MOST_RELATIONS}
use Rattle.updr_told.specs.Ends.{End}
use Rattle.updr_words.specs.Jobs.{AreInRange as AreOptionsInRange}
use Rattle.updr_table.specs.Rows.{Contents, Ends}
use Rattle.updr_model.specs.Cycles.{RefusesSystem}
use Rattle.updr_model.specs.OnModel.{Given, if_stratified}
use Rattle.updr_model.specs.Texts.{MeansText, RefusesText}
use Rattle.updr_model.proofs.Ending.{cycle_ends, given_ends, made_ends, order_ends, text_ends}
use Rattle.updr_top.specs.Demo.{demo_form, demo_rows, demo_table}

-- the number of the words is one that a model has
pub is_number : (ns : List ℕ) → AreOptionsInRange demo_form.numbers ns → (1 ≤ slice_index_or ns 0 0) × (slice_index_or ns 0 0 ≤ MOST_RELATIONS)
is_number [] h = absurd h
is_number (n ∷ more) h = h.0

module _ (n : ℕ) (cs : Contents) (e : End CoreView) where
  -- a text that is refused
  pub of_text : (text : List ℕ) → text ≡ model_text_of n → RefusesText text e → Ends (demo_rows n) cs e
  of_text text made h =
      made_ends (model_text_of n) cs (if_stratified purpose.Infer (demo_table n)) e
      (text_ends (model_text_of n ∷ []) (if_stratified purpose.Infer (demo_table n)) e (subst (λ (t : List ℕ). RefusesText t e) made h))

  module _ (meant : Elaborated) (means : MeansText (model_text_of n) meant.sys meant.names) where
    abbrev given : Given
    given = record { meant = meant; contents = model_text_of n ∷ [] }

    of_given : Ends (if_stratified purpose.Infer (demo_table n)) given e → Ends (demo_rows n) cs e
    of_given h =
        made_ends (model_text_of n) cs (if_stratified purpose.Infer (demo_table n)) e
        (given_ends (model_text_of n ∷ []) given (record { text = means; same = refl }) (if_stratified purpose.Infer (demo_table n)) e h)

    -- a system that isn't stratified
    pub of_cycle : RefusesSystem purpose.Infer meant.sys meant.names e → Ends (demo_rows n) cs e
    of_cycle h = of_given (cycle_ends purpose.Infer given (demo_table n) e h)

    -- a search
    pub of_search : IsStratified meant.sys purpose.Infer → Ends (demo_table n) given e → Ends (demo_rows n) cs e
    of_search is h = of_given (order_ends purpose.Infer given (record { stratified = is; same = refl }) (demo_table n) e h)
