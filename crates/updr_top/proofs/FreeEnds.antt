-- How a search by workers that run freely ends.
use Rattle.std.proofs.Common.{List, [], refl}
use Rattle.fo_core.specs.declared.order.Purpose.TheVariants as purpose
use Rattle.fo_core.specs.SortGraph.{IsStratified}
use Rattle.pyv_sorts.specs.declared.model.Elaborated.{Elaborated}
use Rattle.up_core.specs.View.{CoreView}
use Rattle.up_machine.specs.declared.event.Event.{Event}
use Rattle.updr_told.specs.Ends.{End}
use Rattle.updr_words.specs.Jobs.{Job}
use Rattle.updr_table.specs.Rows.{Contents, Ends, Row, content_at}
use Rattle.updr_model.specs.Cycles.{RefusesSystem}
use Rattle.updr_model.specs.OnModel.{Given, if_stratified}
use Rattle.updr_model.specs.Texts.{MeansText, RefusesText}
use Rattle.updr_model.proofs.Ending.{cycle_ends, given_ends, order_ends, text_ends}
use Rattle.updr_top.specs.Free.{EndsFreely, EndsOverFreely, RunsFreely}
use Rattle.updr_top.specs.Infer.{search_rows}

module _ (job : Job) (contents : Contents) (e : End CoreView) where
  abbrev rows : List Event → List (Row Given CoreView)
  rows history = search_rows (RunsFreely history) job

  -- a text that is refused
  pub of_text : RefusesText (content_at contents 0) e → EndsFreely job contents e
  of_text h = ([], text_ends contents (if_stratified purpose.Infer (rows [])) e h)

  module _ (meant : Elaborated) (means : MeansText (content_at contents 0) meant.sys meant.names) where
    abbrev given : Given
    given = record { meant = meant; contents = contents }

    of_given : (history : List Event) → Ends (if_stratified purpose.Infer (rows history)) given e → EndsFreely job contents e
    of_given history h = (history, given_ends contents given (record { text = means; same = refl }) (if_stratified purpose.Infer (rows history)) e h)

    -- a system that isn't stratified
    pub of_cycle : RefusesSystem purpose.Infer meant.sys meant.names e → EndsFreely job contents e
    of_cycle h = of_given [] (cycle_ends purpose.Infer given (rows []) e h)

    -- a search
    pub of_search : IsStratified meant.sys purpose.Infer → EndsOverFreely job given e → EndsFreely job contents e
    of_search is h = of_given h.0 (order_ends purpose.Infer given (record { stratified = is; same = refl }) (rows h.0) e h.1)
