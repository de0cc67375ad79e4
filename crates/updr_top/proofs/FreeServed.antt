-- What a call with `--free` answers follows from how it may end.
use Rattle.std.proofs.Common.{◌≡◌, ◌⊎◌, ◌∙◌, ◌≤◌, ◌<◌, List, ℕ, [], ◌∷◌, Some, ap, sym, subst, inl, inr, arith}
use Rattle.fo_core.specs.declared.order.Purpose.TheVariants as purpose
use Rattle.up_core.specs.View.{CoreView}
use Rattle.up_machine.specs.declared.event.Event.{Event}
use Rattle.up_machine.proofs.Lists.{none_is_some}
use Rattle.updr_told.specs.Ends.{End, out_of_memory}
use Rattle.updr_told.specs.Statuses.{number_of}
use Rattle.updr_told.specs.Telling.{IsAnswer}
use Rattle.updr_table.specs.Commands.{AreSound, IsNamed, MayEnd, MayEndBy}
use Rattle.updr_table.specs.Outside.{RefusesFirst}
use Rattle.updr_table.specs.Rows.{Contents}
use Rattle.updr_table.specs.Outside.{AreContents, Outside}
use Rattle.updr_table.specs.Table.{Answers, Call}
use Rattle.updr_table.proofs.Tabled.{answers}
use Rattle.updr_model.specs.Sound.{sound_model, sound_stratified}
use Rattle.updr_model.specs.OnModel.{if_stratified}
use Rattle.updr_top.specs.Bmc.{bmc_form, bmc_rows, bmc_sound}
use Rattle.updr_top.specs.Check.{check_form, check_rows}
use Rattle.updr_top.specs.CheckSound.{check_sound}
use Rattle.updr_top.specs.Commands.{commands}
use Rattle.updr_top.specs.Complete.{IsGoodCall, IsStratifiedFor}
use Rattle.updr_top.specs.Demo.{demo_sound}
use Rattle.updr_top.specs.Free.{AsksFree, EndsFreely, IsFree, IsFreelyServed, MayEndFreely, RunsFreely, free_command, free_form, free_sound}
use Rattle.updr_top.specs.Infer.{infer_form, infer_sound, limits_of, search_rows, search_text}
use Rattle.updr_top.specs.Searched.{HasShown, IsSearch}
use Rattle.updr_top.specs.Served.{IsServed}
use Rattle.updr_top.specs.Verify.{verify_form, verify_rows, verify_sound}
use Rattle.up_rounds.specs.Courses.{IsRun}
use Rattle.updr_top.proofs.Complete.{is_complete, search_answers, search_unrefused, searched}
use Rattle.updr_top.proofs.Finished.{free_finished}
use Rattle.updr_top.proofs.Left.{IsBare}
use Rattle.updr_top.proofs.Shown.{Finishes, IsInferEnd, Runs, answered, has_shown, infer_end, is_search}

-- ---- one command

sound : (history : List Event) → AreSound (free_command history ∷ [])
sound history = (
  sound_model free_form (λ job. if_stratified purpose.Infer (search_rows (RunsFreely history) job))
      (sound_stratified purpose.Infer free_form (search_rows (RunsFreely history)) (free_sound history)),
  tt,
)

-- some history with which the command of that history ends so
pub record EndsWith (o : Outside) (words : List (List ℕ)) (e : End CoreView) : Type 0 where
  pub history : List Event
  pub named : IsNamed (free_command history) words
  pub may : MayEndBy (free_command history) o words e

ends_with : (o : Outside) (words : List (List ℕ)) (e : End CoreView) → MayEndFreely o words e → EndsWith o words e
ends_with o words e m = of m.comes
  where
    of : RefusesFirst o m.asks.job.files e ⊎ ((contents : Contents) × AreContents o m.asks.job.files contents × EndsFreely m.asks.job contents e) → EndsWith o words e
    of (inl refused) = record { history = []; named = m.asks.named; may = inr (m.asks.job, m.asks.asked, inl refused) }
    of (inr (contents, are, (history, ends))) = record { history = history; named = m.asks.named; may = inr (m.asks.job, m.asks.asked, inr (contents, are, ends)) }

finishes : (history : List Event) → Finishes (RunsFreely history)
finishes history sys order limits c ran = free_finished sys order limits c ran.0

runs : (history : List Event) → Runs (RunsFreely history) IsFree
runs history c good ran = ran.0

module _ (words : List (List ℕ)) (call : Call CoreView) where
  -- ---- by a history

  module _ (history : List Event) (a : IsAnswer (MayEnd (free_command history ∷ []) call.files words) call.out call.err call.number call.left) where
    abbrev its : Answers (free_command history ∷ []) words call
    its = answers call (free_command history ∷ []) words (sound history) a

    complete : IsGoodCall (free_command history) (IsStratifiedFor purpose.Infer) words call → (call.number ≤ 5) ⊎ (call.number ≡ 16)
    complete h =
        search_answers h.contents call.number ((free_command history).rows h.job) (searched h.contents call.number (RunsFreely history) search_text (limits_of h.job))
        (its.complete.0 h.named h.job h.asked h.contents
        (record { good = h.good; out_quiet = h.out_quiet; err_quiet = h.err_quiet; unrefused = search_unrefused h.contents h.sys h.names h.means (RunsFreely history) search_text (limits_of h.job) h.is }))

    high : call.number < 10 → 10 ≤ number_of a.meant.status → ⊥
    high low h = let is = answered words call a.meant a.told low in omega (arith, is, low, h)

    -- ---- an end that was told

    abbrev Ended : Type 0
    Ended = IsInferEnd (RunsFreely history) free_form call.files words a.meant

    left_by : (s : Ended) → call.left ≡ Some s.end.reports.core
    left_by s = a.handed_on ∙ ap (λ (x : End CoreView). x.left) s.end.is ∙ s.end.reports.left_is

    leaves : IsBare a.meant ⊎ Ended → call.number < 10 → (core : CoreView) × (call.left ≡ Some core)
    leaves (inl b) low = absurd (high low b.high)
    leaves (inr s) low = (s.end.reports.core, left_by s)

    shows : IsNamed (free_command history) words → IsBare a.meant ⊎ Ended → (core : CoreView) → call.left ≡ Some core → HasShown free_form IsFree words call core
    shows named (inl b) core left = none_is_some core (sym b.nothing ∙ sym a.handed_on ∙ left)
    shows named (inr s) core left =
        has_shown words call a.meant a.told core (RunsFreely history) free_form IsFree (finishes history) (runs history) named s (some_core s.end.reports.core core (sym (left_by s) ∙ left))
      where
        some_core : (c d : CoreView) → Some c ≡ Some d → c ≡ d
        some_core c d is = cc

  -- ---- the clauses

  module _ (a : IsAnswer (MayEndFreely call.files words) call.out call.err call.number call.left) where
    as_ended : EndsWith call.files words a.meant → IsFreelyServed words call
    as_ended w =
        let h = w.history in
        let b : IsAnswer (MayEnd (free_command h ∷ []) call.files words) call.out call.err call.number call.left =
        record { meant = a.meant; comes = inl (inl (w.named, w.may)); told = a.told; handed_on = a.handed_on } in
        let end = infer_end (RunsFreely h) free_form call.files words a.meant w.may in record {
          history = h;
          answers = its h b;
          complete = complete h b;
          leaves = leaves h b end;
          shows = shows h b w.named end;
        }

    as_refused : a.meant ≡ out_of_memory → IsFreelyServed words call
    as_refused none =
        let b : IsAnswer (MayEnd (free_command [] ∷ []) call.files words) call.out call.err call.number call.left =
        record { meant = a.meant; comes = inr none; told = a.told; handed_on = a.handed_on } in record {
          history = [];
          answers = its [] b;
          complete = complete [] b;
          leaves = λ low. absurd (high [] b low (subst (λ (x : End CoreView). 10 ≤ number_of x.status) (sym none) (omega arith)));
          shows = λ core left. none_is_some core (sym (ap (λ (x : End CoreView). x.left) none) ∙ sym a.handed_on ∙ left);
        }

    pub freely_served : IsFreelyServed words call
    freely_served = of a.comes
      where
        of : MayEndFreely call.files words a.meant ⊎ (a.meant ≡ out_of_memory) → IsFreelyServed words call
        of (inl m) = as_ended (ends_with call.files words a.meant m)
        of (inr none) = as_refused none

    -- ---- words that ask for no free workers: memory was refused while they were read

    module _ (other : ¬ AsksFree words) where
      abbrev plain : Answers commands words call
      plain = answers call commands words all_sound (record { meant = a.meant; comes = inr (none a.comes); told = a.told; handed_on = a.handed_on })
        where
          all_sound : AreSound commands
          all_sound = (
            sound_model check_form check_rows check_sound,
            (
              sound_model verify_form (λ job. if_stratified purpose.Verify (verify_rows job)) (sound_stratified purpose.Verify verify_form verify_rows verify_sound),
              (
                sound_model bmc_form (λ job. if_stratified purpose.Infer (bmc_rows job)) (sound_stratified purpose.Infer bmc_form bmc_rows bmc_sound),
                (
                  sound_model infer_form (λ job. if_stratified purpose.Infer (search_rows IsRun job)) (sound_stratified purpose.Infer infer_form (search_rows IsRun) infer_sound),
                  (demo_sound, tt),
                ),
              ),
            ),
          )

          none : MayEndFreely call.files words a.meant ⊎ (a.meant ≡ out_of_memory) → a.meant ≡ out_of_memory
          none (inl m) = absurd (other m.asks)
          none (inr is) = is

      pub served : IsServed words call
      served = record { answers = plain; complete = is_complete words call plain.complete }

      pub is_searched : IsSearch words call
      is_searched = is_search words call plain.answer
