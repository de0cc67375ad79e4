-- Properties are inductive exactly where no world of one or two copies shows that one fails.
use Rattle.std.proofs.Common.{◌≡◌, ℕ, ◌+◌, ◌<◌, ◌↔◌, ◌⊎◌, inl, inr, [], length, refl, sym, subst, ◌∙◌, arith, length-append}
use Rattle.std.proofs.lemmas.List.{get_or_default}
use Rattle.std.proofs.lemmas.List.Elements.{All-append}
use Rattle.std.specs.List.{All}
use Rattle.fo_core.specs.declared.system.System.{System}
use Rattle.fo_core.specs.declared.formula.Formula.TheVariants as F
use Rattle.fo_core.specs.declared.world.World.{World}
use Rattle.fo_core.specs.RunLaws.{KeepsAlone, KeepsPair}
use Rattle.fo_core.specs.Runs.{IsInitial, IsStep, LeadsOn, alone, pair}
use Rattle.fo_core.specs.Sorted.{IsFormula, IsSystem}
use Rattle.fo_core.specs.Tables.{Fits}
use Rattle.fo_core.specs.Truth.{Truth}
use Rattle.fo_core.proofs.Decided.{tell}
use Rattle.fo_core.proofs.RunLemmas.{keeps-alone, keeps-pair}
use Rattle.up_claims.specs.Breaking.{BreaksAtInit, BreaksByStep}
use Rattle.up_claims.specs.Claims.{no_step, step_at, properties, property_at}
use Rattle.up_claims.specs.Inductive.{IsInductive, NothingBreaks}
use Rattle.up_claims.proofs.VerifyLemmas.{property-sorted}

module _ (sys : System) (is : IsSystem sys) where
  count : length (properties sys) ≡ length sys.safeties + length sys.invariants
  count = length-append sys.safeties sys.invariants

  all-true : (w : World) (c : ℕ) → ((p : ℕ) → p < length sys.safeties + length sys.invariants → Truth sys.sig w c (property_at sys p) []) → All (λ f. Truth sys.sig w c f []) (properties sys)
  all-true w c each p d lt = subst (λ f. Truth sys.sig w c f []) (get_or_default (properties sys) p F.True d lt) (each p (omega (arith, lt, count)))

  is-true : (w : World) (c p : ℕ) → p < length sys.safeties + length sys.invariants → All (λ f. Truth sys.sig w c f []) (properties sys) → Truth sys.sig w c (property_at sys p) []
  is-true w c p lt all = all p F.True (omega (arith, lt, count))

  pub inductive-there : IsInductive sys (properties sys) → NothingBreaks sys
  inductive-there h = record { at_init = at_init; by_step = by_step }
    where
      at_init : (p : ℕ) (w : World) → p < length sys.safeties + length sys.invariants → ¬ BreaksAtInit sys p w
      at_init p w lt b = b.broken (is-true w 0 p lt (h.starts w 0 b.fits (omega (arith, b.copies)) b.initial))

      by_step : (t p : ℕ) (w : World) → t < length sys.steps → p < length sys.safeties + length sys.invariants → ¬ BreaksByStep sys t p w
      by_step t p w known lt b =
          let stepping : IsStep sys w 0 = record { state = b.state; next_state = b.next_state; leads = (t, step_at sys t, known, get_or_default sys.steps t (step_at sys t) no_step known, b.leads) } in
          b.broken (is-true w 1 p lt (h.keeps w 0 b.fits (omega (arith, b.copies)) stepping b.holding))

  module _ (w : World) (c : ℕ) (fits : Fits sys.sig w) where
    starts-back : NothingBreaks sys → c < length w.copies → IsInitial sys w c → (p : ℕ) → p < length sys.safeties + length sys.invariants → Truth sys.sig w c (property_at sys p) []
    starts-back none lt start p has = by_case (tell sys.sig w c (property_at sys p) [])
      where
        kept : KeepsAlone sys w c
        kept = keeps-alone sys is w c

        same : Truth sys.sig w c (property_at sys p) [] ↔ Truth sys.sig (alone w c) 0 (property_at sys p) []
        same = kept.same.truth (property_at sys p) [] [] (property-sorted sys is p has)

        by_case : Truth sys.sig w c (property_at sys p) [] ⊎ (¬ Truth sys.sig w c (property_at sys p) []) → Truth sys.sig w c (property_at sys p) []
        by_case (inl t) = t
        by_case (inr fails) = absurd (none.at_init p (alone w c) has (record {
          fits = kept.fits fits lt;
          copies = refl;
          initial = kept.same.initial.0 start;
          broken = λ t. fails (same.1 t);
        }))

    keeps-back : NothingBreaks sys → c + 1 < length w.copies → IsStep sys w c → All (λ f. Truth sys.sig w c f []) (properties sys) → (p : ℕ) → p < length sys.safeties + length sys.invariants → Truth sys.sig w (c + 1) (property_at sys p) []
    keeps-back none lt stepping holding p has = by_case (tell sys.sig w (c + 1) (property_at sys p) [])
      where
        kept : KeepsPair sys w c
        kept = keeps-pair sys is w c

        same : Truth sys.sig w (c + 1) (property_at sys p) [] ↔ Truth sys.sig (pair w c) 1 (property_at sys p) []
        same = kept.same_second.truth (property_at sys p) [] [] (property-sorted sys is p has)

        found : LeadsOn sys w c (step_at sys stepping.leads.0)
        found = subst (LeadsOn sys w c) (sym stepping.leads.3 ∙ get_or_default sys.steps stepping.leads.0 stepping.leads.1 no_step stepping.leads.2) stepping.leads.4

        holding_there : All (λ f. Truth sys.sig (pair w c) 0 f []) (properties sys)
        holding_there = all-true (pair w c) 0 (λ q lt. (kept.same_first.truth (property_at sys q) [] [] (property-sorted sys is q lt)).0 (is-true w c q lt holding))

        by_case : Truth sys.sig w (c + 1) (property_at sys p) [] ⊎ (¬ Truth sys.sig w (c + 1) (property_at sys p) []) → Truth sys.sig w (c + 1) (property_at sys p) []
        by_case (inl true_there) = true_there
        by_case (inr fails) = absurd (none.by_step stepping.leads.0 p (pair w c) stepping.leads.2 has (record {
          fits = kept.fits fits lt;
          copies = refl;
          state = kept.same_first.state.0 stepping.state;
          next_state = kept.same_second.state.0 stepping.next_state;
          holding = holding_there;
          leads = (kept.same.leads (step_at sys stepping.leads.0) (is.steps stepping.leads.0 no_step stepping.leads.2)).0 found;
          broken = λ true_there. fails (same.1 true_there);
        }))

  pub inductive-back : NothingBreaks sys → IsInductive sys (properties sys)
  inductive-back none = record {
    closed = All-append (λ f. IsFormula sys.sig 1 f []) sys.safeties sys.invariants is.safeties is.invariants;
    starts = λ w c fits lt start. all-true w c (starts-back w c fits none lt start);
    keeps = λ w c fits lt stepping holding. all-true w (c + 1) (keeps-back w c fits none lt stepping holding);
  }
