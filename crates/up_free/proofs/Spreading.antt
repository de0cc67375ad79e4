-- What the workers of a range leave, through joins and to the end.
use Rattle.std.proofs.Common.{◌≡◌, ℕ, ◌≤◌, min, max, List, sym, subst, ◌∙◌, arith}
use mathlib.Core.Logic.{dite}
use native.Mathlib.Decide.{dec_le}
use Rattle.turnstile.specs.History.{Continues}
use Rattle.turnstile.specs.Views.{IsOf, IsOutside, HasNumbers}
use Rattle.up_machine.specs.declared.event.Event.{Event}
use Rattle.up_machine.specs.Replay.{worker_of}
use Rattle.up_visits.specs.GivingUp.{GivesUpLast}
use Rattle.up_visits.specs.Passes.{CorePass, CoreTurnstile}
use Rattle.up_free.specs.Crew.{EachGivesUpLast, IsSpent}

-- what holds of each worker of a range holds in a history that goes on from what the range has seen
pub still_last : (from to : ℕ) (seen log : List Event) → Continues worker_of from to seen log → EachGivesUpLast from to seen → EachGivesUpLast from to log
still_last from to seen log goes h w a b = subst GivesUpLast (sym (goes.own w a b)) (h w a b)

-- of two ranges that touch
both_ranges : (from at to : ℕ) (log : List Event) → EachGivesUpLast from at log → EachGivesUpLast at to log → EachGivesUpLast from to log
both_ranges from at to log low high w a b = dite (dec_le at w) (λ le. high w le b) (λ no. low w a (omega arith))

module _ (t : CoreTurnstile) (p lo hi low high new : CorePass) (at : ℕ) where
  pub joined : HasNumbers lo p.from at → HasNumbers hi at p.to → p.from ≤ at → at ≤ p.to
      → IsSpent t lo.from lo.to low → IsSpent t hi.from hi.to high
      → IsOf t new → IsOutside new → HasNumbers new (min low.from high.from) (max low.to high.to)
      → Continues worker_of low.from low.to low.seen new.seen → Continues worker_of high.from high.to high.seen new.seen
      → IsSpent t p.from p.to new
  joined a b below above l h own outside numbers goes goes' =
      let a0 = a.0 in
      let a1 = a.1 in
      let b0 = b.0 in
      let b1 = b.1 in
      let l0 = l.numbers.0 in
      let l1 = l.numbers.1 in
      let h0 = h.numbers.0 in
      let h1 = h.numbers.1 in
      let n0 = numbers.0 in
      let n1 = numbers.1 in
      let lowest : low.from ≡ p.from = l0 ∙ a0 in
      let middle : low.to ≡ at = l1 ∙ a1 in
      let middle' : high.from ≡ at = h0 ∙ b0 in
      let highest : high.to ≡ p.to = h1 ∙ b1 in
      let low_last : EachGivesUpLast p.from at low.seen = subst (λ i. EachGivesUpLast i at low.seen) a0 (subst (λ j. EachGivesUpLast lo.from j low.seen) a1 l.last) in
      let high_last : EachGivesUpLast at p.to high.seen = subst (λ i. EachGivesUpLast i p.to high.seen) b0 (subst (λ j. EachGivesUpLast hi.from j high.seen) b1 h.last) in
      let low_goes : Continues worker_of p.from at low.seen new.seen = subst (λ i. Continues worker_of i at low.seen new.seen) lowest (subst (λ j. Continues worker_of low.from j low.seen new.seen) middle goes) in
      let high_goes : Continues worker_of at p.to high.seen new.seen = subst (λ i. Continues worker_of i p.to high.seen new.seen) middle' (subst (λ j. Continues worker_of high.from j high.seen new.seen) highest goes') in
      record {
        own = own;
        outside = outside;
        numbers = (omega (arith, n0, lowest, middle', below), omega (arith, n1, middle, highest, above));
        last = both_ranges p.from at p.to new.seen (still_last p.from at low.seen new.seen low_goes low_last) (still_last at p.to high.seen new.seen high_goes high_last);
      }

-- at the end
pub last_of_all : (from to first end : ℕ) (seen log : List Event) → from ≡ first → to ≡ end → Continues worker_of from to seen log → EachGivesUpLast first end seen → EachGivesUpLast first end log
last_of_all from to first end seen log f e goes h = still_last first end seen log (subst (λ i. Continues worker_of i end seen log) f (subst (λ j. Continues worker_of from j seen log) e goes)) h
