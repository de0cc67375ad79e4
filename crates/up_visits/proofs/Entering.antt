-- What a worker finds when it enters, of what its pass had seen.
use Rattle.std.proofs.Common.{◌≡◌, inl, inr, ℕ, ◌+◌, ◌++◌, sym, ap, subst, ◌∙◌, arith}
use Rattle.turnstile.specs.History.{Continues}
use Rattle.up_machine.specs.declared.brief.Brief.{Brief}
use Rattle.up_machine.specs.Finding.{HoldsJob}
use Rattle.up_machine.specs.Machine.{held_by}
use Rattle.up_machine.specs.Replay.{replay, worker_of}
use Rattle.up_jobs.specs.declared.solved.Solved.{Solved}
use Rattle.up_jobs.specs.Solving.{IsBriefOf, IsSolved}
use Rattle.up_core.specs.Shared.{basis_of}
use Rattle.up_core.specs.View.{CoreView, now}
use Rattle.up_seats.specs.Seats.{IsAnswered, IsBriefed}
use Rattle.up_core.specs.declared.kept_value.Basis.{Basis}
use Rattle.up_visits.specs.Passes.{CorePass, CoreTurnstile, HasEnded, IsIdle, own_events, events_of, seen_core}
use Rattle.up_visits.proofs.OthersEvents.{still_held, still_ended}

module _ (t : CoreTurnstile) (p : CorePass) (c : CoreView) (w : ℕ) (base : basis_of c ≡ t.base) (goes : Continues worker_of p.from p.to p.seen c.history) (one : p.to ≡ p.from + 1) (worker : w ≡ p.from) where
  pub found_own : events_of p.from c.history ≡ own_events p
  found_own = goes.own p.from (omega arith) (omega arith)

  -- what the worker holds is what it held when it left
  found_held : held_by (now c).jobs p.from ≡ held_by (replay p.seen).jobs p.from
  found_held =
      let more = goes.begins.0 in
      let log : c.history ≡ p.seen ++ more = goes.begins.1 in
      ap (λ h. held_by (replay h).jobs p.from) log ∙ still_held p.seen more p.from (sym (ap (events_of p.from) log) ∙ found_own)

  same_held : held_by (now c).jobs w ≡ held_by (replay p.seen).jobs p.from
  same_held = ap (held_by (now c).jobs) worker ∙ found_held

  pub found_idle : IsIdle (now (seen_core t p)) p.from → IsIdle (now c) w
  found_idle (inl none) = inl (same_held ∙ none)
  found_idle (inr ended) = inr (subst (λ h. HasEnded (replay h)) (sym goes.begins.1) (still_ended p.seen goes.begins.0 ended))

  pub found_job : HoldsJob (now (seen_core t p)) p.from → HoldsJob (now c) w
  found_job h = record { given = h.given; held = same_held ∙ h.held }

  -- the answer to the brief is one to what the worker holds now, as it was given at the take
  pub found_answered : (brief : Brief) (solved : Solved) → IsBriefed (seen_core t p) p.from brief → IsSolved t.base.sys t.base.limits.weight brief solved → IsAnswered c w brief solved
  found_answered brief solved b answer = (
    b.given,
    record {
      held = same_held ∙ b.held;
      brief_is = subst (λ (x : Basis). IsBriefOf x.sys.sig b.given brief) (sym base) b.brief_is;
      answer = subst (λ (x : Basis). IsSolved x.sys x.limits.weight brief solved) (sym base) answer;
    },
  )
