-- Who reports, what jobs are out after it, and what comes once the steps are spent.
use Rattle.std.proofs.Common.{◌≡◌, ℕ, ◌≤◌, ◌<◌, ◌⊎◌, inl, inr, Some, refl, ap, subst, arith}
use Rattle.fo_core.specs.declared.system.System.{System}
use Rattle.up_machine.specs.declared.limits.Limits.{Limits}
use Rattle.up_machine.specs.declared.end.End.{End}
use Rattle.up_machine.specs.declared.end.End.TheVariants as N
use Rattle.up_machine.specs.declared.event.Why.TheVariants as Y
use Rattle.up_machine.specs.declared.event.Origin.TheVariants as O
use Rattle.up_machine.specs.declared.event.Event.{Event}
use Rattle.up_machine.specs.declared.event.Event.TheVariants as E
use Rattle.up_machine.specs.Machine.{Given, Work, Look, Push, Trace, Machine, held_by}
use Rattle.up_machine.specs.Finding.{HoldsJob, HoldsWork, HoldsLook, HoldsPush, HoldsTrace}
use Rattle.up_machine.specs.Legal.{MayRefute, of_seed, of_step, of_fail}
use Rattle.up_machine.specs.Replay.{released, happens}
use Rattle.up_machine.specs.Rounds.{IsReport}

module _ (m : Machine) (seat : ℕ) where
  holds : (w : ℕ) (g : Given) → w ≡ seat → held_by m.jobs w ≡ Some g → HoldsJob m seat
  holds w g same held = record { given = g; held = subst (λ v. held_by m.jobs v ≡ Some g) same held }

  by_look : (w : ℕ) → w ≡ seat → HoldsLook m w → HoldsJob m seat
  by_look w same h = holds w (Look h.level h.frame h.avoid h.done) same h.held

  by_work : (w : ℕ) → w ≡ seat → HoldsWork m w → HoldsJob m seat
  by_work w same h = holds w (Work h.obligation h.level h.below h.world) same h.held

  by_push : (w : ℕ) → w ≡ seat → HoldsPush m w → HoldsJob m seat
  by_push w same h = holds w (Push h.clause h.level h.frame h.cube) same h.held

  by_trace : (w : ℕ) → w ≡ seat → HoldsTrace m w → HoldsJob m seat
  by_trace w same h = holds w (Trace h.obligation h.steps) same h.held

pub holder : (sys : System) (limits : Limits) (m : Machine) (seat : ℕ) (e : Event) → IsReport sys limits m seat e → HoldsJob m seat
holder sys limits m seat (E.Seed w s) r = by_look m seat w r.by_seat r.legal.allowed.look
holder sys limits m seat (E.Secure w) r = by_look m seat w r.by_seat r.legal.allowed.look
holder sys limits m seat (E.Return w (Y.Refuted p c)) r = by_found r.legal.allowed
  where
    by_found : MayRefute sys m w p c → HoldsJob m seat
    by_found (of_seed may) = by_look m seat w r.by_seat may.look
    by_found (of_step may) = by_work m seat w r.by_seat may.work
    by_found (of_fail may) = by_push m seat w r.by_seat may.push
holder sys limits m seat (E.Return w Y.NoMore) r = by_look m seat w r.by_seat r.legal.allowed.look
holder sys limits m seat (E.Return w Y.Spent) r = absurd r.kind
holder sys limits m seat (E.Return w Y.NoMemory) r = absurd r.kind
holder sys limits m seat (E.Learn w cube) r = by_work m seat w r.by_seat r.legal.allowed.work
holder sys limits m seat (E.Before w (O.Initial u)) r = by_work m seat w r.by_seat r.legal.allowed.work
holder sys limits m seat (E.Before w (O.Step p)) r = by_work m seat w r.by_seat r.legal.allowed.work
holder sys limits m seat (E.Drop w c) r = by_work m seat w r.by_seat r.legal.allowed.work
holder sys limits m seat (E.Raise w) r = by_push m seat w r.by_seat r.legal.allowed.push
holder sys limits m seat (E.Fail w p) r = by_push m seat w r.by_seat r.legal.allowed.push
holder sys limits m seat (E.Close w (N.Unsafe run)) r = by_trace m seat w r.by_seat r.legal.allowed.trace
holder sys limits m seat (E.Close w N.NoUniversal) r = by_trace m seat w r.by_seat r.legal.allowed.trace
holder sys limits m seat (E.Close w (N.Over kind x)) r = holds m seat w r.legal.allowed.job.given r.by_seat r.legal.allowed.job.held
holder sys limits m seat (E.Close w (N.Safe i)) r = absurd r.kind
holder sys limits m seat (E.Close w N.Bounded) r = absurd r.kind
holder sys limits m seat (E.Close w N.Spent) r = absurd r.kind
holder sys limits m seat (E.Take w job) r = absurd r.kind
holder sys limits m seat (E.Advance w) r = absurd r.kind
holder sys limits m seat (E.Retire w gone by) r = absurd r.kind

-- what costs nothing
abbrev IsFreeReport : ℕ → Event → Type 0
IsFreeReport seat e = (e ≡ E.Return seat Y.NoMore) ⊎ ((end : End) × (e ≡ E.Close seat end))

spent_clash : {A : Type 0} (n steps : ℕ) → steps ≤ n → n < steps → A
spent_clash n steps spent left = absurd (omega (arith, spent, left))

pub free_reports : (sys : System) (limits : Limits) (m : Machine) (seat : ℕ) (e : Event) → limits.steps ≤ m.productive → IsReport sys limits m seat e → IsFreeReport seat e
free_reports sys limits m seat (E.Seed w s) spent r = spent_clash m.productive limits.steps spent (r.legal.affordable refl)
free_reports sys limits m seat (E.Secure w) spent r = spent_clash m.productive limits.steps spent (r.legal.affordable refl)
free_reports sys limits m seat (E.Learn w c) spent r = spent_clash m.productive limits.steps spent (r.legal.affordable refl)
free_reports sys limits m seat (E.Before w o) spent r = spent_clash m.productive limits.steps spent (r.legal.affordable refl)
free_reports sys limits m seat (E.Drop w c) spent r = spent_clash m.productive limits.steps spent (r.legal.affordable refl)
free_reports sys limits m seat (E.Raise w) spent r = spent_clash m.productive limits.steps spent (r.legal.affordable refl)
free_reports sys limits m seat (E.Fail w p) spent r = spent_clash m.productive limits.steps spent (r.legal.affordable refl)
free_reports sys limits m seat (E.Return w (Y.Refuted p c)) spent r = spent_clash m.productive limits.steps spent r.kind
free_reports sys limits m seat (E.Return w Y.NoMore) spent r = inl (ap (λ v. E.Return v Y.NoMore) r.by_seat)
free_reports sys limits m seat (E.Return w Y.Spent) spent r = absurd r.kind
free_reports sys limits m seat (E.Return w Y.NoMemory) spent r = absurd r.kind
free_reports sys limits m seat (E.Close w x) spent r = inr (x, ap (λ v. E.Close v x) r.by_seat)
free_reports sys limits m seat (E.Take w job) spent r = absurd r.kind
free_reports sys limits m seat (E.Advance w) spent r = absurd r.kind
free_reports sys limits m seat (E.Retire w gone by) spent r = absurd r.kind

-- a report ends the job of its seat
module _ (sys : System) (limits : Limits) where
  pub report_jobs : (m : Machine) (seat : ℕ) (e : Event) → IsReport sys limits m seat e → (happens m e).jobs ≡ released seat m.jobs
  report_jobs m seat (E.Take w job) r = absurd r.kind
  report_jobs m seat (E.Advance w) r = absurd r.kind
  report_jobs m seat (E.Retire w gone by) r = absurd r.kind
  report_jobs m seat (E.Close w (N.Safe i)) r = absurd r.kind
  report_jobs m seat (E.Close w N.Bounded) r = absurd r.kind
  report_jobs m seat (E.Close w N.Spent) r = absurd r.kind
  report_jobs m seat (E.Close w (N.Unsafe x)) r = ap (λ v. released v m.jobs) r.by_seat
  report_jobs m seat (E.Close w N.NoUniversal) r = ap (λ v. released v m.jobs) r.by_seat
  report_jobs m seat (E.Close w (N.Over kind x)) r = ap (λ v. released v m.jobs) r.by_seat
  report_jobs m seat (E.Seed w s) r = ap (λ v. released v m.jobs) r.by_seat
  report_jobs m seat (E.Return w y) r = ap (λ v. released v m.jobs) r.by_seat
  report_jobs m seat (E.Learn w c) r = ap (λ v. released v m.jobs) r.by_seat
  report_jobs m seat (E.Before w o) r = ap (λ v. released v m.jobs) r.by_seat
  report_jobs m seat (E.Drop w c) r = ap (λ v. released v m.jobs) r.by_seat
  report_jobs m seat (E.Raise w) r = ap (λ v. released v m.jobs) r.by_seat
  report_jobs m seat (E.Fail w p) r = ap (λ v. released v m.jobs) r.by_seat
  report_jobs m seat (E.Secure w) r = ap (λ v. released v m.jobs) r.by_seat
