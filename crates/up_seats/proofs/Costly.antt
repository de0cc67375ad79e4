-- What a seat can't report, by the answer to its job.
use Rattle.std.proofs.Common.{◌≡◌, ℕ, ◌≤◌, ◌⊎◌, inl, inr, false, Some, refl, sym, subst, ◌∙◌, true≢false}
use Rattle.std.specs.Prelude.{⊤}
use Rattle.fo_core.specs.declared.system.System.{System}
use Rattle.fo_min.specs.declared.found.Excess.{Excess}
use Rattle.up_claims.specs.declared.kind.Kind.{Kind}
use Rattle.up_machine.specs.declared.end.End.{End}
use Rattle.up_machine.specs.declared.end.End.TheVariants as N
use Rattle.up_machine.specs.declared.event.Event.{Event}
use Rattle.up_machine.specs.declared.event.Event.TheVariants as E
use Rattle.up_machine.specs.declared.event.Why.TheVariants as Y
use Rattle.up_machine.specs.declared.limits.Limits.{Limits}
use Rattle.up_machine.specs.Due.{IsTrace, job_of}
use Rattle.up_machine.specs.Finding.{HoldsLook, HoldsTrace}
use Rattle.up_machine.specs.Legal.{IsLegal, MayFindNoMore}
use Rattle.up_machine.specs.Machine.{Given, Look, Trace, Machine, held_by}
use Rattle.up_machine.specs.Replay.{is_productive, worker_of}
use Rattle.up_machine.specs.Rounds.{IsOver, IsReport, IsRoundReport}
use Rattle.up_machine.proofs.Lists.{some_injective}
use Rattle.up_jobs.specs.Solving.{NoneOver}
use Rattle.up_jobs.specs.Solving.{IsOver as IsOverFor}
use Rattle.up_core.specs.Known.{IsKnown}
use Rattle.up_core.specs.View.{CoreView, now}
use Rattle.up_seats.specs.Telling.{CostsStep, IsToTell}
use Rattle.up_seats.proofs.Reporting.{free_reports}

abbrev pub IsLook : Given → Type 0
IsLook (Look level frame avoid done) = ⊤
IsLook given = ⊥

module _ (sys : System) (limits : Limits) (m : Machine) (seat : ℕ) (given : Given) (held : held_by m.jobs seat ≡ Some given) where
  -- a seat holds one job
  pub same-held : (w : ℕ) (g : Given) → w ≡ seat → held_by m.jobs w ≡ Some g → g ≡ given
  same-held w g same h = some_injective g given (sym (subst (λ v. held_by m.jobs v ≡ Some g) same h) ∙ held)

  pub not-over : NoneOver sys limits.weight given → (e : Event) → worker_of e ≡ seat → IsOver e → ¬ IsLegal sys limits m e
  not-over none (E.Close w (N.Over kind x)) by over legal =
      let job = legal.allowed.job in
      none kind x (subst (λ g. IsOverFor sys limits.weight g kind x) (same-held w job.given by job.held) legal.allowed.above)
  not-over none e by over legal = over

  traces : ¬ IsTrace (job_of given) → ¬ HoldsTrace m seat
  traces no_trace t = no_trace (subst (λ g. IsTrace (job_of g)) (same-held seat (Trace t.obligation t.steps) refl t.held) tt)

  pub not-look : ¬ IsLook given → ¬ HoldsLook m seat
  not-look other h = other (subst IsLook (same-held seat (Look h.level h.frame h.avoid h.done) refl h.held) tt)

  no-close : NoneOver sys limits.weight given → ¬ IsTrace (job_of given) → (end : End) → ¬ IsReport sys limits m seat (E.Close seat end)
  no-close none no_trace (N.Unsafe run) r = traces no_trace r.legal.allowed.trace
  no-close none no_trace N.NoUniversal r = traces no_trace r.legal.allowed.trace
  no-close none no_trace (N.Over kind x) r = not-over none (E.Close seat (N.Over kind x)) refl tt r.legal
  no-close none no_trace (N.Safe i) r = r.kind
  no-close none no_trace N.Bounded r = r.kind
  no-close none no_trace N.Spent r = r.kind

  -- what a seat could report without a step is excluded
  none-free : NoneOver sys limits.weight given → ¬ IsTrace (job_of given) → ¬ MayFindNoMore sys m seat →
      limits.steps ≤ m.productive → (e : Event) → ¬ IsReport sys limits m seat e
  none-free none no_trace no_more spent e r = by (free_reports sys limits m seat e spent r)
    where
      by : (e ≡ E.Return seat Y.NoMore) ⊎ ((end : End) × (e ≡ E.Close seat end)) → ⊥
      by (inl is) = let same = subst (IsReport sys limits m seat) is r in no_more same.legal.allowed
      by (inr (end, is)) = no-close none no_trace end (subst (IsReport sys limits m seat) is r)

module _ (c : CoreView) (seat : ℕ) where
  pub costs-step : (given : Given) → held_by (now c).jobs seat ≡ Some given → NoneOver c.sys c.limits.weight given → ¬ IsTrace (job_of given) → ¬ MayFindNoMore c.sys (now c) seat → CostsStep c seat
  costs-step given held none no_trace no_more = record {
    none_over = not-over c.sys c.limits (now c) seat given held none;
    none_spent = none-free c.sys c.limits (now c) seat given held none no_trace no_more;
    no_trace = λ other held_too. λ trace. no_trace (subst (λ g. IsTrace (job_of g)) (some_injective other given (sym held_too ∙ held)) trace);
  }

  -- an event that costs a step, or is put back since a clause refutes what was found
  pub to-tell : (e : Event) → CostsStep c seat → worker_of e ≡ seat → IsKnown c e → IsRoundReport (now c) c.limits.steps e → IsToTell c seat e
  to-tell e costs by known kind = record {
    by_seat = by;
    known = known;
    kind = kind;
    over_first = λ f by_too over legal. absurd (costs.none_over f by_too over legal);
    costs = λ _. costs;
  }

  -- an event that costs none, of a job none of whose queries is too heavy
  pub to-tell-free : (e : Event) (given : Given) → held_by (now c).jobs seat ≡ Some given → NoneOver c.sys c.limits.weight given → worker_of e ≡ seat → is_productive e ≡ false → IsKnown c e → IsRoundReport (now c) c.limits.steps e → IsToTell c seat e
  to-tell-free e given held none by free known kind = record {
    by_seat = by;
    known = known;
    kind = kind;
    over_first = λ f by_too over legal. absurd (not-over c.sys c.limits (now c) seat given held none f by_too over legal);
    costs = λ costs. absurd (true≢false (sym costs ∙ free));
  }

  -- the run ends since a query is too heavy
  pub to-end-over : (kind : Kind) (x : Excess) → IsKnown c (E.Close seat (N.Over kind x)) → IsToTell c seat (E.Close seat (N.Over kind x))
  to-end-over kind x known = record {
    by_seat = refl;
    known = known;
    kind = tt;
    over_first = λ f by over legal. tt;
    costs = λ costs. absurd (true≢false (sym costs));
  }
