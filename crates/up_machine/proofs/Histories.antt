-- Histories that go on.
use Rattle.std.proofs.Common.{◌≡◌, ℕ, ◌↔◌, List, [], ◌∷◌, ◌++◌, refl, sym, subst}
use Rattle.fo_core.specs.declared.system.System.{System}
use Rattle.fo_core.specs.declared.world.World.{World}
use Rattle.up_machine.specs.declared.limits.Limits.{Limits}
use Rattle.up_machine.specs.declared.event.Event.{Event}
use Rattle.up_machine.specs.declared.event.Event.TheVariants as E
use Rattle.up_machine.specs.Machine.{Machine, start, IsIn}
use Rattle.up_machine.specs.Replay.{happens, run, replay}
use Rattle.up_machine.specs.Legal.{IsLegal, AreLegal, Legal}
use Rattle.up_machine.proofs.Frames.{retire_weaker, retire_stronger, frame_stronger, earlier}

pub run-append : (m : Machine) (es fs : List Event) → run m (es ++ fs) ≡ run (run m es) fs
run-append m [] fs = refl
run-append m (e ∷ es) fs = run-append (happens m e) es fs

pub replay-push : (history : List Event) (e : Event) → replay (history ++ e ∷ []) ≡ happens (replay history) e
replay-push history e = run-append start history (e ∷ [])

module _ (sys : System) (limits : Limits) where
  pub legal-first : (m : Machine) (es fs : List Event) → AreLegal sys limits m (es ++ fs) → AreLegal sys limits m es
  legal-first m [] fs h = tt
  legal-first m (e ∷ es) fs h = (h.0, legal-first (happens m e) es fs h.1)

  pub legal-rest : (m : Machine) (es fs : List Event) → AreLegal sys limits m (es ++ fs) → AreLegal sys limits (run m es) fs
  legal-rest m [] fs h = h
  legal-rest m (e ∷ es) fs h = legal-rest (happens m e) es fs h.1

  legal-both : (m : Machine) (es fs : List Event) → AreLegal sys limits m es → AreLegal sys limits (run m es) fs → AreLegal sys limits m (es ++ fs)
  legal-both m [] fs h k = k
  legal-both m (e ∷ es) fs h k = (h.0, legal-both (happens m e) es fs h.1 k)

  -- one more legal event
  pub legal-push : (history : List Event) (e : Event) → Legal sys limits history → IsLegal sys limits (replay history) e → Legal sys limits (history ++ e ∷ [])
  legal-push history e h k = legal-both start history (e ∷ []) h (k, tt)

  pub only_stronger : (before after : List Event) (i : ℕ) (w : World) (c : ℕ) → Legal sys limits (before ++ after) → IsIn sys (replay (before ++ after)) i w c → IsIn sys (replay before) i w c
  only_stronger before after i w c legal h =
      earlier sys limits (replay before) after i w c (legal-rest start before after legal) (subst (λ m. IsIn sys m i w c) (run-append start before after) h)

  pub retire_keeps : (history : List Event) (v gone by i : ℕ) (w : World) (c : ℕ) → Legal sys limits (history ++ E.Retire v gone by ∷ []) → IsIn sys (replay history) i w c ↔ IsIn sys (replay (history ++ E.Retire v gone by ∷ [])) i w c
  retire_keeps history v gone by i w c legal =
      let e = E.Retire v gone by in
      let m = replay history in
      let last = legal-rest start history (e ∷ []) legal in
      let there : happens m e ≡ replay (history ++ e ∷ []) = sym (replay-push history e) in (
        λ h. subst (λ n. IsIn sys n i w c) there (frame_stronger sys (happens m e).clauses m.clauses i w c (retire_weaker sys m gone by last.0.allowed) h),
        λ h. frame_stronger sys m.clauses (happens m e).clauses i w c (retire_stronger sys m gone by last.0.allowed) (subst (λ n. IsIn sys n i w c) (sym there) h),
      )

  -- a property of machines that each legal event keeps
  pub along : (P : Machine → Type 0) → ((m : Machine) (e : Event) → P m → IsLegal sys limits m e → P (happens m e)) → (m : Machine) (es : List Event) → P m → AreLegal sys limits m es → P (run m es)
  along P keeps m [] h legal = h
  along P keeps m (e ∷ es) h legal = along P keeps (happens m e) es (keeps m e h legal.0) legal.1
