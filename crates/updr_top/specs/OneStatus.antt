-- The status of a verdict, of which a history tells one alone.
use Rattle.std.proofs.Common.{◌≡◌, ◌∙◌, ℕ, List, Some, refl, sym, ap, subst}
use Rattle.fo_core.specs.declared.system.System.{System}
use Rattle.up_claims.specs.declared.verdict.Verdict.{Verdict}
use Rattle.up_claims.specs.declared.verdict.Verdict.TheVariants as verdict
use Rattle.up_machine.specs.declared.end.End.{End}
use Rattle.up_machine.specs.declared.end.End.TheVariants as N
use Rattle.up_machine.specs.declared.event.Event.{Event}
use Rattle.up_machine.specs.declared.event.Event.TheVariants as E
use Rattle.up_machine.specs.Machine.{Machine}
use Rattle.up_machine.specs.Replay.{replay}
use Rattle.up_machine.specs.Told.{IsToldBy, Told}
use Rattle.up_machine.proofs.Histories.{replay-push}
use Rattle.up_machine.proofs.Lists.{some_injective}
use Rattle.updr_told.specs.declared.status.Status.{Status}
use Rattle.updr_told.specs.declared.status.Status.TheVariants as status

-- the status with which a verdict is reported
abbrev pub status_of : Verdict → Status
status_of (verdict.Safe frame clauses) = status.Holds
status_of (verdict.Unsafe run) = status.Unsafe
status_of (verdict.NoUniversal links) = status.NoUniversal
status_of (verdict.Bounded last clauses leaves) = status.Bounded
status_of (verdict.Spent steps) = status.Spent
status_of (verdict.Over kind weight) = status.Over
status_of (verdict.NoRun steps) = status.Holds

-- ---- an end tells verdicts of one status

abbrev status_of_end : End → Status
status_of_end (N.Safe level) = status.Holds
status_of_end (N.Unsafe run) = status.Unsafe
status_of_end N.NoUniversal = status.NoUniversal
status_of_end N.Bounded = status.Bounded
status_of_end N.Spent = status.Spent
status_of_end (N.Over kind excess) = status.Over

told_status : (sys : System) (m : Machine) (w : ℕ) (end : End) (told : Verdict) → IsToldBy sys m w end told → status_of told ≡ status_of_end end
told_status sys m w (N.Safe level) (verdict.Safe frame clauses) tells = refl
told_status sys m w (N.Unsafe run) (verdict.Unsafe other) tells = refl
told_status sys m w N.NoUniversal (verdict.NoUniversal links) tells = refl
told_status sys m w N.Bounded (verdict.Bounded last clauses leaves) tells = refl
told_status sys m w N.Spent (verdict.Spent steps) tells = refl
told_status sys m w (N.Over kind excess) (verdict.Over what weight) tells = refl
told_status sys m w end told tells = absurd tells

-- a history that tells a verdict ends its machine by the end that tells it
pub told_end : (sys : System) (history : List Event) (verdict : Verdict) (t : Told sys history verdict) → (replay history).ending ≡ Some t.end
told_end sys history verdict t = ap (λ (h : List Event). (replay h).ending) t.closes ∙ ap (λ (m : Machine). m.ending) (replay-push t.before (E.Close t.worker t.end))

-- so all verdicts that it tells have one status
same_status : (sys : System) (history : List Event) (u v : Verdict) → Told sys history u → Told sys history v → status_of u ≡ status_of v
same_status sys history u v s t =
    let same = some_injective s.end t.end (sym (told_end sys history u s) ∙ told_end sys history v t) in
    told_status sys (replay s.before) s.worker s.end u s.tells ∙ ap status_of_end same ∙ sym (told_status sys (replay t.before) t.worker t.end v t.tells)

-- one history tells verdicts of one status
pub one_status : (sys : System) (h k : List Event) → h ≡ k → (u v : Verdict) (a b : Status)
    → Told sys h u → Told sys k v → status_of u ≡ a → status_of v ≡ b → a ≡ b
one_status sys h k one u v a b s t is other =
    sym is ∙ same_status sys h u v s (subst (λ (x : List Event). Told sys x v) (sym one) t) ∙ other
