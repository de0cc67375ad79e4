-- The history of the rounds is whole rounds.
use Rattle.std.proofs.Common.{◌≡◌, ℕ, suc, zero, ◌+◌, ◌≤◌, inl, inr, List, [], ◌∷◌, ◌++◌, length, Some, refl, sym, ap, subst, ◌∙◌, arith, append_assoc, append-nil, length-append}
use Rattle.fo_core.specs.declared.system.System.{System}
use Rattle.up_machine.specs.declared.limits.Limits.{Limits}
use Rattle.up_machine.specs.declared.end.End.{End}
use Rattle.up_machine.specs.declared.event.Event.{Event}
use Rattle.up_machine.specs.declared.event.Event.TheVariants as E
use Rattle.up_machine.specs.Machine.{Machine, start}
use Rattle.up_machine.specs.Replay.{happens, run, replay}
use Rattle.up_machine.specs.Rounds.{IsReport, Takes, GoesOnAt, IsNext, AreNext, Rounds}
use Rattle.up_machine.proofs.Histories.{run-append}
use Rattle.up_machine.proofs.Lists.{none_is_some}
use Rattle.up_rounds.specs.OneRound.{AreTakes, AreReports, AreJobs, IsRest, AreRounds, none, one_more}
use Rattle.up_rounds.proofs.Joining.{AllTake, AllReport, seat_after, from_first, Starts, starts_as, ComesAfter, BeginsAt, IsOpening, opening}
use Rattle.up_rounds.proofs.OneCourse.{no_take}

module _ (sys : System) (limits : Limits) where
  starts_next : (last : Event) (m : Machine) (es : List Event) → AreNext sys limits last m es → Starts sys limits (IsNext sys limits last m) m es
  starts_next last m [] h = tt
  starts_next last m (e ∷ es) h = h

  after_take : (m n : Machine) (seat : ℕ) (t f : Event) → Takes sys limits m seat t → IsNext sys limits t n f → ComesAfter sys limits n (suc seat) f
  after_take m n seat t f a h = subst (λ x. IsNext sys limits x n f) a.is h

  at_seat : (n : Machine) (w seat : ℕ) (f : Event) → w ≡ seat → GoesOnAt sys limits n (suc w) f → GoesOnAt sys limits n (suc seat) f
  at_seat n w seat f e g = subst (λ k. GoesOnAt sys limits n (suc k) f) e g

  after_report : (m : Machine) (seat : ℕ) (e f : Event) → IsReport sys limits m seat e → IsNext sys limits e (happens m e) f → GoesOnAt sys limits (happens m e) (suc seat) f
  after_report m seat (E.Take w job) f r h = absurd r.kind
  after_report m seat (E.Advance w) f r h = absurd r.kind
  after_report m seat (E.Retire w gone by) f r h = absurd r.kind
  after_report m seat (E.Close w x) f r h = absurd h
  after_report m seat (E.Seed w s) f r h = at_seat _ w seat f r.by_seat h
  after_report m seat (E.Return w y) f r h = at_seat _ w seat f r.by_seat h
  after_report m seat (E.Learn w c) f r h = at_seat _ w seat f r.by_seat h
  after_report m seat (E.Before w o) f r h = at_seat _ w seat f r.by_seat h
  after_report m seat (E.Drop w c) f r h = at_seat _ w seat f r.by_seat h
  after_report m seat (E.Raise w) f r h = at_seat _ w seat f r.by_seat h
  after_report m seat (E.Fail w p) f r h = at_seat _ w seat f r.by_seat h
  after_report m seat (E.Secure w) f r h = at_seat _ w seat f r.by_seat h

  -- the machine has ended after the events
  abbrev EndsAt : Machine → List Event → Type 0
  EndsAt m es = (end : End) × ((run m es).ending ≡ Some end)

  -- the first of the events are as is said, and then a round begins, if anything comes
  record IsParted (Are : List Event → Type 0) (m : Machine) (events : List Event) : Type 0 where
    first : List Event
    rest : List Event
    parts : events ≡ first ++ rest
    are : Are first
    begins : BeginsAt sys limits (run m first) rest

  -- with one more event before
  longer : (Are More : List Event → Type 0) (m : Machine) (e : Event) (es : List Event) → ((first : List Event) → Are first → More (e ∷ first)) → IsParted Are (happens m e) es → IsParted More m (e ∷ es)
  longer Are More m e es more p = record {
    first = e ∷ p.first;
    rest = p.rest;
    parts = ap (λ xs. e ∷ xs) p.parts;
    are = more p.first p.are;
    begins = p.begins;
  }

  part_reports : (m : Machine) (seat : ℕ) (es : List Event) → Starts sys limits (GoesOnAt sys limits m seat) m es → EndsAt m es → IsParted (AllReport sys limits m seat) m es
  part_reports m seat [] h c = record { first = []; rest = []; parts = refl; are = λ e a. none_is_some c.0 (sym a.legal.not_ended ∙ c.1); begins = tt }
  part_reports m seat (e ∷ es) (inl r, h) c =
      let n = happens m e in
      longer (AllReport sys limits n (suc seat)) (AllReport sys limits m seat) m e es (λ first a. (r, a))
      (part_reports n (suc seat) es (starts_as sys limits (IsNext sys limits e n) (GoesOnAt sys limits n (suc seat)) n es (λ f x. after_report m seat e f r x) (starts_next e n es h)) c)
  part_reports m seat (e ∷ es) (inr r, h) c = record { first = []; rest = e ∷ es; parts = refl; are = r.0; begins = (r.1, h) }

  -- the parts of a round of jobs, each up to the first seat that gets none or can't
  record AllJobs (m : Machine) (seat : ℕ) (events : List Event) : Type 0 where
    takes : List Event
    reports : List Event
    parts : events ≡ takes ++ reports
    taken : AllTake sys limits m seat takes
    reported : AllReport sys limits (run m takes) 0 reports

  are_takes : (m : Machine) (seat : ℕ) (ts : List Event) → AllTake sys limits m seat ts → AreTakes sys limits m seat ts
  are_takes m seat [] h = tt
  are_takes m seat (t ∷ ts) h = (h.0, are_takes (happens m t) (suc seat) ts h.1)

  no_take_more : (m : Machine) (seat : ℕ) (ts : List Event) → AllTake sys limits m seat ts → (e : Event) → ¬ Takes sys limits (run m ts) (seat + length ts) e
  no_take_more m seat [] h e a = h e (subst (λ k. Takes sys limits m k e) (omega arith) a)
  no_take_more m seat (t ∷ ts) h e a = no_take_more (happens m t) (suc seat) ts h.1 e (subst (λ k. Takes sys limits (run (happens m t) ts) k e) (seat_after sys limits seat (length ts)) a)

  are_reports : (m : Machine) (seat : ℕ) (rs : List Event) → AllReport sys limits m seat rs → AreReports sys limits m seat rs
  are_reports m seat [] h = tt
  are_reports m seat (r ∷ rs) h = (h.0, are_reports (happens m r) (suc seat) rs h.1)

  no_report_more : (m : Machine) (seat : ℕ) (rs : List Event) → AllReport sys limits m seat rs → (e : Event) → ¬ IsReport sys limits (run m rs) (seat + length rs) e
  no_report_more m seat [] h e a = h e (subst (λ k. IsReport sys limits m k e) (omega arith) a)
  no_report_more m seat (r ∷ rs) h e a = no_report_more (happens m r) (suc seat) rs h.1 e (subst (λ k. IsReport sys limits (run (happens m r) rs) k e) (seat_after sys limits seat (length rs)) a)

  jobs_of : (m : Machine) (seat : ℕ) (es : List Event) → AllJobs m seat es → AreJobs sys limits m seat es
  jobs_of m seat es j = record {
    takes = j.takes;
    reports = j.reports;
    parts = j.parts;
    taken = are_takes m seat j.takes j.taken;
    no_more = no_take_more m seat j.takes j.taken;
    reported = are_reports (run m j.takes) 0 j.reports j.reported;
    no_other = λ e a. no_report_more (run m j.takes) 0 j.reports j.reported e (subst (λ k. IsReport sys limits (run (run m j.takes) j.reports) k e) (sym (from_first sys limits (length j.reports))) a);
  }

  part_jobs : (m : Machine) (seat : ℕ) (es : List Event) → Starts sys limits (ComesAfter sys limits m seat) m es → EndsAt m es → IsParted (AllJobs m seat) m es
  part_jobs m seat [] h c = record {
    first = [];
    rest = [];
    parts = refl;
    are = record { takes = []; reports = []; parts = refl; taken = λ e a. no_take sys limits m c.0 c.1 seat e a; reported = λ e a. none_is_some c.0 (sym a.legal.not_ended ∙ c.1) };
    begins = tt;
  }
  part_jobs m seat (e ∷ es) (inl t, h) c =
      let n = happens m e in
      longer (AllJobs n (suc seat)) (AllJobs m seat) m e es (λ first a. record { takes = e ∷ a.takes; reports = a.reports; parts = ap (λ xs. e ∷ xs) a.parts; taken = (t, a.taken); reported = a.reported })
      (part_jobs n (suc seat) es (starts_as sys limits (IsNext sys limits e n) (ComesAfter sys limits n (suc seat)) n es (λ f x. after_take m n seat e f t x) (starts_next e n es h)) c)
  part_jobs m seat (e ∷ es) (inr r, h) c =
      let p = part_reports m 0 (e ∷ es) (r.1, h) c in
      record { first = p.first; rest = p.rest; parts = p.parts; are = record { takes = []; reports = p.first; parts = refl; taken = r.0; reported = p.are }; begins = p.begins }

  -- an event that is a round alone
  part_none : (m : Machine) (es : List Event) → BeginsAt sys limits m es → IsParted (λ xs. xs ≡ []) m es
  part_none m es h = record { first = []; rest = es; parts = refl; are = refl; begins = h }

  ended_alone : (m : Machine) (w : ℕ) (x : End) (es : List Event) → AreNext sys limits (E.Close w x) m es → IsParted (λ xs. xs ≡ []) m es
  ended_alone m w x [] h = part_none m [] tt
  ended_alone m w x (e ∷ es) h = absurd h.0

  part_rest : (m : Machine) (e : Event) (es : List Event) → IsOpening sys limits e → AreNext sys limits e m es → EndsAt m es → IsParted (IsRest sys limits e m) m es
  part_rest m (E.Take w job) es o h c =
      let p = part_jobs m (suc w) es (starts_next (E.Take w job) m es h) c in
      record { first = p.first; rest = p.rest; parts = p.parts; are = jobs_of m (suc w) p.first p.are; begins = p.begins }
  part_rest m (E.Advance w) es o h c = part_none m es (starts_next (E.Advance w) m es h)
  part_rest m (E.Retire w gone by) es o h c = part_none m es (starts_next (E.Retire w gone by) m es h)
  part_rest m (E.Close w x) es o h c = ended_alone m w x es h
  part_rest m (E.Seed w s) es o h c = absurd o
  part_rest m (E.Return w y) es o h c = absurd o
  part_rest m (E.Learn w k) es o h c = absurd o
  part_rest m (E.Before w p) es o h c = absurd o
  part_rest m (E.Drop w k) es o h c = absurd o
  part_rest m (E.Raise w) es o h c = absurd o
  part_rest m (E.Fail w p) es o h c = absurd o
  part_rest m (E.Secure w) es o h c = absurd o

  part_round : (m : Machine) (e : Event) (es : List Event) → BeginsAt sys limits m (e ∷ es) → EndsAt m (e ∷ es) → IsParted (IsRest sys limits e (happens m e)) (happens m e) es
  part_round m e es b c = part_rest (happens m e) e es (opening sys limits m e b.0) b.1 c

  -- round by round; the number bounds how many events are left
  part_all : (most : ℕ) (before es : List Event) → length es ≤ most → AreRounds sys limits before → BeginsAt sys limits (replay before) es → EndsAt (replay before) es → AreRounds sys limits (before ++ es)
  part_all most before [] le whole b c = subst (AreRounds sys limits) (sym (append-nil before)) whole
  part_all zero before (e ∷ es) le whole b c = absurd (omega (arith, le))
  part_all (suc most) before (e ∷ es) le whole b c =
      let p = part_round (replay before) e es b c in
      let round = e ∷ p.first in
      let there : replay (before ++ round) ≡ run (happens (replay before) e) p.first = run-append start before round in
      let ends : run (happens (replay before) e) es ≡ run (run (happens (replay before) e) p.first) p.rest = ap (λ xs. run (happens (replay before) e) xs) p.parts ∙ run-append (happens (replay before) e) p.first p.rest in
      let left : length es ≡ length p.first + length p.rest = ap length p.parts ∙ length-append p.first p.rest in
      let all = part_all most (before ++ round) p.rest (omega (arith, le, left)) (one_more before round whole (b.0, p.are))
      (subst (λ n. BeginsAt sys limits n p.rest) (sym there) p.begins)
      (subst (λ n. EndsAt n p.rest) (sym there) (subst (λ n. (end : End) × (n.ending ≡ Some end)) ends c)) in
      subst (AreRounds sys limits) (append_assoc before round p.rest ∙ ap (λ xs. before ++ (e ∷ xs)) (sym p.parts)) all

pub parted : (sys : System) (limits : Limits) (history : List Event) → Rounds sys limits history → AreRounds sys limits history
parted sys limits [] h = absurd h
parted sys limits (e ∷ es) h = part_all sys limits (length (e ∷ es)) [] (e ∷ es) (omega arith) none (h.0, h.1) h.2
