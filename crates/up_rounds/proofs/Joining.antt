-- Whole rounds, one after another, are the history of the rounds.
use Rattle.std.proofs.Common.{◌≡◌, ◌+◌, length, arith, ℕ, suc, inl, inr, List, [], ◌∷◌, ◌++◌, refl, sym, ap, subst, ◌∙◌, append_assoc, append-nil}
use Rattle.std.specs.Prelude.{⊤}
use Rattle.fo_core.specs.declared.system.System.{System}
use Rattle.up_machine.specs.declared.limits.Limits.{Limits}
use Rattle.up_machine.specs.declared.event.Event.{Event}
use Rattle.up_machine.specs.declared.event.Event.TheVariants as E
use Rattle.up_machine.specs.Machine.{Machine, start}
use Rattle.up_machine.specs.Replay.{happens, run, replay}
use Rattle.up_machine.specs.Due.{Else}
use Rattle.up_machine.specs.Rounds.{IsReport, Takes, Begins, GoesOnAt, IsNext, AreNext, IsClosed, Rounds}
use Rattle.up_machine.proofs.Histories.{run-append}
use Rattle.up_machine.proofs.Lists.{none_is_some}
use Rattle.up_rounds.specs.OneRound.{AreTakes, AreReports, AreJobs, IsRest, IsRound, AreRounds, none, one_more}
use Rattle.up_rounds.proofs.OneCourse.{no_begin, no_going}

module _ (sys : System) (limits : Limits) where
  -- from this seat on, in order, up to the first that gets none or can't
  abbrev pub AllTake : Machine → ℕ → List Event → Type 0
  AllTake m seat [] = (e : Event) → ¬ Takes sys limits m seat e
  AllTake m seat (e ∷ es) = Takes sys limits m seat e × AllTake (happens m e) (suc seat) es

  abbrev pub AllReport : Machine → ℕ → List Event → Type 0
  AllReport m seat [] = (e : Event) → ¬ IsReport sys limits m seat e
  AllReport m seat (e ∷ es) = IsReport sys limits m seat e × AllReport (happens m e) (suc seat) es

  pub seat_after : (seat n : ℕ) → seat + suc n ≡ suc seat + n
  seat_after seat n = omega arith

  pub from_first : (n : ℕ) → 0 + n ≡ n
  from_first n = omega arith

  all_take : (m : Machine) (seat : ℕ) (ts : List Event) → AreTakes sys limits m seat ts → ((e : Event) → ¬ Takes sys limits (run m ts) (seat + length ts) e) → AllTake m seat ts
  all_take m seat [] h n = λ e a. n e (subst (λ k. Takes sys limits m k e) (omega arith) a)
  all_take m seat (t ∷ ts) h n =
      (h.0, all_take (happens m t) (suc seat) ts h.1 (λ e a. n e (subst (λ k. Takes sys limits (run (happens m t) ts) k e) (sym (seat_after seat (length ts))) a)))

  all_report : (m : Machine) (seat : ℕ) (rs : List Event) → AreReports sys limits m seat rs → ((e : Event) → ¬ IsReport sys limits (run m rs) (seat + length rs) e) → AllReport m seat rs
  all_report m seat [] h n = λ e a. n e (subst (λ k. IsReport sys limits m k e) (omega arith) a)
  all_report m seat (r ∷ rs) h n =
      (h.0, all_report (happens m r) (suc seat) rs h.1 (λ e a. n e (subst (λ k. IsReport sys limits (run (happens m r) rs) k e) (sym (seat_after seat (length rs))) a)))

  -- the first event is as the rule says, and each other comes after the one before it
  abbrev pub Starts : (Event → Type 0) → Machine → List Event → Type 0
  Starts rule m [] = ⊤
  Starts rule m (e ∷ es) = rule e × AreNext sys limits e (happens m e) es

  pub starts_as : (rule other : Event → Type 0) (m : Machine) (es : List Event) → ((e : Event) → rule e → other e) → Starts rule m es → Starts other m es
  starts_as rule other m [] f h = tt
  starts_as rule other m (e ∷ es) f h = (f e h.0, h.1)

  are_next : (last : Event) (m : Machine) (es : List Event) → Starts (IsNext sys limits last m) m es → AreNext sys limits last m es
  are_next last m [] h = tt
  are_next last m (e ∷ es) h = h

  abbrev pub ComesAfter : Machine → ℕ → Event → Type 0
  ComesAfter m seat = Else (Takes sys limits m seat) (GoesOnAt sys limits m 0)

  after_take : (m n : Machine) (seat : ℕ) (t f : Event) → Takes sys limits m seat t → ComesAfter n (suc seat) f → IsNext sys limits t n f
  after_take m n seat t f a g = subst (λ x. IsNext sys limits x n f) (sym a.is) g

  at_seat : (n : Machine) (w seat : ℕ) (f : Event) → w ≡ seat → GoesOnAt sys limits n (suc seat) f → GoesOnAt sys limits n (suc w) f
  at_seat n w seat f e g = subst (λ k. GoesOnAt sys limits n (suc k) f) (sym e) g

  after_report : (m : Machine) (seat : ℕ) (e f : Event) → IsReport sys limits m seat e → GoesOnAt sys limits (happens m e) (suc seat) f → IsNext sys limits e (happens m e) f
  after_report m seat (E.Take w job) f r g = absurd r.kind
  after_report m seat (E.Advance w) f r g = absurd r.kind
  after_report m seat (E.Retire w gone by) f r g = absurd r.kind
  after_report m seat (E.Close w x) f r g = absurd (no_going sys limits (happens m (E.Close w x)) x refl (suc seat) f g)
  after_report m seat (E.Seed w s) f r g = at_seat _ w seat f r.by_seat g
  after_report m seat (E.Return w y) f r g = at_seat _ w seat f r.by_seat g
  after_report m seat (E.Learn w c) f r g = at_seat _ w seat f r.by_seat g
  after_report m seat (E.Before w o) f r g = at_seat _ w seat f r.by_seat g
  after_report m seat (E.Drop w c) f r g = at_seat _ w seat f r.by_seat g
  after_report m seat (E.Raise w) f r g = at_seat _ w seat f r.by_seat g
  after_report m seat (E.Fail w p) f r g = at_seat _ w seat f r.by_seat g
  after_report m seat (E.Secure w) f r g = at_seat _ w seat f r.by_seat g

  -- the next round begins at this machine, if anything comes
  abbrev pub BeginsAt : Machine → List Event → Type 0
  BeginsAt m es = Starts (Begins sys limits m) m es

  join_reports : (m : Machine) (seat : ℕ) (rs rest : List Event) → AllReport m seat rs → BeginsAt (run m rs) rest → Starts (GoesOnAt sys limits m seat) m (rs ++ rest)
  join_reports m seat [] rest h b = starts_as (Begins sys limits m) (GoesOnAt sys limits m seat) m rest (λ e x. inr (h, x)) b
  join_reports m seat (r ∷ rs) rest h b =
      let n = happens m r in
      (inl h.0, are_next r n (rs ++ rest) (starts_as (GoesOnAt sys limits n (suc seat)) (IsNext sys limits r n) n (rs ++ rest) (λ f g. after_report m seat r f h.0 g) (join_reports n (suc seat) rs rest h.1 b)))

  join_takes : (m : Machine) (seat : ℕ) (ts rs rest : List Event) → AllTake m seat ts → AllReport (run m ts) 0 rs → BeginsAt (run (run m ts) rs) rest → Starts (ComesAfter m seat) m (ts ++ (rs ++ rest))
  join_takes m seat [] rs rest h r b = starts_as (GoesOnAt sys limits m 0) (ComesAfter m seat) m (rs ++ rest) (λ e x. inr (h, x)) (join_reports m 0 rs rest r b)
  join_takes m seat (t ∷ ts) rs rest h r b =
      let n = happens m t in
      (inl h.0, are_next t n (ts ++ (rs ++ rest)) (starts_as (ComesAfter n (suc seat)) (IsNext sys limits t n) n (ts ++ (rs ++ rest)) (λ f g. after_take m n seat t f h.0 g) (join_takes n (suc seat) ts rs rest h.1 r b)))

  join_jobs : (m : Machine) (seat : ℕ) (es rest : List Event) → AreJobs sys limits m seat es → BeginsAt (run m es) rest → Starts (ComesAfter m seat) m (es ++ rest)
  join_jobs m seat es rest r b =
      let at_end : run m es ≡ run (run m r.takes) r.reports = ap (λ x. run m x) r.parts ∙ run-append m r.takes r.reports in
      let all : es ++ rest ≡ r.takes ++ (r.reports ++ rest) = ap (λ x. x ++ rest) r.parts ∙ append_assoc r.takes r.reports rest in
      subst (λ xs. Starts (ComesAfter m seat) m xs) (sym all) (join_takes m seat r.takes r.reports rest (all_take m seat r.takes r.taken r.no_more) (all_report (run m r.takes) 0 r.reports r.reported (λ e a. r.no_other e (subst (λ k. IsReport sys limits (run (run m r.takes) r.reports) k e) (from_first (length r.reports)) a))) (subst (λ n. BeginsAt n rest) at_end b))

  join_none : (m : Machine) (es rest : List Event) → es ≡ [] → BeginsAt (run m es) rest → BeginsAt m (es ++ rest)
  join_none m es rest e b = subst (λ xs. BeginsAt (run m xs) rest → BeginsAt m (xs ++ rest)) (sym e) (λ x. x) b

  -- the events that begin a round
  abbrev pub IsOpening : Event → Type 0
  IsOpening (E.Take w job) = ⊤
  IsOpening (E.Advance w) = ⊤
  IsOpening (E.Retire w gone by) = ⊤
  IsOpening (E.Close w x) = ⊤
  IsOpening _ = ⊥

  pub opening : (m : Machine) (e : Event) → Begins sys limits m e → IsOpening e
  opening m e (inl (inl a)) = subst IsOpening (sym a.1) tt
  opening m e (inl (inr a)) = subst IsOpening (sym a.2) tt
  opening m e (inr (n, inl a)) = subst IsOpening (sym a.3) tt
  opening m e (inr (n, inr (k, a))) = subst IsOpening (sym a.is) tt

  join_rest : (m : Machine) (e : Event) (es rest : List Event) → IsOpening e → IsRest sys limits e (happens m e) es → BeginsAt (run (happens m e) es) rest → Starts (IsNext sys limits e (happens m e)) (happens m e) (es ++ rest)
  join_rest m (E.Take w job) es rest o r b = join_jobs (happens m (E.Take w job)) (suc w) es rest r b
  join_rest m (E.Advance w) es rest o r b = join_none (happens m (E.Advance w)) es rest r b
  join_rest m (E.Retire w gone by) es rest o r b = join_none (happens m (E.Retire w gone by)) es rest r b
  join_rest m (E.Close w x) es rest o r b =
      let n = happens m (E.Close w x) in
      starts_as (Begins sys limits n) (IsNext sys limits (E.Close w x) n) n (es ++ rest) (λ f g. absurd (no_begin sys limits n x refl f g)) (join_none n es rest r b)
  join_rest m (E.Seed w s) es rest o r b = absurd o
  join_rest m (E.Return w y) es rest o r b = absurd o
  join_rest m (E.Learn w c) es rest o r b = absurd o
  join_rest m (E.Before w p) es rest o r b = absurd o
  join_rest m (E.Drop w c) es rest o r b = absurd o
  join_rest m (E.Raise w) es rest o r b = absurd o
  join_rest m (E.Fail w p) es rest o r b = absurd o
  join_rest m (E.Secure w) es rest o r b = absurd o

  join_round : (m : Machine) (es rest : List Event) → IsRound sys limits m es → BeginsAt (run m es) rest → BeginsAt m (es ++ rest)
  join_round m [] rest r b = absurd r
  join_round m (e ∷ es) rest r b = (r.0, are_next e (happens m e) (es ++ rest) (join_rest m e es rest (opening m e r.0) r.1 b))

  join_all : (history rest : List Event) → AreRounds sys limits history → BeginsAt (replay history) rest → BeginsAt start (history ++ rest)
  join_all _ rest none b = b
  join_all _ rest (one_more before round whole r) b =
      subst (λ xs. BeginsAt start xs) (sym (append_assoc before round rest)) (join_all before (round ++ rest) whole (join_round (replay before) round rest r (subst (λ n. BeginsAt n rest) (run-append start before round) b)))

  -- from the begin of the first round to an end
  closed_rounds : (history : List Event) → BeginsAt start history → IsClosed sys limits history → Rounds sys limits history
  closed_rounds [] b c = none_is_some c.0 c.1
  closed_rounds (e ∷ es) b c = (b.0, b.1, c)

pub joined : (sys : System) (limits : Limits) (history : List Event) → AreRounds sys limits history → IsClosed sys limits history → Rounds sys limits history
joined sys limits history whole closed =
    closed_rounds sys limits history (subst (λ xs. BeginsAt sys limits start xs) (append-nil history) (join_all sys limits history [] whole tt)) closed
