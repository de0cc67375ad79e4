-- At most one history is that of the rounds.
use Rattle.std.proofs.Common.{◌≡◌, ℕ, suc, ◌<◌, ◌≤◌, ◌⊎◌, inl, inr, List, [], ◌∷◌, ◌++◌, Option, None, Some, refl, sym, ap, ap₂, subst, ◌∙◌, arith}
use Rattle.fo_core.specs.declared.system.System.{System}
use Rattle.fo_core.specs.Sorted.{IsSystem}
use Rattle.up_machine.specs.declared.limits.Limits.{Limits}
use Rattle.up_machine.specs.declared.end.End.{End}
use Rattle.up_machine.specs.declared.job.Job.{Job}
use Rattle.up_machine.specs.declared.job.Short.{Short}
use Rattle.up_machine.specs.declared.job.Task.{Task}
use Rattle.up_machine.specs.declared.job.Task.TheVariants as T
use Rattle.up_machine.specs.declared.event.Event.{Event}
use Rattle.up_machine.specs.declared.event.Event.TheVariants as E
use Rattle.up_machine.specs.Machine.{Machine, start}
use Rattle.up_machine.specs.Replay.{happens, run, replay}
use Rattle.up_machine.specs.Due.{Else, IsDue}
use Rattle.up_machine.specs.Legal.{IsLegal, AreLegal, Legal}
use Rattle.up_machine.specs.Rounds.{end_of, IsReport, Takes, Settles, Retires, Begins, GoesOnAt, IsNext, AreNext, Rounds}
use Rattle.up_machine.proofs.Histories.{legal-push, replay-push}
use Rattle.up_machine.proofs.Lists.{some_injective, none_is_some}
use Rattle.up_machine.proofs.OneDue.{IsOne, else_one, due_one}
use Rattle.up_machine.proofs.OneReport.{report_once}
use Rattle.up_rounds.specs.Courses.{IsCourse}

abbrev kind : Task → ℕ
kind (T.Job j) = 0
kind T.Advance = 1
kind (T.Finish s) = 2
kind T.Idle = 3
kind T.Ended = 4

abbrev job_in : Task → Option Job
job_in (T.Job j) = Some j
job_in _ = None

abbrev short_in : Task → Option Short
short_in (T.Finish s) = Some s
short_in _ = None

-- two tasks of different kinds aren't one
pub differ_kind : {A : Type 0} (t u : Task) → t ≡ u → ¬ (kind t ≡ kind u) → A
differ_kind t u e n = absurd (n (ap kind e))

pub job_same : (j k : Job) → T.Job j ≡ T.Job k → j ≡ k
job_same j k e = some_injective j k (ap job_in e)

module _ (sys : System) (limits : Limits) where
  -- a legal history comes to the machine
  record IsReached (m : Machine) : Type 0 where
    seen : List Event
    legal : Legal sys limits seen
    there : replay seen ≡ m

  reached_start : IsReached start
  reached_start = record { seen = []; legal = tt; there = refl }

  reached_next : (m : Machine) (e : Event) → IsReached m → IsLegal sys limits m e → IsReached (happens m e)
  reached_next m e r legal = record {
    seen = r.seen ++ e ∷ [];
    legal = legal-push sys limits r.seen e r.legal (subst (λ n. IsLegal sys limits n e) (sym r.there) legal);
    there = replay-push r.seen e ∙ ap (λ n. happens n e) r.there;
  }

  takes_one : (m : Machine) (seat : ℕ) → IsOne (Takes sys limits m seat)
  takes_one m seat e f a b =
      let same = job_same a.job b.job (due_one sys limits m (T.Job a.job) (T.Job b.job) a.due b.due) in
      a.is ∙ ap (λ x. E.Take seat x) same ∙ sym b.is

  settles_one : (m : Machine) → IsOne (Settles sys limits m)
  settles_one m e f (inl a) (inl b) = a.1 ∙ sym b.1
  settles_one m e f (inl a) (inr b) = differ_kind _ _ (due_one sys limits m T.Advance (T.Finish b.0) a.0 b.1) (λ x. omega (arith, x))
  settles_one m e f (inr a) (inl b) = differ_kind _ _ (due_one sys limits m (T.Finish a.0) T.Advance a.1 b.0) (λ x. omega (arith, x))
  settles_one m e f (inr a) (inr b) =
      let same = some_injective a.0 b.0 (ap short_in (due_one sys limits m (T.Finish a.0) (T.Finish b.0) a.1 b.1)) in
      a.2 ∙ ap (λ x. E.Close 0 (end_of x)) same ∙ sym b.2

  retires_one : (m : Machine) → IsOne (Retires sys limits m)
  retires_one m e f a b =
      let gone = first_gone (a.2.first b.0 b.1 b.2.cover) (b.2.first a.0 a.1 a.2.cover) in
      let by = first_by (a.2.first b.0 b.1 b.2.cover) (b.2.first a.0 a.1 a.2.cover) in
      a.3 ∙ ap₂ (λ g d. E.Retire 0 g d) gone by ∙ sym b.3
    where
      first_gone : (a.0 < b.0) ⊎ (a.0 ≡ b.0) × (a.1 ≤ b.1) → (b.0 < a.0) ⊎ (b.0 ≡ a.0) × (b.1 ≤ a.1) → a.0 ≡ b.0
      first_gone (inl x) (inl y) = absurd (omega (arith, x, y))
      first_gone (inl x) (inr y) = sym y.0
      first_gone (inr x) y = x.0

      first_by : (a.0 < b.0) ⊎ (a.0 ≡ b.0) × (a.1 ≤ b.1) → (b.0 < a.0) ⊎ (b.0 ≡ a.0) × (b.1 ≤ a.1) → a.1 ≡ b.1
      first_by (inl x) (inl y) = absurd (omega (arith, x, y))
      first_by (inl x) (inr y) = absurd (omega (arith, x, y.0))
      first_by (inr x) (inl y) = absurd (omega (arith, x.0, y))
      first_by (inr x) (inr y) = omega (arith, x.1, y.1)

  begins_one : (m : Machine) → IsOne (Begins sys limits m)
  begins_one m = else_one _ _ (settles_one m) (else_one _ _ (retires_one m) (takes_one m 0))

  -- at most one event comes after this one
  module _ (good : IsSystem sys) (m : Machine) (r : IsReached m) where
    report_one : (seat : ℕ) → IsOne (IsReport sys limits m seat)
    report_one seat e f a b =
        report_once sys limits r.seen seat e f good r.legal (subst (λ n. IsReport sys limits n seat e) (sym r.there) a) (subst (λ n. IsReport sys limits n seat f) (sym r.there) b)

    goes_one : (seat : ℕ) → IsOne (GoesOnAt sys limits m seat)
    goes_one seat = else_one _ _ (report_one seat) (begins_one m)

    next_one : (last : Event) → IsOne (IsNext sys limits last m)
    next_one (E.Take seat job) = else_one _ _ (takes_one m (suc seat)) (goes_one 0)
    next_one (E.Advance w) = begins_one m
    next_one (E.Retire w gone by) = begins_one m
    next_one (E.Close w x) = λ e f a b. absurd a
    next_one (E.Seed w s) = goes_one (suc w)
    next_one (E.Return w y) = goes_one (suc w)
    next_one (E.Learn w c) = goes_one (suc w)
    next_one (E.Before w o) = goes_one (suc w)
    next_one (E.Drop w c) = goes_one (suc w)
    next_one (E.Raise w) = goes_one (suc w)
    next_one (E.Fail w p) = goes_one (suc w)
    next_one (E.Secure w) = goes_one (suc w)

  -- nothing comes after the end
  module _ (m : Machine) (end : End) (ended : m.ending ≡ Some end) where
    over : IsDue sys limits m T.Ended
    over = inl (end, ended)

    pub no_take : (seat : ℕ) (e : Event) → ¬ Takes sys limits m seat e
    no_take seat e a = differ_kind _ _ (due_one sys limits m (T.Job a.job) T.Ended a.due over) (λ x. omega (arith, x))

    no_settling : (e : Event) → ¬ Settles sys limits m e
    no_settling e (inl a) = differ_kind _ _ (due_one sys limits m T.Advance T.Ended a.0 over) (λ x. omega (arith, x))
    no_settling e (inr a) = differ_kind _ _ (due_one sys limits m (T.Finish a.0) T.Ended a.1 over) (λ x. omega (arith, x))

    neither : (rule others : Event → Type 0) → ((e : Event) → ¬ rule e) → ((e : Event) → ¬ others e) → (e : Event) → ¬ Else rule others e
    neither rule others a b e (inl h) = a e h
    neither rule others a b e (inr h) = b e h.1

    pub no_begin : (e : Event) → ¬ Begins sys limits m e
    no_begin = neither _ _ no_settling (neither _ _ (λ e a. none_is_some end (sym a.2.not_ended ∙ ended)) (no_take 0))

    pub no_going : (seat : ℕ) (e : Event) → ¬ GoesOnAt sys limits m seat e
    no_going seat = neither _ _ (λ e a. none_is_some end (sym a.legal.not_ended ∙ ended)) no_begin

    no_next : (last e : Event) → ¬ IsNext sys limits last m e
    no_next (E.Take seat job) e a = neither _ _ (no_take (suc seat)) (no_going 0) e a
    no_next (E.Advance w) e a = no_begin e a
    no_next (E.Retire w gone by) e a = no_begin e a
    no_next (E.Close w x) e a = a
    no_next (E.Seed w s) e a = no_going (suc w) e a
    no_next (E.Return w y) e a = no_going (suc w) e a
    no_next (E.Learn w c) e a = no_going (suc w) e a
    no_next (E.Before w o) e a = no_going (suc w) e a
    no_next (E.Drop w c) e a = no_going (suc w) e a
    no_next (E.Raise w) e a = no_going (suc w) e a
    no_next (E.Fail w p) e a = no_going (suc w) e a
    no_next (E.Secure w) e a = no_going (suc w) e a

  abbrev EndsAt : Machine → List Event → Type 0
  EndsAt m es = (end : End) × ((run m es).ending ≡ Some end)

  -- what comes after one event, up to the end
  tails_one : IsSystem sys → (last : Event) (m : Machine) (es fs : List Event) → IsReached m → AreLegal sys limits m es → AreNext sys limits last m es → AreNext sys limits last m fs → EndsAt m es → EndsAt m fs → es ≡ fs
  tails_one good last m [] [] r legal a b c d = refl
  tails_one good last m [] (f ∷ fs) r legal a b c d = absurd (no_next m c.0 c.1 last f b.0)
  tails_one good last m (e ∷ es) [] r legal a b c d = absurd (no_next m d.0 d.1 last e a.0)
  tails_one good last m (e ∷ es) (f ∷ fs) r legal a b c d =
      let same = next_one good m r last e f a.0 b.0 in
      let b1 = subst (λ x. AreNext sys limits x (happens m x) fs) (sym same) b.1 in
      let d1 = subst (λ x. EndsAt (happens m x) fs) (sym same) d in
      ap₂ (λ x xs. x ∷ xs) same (tails_one good e (happens m e) es fs (reached_next m e r legal.0) legal.1 a.1 b1 c d1)

  rounds_one : IsSystem sys → (es fs : List Event) → Legal sys limits es → Rounds sys limits es → Rounds sys limits fs → es ≡ fs
  rounds_one good [] fs legal a b = absurd a
  rounds_one good (e ∷ es) [] legal a b = absurd b
  rounds_one good (e ∷ es) (f ∷ fs) legal a b =
      let same = begins_one start e f a.0 b.0 in
      let b1 = subst (λ x. AreNext sys limits x (happens start x) fs) (sym same) b.1 in
      let d1 = subst (λ x. EndsAt (happens start x) fs) (sym same) b.2 in
      ap₂ (λ x xs. x ∷ xs) same (tails_one good e (happens start e) es fs (reached_next start e reached_start legal.0) legal.1 a.1 b1 a.2 d1)

pub course_one : (sys : System) (limits : Limits) (h k : List Event) → IsSystem sys → IsCourse sys limits h → IsCourse sys limits k → h ≡ k
course_one sys limits h k good a b = rounds_one sys limits good h k a.legal a.rounds b.rounds
