-- How many workers share the machine changes nothing.
use Rattle.std.proofs.Common.{◌≡◌, ℕ, suc, ◌<◌, ◌≤◌, inl, inr, List, [], ◌∷◌, sym, subst}
use Rattle.fo_core.specs.declared.system.System.{System}
use Rattle.fo_core.specs.Sorted.{IsSystem}
use Rattle.up_claims.specs.InferAsked.{IsFirstAbove}
use Rattle.up_machine.specs.declared.limits.Limits.{Limits}
use Rattle.up_machine.specs.declared.end.End.{End}
use Rattle.up_machine.specs.declared.end.End.TheVariants as N
use Rattle.up_machine.specs.declared.event.Why.{Why}
use Rattle.up_machine.specs.declared.event.Why.TheVariants as Y
use Rattle.up_machine.specs.declared.event.Event.{Event}
use Rattle.up_machine.specs.declared.event.Event.TheVariants as E
use Rattle.up_machine.specs.declared.job.Short.TheVariants as S
use Rattle.up_machine.specs.declared.job.Task.{Task}
use Rattle.up_machine.specs.declared.job.Task.TheVariants as T
use Rattle.up_machine.specs.Machine.{Machine, start}
use Rattle.up_machine.specs.Replay.{happens}
use Rattle.up_machine.specs.Due.{Else, IsDue}
use Rattle.up_machine.specs.Finding.{asked_by}
use Rattle.up_machine.specs.Legal.{IsAllowed, MayReturn, MayClose, IsLegal, AreLegal}
use Rattle.up_machine.specs.Rounds.{IsRoundReport, IsReport, Takes, Settles, Retires, Begins, GoesOnAt, IsNext, AreNext, Rounds}
use Rattle.up_rounds.specs.Courses.{IsCourse, AreAlike}
use Rattle.up_rounds.proofs.OneCourse.{course_one}

alike_sym : (a b : Limits) → AreAlike a b → AreAlike b a
alike_sym a b s = record { batch = sym s.batch; frames = sym s.frames; steps = sym s.steps; weight = sym s.weight }

-- what the one rule allows the other does, and the other way about
else_as : {X : Type 0} (rule others new more : X → Type 0) → ((x : X) → rule x → new x) → ((x : X) → new x → rule x) → ((x : X) → others x → more x) → (x : X) → Else rule others x → Else new more x
else_as rule others new more f g h x (inl r) = inl (f x r)
else_as rule others new more f g h x (inr r) = inr (λ y n. r.0 y (g y n), h x r.1)

module _ (sys : System) (a b : Limits) (alike : AreAlike a b) where
  due_as : (m : Machine) (t : Task) → IsDue sys a m t → IsDue sys b m t
  due_as m t h =
      subst (λ f. IsDue sys (record b { frames = f }) m t) alike.frames
      (subst (λ s. IsDue sys (record a { steps = s }) m t) alike.steps h)

  close_as : (m : Machine) (w : ℕ) (end : End) → MayClose sys a m w end → MayClose sys b m w end
  close_as m w (N.Safe i) h = due_as m (T.Finish (S.Safe i)) h
  close_as m w N.Bounded h = due_as m (T.Finish S.Bounded) h
  close_as m w N.Spent h = due_as m (T.Finish S.Spent) h
  close_as m w (N.Unsafe run) h = h
  close_as m w N.NoUniversal h = h
  close_as m w (N.Over kind x) h = record {
    job = h.job;
    above = subst (λ most. IsFirstAbove sys.sig (asked_by sys h.job.given) most kind x.query x.weight) alike.weight h.above;
  }

  return_as : (m : Machine) (w : ℕ) (why : Why) → MayReturn sys a m w why → MayReturn sys b m w why
  return_as m w (Y.Refuted p c) h = h
  return_as m w Y.NoMore h = h
  return_as m w Y.Spent h = record { job = h.job; spent = subst (λ s. s ≤ m.productive) alike.steps h.spent }
  return_as m w Y.NoMemory h = h

  allowed_as : (m : Machine) (e : Event) → IsAllowed sys a m e → IsAllowed sys b m e
  allowed_as m (E.Take w job) h = record { free = h.free; due = due_as m (T.Job job) h.due }
  allowed_as m (E.Seed w s) h = h
  allowed_as m (E.Secure w) h = h
  allowed_as m (E.Return w why) h = return_as m w why h
  allowed_as m (E.Learn w cube) h = h
  allowed_as m (E.Before w origin) h = h
  allowed_as m (E.Drop w c) h = h
  allowed_as m (E.Raise w) h = h
  allowed_as m (E.Fail w p) h = h
  allowed_as m (E.Advance w) h = due_as m T.Advance h
  allowed_as m (E.Close w end) h = close_as m w end h
  allowed_as m (E.Retire w gone by) h = h

  legal_as : (m : Machine) (e : Event) → IsLegal sys a m e → IsLegal sys b m e
  legal_as m e h = record {
    not_ended = h.not_ended;
    affordable = λ t. subst (λ s. m.productive < s) alike.steps (h.affordable t);
    allowed = allowed_as m e h.allowed;
  }

  all_legal_as : (m : Machine) (es : List Event) → AreLegal sys a m es → AreLegal sys b m es
  all_legal_as m [] h = tt
  all_legal_as m (e ∷ es) h = (legal_as m e h.0, all_legal_as (happens m e) es h.1)

  takes_as : (m : Machine) (seat : ℕ) (e : Event) → Takes sys a m seat e → Takes sys b m seat e
  takes_as m seat e h = record {
    job = h.job;
    in_batch = subst (λ n. seat < n) alike.batch h.in_batch;
    due = due_as m (T.Job h.job) h.due;
    is = h.is;
  }

  settles_as : (m : Machine) (e : Event) → Settles sys a m e → Settles sys b m e
  settles_as m e (inl h) = inl (due_as m T.Advance h.0, h.1)
  settles_as m e (inr h) = inr (h.0, due_as m (T.Finish h.0) h.1, h.2)

-- both ways at once, under what one limits allow and the others do not
module _ (sys : System) (a b : Limits) (alike : AreAlike a b) where
  back : AreAlike b a
  back = alike_sym a b alike

  report_as : (m : Machine) (seat : ℕ) (e : Event) → IsReport sys a m seat e → IsReport sys b m seat e
  report_as m seat e h = record {
    by_seat = h.by_seat;
    kind = subst (λ s. IsRoundReport m s e) alike.steps h.kind;
    legal = legal_as sys a b alike m e h.legal;
    over_first = λ f w over legal. h.over_first f w over (legal_as sys b a back m f legal);
  }

  begins_as : (m : Machine) (e : Event) → Begins sys a m e → Begins sys b m e
  begins_as m =
      else_as (Settles sys a m) (Else (Retires sys a m) (Takes sys a m 0)) (Settles sys b m) (Else (Retires sys b m) (Takes sys b m 0))
      (settles_as sys a b alike m)
      (settles_as sys b a back m)
      (else_as (Retires sys a m) (Takes sys a m 0) (Retires sys b m) (Takes sys b m 0) (λ e h. h) (λ e h. h) (takes_as sys a b alike m 0))

module _ (sys : System) (a b : Limits) (alike : AreAlike a b) where
  goes_as : (m : Machine) (seat : ℕ) (e : Event) → GoesOnAt sys a m seat e → GoesOnAt sys b m seat e
  goes_as m seat =
      else_as (IsReport sys a m seat) (Begins sys a m) (IsReport sys b m seat) (Begins sys b m)
      (report_as sys a b alike m seat)
      (report_as sys b a (alike_sym a b alike) m seat)
      (begins_as sys a b alike m)

  next_as : (last : Event) (m : Machine) (e : Event) → IsNext sys a last m e → IsNext sys b last m e
  next_as (E.Take seat job) m e h =
      else_as (Takes sys a m (suc seat)) (GoesOnAt sys a m 0) (Takes sys b m (suc seat)) (GoesOnAt sys b m 0)
      (takes_as sys a b alike m (suc seat))
      (takes_as sys b a (alike_sym a b alike) m (suc seat))
      (goes_as m 0)
      e h
  next_as (E.Advance w) m e h = begins_as sys a b alike m e h
  next_as (E.Retire w gone by) m e h = begins_as sys a b alike m e h
  next_as (E.Close w x) m e h = absurd h
  next_as (E.Seed w s) m e h = goes_as m (suc w) e h
  next_as (E.Return w y) m e h = goes_as m (suc w) e h
  next_as (E.Learn w c) m e h = goes_as m (suc w) e h
  next_as (E.Before w o) m e h = goes_as m (suc w) e h
  next_as (E.Drop w c) m e h = goes_as m (suc w) e h
  next_as (E.Raise w) m e h = goes_as m (suc w) e h
  next_as (E.Fail w p) m e h = goes_as m (suc w) e h
  next_as (E.Secure w) m e h = goes_as m (suc w) e h

  all_next_as : (last : Event) (m : Machine) (es : List Event) → AreNext sys a last m es → AreNext sys b last m es
  all_next_as last m [] h = tt
  all_next_as last m (e ∷ es) h = (next_as last m e h.0, all_next_as e (happens m e) es h.1)

  rounds_as : (history : List Event) → Rounds sys a history → Rounds sys b history
  rounds_as [] h = absurd h
  rounds_as (e ∷ es) h = (begins_as sys a b alike start e h.0, all_next_as e (happens start e) es h.1, h.2)

  course_as : (history : List Event) → IsCourse sys a history → IsCourse sys b history
  course_as history h = record { legal = all_legal_as sys a b alike start history h.legal; rounds = rounds_as history h.rounds }

pub alike_one : (sys : System) (a b : Limits) (h k : List Event) → IsSystem sys → AreAlike a b → IsCourse sys a h → IsCourse sys b k → h ≡ k
alike_one sys a b h k good alike x y = course_one sys b h k good (course_as sys a b alike h x) y
