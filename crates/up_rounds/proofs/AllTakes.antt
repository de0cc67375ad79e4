-- Seats take jobs, one after another.
use Rattle.std.proofs.Common.{◌≡◌, ℕ, suc, ◌+◌, ◌≤◌, ◌<◌, inl, inr, List, [], ◌∷◌, ◌++◌, length, Option, None, Some, refl, sym, ap, subst, ◌∙◌, arith, length-append}
use Rattle.std.specs.Prelude.{MatchOption}
use Rattle.fo_core.specs.declared.order.Order.{Order}
use Rattle.fo_core.specs.declared.system.System.{System}
use Rattle.up_machine.specs.declared.brief.Brief.{Brief}
use Rattle.up_machine.specs.declared.event.Event.{Event}
use Rattle.up_machine.specs.declared.event.Event.TheVariants as E
use Rattle.up_machine.specs.declared.limits.Limits.{Limits}
use Rattle.up_machine.specs.Machine.{Machine, held_by}
use Rattle.up_machine.specs.Replay.{worker_of, happens, run}
use Rattle.up_machine.specs.Rounds.{Takes}
use Rattle.up_machine.specs.Sound.{Each}
use Rattle.up_machine.proofs.Holding.{run-held}
use Rattle.up_machine.proofs.Lists.{IsPushed, get-push, get-lt, Each-cons, Each-nil}
use Rattle.up_jobs.specs.Solving.{CanSolve, IsBriefOf}
use Rattle.up_core.specs.View.{CoreView, now}
use Rattle.up_seats.specs.Seats.{IsBriefed}
use Rattle.up_rounds.specs.Asking.{HaveTaken}
use Rattle.up_seats.specs.Making.{HasMade}
use Rattle.up_rounds.specs.OneRound.{AreTakes, IsAtRest}
use Rattle.up_rounds.specs.Taking.{AreTaking, HasTakenNone, HasTakenOne, IsFreeFor}
use Rattle.up_seats.proofs.Made.{made_nothing, made_before, made_both, made_now, moved, moved_back}
use Rattle.up_rounds.proofs.Resting.{take_legal}

-- a seat keeps its job and its brief while others make events
briefed_on : (a b : CoreView) (es : List Event) (seat : ℕ) (brief : Brief) → HasMade a es b → Each es (λ k e. ¬ (worker_of e ≡ seat)) → IsBriefed a seat brief → IsBriefed b seat brief
briefed_on a b es seat brief made others h = record {
  given = h.given;
  held = ap (λ (m : Machine). held_by m.jobs seat) (made_now a b es made) ∙ run-held (now a) es seat others ∙ h.held;
  brief_is = subst (λ (s : System). IsBriefOf s.sig h.given brief) (sym made.sys) h.brief_is;
  solvable = subst (λ (s : System). CanSolve s b.order brief) (sym made.sys) (subst (λ (o : Order). CanSolve a.sys o brief) (sym made.order) h.solvable);
}

module _ (sys : System) (limits : Limits) where
  one_more_take : (m : Machine) (seat : ℕ) (ts : List Event) (t : Event) → AreTakes sys limits m seat ts → Takes sys limits (run m ts) (seat + length ts) t → AreTakes sys limits m seat (ts ++ t ∷ [])
  one_more_take m seat [] t h next = (subst (λ k. Takes sys limits m k t) (omega arith) next, tt)
  one_more_take m seat (x ∷ ts) t h next =
      (h.0, one_more_take (happens m x) (suc seat) ts t h.1 (subst (λ k. Takes sys limits (run (happens m x) ts) k t) (omega arith) next))

  -- takes are no more than the seats of a batch
  few_takes : (m : Machine) (seat : ℕ) (ts : List Event) → seat ≤ limits.batch → AreTakes sys limits m seat ts → seat + length ts ≤ limits.batch
  few_takes m seat [] low h = omega (arith, low)
  few_takes m seat (t ∷ ts) low h = let in_batch = h.0.in_batch in let rest = few_takes (happens m t) (suc seat) ts in_batch h.1 in omega (arith, rest)

pub takes_within : (sys : System) (limits : Limits) (m : Machine) (ts : List Event) → AreTakes sys limits m 0 ts → length ts ≤ limits.batch
takes_within sys limits m ts h = let few = few_takes sys limits m 0 ts (omega arith) h in omega (arith, few)

-- before the first seat
pub taking_starts : (a : CoreView) (briefs : List Brief) → briefs ≡ [] → AreTaking a briefs 0 a
taking_starts a briefs is = subst (λ xs. AreTaking a xs 0 a) (sym is) (record {
  takes = [];
  made = made_nothing a;
  taken = tt;
  seats = refl;
  many = refl;
  briefed = Each-nil (λ k x. IsBriefed a k x);
})

module _ (a b : CoreView) (briefs : List Brief) (seat : ℕ) (h : AreTaking a briefs seat b) where
  -- the next seat is free
  pub next_free : IsAtRest a.limits (now a) → seat < a.limits.batch → IsFreeFor b seat
  next_free rest low job due =
      let at = length h.takes in
      let before : Takes a.sys a.limits (run (now a) h.takes) at (E.Take at job) =
      moved_back (λ s l m. Takes s l m at (E.Take at job)) a b h.takes h.made
      (record { job = job; in_batch = subst (λ (l : Limits). at < l.batch) (sym h.made.limits) (subst (λ n. n < a.limits.batch) (sym h.seats) low); due = due; is = refl }) in
      let free = (take_legal a.sys a.limits (now a) h.takes (E.Take at job) rest h.taken before).allowed.free in
      ap (λ (m : Machine). held_by m.jobs seat) (made_now a b h.takes h.made) ∙ ap (held_by (run (now a) h.takes).jobs) (sym h.seats) ∙ free

  -- what the next seat gives
  abbrev IsNext : CoreView → Option Brief → Type 0
  IsNext d taken = MatchOption taken (HasTakenNone b seat d) (λ brief. HasTakenOne b seat brief d)

  -- it takes a job
  one_more : (d : CoreView) (brief : Brief) → HasTakenOne b seat brief d → AreTaking a (briefs ++ brief ∷ []) (seat + 1) d
  one_more d brief one = record {
    takes = h.takes ++ one.take ∷ [];
    made = made_both a b d h.takes (one.take ∷ []) h.made one.made;
    taken = one_more_take a.sys a.limits (now a) 0 h.takes one.take h.taken
        (moved_back (λ s l m. Takes s l m (0 + length h.takes) one.take) a b h.takes h.made (subst (λ k. Takes b.sys b.limits (now b) k one.take) (sym h.seats ∙ omega arith) one.taken));
    seats = length-append h.takes (one.take ∷ []) ∙ ap (λ n. n + 1) h.seats;
    many = length-append briefs (brief ∷ []) ∙ ap (λ n. n + 1) h.many;
    briefed = λ k x e. by k x (get-push briefs brief k x e);
  }
    where
      own : worker_of one.take ≡ seat
      own = ap worker_of one.taken.is

      other : (k : ℕ) → k < seat → Each (one.take ∷ []) (λ i e. ¬ (worker_of e ≡ k))
      other k low = Each-cons one.take [] (λ i e. ¬ (worker_of e ≡ k)) (λ same. omega (arith, low, own, same)) (Each-nil (λ i e. ¬ (worker_of e ≡ k)))

      by : (k : ℕ) (x : Brief) → IsPushed briefs brief k x → IsBriefed d k x
      by k x (inl there) =
          let low = get-lt briefs k x there in
          let many = h.many in
          briefed_on b d (one.take ∷ []) k x one.made (other k (omega (arith, low, many))) (h.briefed k x there)
      by k x (inr is) = subst (λ y. IsBriefed d k y) is.1 (subst (λ i. IsBriefed d i brief) (sym (is.0 ∙ h.many)) one.briefed)

  pub taking_more : (d : CoreView) (brief : Brief) (taken : Option Brief) (more : List Brief) → taken ≡ Some brief → more ≡ briefs ++ brief ∷ [] → IsNext d taken → AreTaking a more (seat + 1) d
  taking_more d brief taken more is more_is h = subst (λ xs. AreTaking a xs (seat + 1) d) (sym more_is) (one_more d brief (subst (IsNext d) is h))

  taken_all : (d : CoreView) → HasMade b [] d → ((e : Event) → ¬ Takes a.sys a.limits (now d) (length h.takes) e) → HaveTaken a briefs d
  taken_all d made none = record {
    takes = h.takes;
    made = made_before a b d h.takes h.made made;
    taken = h.taken;
    no_more = none;
    many = h.many ∙ sym h.seats;
    briefed = λ k x e. briefed_on b d [] k x made (Each-nil (λ i y. ¬ (worker_of y ≡ k))) (h.briefed k x e);
  }

  -- or none
  stops : (d : CoreView) → HasTakenNone b seat d → HaveTaken a briefs d
  stops d none = taken_all d none.made (λ e t.
      none.none e (moved (λ s l m. Takes s l m seat e) a.sys b.sys a.limits b.limits (now d) (now b) (sym h.made.sys) (sym h.made.limits) (made_now b d [] none.made)
      (subst (λ k. Takes a.sys a.limits (now d) k e) h.seats t)))

  pub taking_stops : (d : CoreView) (taken : Option Brief) → taken ≡ None → IsNext d taken → HaveTaken a briefs d
  taking_stops d taken is h = stops d (subst (IsNext d) is h)
