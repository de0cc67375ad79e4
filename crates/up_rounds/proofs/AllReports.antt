-- The seats report in order.
use Rattle.std.proofs.Common.{◌≡◌, ℕ, suc, ◌+◌, ◌<◌, ◌≤◌, inl, inr, true, false, List, [], ◌∷◌, ◌++◌, length, Some, slice_get, refl, sym, ap, subst, ◌∙◌, append_assoc, append-nil, length-append, arith}
use Rattle.fo_core.specs.declared.system.System.{System}
use Rattle.up_machine.specs.declared.brief.Brief.{Brief}
use Rattle.up_machine.specs.declared.event.Event.{Event}
use Rattle.up_machine.specs.declared.limits.Limits.{Limits}
use Rattle.up_machine.specs.Machine.{Machine, start, held_by}
use Rattle.up_machine.specs.Replay.{happens, run, replay, worker_of}
use Rattle.up_machine.specs.Rounds.{IsReport}
use Rattle.up_machine.proofs.Histories.{run-append}
use Rattle.up_machine.proofs.Holding.{run-held}
use Rattle.up_machine.proofs.Lists.{Each-cons, Each-nil}
use Rattle.up_jobs.specs.declared.solved.Solved.{Solved}
use Rattle.up_jobs.specs.Solving.{CanSolve, IsBriefOf, IsSolved}
use Rattle.up_core.specs.View.{CoreView, now}
use Rattle.up_seats.specs.Seats.{IsAnswered, IsBriefed, IsReported, MayStop}
use Rattle.up_rounds.specs.Asking.{AreBriefed, AreSolved, HaveAllReported}
use Rattle.up_seats.specs.Making.{HasMade}
use Rattle.up_rounds.specs.OneRound.{AreReports}

-- what has been made of the machine in code is what the events make of the machine
now-made : (before after : CoreView) (es : List Event) → HasMade before es after → now after ≡ run (now before) es
now-made before after es made = ap replay made.history ∙ run-append start before.history es

made-more : (before mid after : CoreView) (es : List Event) (e : Event) → HasMade before es mid → HasMade mid (e ∷ []) after → HasMade before (es ++ e ∷ []) after
made-more before mid after es e first next = record {
  sys = next.sys ∙ first.sys;
  order = next.order ∙ first.order;
  limits = next.limits ∙ first.limits;
  history = next.history ∙ ap (λ h. h ++ e ∷ []) first.history ∙ append_assoc before.history es (e ∷ []);
}

module _ (sys : System) (limits : Limits) where
  reports-more : (m : Machine) (seat : ℕ) (es : List Event) (e : Event) → AreReports sys limits m seat es → IsReport sys limits (run m es) (seat + length es) e → AreReports sys limits m seat (es ++ e ∷ [])
  reports-more m seat [] e h r = let same : seat + 0 ≡ seat = omega arith in (subst (λ n. IsReport sys limits m n e) same r, tt)
  reports-more m seat (x ∷ es) e h r =
      let same : seat + suc (length es) ≡ suc seat + length es = omega arith in
      (h.0, reports-more (happens m x) (suc seat) es e h.1 (subst (λ n. IsReport sys limits (run (happens m x) es) n e) same r))

-- what a later seat was given is still its own after another's report
module _ (c after : CoreView) (seat : ℕ) (e : Event) (by : worker_of e ≡ seat) (made : HasMade c (e ∷ []) after) where
  still-held : (k : ℕ) → ¬ (seat ≡ k) → held_by (now after).jobs k ≡ held_by (now c).jobs k
  still-held k other =
      let apart : ¬ (worker_of e ≡ k) = λ same. other (sym by ∙ same) in
      let each = Each-cons e [] (λ j x. ¬ (worker_of x ≡ k)) apart (Each-nil (λ j x. ¬ (worker_of x ≡ k))) in
      ap (λ (m : Machine). held_by m.jobs k) (now-made c after (e ∷ []) made) ∙ run-held (now c) (e ∷ []) k each

  still-briefed : (k : ℕ) (brief : Brief) → ¬ (seat ≡ k) → IsBriefed c k brief → IsBriefed after k brief
  still-briefed k brief other b = record {
    given = b.given;
    held = still-held k other ∙ b.held;
    brief_is = subst (λ (sys : System). IsBriefOf sys.sig b.given brief) (sym made.sys) b.brief_is;
    solvable = subst (λ order. CanSolve after.sys order brief) (sym made.order) (subst (λ sys. CanSolve sys c.order brief) (sym made.sys) b.solvable);
  }

-- The seats before this one have reported, and those from it on hold their jobs as before.
pub record HaveReportedTo (before : CoreView) (briefs : List Brief) (seat : ℕ) (after : CoreView) : Type 0 where
  pub reports : List Event
  pub made : HasMade before reports after
  pub reported : AreReports before.sys before.limits (now before) 0 reports
  pub many : length reports ≡ seat
  pub left : (k : ℕ) (brief : Brief) → seat ≤ k → slice_get briefs k ≡ Some brief → IsBriefed after k brief

module _ (before : CoreView) (briefs : List Brief) where
  pub none-yet : AreBriefed before briefs → HaveReportedTo before briefs 0 before
  none-yet briefed = record {
    reports = [];
    made = record { sys = refl; order = refl; limits = refl; history = sym (append-nil before.history) };
    reported = tt;
    many = refl;
    left = λ k brief le there. briefed k brief there;
  }

  module _ (seat : ℕ) (mid : CoreView) (h : HaveReportedTo before briefs seat mid) where
    -- the next seat's answer is one to the brief that it holds
    pub next-answered : (solved : List Solved) (brief : Brief) (answer : Solved) → AreSolved before.sys before.limits.weight briefs solved →
        slice_get briefs seat ≡ Some brief → slice_get solved seat ≡ Some answer → IsAnswered mid seat brief answer
    next-answered solved brief answer are there answered =
        let b = h.left seat brief (omega arith) there in
        let given_here = are.each seat brief answer there answered in (
          b.given,
          record {
            held = b.held;
            brief_is = b.brief_is;
            answer = subst (λ (limits : Limits). IsSolved mid.sys limits.weight brief answer) (sym h.made.limits)
                (subst (λ sys. IsSolved sys before.limits.weight brief answer) (sym h.made.sys) given_here);
          },
        )

    same-report : (e : Event) → IsReport mid.sys mid.limits (now mid) seat e → IsReport before.sys before.limits (run (now before) h.reports) seat e
    same-report e r =
        subst (λ m. IsReport before.sys before.limits m seat e) (now-made before mid h.reports h.made)
        (subst (λ limits. IsReport before.sys limits (now mid) seat e) h.made.limits
        (subst (λ sys. IsReport sys mid.limits (now mid) seat e) h.made.sys r))

    pub one-more : (after : CoreView) → IsReported mid seat true after → HaveReportedTo before briefs (seat + 1) after
    one-more after (e, made, r) = record {
      reports = h.reports ++ e ∷ [];
      made = made-more before mid after h.reports e h.made made;
      reported = reports-more before.sys before.limits (now before) 0 h.reports e h.reported
          (let same : seat ≡ 0 + length h.reports = omega (arith, many) in subst (λ n. IsReport before.sys before.limits (run (now before) h.reports) n e) same (same-report e r));
      many = length-append h.reports (e ∷ []) ∙ ap (λ n. n + 1) h.many;
      left = λ k brief le there. still-briefed mid after seat e r.by_seat made k brief (λ same. omega (arith, same, le)) (h.left k brief (omega (arith, le)) there);
    }
      where
        many : length h.reports ≡ seat
        many = h.many

    pub stops : (after : CoreView) → seat ≤ length briefs → IsReported mid seat false after → HaveAllReported before (length briefs) after
    stops after le (same, none, stop) = record {
      reports = h.reports;
      made = subst (λ v. HasMade before h.reports v) (sym same) h.made;
      reported = h.reported;
      few = few;
      stopped = inr (
        subst (λ n. MayStop after n) (sym h.many) (subst (λ v. MayStop v seat) (sym same) stop),
        λ e r. none e (back e (subst (λ n. IsReport before.sys before.limits (now after) n e) h.many r)),
      );
    }
      where
        few : length h.reports ≤ length briefs
        few = let many = h.many in omega (arith, many, le)

        back : (e : Event) → IsReport before.sys before.limits (now after) seat e → IsReport mid.sys mid.limits (now mid) seat e
        back e r =
            subst (λ sys. IsReport sys mid.limits (now mid) seat e) (sym h.made.sys)
            (subst (λ limits. IsReport before.sys limits (now mid) seat e) (sym h.made.limits)
            (subst (λ v. IsReport before.sys before.limits (now v) seat e) same r))

    pub all-done : seat ≡ length briefs → HaveAllReported before (length briefs) mid
    all-done same = record {
      reports = h.reports;
      made = h.made;
      reported = h.reported;
      few = let many = h.many in omega (arith, many, same);
      stopped = inl (h.many ∙ same);
    }

get-middle : (xs : List Solved) (x : Solved) (ys : List Solved) → slice_get (xs ++ x ∷ ys) (length xs) ≡ Some x
get-middle [] x ys = refl
get-middle (y ∷ xs) x ys = get-middle xs x ys

-- the answer that comes after as many as there are seats before is that of the seat, which has a brief
module _ (sys : System) (limit : ℕ) (briefs : List Brief) (solved told rest : List Solved) (answer : Solved) (seat : ℕ)
    (are : AreSolved sys limit briefs solved) (whole : told ++ answer ∷ rest ≡ solved) (many : length told ≡ seat) where
  pub has-brief : seat < length briefs
  has-brief =
      let parts = length-append told (answer ∷ rest) in
      let all = ap length whole in
      let same = are.many in
      omega (arith, parts, all, same, many)

  pub is-next : slice_get solved seat ≡ Some answer
  is-next = subst (λ xs. slice_get xs seat ≡ Some answer) whole (subst (λ n. slice_get (told ++ answer ∷ rest) n ≡ Some answer) many (get-middle told answer rest))
