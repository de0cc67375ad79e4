-- The table of a search: a row for each kind of verdict, whatever is printed of it, and however the
-- machine was run.
use Rattle.std.specs.Prelude.{◌≡◌, ℕ, List, [], ◌∷◌, Option, Some}
use Rattle.fo_core.specs.declared.order.Order.{Order}
use Rattle.fo_core.specs.declared.system.System.{System}
use Rattle.fo_core.specs.Sorted.{IsSystem}
use Rattle.pyv_sorts.specs.declared.model.Elaborated.{Elaborated}
use Rattle.up_claims.specs.declared.verdict.Verdict.{Verdict}
use Rattle.up_machine.specs.declared.limits.Limits.{Limits}
use Rattle.up_machine.specs.Told.{Told}
use Rattle.up_core.specs.View.{CoreView}
use Rattle.up_rounds.specs.Courses.{IsRun}
use Rattle.up_rounds.proofs.OneCourse.{course_one}
use Rattle.up_seats.specs.Sound.{IsWhole}
use Rattle.updr_told.specs.Ends.{End, printing}
use Rattle.updr_told.specs.declared.status.Status.{Status}
use Rattle.updr_told.specs.declared.status.Status.TheVariants as status
use Rattle.updr_table.specs.Rows.{AtMostOne, Row}
use Rattle.updr_model.specs.OnModel.{Given}
use Rattle.updr_top.specs.OneStatus.{one_status, status_of}

-- what is printed of a verdict that a machine tells of a model
abbrev pub Printing : Type 0
Printing = Elaborated → CoreView → Verdict → List ℕ

-- How a machine may be run to its end: which machines of a system, an order and limits have been run
-- so. By rounds, `IsRun`, all machines of one system and limits come to one history.
abbrev pub Running : Type 1
Running = System → Order → Limits → CoreView → Type 0

-- The machine has this system and these limits, and its history is whole: each event was legal when
-- it came, and the last one is a Close.
pub record IsFinished (sys : System) (limits : Limits) (c : CoreView) : Type 0 where
  pub sys_is : c.sys ≡ sys
  pub limits_are : c.limits ≡ limits
  pub whole : IsWhole sys limits c.history

-- A machine of this system in these limits that was run so tells a verdict of this status.
pub record Tells (Ran : Running) (limits : Limits) (of : Status) (sys : System) : Type 0 where
  pub core : CoreView
  pub ran : Ran sys core.order limits core
  pub verdict : Verdict
  pub told : Told sys core.history verdict
  pub status_is : status_of verdict ≡ of

-- The machine that is left is one of this system in these limits and was run so; it tells a verdict
-- of this status, and the text is what is printed of it.
pub record Reports (Ran : Running) (printing_of : Printing) (limits : Limits) (of : Status)
    (e : Elaborated) (text : List ℕ) (left : Option CoreView) : Type 0 where
  pub core : CoreView
  pub left_is : left ≡ Some core
  pub ran : Ran e.sys core.order limits core
  pub verdict : Verdict
  pub told : Told e.sys core.history verdict
  pub status_is : status_of verdict ≡ of
  pub text_is : text ≡ printing_of e core verdict

-- the end prints what is printed of a verdict that the machine tells of the model, and leaves the
-- machine
pub record IsReportOf (printing_of : Printing) (e : Elaborated) (core : CoreView) (end : End CoreView) :
    Type 0 where
  pub verdict : Verdict
  pub told : Told e.sys core.history verdict
  pub is : end ≡ printing (status_of verdict) (printing_of e core verdict) (Some core)

abbrev pub told_row : Running → Printing → Limits → Status → Row Given CoreView
told_row Ran printing_of limits of = record {
  status = of;
  comes = λ g. Tells Ran limits of g.meant.sys;
  says = λ g text left. Reports Ran printing_of limits of g.meant text left;
}

-- an invariant; a violating run; a chain that leaves no universal invariant; or that the frames,
-- the steps or the weight of a query came to their limit
abbrev pub search_table : Running → Printing → Limits → List (Row Given CoreView)
search_table Ran printing_of limits =
    told_row Ran printing_of limits status.Holds
    ∷ told_row Ran printing_of limits status.Unsafe
    ∷ told_row Ran printing_of limits status.NoUniversal
    ∷ told_row Ran printing_of limits status.Bounded
    ∷ told_row Ran printing_of limits status.Spent
    ∷ told_row Ran printing_of limits status.Over
    ∷ []

-- ---- at most one row comes

-- all machines of one system and limits that were run so have one history
abbrev pub HasOneHistory : Running → Type 0
HasOneHistory Ran =
    (sys : System) (limits : Limits) (first second : Order) (c d : CoreView) → IsSystem sys →
    Ran sys first limits c → Ran sys second limits d → c.history ≡ d.history

pub rounds_have_one : HasOneHistory IsRun
rounds_have_one sys limits first second c d good p q =
    course_one sys limits c.history d.history good p.course q.course

module _ (Ran : Running) (one : HasOneHistory Ran) where
  -- of two statuses only one is told
  never_both : (limits : Limits) (a b : Status) (sys : System) → ¬ (a ≡ b) → IsSystem sys →
      Tells Ran limits a sys → Tells Ran limits b sys → ⊥
  never_both limits a b sys differ good p q =
      let same = one sys limits p.core.order q.core.order p.core q.core good p.ran q.ran in
      differ (one_status sys p.core.history q.core.history same p.verdict q.verdict a b p.told q.told p.status_is q.status_is)

  pub one_told : (printing_of : Printing) (limits : Limits) (g : Given) → IsSystem g.meant.sys →
      AtMostOne (search_table Ran printing_of limits) g
  one_told printing_of limits g good =
      let apart : (a b : Status) → ¬ (a ≡ b) → Tells Ran limits a g.meant.sys → Tells Ran limits b g.meant.sys → ⊥ = λ a b differ. never_both limits a b g.meant.sys differ good in (
        (λ p. (
          apart _ _ (λ (is : status.Holds ≡ status.Unsafe). cc) p,
          (
            apart _ _ (λ (is : status.Holds ≡ status.NoUniversal). cc) p,
            (
              apart _ _ (λ (is : status.Holds ≡ status.Bounded). cc) p,
              (
                apart _ _ (λ (is : status.Holds ≡ status.Spent). cc) p,
                (apart _ _ (λ (is : status.Holds ≡ status.Over). cc) p, tt),
              ),
            ),
          ),
        )),
        (
          (λ p. (
            apart _ _ (λ (is : status.Unsafe ≡ status.NoUniversal). cc) p,
            (
              apart _ _ (λ (is : status.Unsafe ≡ status.Bounded). cc) p,
              (
                apart _ _ (λ (is : status.Unsafe ≡ status.Spent). cc) p,
                (apart _ _ (λ (is : status.Unsafe ≡ status.Over). cc) p, tt),
              ),
            ),
          )),
          (
            (λ p. (
              apart _ _ (λ (is : status.NoUniversal ≡ status.Bounded). cc) p,
              (
                apart _ _ (λ (is : status.NoUniversal ≡ status.Spent). cc) p,
                (apart _ _ (λ (is : status.NoUniversal ≡ status.Over). cc) p, tt),
              ),
            )),
            (
              (λ p. (
                apart _ _ (λ (is : status.Bounded ≡ status.Spent). cc) p,
                (apart _ _ (λ (is : status.Bounded ≡ status.Over). cc) p, tt),
              )),
              (
                (λ p. (apart _ _ (λ (is : status.Spent ≡ status.Over). cc) p, tt)),
                ((λ _. tt), tt),
              ),
            ),
          ),
        ),
      )
