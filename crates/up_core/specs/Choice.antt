-- What is due, as it is chosen from the numbers that the code keeps.
use Rattle.std.specs.Prelude.{◌≡◌, ℕ, ◌<◌, ◌≤◌, ◌^◌, Bool, true, false, not, ◌&&◌, nat_eq, List, length, Option, None, Some, is_none, slice_get, MatchOption, ◌⊎◌, cond, nat_lt}
use Rattle.std.specs.List.{list_any}
use Rattle.fo_core.specs.declared.system.System.{System}
use Rattle.up_machine.specs.declared.job.Job.{Job}
use Rattle.up_machine.specs.declared.job.Job.TheVariants as J
use Rattle.up_machine.specs.declared.job.Task.{Task}
use Rattle.up_machine.specs.declared.limits.Limits.{Limits}
use Rattle.up_machine.specs.Due.{IsFirst, Else, by_obligation, by_frontier, by_clause, by_quiet, by_default}
use Rattle.up_machine.specs.Machine.{Machine}
use Rattle.up_core.specs.declared.obligations.OpenObligation.{OpenObligation}
use Rattle.up_core.specs.declared.state.ClauseEntry.{ClauseEntry}
use Rattle.up_core.specs.declared.state.JobEntry.{JobEntry}
use Rattle.up_core.specs.declared.state.ObligationEntry.{ObligationEntry}
use Rattle.up_core.specs.declared.state.Progress.{Progress}
use Rattle.up_core.specs.declared.state.Progress.TheVariants as P
use Rattle.up_core.specs.declared.state.State.{State}
pub use Rattle.up_core.specs.Places.{has_level, is_done, may_rise}

-- numbers of clauses and obligations fit 32 bits, and the secure level is that of a frame
pub record IsSmall (s : State) : Type 0 where
  pub clauses : length s.clauses.items < 2 ^ 32
  pub obligations : length s.obligations.items < 2 ^ 32
  pub secure : s.secure ≤ s.clauses.frontier

-- the first place that passes the test, if one does
abbrev pub IsFirstPlace : {X : Type 0} → List X → (ℕ → X → Bool) → Option ℕ → Type 0
IsFirstPlace {X} xs test place =
    MatchOption place
    ((k : ℕ) (x : X) → slice_get xs k ≡ Some x → ¬ (test k x ≡ true))
    (λ k. IsFirst xs (λ j x. test j x ≡ true) k)

abbrev pub is_rooted : Progress → Bool
is_rooted (P.Rooted place) = true
is_rooted P.Ready = false
is_rooted P.Out = false
is_rooted P.Waiting = false
is_rooted P.Done = false

abbrev pub is_ready : Progress → Bool
is_ready P.Ready = true
is_ready P.Out = false
is_ready P.Waiting = false
is_ready P.Done = false
is_ready (P.Rooted place) = false

-- a seed obligation that is done, or one that isn't
abbrev pub is_done_seed : ObligationEntry → Bool
is_done_seed e = is_none e.parent && is_done e.progress

abbrev pub is_open_seed : ObligationEntry → Bool
is_open_seed e = is_none e.parent && not (is_done e.progress)

abbrev pub is_trace : Job → Bool
is_trace (J.Trace k) = true
is_trace (J.Work k) = false
is_trace J.Look = false
is_trace (J.Push k) = false

abbrev pub is_look : Job → Bool
is_look J.Look = true
is_look (J.Work k) = false
is_look (J.Push k) = false
is_look (J.Trace k) = false

abbrev pub is_push_of : ℕ → Job → Bool
is_push_of n (J.Push k) = nat_eq k n
is_push_of n J.Look = false
is_push_of n (J.Work k) = false
is_push_of n (J.Trace k) = false

abbrev pub has_job : (Job → Bool) → List JobEntry → Bool
has_job test jobs = list_any (λ (e : JobEntry). test e.job) jobs

-- such a clause, of number k, that no worker pushes
abbrev pub is_to_push : ℕ → List JobEntry → ℕ → ClauseEntry → Bool
is_to_push frontier jobs k e = may_rise frontier e && not (has_job (is_push_of k) jobs)

module _ (clauses : List ClauseEntry) (secure : ℕ) where
  abbrev pub IsEmptyLevel : ℕ → Type 0
  IsEmptyLevel i = list_any (has_level i) clauses ≡ false

  -- the least level from 1 to the secure one that no live clause has, if there is one
  pub record IsLeastEmpty (i : ℕ) : Type 0 where
    pub low : 1 ≤ i
    pub high : i ≤ secure
    pub none : IsEmptyLevel i
    pub least : (j : ℕ) → 1 ≤ j → j < i → ¬ IsEmptyLevel j

  abbrev pub IsClosedAt : Option ℕ → Type 0
  IsClosedAt level =
      MatchOption level ((i : ℕ) → 1 ≤ i → i ≤ secure → ¬ IsEmptyLevel i) IsLeastEmpty

-- of the first obligations, this many, the first ready one of least level, if one is ready
module _ (obligations : List ObligationEntry) (many : ℕ) where
  pub record IsBest (k : ℕ) : Type 0 where
    pub entry : ObligationEntry
    pub there : slice_get obligations k ≡ Some entry
    pub ready : is_ready entry.progress ≡ true
    pub best : (j : ℕ) (e : ObligationEntry) → j < many → slice_get obligations j ≡ Some e →
        is_ready e.progress ≡ true →
        (entry.level < e.level) ⊎ (entry.level ≡ e.level) × (k ≤ j)

  abbrev pub IsBestPlace : Option ℕ → Type 0
  IsBestPlace place =
      MatchOption place
      ((j : ℕ) (e : ObligationEntry) → j < many → slice_get obligations j ≡ Some e →
      ¬ (is_ready e.progress ≡ true))
      IsBest

-- of the best obligation so far and a later one that to work on first
abbrev pub better_of : Option OpenObligation → OpenObligation → Option OpenObligation
better_of None next = cond (is_ready next.entry.progress) (Some next) None
better_of (Some best) next =
    cond (is_ready next.entry.progress && nat_lt next.entry.level best.entry.level) (Some next) (Some best)

-- what a rule gives, and nothing exactly where it gives no task
abbrev pub IsChoice : (Task → Type 0) → Option Task → Type 0
IsChoice rule choice = MatchOption choice ((t : Task) → ¬ rule t) rule

-- what the rules from the fifth on give
abbrev pub IsLaterDue : System → Limits → Machine → Task → Type 0
IsLaterDue sys limits m =
    Else (by_obligation sys limits m)
    (Else (by_frontier sys limits m)
    (Else (by_clause sys limits m)
    (Else (by_quiet sys limits m) (by_default sys limits m))))
