-- In whatever way a machine was run to its end, its history is whole.
use Rattle.std.proofs.Common.{◌≡◌, ◌∙◌, List, None, ap, refl, subst, sym}
use Rattle.fo_core.specs.declared.order.Order.{Order}
use Rattle.fo_core.specs.declared.system.System.{System}
use Rattle.up_core.specs.View.{CoreView, now}
use Rattle.up_free.specs.Crew.{IsFreeRun}
use Rattle.up_machine.specs.declared.event.Event.{Event}
use Rattle.up_machine.specs.declared.event.Event.TheVariants as E
use Rattle.up_machine.specs.declared.limits.Limits.{Limits}
use Rattle.up_machine.specs.Machine.{Machine}
use Rattle.up_machine.specs.Replay.{replay}
use Rattle.up_machine.proofs.Histories.{replay-push}
use Rattle.up_machine.proofs.Lists.{none_is_some}
use Rattle.up_rounds.specs.Courses.{IsRun}
use Rattle.up_rounds.proofs.SoundRuns.{run_whole}
use Rattle.updr_top.specs.Tellings.{IsFinished}

pub rounds_finished : (sys : System) (order : Order) (limits : Limits) (c : CoreView) → IsRun sys order limits c → IsFinished sys limits c
rounds_finished sys order limits c ran = record { sys_is = ran.sys_is; limits_are = ran.limits_are; whole = run_whole sys order limits c ran }

pub free_finished : (sys : System) (order : Order) (limits : Limits) (c : CoreView) → IsFreeRun sys order limits c → IsFinished sys limits c
free_finished sys order limits c ran = record { sys_is = ran.sys_is; limits_are = ran.limits_are; whole = ran.sound.whole }

-- so it has an end
pub never_open : (sys : System) (limits : Limits) (c : CoreView) → IsFinished sys limits c → (now c).ending ≡ None → ⊥
never_open sys limits c f none =
    let over = f.whole.ends in
    let ended = ap (λ (h : List Event). (replay h).ending) over.closes ∙ ap (λ (m : Machine). m.ending) (replay-push over.before (E.Close over.worker over.end)) in
    none_is_some over.end (sym none ∙ ended)

-- ---- a machine has its own order

pub rounds_own : (sys : System) (order : Order) (limits : Limits) (c : CoreView) → IsRun sys order limits c → IsRun sys c.order limits c
rounds_own sys order limits c ran = record { sys_is = ran.sys_is; order_is = refl; limits_are = ran.limits_are; course = ran.course }

pub free_own : (sys : System) (order : Order) (limits : Limits) (c : CoreView) → IsFreeRun sys order limits c → IsFreeRun sys c.order limits c
free_own sys order limits c ran = record {
  sys_is = ran.sys_is;
  order_is = refl;
  limits_are = ran.limits_are;
  sound = ran.sound;
  justified = ran.justified;
  workers = ran.workers;
  last = ran.last;
}

-- and its own limits
pub own_limits : (sys : System) (limits : Limits) (c : CoreView) → IsFinished sys limits c → IsFinished sys c.limits c
own_limits sys limits c finished = subst (λ (l : Limits). IsFinished sys l c) (sym finished.limits_are) finished
