-- A look that is taken where no job is out, and put back.
use Rattle.std.proofs.Common.{◌≡◌, List, [], ◌∷◌, ◌++◌, ap, ◌∙◌}
use Rattle.up_machine.specs.declared.event.Event.TheVariants as E
use Rattle.up_machine.specs.declared.event.Why.TheVariants as Y
use Rattle.up_machine.specs.declared.job.Job.TheVariants as J
use Rattle.up_machine.specs.Finding.{HoldsJob}
use Rattle.up_machine.specs.Machine.{Given, Held, Look, Machine, cubes_from, done_seeds, held_by, to_avoid}
use Rattle.up_machine.specs.Replay.{released}
use Rattle.up_machine.proofs.Histories.{replay-push}
use Rattle.up_core.specs.View.{CoreView, now, with_event}
use Rattle.bench_events.specs.Idle.{IsIdle}

abbrev given_look : Machine → Given
given_look m = Look m.frontier (cubes_from m.clauses m.frontier) (to_avoid m) (done_seeds m)

abbrev held_look : Machine → Held
held_look m = record { worker = 0; given = given_look m }

-- the look is the only job that is out
taken : (c d : CoreView) → IsIdle c → d ≡ with_event c (E.Take 0 J.Look) → (now d).jobs ≡ held_look (now c) ∷ []
taken c d idle made =
    ap (λ (x : CoreView). (now x).jobs) made
    ∙ ap (λ (m : Machine). m.jobs) (replay-push c.history (E.Take 0 J.Look))
    ∙ ap (λ (jobs : List Held). jobs ++ held_look (now c) ∷ []) idle

pub holds_look : (c d : CoreView) → IsIdle c → d ≡ with_event c (E.Take 0 J.Look) → HoldsJob (now d) 0
holds_look c d idle made = record { given = given_look (now c); held = ap (λ (jobs : List Held). held_by jobs 0) (taken c d idle made) }

pub idle_again : (c d e : CoreView) → IsIdle c → d ≡ with_event c (E.Take 0 J.Look) → e ≡ with_event d (E.Return 0 Y.NoMemory) → IsIdle e
idle_again c d e idle made given_back =
    ap (λ (x : CoreView). (now x).jobs) given_back
    ∙ ap (λ (m : Machine). m.jobs) (replay-push d.history (E.Return 0 Y.NoMemory))
    ∙ ap (released 0) (taken c d idle made)
