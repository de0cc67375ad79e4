use denote.Param.Send.{sendable}
use Rattle.std.proofs.Common.{ap, sym, subst, ◌≡◌, ◌∙◌}
use Rattle.up_core.specs.declared.kept_value.Basis.{Basis}
use Rattle.up_core.specs.Shared.{basis_of}
use Rattle.up_core.specs.View.{now}
use Rattle.up_machine.specs.Due.{IsDue}
use Rattle.up_free.specs.Crew.{EachGivesUpLast}
use Rattle.up_free.proofs.Crossing.{core_send}
use Rattle.up_free.proofs.FreeRuns.{free_run}
use Rattle.up_free.proofs.Spreading.{last_of_all}
use Rattle.up_free.proofs.crew.infer_free.Goals as goal

pub new-requires-2-send-S : goal.new-requires-2-send-S
new-requires-2-send-S g c κs = search (sendable, core_send)

pub close-core-requires-send-S : goal.close-core-requires-send-S
close-core-requires-send-S g c κs = search (sendable, core_send)

pub returns-in-Ended : goal.returns-in-Ended
returns-in-Ended g c =
    let core = c.close-core.result in
    let t = c.in-Ok.both.0 in
    let p = c.spread-pass.result in
    let asked : Basis = record { sys = c.args.sys.now; order = c.args.order.now; limits = c.args.limits } in
    let base : basis_of core ≡ asked = c.close-core.ensures.base ∙ c.in-Ok.ensures.turnstile.0 ∙ ap basis_of c.in_ok-core.ensures in
    let few : t.callers ≡ core.limits.workers = c.in-Ok.ensures.turnstile.1 ∙ ap (λ (b : Basis). b.limits.workers) (sym base) in
    let own = c.in-Ok.both.1 in
    let numbers = c.spread-pass.ensures.numbers in
    let many : own.to ≡ t.callers = c.in-Ok.ensures.numbers.1 ∙ sym c.in-Ok.ensures.turnstile.1 in
    let each = last_of_all p.from p.to own.from own.to p.seen core.history numbers.0 numbers.1 c.close-core.ensures.goes_on c.spread-pass.ensures.last in
    let last = subst (λ i. EachGivesUpLast i t.callers core.history) c.in-Ok.ensures.numbers.0 (subst (λ j. EachGivesUpLast own.from j core.history) many each) in
    let due = subst (IsDue core.sys core.limits (now core)) c.in-Ended.is c.next_task.ensures in
    free_run core t.callers c.stays_sound.ensures.infer c.stays_sound.ensures.legal due few c.close-core.ensures.carried last asked base
