use Rattle.std.proofs.Common.{subst}
use Rattle.up_machine.specs.Due.{IsDue}
use Rattle.up_core.specs.View.{CoreView, now}
use Rattle.up_core.proofs.NextCores.{small-of}
use Rattle.up_core.proofs.kept.Core.next_task.Goals as goal

pub due-requires : goal.due-requires
due-requires c =
    let x = c.self.inside in
    small-of x.sys x.order x.limits x.history x.state x.spare x.picks x.variables x.widest c.self.invariant

pub returns : goal.returns
returns c =
    let x = c.self.inside in
    let core = c.self.invariant in
    subst (λ (v : CoreView). IsDue v.sys v.limits (now v) c.due.result) c.self.view_is (c.due.ensures x.sys x.history.items _ core.mirror)
