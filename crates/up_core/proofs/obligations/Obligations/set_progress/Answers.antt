use Rattle.std.proofs.Common.{ap, ◌∙◌}
use Rattle.up_core.specs.Steps.{change_where, with_progress}
use Rattle.up_core.proofs.OpenKept.{open-kept}
use Rattle.up_core.proofs.obligations.Obligations.set_progress.Goals as goal

pub invariant_of-self : goal.invariant_of-self
invariant_of-self c =
    let x = c.self.inside in
    let put = c.put_progress.ensures in
    open-kept x.entries x.open c.put_progress.new.open x.seeds x.room c.put_progress.new.entries c.args.place c.args.progress c.self.invariant
    (put.entries ∙ ap (change_where c.args.place (with_progress c.args.progress)) c.as_mut_slice.ensures.value) put.open put.capacity
