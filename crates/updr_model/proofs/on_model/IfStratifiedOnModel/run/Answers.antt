-- The system is refused, or a row over it is a row of the command.
use Rattle.std.proofs.Common.{refl}
use Rattle.std.proofs.lemmas.Result.{err_from_is_err_and}
use Rattle.fo_core.specs.declared.order.Order.{Order}
use Rattle.updr_table.specs.Rows.{contents_of}
use Rattle.updr_table.proofs.Serving.{refused_ends, wider_ends}
use Rattle.updr_words.specs.Jobs.{job_of}
use Rattle.updr_model.specs.Cycles.{RefusesSystem}
use Rattle.updr_model.specs.OnModel.{Given}
use Rattle.updr_model.proofs.Ending.{cycle_ends, order_ends}
use Rattle.updr_model.proofs.on_model.IfStratifiedOnModel.run.Goals as goal

pub returns-in_err-order : goal.returns-in_err-order
returns-in_err-order g c =
    let p = err_from_is_err_and c.from_residual.result c.from_residual.ensures.1 in
    let aim = g.W.OnStratified.aim in
    let given : Given = record { meant = c.args.meant.now; contents = contents_of c.args.contents.now } in
    let refused = rw c.purpose.ensures at c.in_err-order.ensures.refused in
    rw (p.1, p.2) (refused_ends Order (RefusesSystem aim given.meant.sys given.meant.names) _
    (λ end h. cycle_ends aim given (g.W.OnStratified.rows (job_of c.args.job.now)) end h) c.in_err-order.field-0.0 refused)

pub returns : goal.returns
returns g c =
    let aim = g.W.OnStratified.aim in
    let given : Given = record { meant = c.args.meant.now; contents = contents_of c.args.contents.now } in
    let rises = rw c.purpose.ensures at c.in_ok-order.ensures.rises in
    wider_ends _ _
    (λ end h. order_ends aim given (record { stratified = (c.in_ok-order.order.numbers, rises); same = refl }) (g.W.OnStratified.rows (job_of c.args.job.now)) end h) c.run.result c.run.ensures
