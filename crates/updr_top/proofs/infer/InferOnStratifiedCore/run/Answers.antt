use denote.Param.Send.{sendable}
use Rattle.std.proofs.Common.{subst}
use Rattle.fo_solve.proofs.Crossing.{engine_send}
use Rattle.up_machine.specs.declared.limits.Limits.{Limits}
use Rattle.up_rounds.specs.Courses.{IsRun}
use Rattle.updr_table.specs.Rows.{contents_of}
use Rattle.updr_top.specs.Infer.{search_text}
use Rattle.updr_top.proofs.Finished.{own_limits, rounds_finished, rounds_own}
use Rattle.updr_top.proofs.SearchEnds.{report_ends}
use Rattle.updr_top.proofs.infer.InferOnStratifiedCore.run.Goals as goal

pub returns : goal.returns
returns g c =
    let sys = c.args.meant.now.sys in
    let core = c.in_ok-core.core in
    let ran = subst (λ (l : Limits). IsRun sys core.order l core) c.limits_by-limits.ensures.is (rounds_own sys _ _ core c.in_ok-core.ensures) in
    report_ends IsRun search_text _ c.args.meant.now (contents_of c.args._contents.now) core ran c.in_ok-reported.field-0 c.in_ok-reported.ensures

pub reported-requires-clause-finished : goal.reported-requires-clause-finished
reported-requires-clause-finished g c = own_limits _ _ _ (rounds_finished _ _ _ _ c.in_ok-core.ensures)

pub infer_rounds-requires-send-M-One : goal.infer_rounds-requires-send-M-One
infer_rounds-requires-send-M-One g c κs within = search (sendable, engine_send)
