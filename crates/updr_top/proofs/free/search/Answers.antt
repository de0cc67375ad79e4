use denote.Param.Send.{sendable}
use Rattle.std.proofs.Common.{refl, subst}
use Rattle.fo_solve.proofs.Crossing.{engine_send}
use Rattle.up_free.specs.Crew.{IsFreeRun}
use Rattle.up_machine.specs.declared.limits.Limits.{Limits}
use Rattle.updr_words.specs.Jobs.{job_of}
use Rattle.updr_top.specs.Free.{RunsFreely}
use Rattle.updr_top.specs.Infer.{limits_of, search_text}
use Rattle.updr_top.specs.Tellings.{IsReportOf}
use Rattle.updr_top.proofs.Ended.{if_end}
use Rattle.updr_top.proofs.Finished.{free_finished, free_own, own_limits}
use Rattle.updr_top.proofs.SearchEnds.{report_ends}
use Rattle.updr_top.proofs.free.search.Goals as goal

pub infer_free-requires-send-M-One : goal.infer_free-requires-send-M-One
infer_free-requires-send-M-One g c κs within = search (sendable, engine_send)

pub reported-requires-clause-finished : goal.reported-requires-clause-finished
reported-requires-clause-finished g c = own_limits _ _ _ (free_finished _ _ _ _ c.in_ok-core.ensures)

pub returns : goal.returns
returns g c =
    let meant = c.args.meant.now in
    let core = c.in_ok-core.core in
    let ran = subst (λ (l : Limits). IsFreeRun meant.sys core.order l core) c.limits_by-limits.ensures.is (free_own meant.sys _ _ core c.in_ok-core.ensures) in
    if_end c.reported.result (IsReportOf search_text meant core) _
    (λ e r cs. (core.history, report_ends (RunsFreely core.history) search_text (limits_of (job_of c.args.job.now)) meant cs core (ran, refl) e r)) c.reported.ensures
