use Rattle.std.proofs.Common.{◌+◌, List, Option, subst}
use Rattle.fo_min.proofs.WorldLemmas.{if-ok}
use Rattle.up_core.specs.declared.leaves.Mark.{Mark}
use Rattle.up_core.specs.Mirror.{Pairs}
use Rattle.up_core.specs.Telling.{AreLeavesBy, AreMarks, IsLeaveBy}
use Rattle.up_core.proofs.Marked.{leaves-by}
use Rattle.up_core.proofs.leaves.leaves_of.Goals as goal

pub returns : goal.returns
returns c =
    let s = c.args.state.now in
    let history = c.args.history.now in
    let are = subst (λ n. AreMarks n s.clauses.items c.in_ok-marks.marks.items) c.frontier.ensures (subst (λ es. AreMarks c.frontier.result es c.in_ok-marks.marks.items) c.entries.ensures c.in_ok-marks.ensures) in
    if-ok _ (AreLeavesBy history s) c.leaves_by.result
    (λ leaves h. leaves-by history s c.in_ok-marks.marks.items leaves are
    (subst (λ (marks : List (Option Mark)). Pairs marks leaves (λ k mark leave. IsLeaveBy history (k + 1) mark leave)) c.as_slice.ensures.value h)) c.leaves_by.ensures
