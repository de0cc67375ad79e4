use Rattle.std.proofs.Common.{◌≡◌, ◌+◌, ◌<◌, ◌∷◌, [], ◌++◌, Some, length, slice_get, sym, ap, ◌∙◌, append_assoc, length-append, arith}
use Rattle.std.specs.Vec.Iter.{into_iter_items}
use Rattle.std.proofs.lemmas.Option.{slice_get-get_or}
use Rattle.up_rounds.proofs.AllReports.{next-answered, one-more, has-brief, is-next}
use Rattle.up_rounds.proofs.reports.report_all.Goals as goal

pub report-requires : goal.report-requires
report-requires c =
    let at = c.each in
    let rest = into_iter_items c.next.new.self in
    let answer = c.in-Some.answer in
    let brief = c.index-briefs-seat.result in
    let whole : at.yielded ++ answer ∷ rest ≡ c.args.solved.items =
    ap (λ xs. at.yielded ++ xs) (sym c.in-Some.ensures.steps.0) ∙ at.invariant.0 ∙ c.into_iter-answer-iterator.ensures.into_iter_gives.0 in
    let are = c.requires.solved in
    let sys = c.args.core.now.sys in
    let limit = c.args.core.now.limits.weight in
    let lt : at.seat < length c.args.briefs.now = has-brief sys limit c.args.briefs.now c.args.solved.items at.yielded rest answer at.seat are whole at.invariant.2 in
    let there : slice_get c.args.briefs.now at.seat ≡ Some brief = slice_get-get_or c.args.briefs.now at.seat brief lt ∙ ap Some (sym c.index-briefs-seat.is) in
    next-answered c.args.core.now c.args.briefs.now at.seat at.core at.invariant.3 c.args.solved.items brief answer are there
    (is-next sys limit c.args.briefs.now c.args.solved.items at.yielded rest answer at.seat are whole at.invariant.2)

pub each-preserved : goal.each-preserved
each-preserved c =
    let at = c.each in
    let x = c.in-Some.answer in
    let steps = c.in-Some.ensures.steps.0 in (
      append_assoc at.yielded (x ∷ []) (into_iter_items c.next.new.self) ∙ ap (λ xs. at.yielded ++ xs) (sym steps) ∙ at.invariant.0,
      let was = at.invariant.1 in
          let gone = c.in-Some.ensures.steps.1 in
          let short = ap length steps in
          omega arith,
      length-append at.yielded (x ∷ []) ∙ ap (λ n. n + 1) at.invariant.2,
      one-more c.args.core.now c.args.briefs.now at.seat at.core at.invariant.3 c.report.new.core c.if-not-report.ensures,
    )
