use Rattle.std.proofs.Common.{◌+◌, ◌-◌, ◌∷◌, [], length, codes, sym, ap, ◌∙◌}
use Rattle.std.proofs.lemmas.Result.{err_from_is_err_and}
use Rattle.fo_text.proofs.Loops.{list_step, list_ends, list_done}
use Rattle.up_report.specs.ClauseReading.{clause_at}
use Rattle.up_report.specs.Reading.{gathered}
use Rattle.fo_text.specs.Reading.{choice_at, many_by}
use Rattle.up_report.proofs.Loops.{first_fails, item_or_end, many_step, many_stops, many_goes, many_none}
use Rattle.up_report.proofs.clauses_reading.read_more.Goals as goal

pub returns-in_err-word : goal.returns-in_err-word
returns-in_err-word c =
    let p = err_from_is_err_and c.from_residual.result c.from_residual.ensures.1 in
    let stop = c.args.stop.now in
    let go = codes "clause " in
    let item = clause_at c.args.sig.now c.args.names.now c.args.levels.least c.args.levels.most in
    let count = length c.args.bytes.now + 1 in
    let whole = gathered c.args.first (many_by stop go item count c.args.bytes.now) in
    rw (p.1, p.2) (first_fails c.in_err-word.field-0.0 c.each.clauses (choice_at [] [] (stop ∷ go ∷ []) c.each.rest.now) (item_or_end stop go item count c.each._i c.each.rest.now) (many_by stop go item (count - c.each._i) c.each.rest.now) whole (many_step stop go item count c.each._i c.each.rest.now c.each-test.true) c.in_err-word.ensures c.each.invariant)

pub returns-then-word-eq0 : goal.returns-then-word-eq0
returns-then-word-eq0 c =
    let stop = c.args.stop.now in
    let go = codes "clause " in
    let item = clause_at c.args.sig.now c.args.names.now c.args.levels.least c.args.levels.most in
    let count = length c.args.bytes.now + 1 in
    let whole = gathered c.args.first (many_by stop go item count c.args.bytes.now) in
    list_done c.each.clauses c.in_ok-word.after.now (many_by stop go item (count - c.each._i) c.each.rest.now) whole (many_stops stop go item count c.each._i c.each.rest.now c.in_ok-word.word c.in_ok-word.after.now c.each-test.true c.in_ok-word.ensures c.if-word-eq0.true) c.each.invariant

pub returns-in_err-kept : goal.returns-in_err-kept
returns-in_err-kept c =
    let p = err_from_is_err_and c.from_residual-in_err-kept.result c.from_residual-in_err-kept.ensures.1 in
    let stop = c.args.stop.now in
    let go = codes "clause " in
    let item = clause_at c.args.sig.now c.args.names.now c.args.levels.least c.args.levels.most in
    let count = length c.args.bytes.now + 1 in
    let whole = gathered c.args.first (many_by stop go item count c.args.bytes.now) in
    let k = many_goes stop go item count c.each._i c.each.rest.now c.in_ok-word.word c.in_ok-word.after.now c.each-test.true c.in_ok-word.ensures c.if-word-eq0.false in
    rw (p.1, p.2) (list_ends c.in_err-kept.field-0.0 c.each.clauses (item c.in_ok-word.after.now) (λ l. many_by stop go item (count - (c.each._i + 1)) l) (many_by stop go item (count - c.each._i) c.each.rest.now) whole k c.in_err-kept.ensures c.each.invariant)

pub each-preserved : goal.each-preserved
each-preserved c =
    let stop = c.args.stop.now in
    let go = codes "clause " in
    let item = clause_at c.args.sig.now c.args.names.now c.args.levels.least c.args.levels.most in
    let count = length c.args.bytes.now + 1 in
    let whole = gathered c.args.first (many_by stop go item count c.args.bytes.now) in
    let k = many_goes stop go item count c.each._i c.each.rest.now c.in_ok-word.word c.in_ok-word.after.now c.each-test.true c.in_ok-word.ensures c.if-word-eq0.false in
    rw c.in_ok-push.ensures.ok (list_step c.each.clauses (item c.in_ok-word.after.now) (λ l. many_by stop go item (count - (c.each._i + 1)) l) c.in_ok-kept.kept c.in_ok-kept.after.now (many_by stop go item (count - c.each._i) c.each.rest.now) whole k c.in_ok-kept.ensures c.each.invariant)

pub returns : goal.returns
returns c =
    let stop = c.args.stop.now in
    let go = codes "clause " in
    let item = clause_at c.args.sig.now c.args.names.now c.args.levels.least c.args.levels.most in
    let count = length c.args.bytes.now + 1 in
    sym c.each.invariant ∙ ap (gathered c.each.clauses) (many_none stop go item count c.each._i c.each.rest.now c.each-test.false)
