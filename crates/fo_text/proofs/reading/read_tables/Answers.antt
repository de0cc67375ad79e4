use Rattle.std.proofs.Common.{◌+◌, drop}
use Rattle.std.proofs.lemmas.Result.{err_from_is_err_and}
use Rattle.fo_text.specs.Reading.{table_at, tables_at}
use Rattle.fo_text.proofs.Loops.{list_step, list_ends, list_done, tables_step, tables_none}
use Rattle.fo_text.proofs.reading.read_tables.Goals as goal

pub returns-in_err-read : goal.returns-in_err-read
returns-in_err-read c =
    let p = err_from_is_err_and c.from_residual.result c.from_residual.ensures.1 in
    let k = tables_step c.args.lines.now c.each.line-index c.line-item.result c.each.rest.now c.each-test.true c.line-item.is in
    rw (p.1, p.2) (list_ends c.in_err-read.field-0.0 c.each.tables (table_at c.line-item.result c.each.rest.now) (λ l. tables_at (drop (c.each.line-index + 1) c.args.lines.now) l) (tables_at (drop c.each.line-index c.args.lines.now) c.each.rest.now) (tables_at c.args.lines.now c.args.bytes.now) k c.in_err-read.ensures c.each.invariant)

pub each-preserved : goal.each-preserved
each-preserved c =
    let k = tables_step c.args.lines.now c.each.line-index c.line-item.result c.each.rest.now c.each-test.true c.line-item.is in
    rw c.in_ok-push.ensures.ok (list_step c.each.tables (table_at c.line-item.result c.each.rest.now) (λ l. tables_at (drop (c.each.line-index + 1) c.args.lines.now) l) c.in_ok-read.read c.in_ok-read.after.now (tables_at (drop c.each.line-index c.args.lines.now) c.each.rest.now) (tables_at c.args.lines.now c.args.bytes.now) k c.in_ok-read.ensures c.each.invariant)

pub returns : goal.returns
returns c = list_done c.each.tables c.each.rest.now (tables_at (drop c.each.line-index c.args.lines.now) c.each.rest.now) (tables_at c.args.lines.now c.args.bytes.now) (tables_none c.args.lines.now c.each.line-index c.each.rest.now c.each-test.false) c.each.invariant
