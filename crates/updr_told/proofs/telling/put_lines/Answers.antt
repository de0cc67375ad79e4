-- What was put goes on by a line, or by a part of one.
use Rattle.std.proofs.Common.{rules, ◌≡◌, ◌++◌, ◌∙◌, ap₂, List, ℕ}
use Rattle.std.proofs.lemmas.List.{take-append-drop}
use Rattle.pv_base.specs.Written.{Appends, AppendsPrefix}
use Rattle.pv_base.specs.Counts.{Rose}
use Rattle.updr_told.specs.Telling.{sunk, TakesPart}
use Rattle.updr_told.proofs.Prefixes.{more_done, part_done, on_err}
use Rattle.updr_told.proofs.telling.put_lines.Goals as goal

pub each-preserved : goal.each-preserved
each-preserved g c =
    let parts : c.split_at.result.0.now ++ c.split_at.result.1.now ≡ c.each.rest.now =
    ap₂ (λ (a b : List ℕ). a ++ b) c.split_at.ensures.front c.split_at.ensures.back ∙ take-append-drop c.line_length.result c.each.rest.now in
    let put : Appends (g.O.Sink.written c.each.out) c.split_at.result.0.now (g.O.Sink.written c.put.new.self) = search rules in
    record {
      done = more_done c.args.text.now c.each.rest.now c.split_at.result.0.now c.split_at.result.1.now _ _ _ c.each.invariant.done parts put;
      quiet = search rules;
    }

pub returns-in_err-put-clause-part : goal.returns-in_err-put-clause-part
returns-in_err-put-clause-part g c =
    let parts : c.split_at.result.0.now ++ c.split_at.result.1.now ≡ c.each.rest.now =
    ap₂ (λ (a b : List ℕ). a ++ b) c.split_at.ensures.front c.split_at.ensures.back ∙ take-append-drop c.line_length.result c.each.rest.now in
    let put : AppendsPrefix (g.O.Sink.written c.each.out) c.split_at.result.0.now (g.O.Sink.written c.put.new.self) = search rules in
    let rose : Rose (g.O.Sink.faults c.args.out.now) (g.O.Sink.faults c.put.new.self) = search rules in
    let part : TakesPart (sunk g.O.Sink.written g.O.Sink.faults c.args.out.now c.put.new.self) c.args.text.now = record {
      appended = part_done c.args.text.now c.each.rest.now c.split_at.result.0.now c.split_at.result.1.now _ _ _ c.each.invariant.done parts put;
      rose = rose;
    } in
    on_err c.from_residual.result _ part
