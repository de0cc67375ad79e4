-- The end that the commands come to is told, and all else follows from that.
use Rattle.std.proofs.Common.{map}
use Rattle.std.specs.Prelude.{string_bytes}
use Rattle.updr_told.specs.Stops.{end_of_call}
use Rattle.updr_told.specs.Telling.{sunk}
use Rattle.updr_table.specs.Commands.{MayEnd}
use Rattle.updr_table.specs.Outside.{outside}
use Rattle.updr_table.specs.Table.{met}
use Rattle.updr_table.proofs.Serving.{told_end}
use Rattle.updr_table.proofs.Tabled.{answers}
use Rattle.updr_table.proofs.answering.answer.Goals as goal

pub returns : goal.returns
returns g c =
    let o = outside g.F.Files.contents g.F.Files.faults g.F.Files.refused c.args.files.now c.serve.new.files in
    let out = sunk g.O.Sink.written g.O.Sink.faults c.args.out.now c.tell.new.out in
    let err = sunk g.E.Sink.written g.E.Sink.faults c.args.err.now c.tell.new.err in
    let words = map string_bytes c.args.words.now in
    answers (met o out err c.tell.result.number c.tell.result.left) g.T.Table.commands words g.met.T.Table.sound
    (record {
      meant = end_of_call c.serve.result;
      comes = told_end (MayEnd g.T.Table.commands o words) c.serve.result c.serve.ensures;
      told = c.tell.ensures.told;
      handed_on = c.tell.ensures.left;
    })
