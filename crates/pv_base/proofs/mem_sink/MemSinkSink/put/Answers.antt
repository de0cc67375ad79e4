-- Half of the bytes went in.
use Rattle.std.proofs.Common.{◌∙◌, ◌/◌, ◌++◌, take, length, ap}
use Rattle.pv_base.specs.MemSink.{SinkInMemory}
use Rattle.pv_base.proofs.mem_sink.MemSinkSink.put.Goals as goal

pub returns-then-contains-clause-prefix : goal.returns-then-contains-clause-prefix
returns-then-contains-clause-prefix c = (
  length c.args.bytes.now / 2,
  ap (λ (s : SinkInMemory). s.bytes) (c.self-then-contains.view_is ∙ c.append.ensures)
      ∙ ap (λ (s : SinkInMemory). s.bytes ++ take (length c.args.bytes.now / 2) c.args.bytes.now) c.self.view_is,
)
