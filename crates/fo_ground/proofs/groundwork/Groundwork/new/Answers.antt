use Rattle.std.proofs.Common.{ap}
use Rattle.fo_ground.specs.declared.layout.Layout.{Layout}
use Rattle.fo_ground.proofs.groundwork.Groundwork.new.Goals as goal

pub returns-clause-groundwork : goal.returns-clause-groundwork
returns-clause-groundwork c = record { sig = c.args.sig.now; form = c.args.form.now; can = c.requires; layout = c.in_ok-layout.ensures.layout; few = c.in_ok-layout.ensures.small }

pub returns-clause-serves : goal.returns-clause-serves
returns-clause-serves c = record { symbols = ap (λ (l : Layout). l.sig) c.in_ok-layout.ensures.layout; copies = ap (λ (l : Layout). l.copies) c.in_ok-layout.ensures.layout }
