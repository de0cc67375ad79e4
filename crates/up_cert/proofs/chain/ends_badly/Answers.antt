use Rattle.std.proofs.Common.{sym, ◌∙◌}
use Rattle.up_cert.proofs.WorldLemmas.{some-links, ends-badly}
use Rattle.up_cert.proofs.chain.ends_badly.Goals as goal

pub returns-clause-shown : goal.returns-clause-shown
returns-clause-shown c =
    let some = some-links c.args.sys.now c.args.links.now (sym c.is_empty.ensures ∙ c.if-is_empty.false) in
    rw c.is_some.ensures (ends-badly c.args.sys.now c.args.links.now c.violates.result some (rw c.link_of-last.ensures at c.violates.ensures.first))
