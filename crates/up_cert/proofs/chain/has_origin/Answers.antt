use Rattle.std.proofs.Common.{◌<◌, arith}
use Rattle.up_cert.proofs.LinkLemmas.{origin-told}
use Rattle.up_cert.proofs.chain.has_origin.Goals as goal

pub returns-clause-shown : goal.returns-clause-shown
returns-clause-shown c =
    let later : 0 < c.args.k = omega (arith, c.if-at-eq0.false) in
    origin-told c.args.sys.now c.args.links.now c.args.k later c.comes_from.result
    (rw (c.link_of-link.ensures, c.link_of-before.ensures) at c.comes_from.ensures.shown)
