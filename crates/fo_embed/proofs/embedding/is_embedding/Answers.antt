use Rattle.fo_core.proofs.Answered.{answered}
use Rattle.fo_embed.proofs.Comparing.{embedding-of, agree-of}
use Rattle.fo_embed.proofs.embedding.is_embedding.Goals as goal

pub returns-then-are_injections : goal.returns-then-are_injections
returns-then-are_injections c =
    let injections = rw (c.as_slice.ensures, c.as_slice-2.ensures, c.as_slice-maps.ensures) at (c.are_injections.ensures.0 c.if-are_injections.true) in
    answered
    (embedding-of c.args.sig.now c.args.s.now c.args.sc c.args.t.now c.args.tc c.requires c.args.m.now.images injections)
    (agree-of c.args.sig.now c.args.s.now c.args.sc c.args.t.now c.args.tc c.requires c.args.m.now.images)
    (rw c.as_slice-maps.ensures at c.all_agree.ensures)
