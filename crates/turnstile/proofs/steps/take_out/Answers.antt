use Rattle.std.proofs.Common.{refl}
use Rattle.turnstile.proofs.Keeps.{closes, closes_with}
use Rattle.turnstile.proofs.steps.take_out.Goals as goal

pub unwrap-requires : goal.unwrap-requires
unwrap-requires g c =
    let K = g.S.KeptValue in
    let t = closes K.base K.history K.number _ _ _ _ _ c.close_with-closed.ensures.values.2 c.requires.outside.0 c.requires.live c.requires.all.0 c.requires.all.1 _ c.take-value.ensures.value in
    rw t.1 refl

pub returns-clause-found : goal.returns-clause-found
returns-clause-found g c =
    let K = g.S.KeptValue in
    (closes_with K.base K.history K.number _ _ _ _ _ c.close_with-closed.ensures.values.2 c.requires.outside.0 c.requires.live c.requires.all.0 c.requires.all.1 _ c.take-value.ensures.value _ c.unwrap.ensures).0

pub returns-clause-carried : goal.returns-clause-carried
returns-clause-carried g c =
    let K = g.S.KeptValue in
    (closes_with K.base K.history K.number _ _ _ _ _ c.close_with-closed.ensures.values.2 c.requires.outside.0 c.requires.live c.requires.all.0 c.requires.all.1 _ c.take-value.ensures.value _ c.unwrap.ensures).1
