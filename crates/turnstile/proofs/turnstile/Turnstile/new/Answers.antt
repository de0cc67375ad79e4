use Rattle.std.proofs.Common.{sym, Some, [], ◌∷◌, subst, List}
use Rattle.std.specs.Prelude.{Option}
use Rattle.turnstile.specs.Rule.{Kept, fresh}
use Rattle.atomic_table.specs.Table.{opening}
use Rattle.turnstile.proofs.Keeps.{opens}
use Rattle.turnstile.proofs.turnstile.Turnstile.new.Goals as goal

pub new-requires : goal.new-requires
new-requires g c =
    let K = g.S.KeptValue in
    subst (λ (t : List (Option g.row.S.Denot) × g.row.S.Denot). Kept K.base K.history K.number c.args.callers (opening (0 ∷ 0 ∷ []) t.0 (fresh (Some (K.base t.1)) 0 c.args.callers)))
    (λ i. (sym c.in-Ok.ensures.ok i, sym c.of.ensures i))
    (opens K.base K.history K.number c.args.callers c.args.value c.requires.empty c.requires.callers)
