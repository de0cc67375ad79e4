use Rattle.std.proofs.Common.{rules, ◌∷◌, ◌∙◌, ap, sym, Some}
use Rattle.atomic_table.specs.Table.{rest}
use Rattle.turnstile.proofs.Keeps.{wins_at}
use Rattle.turnstile.proofs.steps.win.Goals as goal

pub compare_exchange-found-requires : goal.compare_exchange-found-requires
compare_exchange-found-requires g c = (search rules, search rules, wins_at _ _ _ _ _ _ _ (search rules) (ap (λ m. m.1) c.loop.invariant.1 ∙ c.requires.outside.1))

pub exchange-requires : goal.exchange-requires
exchange-requires g c = let won = c.compare_exchange-found.ensures.2.0 (search rules) in (search rules, (Some won.0, won.1 ∙ ap (λ cs. (0, Some won.0) ∷ rest cs) (sym won.1)))
