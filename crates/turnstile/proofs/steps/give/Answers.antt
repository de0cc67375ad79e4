use Rattle.std.proofs.Common.{rules, ◌∷◌, ◌∙◌, ap, refl, Some}
use Rattle.atomic_table.specs.Table.{rest}
use Rattle.std.specs.Prelude.{Option}
use Rattle.atomic_table.specs.Table.{Me}
use Rattle.turnstile.specs.declared.rule.View.{View}
use Rattle.turnstile.specs.Plays.{entered, left}
use Rattle.turnstile.proofs.Keeps.{counts_at, gives_at}
use Rattle.turnstile.proofs.steps.give.Goals as goal

pub fetch_add-requires : goal.fetch_add-requires
fetch_add-requires g c = (search rules, search rules, counts_at _ _ _ _ _ _ _ c.args.place.now.me.0 c.args.value _ (c.exchange.ensures.3 ∙ ap (λ cs. (c.args.place.now.me.0, (0, Some c.args.value) ∷ rest cs)) c.requires.inside.1) c.requires.inside.0 c.requires.base c.requires.adds c.requires.added c.requires.fits)

pub store-requires : goal.store-requires
store-requires g c =
    let v = c.args.place.now.me.0 in
    let held = c.exchange.ensures.3 ∙ ap (λ cs. (v, (0, Some c.args.value) ∷ rest cs)) c.requires.inside.1 in
    let told = c.fetch_add.ensures.2 c.args.value (ap (λ m. m.1) held) in
    let log = g.S.KeptValue.history c.args.value in (
      search rules,
      search rules,
      gives_at _ _ _ _ _ _ _ (entered v log) c.args.value (λ i. ((told.1 ∙ ap (λ m. entered m.0 log) held) i, (told.0 ∙ ap (λ m. m.1) held) i)) refl c.requires.base refl,
    )

pub returns-clause-view : goal.returns-clause-view
returns-clause-view g c =
    let v = c.args.place.now.me.0 in
    let held = c.exchange.ensures.3 ∙ ap (λ cs. (v, (0, Some c.args.value) ∷ rest cs)) c.requires.inside.1 in
    let told = c.fetch_add.ensures.2 c.args.value (ap (λ m. m.1) held) in
    let log = g.S.KeptValue.history c.args.value in
    c.store.ensures.2.1 ∙ ap left (told.1 ∙ ap (λ (m : Me (Option g.row.S.Denot) (View g.row.S-Base.Denot g.row.S-Entry.Denot)). entered m.0 log) held)
