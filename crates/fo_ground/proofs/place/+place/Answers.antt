use Rattle.std.proofs.Common.{◌∙◌, sym, ap, subst, rules, false}
use Rattle.fo_core.specs.declared.term.Term.TheFolds.{the_lemmas}
use Rattle.fo_core.specs.declared.term.Term.TheVariants.{App}
use Rattle.fo_core.specs.Tables.{symbol_at}
use Rattle.fo_ground.specs.Layout.{slot, HasPlace}
use Rattle.fo_ground.proofs.PlaceLemmas.{place-App, HasPlace-args, HavePlaces-at, list_places, symbol-App}
use Rattle.fo_ground.proofs.place.+place.Goals as goal

pub place-places-requires : goal.place-places-requires
place-places-requires t c =
    let h = subst (HasPlace c.args.u.now c.args.lay.now c.args.env.now) (c.in-App.is ∙ ap (App c.in-App.f c.in-App.d) (sym c.as_slice.ensures)) c.requires.named in
    (search (rules, the_lemmas), (c.requires.ready, ((symbol_at c.args.lay.now.sig c.in-App.f).args, HasPlace-args c.args.u.now c.args.lay.now c.args.env.now c.in-App.f c.in-App.d c.as_slice.result.now h)))

pub place-slot-requires-clause-symbol : goal.place-slot-requires-clause-symbol
place-slot-requires-clause-symbol t c =
    let h = subst (HasPlace c.args.u.now c.args.lay.now c.args.env.now) (c.in-App.is ∙ ap (App c.in-App.f c.in-App.d) (sym c.as_slice.ensures)) c.requires.named in
    (false, symbol-App c.args.u.now c.args.lay.now c.args.env.now c.in-App.f c.in-App.d c.as_slice.result.now h)

pub place-slot-requires-clause-sorted : goal.place-slot-requires-clause-sorted
place-slot-requires-clause-sorted t c =
    let h = subst (HasPlace c.args.u.now c.args.lay.now c.args.env.now) (c.in-App.is ∙ ap (App c.in-App.f c.in-App.d) (sym c.as_slice.ensures)) c.requires.named in
    rw (c.as_slice-in-App.ensures.value, c.in_ok-places-in-App.ensures)
    (list_places c.args.u.now c.args.lay.now c.args.env.now c.as_slice.result.now (symbol_at c.args.lay.now.sig c.in-App.f).args c.requires.ready
    (HasPlace-args c.args.u.now c.args.lay.now c.args.env.now c.in-App.f c.in-App.d c.as_slice.result.now h))

pub place-returns-in_ok-places-in-App : goal.place-returns-in_ok-places-in-App
place-returns-in_ok-places-in-App t c =
    rw (c.slot.ensures, c.as_slice-in-App.ensures.value, c.in_ok-places-in-App.ensures, c.as_slice.ensures, c.in-App.is) (sym (place-App c.args.u.now.terms (slot c.args.u.now c.args.lay.now) c.in-App.f c.in-App.d c.in-App.args c.args.env.now))

pub places-place-requires : goal.places-place-requires
places-place-requires t c = (
  search (rules, the_lemmas),
  (
    c.requires.ready,
    subst (HasPlace c.args.u.now c.args.lay.now c.args.env.now) (sym c.t-item.is)
        (HavePlaces-at c.args.u.now c.args.lay.now c.args.env.now c.args.ts.now c.requires.named.0 c.each.t-index c.t-item.result c.requires.named.1 c.each-test.true),
  ),
)
