use Rattle.std.proofs.Common.{◌≡◌, ◌<◌, Some, length, slice_get, refl, sym, ap, subst, ◌∙◌}
use Rattle.std.proofs.lemmas.Option.{slice_get_read}
use Rattle.up_core.specs.Places.{ObligationsView, is_unfinished, open_of}
use Rattle.up_core.proofs.Placed.{placed-lt}
use Rattle.up_core.proofs.obligations.Obligations.open_at.Goals as goal

pub entry_at-requires : goal.entry_at-requires
entry_at-requires c =
    let x = c.self.inside in
    let k = c.index-number.result.now in
    let within : c.args.at < length x.open.items =
    subst (λ n. c.args.at < n) (ap length (sym c.self.invariant.open_is)) (subst (λ (v : ObligationsView). c.args.at < length (open_of v.items)) (sym c.self.view_is) c.requires) in
    let there = slice_get_read x.open.items (length x.open.items) c.args.at k refl within c.index-number.ensures in
    subst (λ es. k < length es) (sym c.as_slice.ensures.value) (placed-lt is_unfinished x.entries.items c.args.at k (subst (λ ks. slice_get ks c.args.at ≡ Some k) c.self.invariant.open_is there))

pub returns-clause-number : goal.returns-clause-number
returns-clause-number c =
    let x = c.self.inside in
    let k = c.index-number.result.now in
    let within : c.args.at < length x.open.items =
    subst (λ n. c.args.at < n) (ap length (sym c.self.invariant.open_is)) (subst (λ (v : ObligationsView). c.args.at < length (open_of v.items)) (sym c.self.view_is) c.requires) in
    let there = slice_get_read x.open.items (length x.open.items) c.args.at k refl within c.index-number.ensures in
    subst (λ (v : ObligationsView). slice_get (open_of v.items) c.args.at ≡ Some k) c.self.view_is
    (subst (λ ks. slice_get ks c.args.at ≡ Some k) c.self.invariant.open_is there)
