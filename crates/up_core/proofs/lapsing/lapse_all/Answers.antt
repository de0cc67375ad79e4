use Rattle.std.proofs.Common.{◌≡◌, ◌≤◌, None, Some, false, length, slice_get, get_or, refl, subst, ◌∙◌, arith}
use Rattle.std.proofs.lemmas.Option.{slice_get-get_or}
use Rattle.up_core.specs.Lapsing.{IsLapsed}
use Rattle.up_core.specs.Places.{is_live}
use Rattle.up_core.proofs.Lapsed.{gone-lapsed}
use Rattle.up_core.proofs.LiveParts.{live-init, live-at, live-step, live-end}
use Rattle.up_core.proofs.lapsing.lapse_all.Goals as goal

pub each-init : goal.each-init
each-init c =
    let p = c.args.lapse.now in
    record {
      lapsed = live-init is_live c.args.entries.now (IsLapsed p.history.now p.sig.now p.cube.now p.low p.high) (gone-lapsed p.history.now p.sig.now p.cube.now p.low p.high c.args.entries.now c.requires.meet);
      room = refl;
    }

pub bounds-entries-k : goal.bounds-entries-k
bounds-entries-k c =
    let p = c.args.lapse.now in
    let there = subst (λ ks. slice_get ks c.each.k-index ≡ Some (get_or c.args.live.now c.each.k-index 0)) c.requires.live (slice_get-get_or c.args.live.now c.each.k-index 0 (omega (arith, c.each-test.true, c.each.auto.k-index-end))) in
    let at = live-at is_live c.args.entries.now (IsLapsed p.history.now p.sig.now p.cube.now p.low p.high) (gone-lapsed p.history.now p.sig.now p.cube.now p.low p.high c.args.entries.now c.requires.meet) c.each.entries c.each.k-index _ (record { learnt = 0; level = 0; live = false; failed = None }) c.each.invariant.lapsed there in
    at.0

pub offset_bounds-entries-k : goal.offset_bounds-entries-k
offset_bounds-entries-k c = let lt = bounds-entries-k c in omega (arith, lt, c.each.auto.entries)

pub lapse_entry-requires-clause-meet : goal.lapse_entry-requires-clause-meet
lapse_entry-requires-clause-meet c =
    let p = c.args.lapse.now in
    let there = subst (λ ks. slice_get ks c.each.k-index ≡ Some (get_or c.args.live.now c.each.k-index 0)) c.requires.live (slice_get-get_or c.args.live.now c.each.k-index 0 (omega (arith, c.each-test.true, c.each.auto.k-index-end))) in
    let at = live-at is_live c.args.entries.now (IsLapsed p.history.now p.sig.now p.cube.now p.low p.high) (gone-lapsed p.history.now p.sig.now p.cube.now p.low p.high c.args.entries.now c.requires.meet) c.each.entries c.each.k-index _ _ c.each.invariant.lapsed there in
    c.requires.meet _ _ at.1

pub each-preserved : goal.each-preserved
each-preserved c =
    let p = c.args.lapse.now in
    let there = subst (λ ks. slice_get ks c.each.k-index ≡ Some (get_or c.args.live.now c.each.k-index 0)) c.requires.live (slice_get-get_or c.args.live.now c.each.k-index 0 (omega (arith, c.each-test.true, c.each.auto.k-index-end))) in
    record {
      lapsed = live-step is_live c.args.entries.now (IsLapsed p.history.now p.sig.now p.cube.now p.low p.high) (gone-lapsed p.history.now p.sig.now p.cube.now p.low p.high c.args.entries.now c.requires.meet) c.each.entries c.each.k-index _ _ c.lapse_entry.new.entry c.each.invariant.lapsed there c.lapse_entry.ensures.lapsed;
      room = c.lapse_entry.ensures.room ∙ c.each.invariant.room;
    }

pub returns-clause-lapsed : goal.returns-clause-lapsed
returns-clause-lapsed c =
    let p = c.args.lapse.now in
    live-end is_live c.args.entries.now (IsLapsed p.history.now p.sig.now p.cube.now p.low p.high) (gone-lapsed p.history.now p.sig.now p.cube.now p.low p.high c.args.entries.now c.requires.meet) c.each.entries c.each.k-index
    (subst (λ ks. length ks ≤ c.each.k-index) c.requires.live (omega (arith, c.each-test.false, c.each.auto.k-index-end))) c.each.invariant.lapsed
