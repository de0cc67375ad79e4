use Rattle.std.proofs.Common.{◌≡◌, ◌<◌, ◌≤◌, true, cond, not, None, get_or, length, sym, ap, ◌∙◌, arith}
use Rattle.std.specs.List.{insert}
use Rattle.std.proofs.lemmas.Option.{slice_get-get_or}
use Rattle.up_core.specs.declared.state.ObligationEntry.{ObligationEntry}
use Rattle.up_core.specs.declared.state.Progress.TheVariants as P
use Rattle.up_core.specs.Places.{is_done, is_unfinished, open_of}
use Rattle.up_core.specs.Steps.{with_progress}
use Rattle.up_core.proofs.Changing.{set-is, set-where, past-where}
use Rattle.up_core.proofs.OpenKept.{open-change, fewer-open}
use Rattle.up_core.proofs.Placed.{others, below}
use Rattle.up_core.proofs.obligations.put_progress.Goals as goal

abbrev none : ObligationEntry
none = record { level = 0; found = 0; parent = None; progress = P.Ready }

pub renew-requires : goal.renew-requires
renew-requires c was =
    let xs = c.args.entries.now in
    let k = c.in-Some.k in
    let few = fewer-open k xs (get_or xs k none) (slice_get-get_or xs k none c.if-k-entries.true) (sym c.is_done-was_done.ensures ∙ was) in
    let long = c.args.open.now.ok.0 ∙ ap length c.requires.open in
    omega (arith, few, long, c.requires.room)

pub returns-then-k-entries-clause-entries : goal.returns-then-k-entries-clause-entries
returns-then-k-entries-clause-entries c =
    let xs = c.args.entries.now in
    let k = c.in-Some.k in
    set-where c.args.place k (with_progress c.args.progress) xs (get_or xs k none) c.in-Some.is (slice_get-get_or xs k none c.if-k-entries.true)

pub returns-then-k-entries-clause-open : goal.returns-then-k-entries-clause-open
returns-then-k-entries-clause-open c =
    let xs = c.args.entries.now in
    let k = c.in-Some.k in
    let p = c.args.progress in
    let e = get_or xs k none in
    let there = slice_get-get_or xs k none c.if-k-entries.true in
    let done = c.is_done.result in
    let was = c.is_done-was_done.result in
    c.renew.ensures.items
    ∙ ap (λ ks. cond done (others is_unfinished k ks) (cond was (insert ks (below is_unfinished k ks) k) ks)) c.requires.open
    ∙ ap (λ b. cond b (others is_unfinished k (open_of xs)) (cond was (insert (open_of xs) (below is_unfinished k (open_of xs)) k) (open_of xs))) c.is_done.ensures
    ∙ ap (λ b. cond (is_done p) (others is_unfinished k (open_of xs)) (cond b (insert (open_of xs) (below is_unfinished k (open_of xs)) k) (open_of xs))) c.is_done-was_done.ensures
    ∙ sym (open-change k p xs e there) ∙ ap open_of (sym (set-is k (with_progress p) xs e there))

pub returns-else-k-entries-clause-entries : goal.returns-else-k-entries-clause-entries
returns-else-k-entries-clause-entries c = past-where c.args.place c.in-Some.k (with_progress c.args.progress) c.args.entries.now c.in-Some.is (omega (arith, c.if-k-entries.false))
