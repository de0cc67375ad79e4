use Rattle.std.proofs.Common.{◌≡◌, ◌<◌, ℕ, true, false, List, length, get_or, sym, ap, subst, ◌∙◌}
use Rattle.fo_core.specs.declared.world.Table.{Table}
use Rattle.fo_text.proofs.LineLists.{as_many_seen}
use Rattle.fo_text.proofs.writing.push_world.Goals as goal

pub push_tables-requires : goal.push_tables-requires
push_tables-requires c =
    as_many_seen c.args.world.now.sizes false c.args.sig.now.symbols c.as_slice-symbols.result.now c.args.names.now.symbols c.as_slice-words.result.now c.as_slice-3.result.now
    c.requires.named.symbols c.as_slice-symbols.ensures c.as_slice-words.ensures (c.as_slice-3.ensures ∙ c.in_ok-fixed.ensures) c.args.world.now.fixed c.requires.fits.fixed
    ∙ ap (λ (l : List Table). length l) (sym c.as_slice-4.ensures)

pub push_copies-requires-clause-each : goal.push_copies-requires-clause-each
push_copies-requires-clause-each c =
    subst (λ (copies : List (List Table)). (k : ℕ) (d : List Table) → k < length copies → length c.as_slice-5.result.now ≡ length (get_or copies k d)) (sym c.as_slice-6.ensures)
    (λ k d h. as_many_seen c.args.world.now.sizes true c.args.sig.now.symbols c.as_slice-symbols.result.now c.args.names.now.symbols c.as_slice-words.result.now c.as_slice-5.result.now
    c.requires.named.symbols c.as_slice-symbols.ensures c.as_slice-words.ensures (c.as_slice-5.ensures ∙ c.in_ok-mutable.ensures) (get_or c.args.world.now.copies k d) (c.requires.fits.copies k d h))
