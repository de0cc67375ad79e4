use Rattle.std.proofs.Common.{ℕ, ◌+◌, ◌*◌, ◌-◌, ◌^◌, min, map, drop, ap, ◌∙◌, arith}
use Rattle.std.specs.Prelude.{slice_index}
use Rattle.fo_core.specs.Tables.{tuples}
use Rattle.fo_text.proofs.Counts.{cut_step, cut_end}
use Rattle.fo_text.proofs.lines.entries.Goals as goal

pub each-preserved : goal.each-preserved
each-preserved c =
    let size = c.from.ensures ∙ c.at.ensures 0 in
    let rest = tuples (map (slice_index c.args.sizes.now) (drop (c.each.sort-index + 1) c.args.sorts.now)) in
    let product = c.saturating_mul-entries.ensures ∙ ap (λ (n : ℕ). min (c.each.entries * n) (2 ^ 64 - 1)) size in
    let step = cut_step c.args.sizes.now c.args.sorts.now c.each.sort-index c.each.entries (2 ^ 64 - 1) c.each-test.true c.requires.nonempty c.requires.known in
    record { fits = c.saturating_mul-entries.type_inv; same = ap (λ (n : ℕ). min (n * rest) (2 ^ 64 - 1)) product ∙ step ∙ c.each.invariant.same }

pub returns : goal.returns
returns c = cut_end c.args.sizes.now c.args.sorts.now c.each.sort-index c.each.entries (2 ^ 64 - 1) c.each-test.false (omega (arith, c.each.invariant.fits)) ∙ c.each.invariant.same
