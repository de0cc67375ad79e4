use Rattle.std.proofs.Common.{◌≡◌, take}
use Rattle.std.specs.List.{flat_map}
use Rattle.fo_norm.specs.Forms.{whole}
use Rattle.fo_terms.specs.Blocks.{sort_block}
use Rattle.fo_terms.proofs.build.universe_from.Given as goal

-- the blocks of the sorts so far
abbrev pub invariant-each : goal.invariant-each
invariant-each l = l.terms ≡ flat_map (sort_block l.sizes.firsts l.sizes.counts (whole l.sig l.form) l.form.copies) (take l.sort-index l.sort-items)
