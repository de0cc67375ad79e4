use Rattle.std.proofs.Common.{◌≡◌, ◌++◌, take}
use Rattle.std.specs.List.{flat_map}
use Rattle.fo_core.specs.Tables.{symbol_at}
use Rattle.fo_norm.specs.Forms.{whole}
use Rattle.fo_terms.specs.Blocks.{function_block}
use Rattle.fo_terms.proofs.build.push_sort.Given as goal

-- the applications of the functions so far
abbrev pub invariant-each : goal.invariant-each
invariant-each l =
    l.terms ≡ l.fn.terms ++ flat_map (λ k. function_block l.sizes.firsts l.sizes.counts l.form.copies k (symbol_at (whole l.sig l.form) k)) (take l.number-index l.functions)
