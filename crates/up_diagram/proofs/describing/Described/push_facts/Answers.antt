use Rattle.std.proofs.Common.{◌∙◌, List, ℕ, map, sym, subst, ap, ap₂, slice_index}
use Rattle.fo_core.specs.declared.signature.Symbol.{Symbol}
use Rattle.fo_core.specs.Runs.{AreElements}
use Rattle.fo_core.specs.Tables.{symbol_at, no_symbol}
use Rattle.up_diagram.proofs.Described.{tuple-elements}
use Rattle.up_diagram.proofs.describing.Described.push_facts.Goals as goal

pub fact-requires-clause-elements : goal.fact-requires-clause-elements
fact-requires-clause-elements c =
    let sorts = c.as_slice-sorts.ensures ∙ ap (λ (s : Symbol). s.args) (c.at.ensures no_symbol) in
    subst (λ xs. AreElements c.args.self.now.world.now.sizes xs (symbol_at c.args.self.now.sig.now c.args.symbol).args) (sym (c.as_slice-in-each.ensures ∙ c.tuple-item.is))
    (tuple-elements c.args.self.now.world.now.sizes (symbol_at c.args.self.now.sig.now c.args.symbol).args c.as_slice-2.result.now c.as_slice-tuple-items.result.now c.each.tuple-index c.tuple-item.result
    (c.as_slice-tuple-items.ensures ∙ c.in_ok-tuples.ensures)
    (c.as_slice-2.ensures ∙ c.in_ok-sizes.ensures ∙ ap₂ (λ (sizes ss : List ℕ). map (slice_index sizes) ss) c.as_slice.ensures sorts)
    c.each-test.true)
