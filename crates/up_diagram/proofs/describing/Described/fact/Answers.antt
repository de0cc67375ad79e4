use Rattle.std.proofs.Common.{◌≡◌, ◌∙◌, false, sym, ap, arith}
use Rattle.fo_core.specs.declared.signature.Symbol.{Symbol}
use Rattle.fo_core.specs.Tables.{symbol_at, no_symbol}
use Rattle.up_diagram.proofs.Described.{value-variable}
use Rattle.up_diagram.proofs.describing.Described.fact.Goals as goal

pub overflow_add-of_value : goal.overflow_add-of_value
overflow_add-of_value c =
    let is = c.at-found.ensures no_symbol in
    let function : (symbol_at c.args.self.now.sig.now c.args.symbol).relation ≡ false = ap (λ (s : Symbol). s.relation) (sym is) ∙ c.if-found.false in
    let below =
    value-variable c.args.self.now.sig.now c.args.self.now.world.now c.args.self.now.copy c.args.self.now.firsts.now c.requires.describe c.requires.firsts c.args.symbol c.args.elements.now
    c.requires.within function c.requires.elements in
    rw (is, c.value-value.ensures) (omega (arith, below, c.requires.describe.few))
