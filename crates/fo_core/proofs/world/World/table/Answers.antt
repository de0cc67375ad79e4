use Rattle.std.proofs.Common.{◌∙◌, [], ap, sym}
use Rattle.fo_core.specs.declared.signature.Symbol.{Symbol}
use Rattle.fo_core.specs.Tables.{no_symbol}
use Rattle.fo_core.proofs.TableLemmas.{mutable_at, fixed_at}
use Rattle.fo_core.proofs.world.World.table.Goals as goal

pub at-requires-then-mutable-2 : goal.at-requires-then-mutable-2
at-requires-then-mutable-2 c =
    let is = ap (λ (s : Symbol). s.mutable) (sym (c.at.ensures no_symbol)) ∙ c.if-mutable.true in
    let found = mutable_at c.args.sig.now c.args.self.now c.args.copy c.args.symbol c.requires.fits c.requires.within is (c.requires.copied is) in
    rw (c.at-then-mutable.ensures [], c.rank-place.ensures, c.as_slice.ensures, c.at.ensures no_symbol) found.0

pub at-requires-else-mutable : goal.at-requires-else-mutable
at-requires-else-mutable c =
    let is = ap (λ (s : Symbol). s.mutable) (sym (c.at.ensures no_symbol)) ∙ c.if-mutable.false in
    let found = fixed_at c.args.sig.now c.args.self.now c.args.symbol c.requires.fits c.requires.within is in
    rw (c.rank-place.ensures, c.as_slice.ensures, c.at.ensures no_symbol) found.0
