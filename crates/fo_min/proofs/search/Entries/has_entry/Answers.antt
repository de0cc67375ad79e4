use Rattle.std.proofs.Common.{ap, ◌∙◌}
use Rattle.fo_core.specs.Tables.{no_symbol}
use Rattle.fo_least.proofs.Naming.{named}
use Rattle.fo_min.specs.Known.{element_of}
use Rattle.fo_min.proofs.KnownLemmas.{entry-symbol, entry-copied, entry-elements, some-list}
use Rattle.fo_min.proofs.search.Entries.has_entry.Goals as goal

pub at-symbol-requires : goal.at-symbol-requires
at-symbol-requires c =
    entry-symbol c.args.self.now c.requires.entries c.args.world.now c.args.names.now c.requires.is c.args.k c.requires.within c.index-self-k.result

pub value-value-requires-clause-within : goal.value-value-requires-clause-within
value-value-requires-clause-within c =
    entry-symbol c.args.self.now c.requires.entries c.args.world.now c.args.names.now c.requires.is c.args.k c.requires.within c.index-self-k.result

pub value-value-requires-clause-copied : goal.value-value-requires-clause-copied
value-value-requires-clause-copied c =
    entry-copied c.args.self.now c.requires.entries c.args.world.now c.args.names.now c.requires.is c.args.k c.requires.within c.index-self-k.result

pub value-value-requires-clause-elements : goal.value-value-requires-clause-elements
value-value-requires-clause-elements c =
    let name = element_of c.args.names.now in
    let symbol = c.at-symbol.result.now in
    let of_args =
    c.as_slice-3.ensures
    ∙ some-list c.in_ok-args.field-0 c.in-Some.args (named name c.as_slice.result.now c.as_slice-2.result.now) c.in-Some.is c.in_ok-args.ensures
    ∙ ap (λ ss. named name ss c.as_slice-2.result.now) c.as_slice.ensures
    ∙ ap (named name symbol.args) c.as_slice-2.ensures in
    entry-elements c.args.self.now c.requires.entries c.args.world.now c.args.names.now c.requires.is c.args.k c.requires.within c.index-self-k.result
    symbol c.as_slice-3.result.now (c.at-symbol.ensures no_symbol) of_args
