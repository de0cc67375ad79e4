use Rattle.std.proofs.Common.{ℕ, ◌<◌, ◌^◌, sym, subst}
use Rattle.std.proofs.lemmas.List.{length-map}
use Rattle.pyv_meaning.specs.Items.{items_of, item_of}
use Rattle.pyv_meaning.proofs.ItemsFit.{well_sorted, within_depth, names_fit}
use Rattle.pyv_meaning.proofs.laws.meanings_are_well_sorted.Goals as goal

pub returns-clause-sorted : goal.returns-clause-sorted
returns-clause-sorted c = λ bytes m sys names h few. well_sorted (items_of bytes m.decls) sys names h (subst (λ (n : ℕ). n < 2 ^ 32) (sym (length-map m.decls (item_of bytes))) few)

pub returns-clause-depth : goal.returns-clause-depth
returns-clause-depth c = λ bytes m sys names. within_depth (items_of bytes m.decls) sys names

pub returns-clause-names : goal.returns-clause-names
returns-clause-names c = λ bytes m sys names. names_fit (items_of bytes m.decls) sys names
