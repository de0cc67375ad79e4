use Rattle.pyv_meaning.specs.Items.{items_of}
use Rattle.pyv_meaning.proofs.Verdicts.{total, one_fault}
use Rattle.pyv_meaning.proofs.Whole.{excluded, unique}
use Rattle.pyv_meaning.proofs.laws.trees_mean_or_fault.Goals as goal

pub returns-clause-either : goal.returns-clause-either
returns-clause-either c = λ bytes m. total (items_of bytes m.decls)

pub returns-clause-not_both : goal.returns-clause-not_both
returns-clause-not_both c = λ bytes m sys names f. excluded (items_of bytes m.decls) sys names f

pub returns-clause-one_system : goal.returns-clause-one_system
returns-clause-one_system c = λ bytes m sys other names others. unique (items_of bytes m.decls) sys other names others

pub returns-clause-one_fault : goal.returns-clause-one_fault
returns-clause-one_fault c = λ bytes m f g. one_fault (items_of bytes m.decls) f g
