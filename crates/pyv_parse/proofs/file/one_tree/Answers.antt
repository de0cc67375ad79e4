use Rattle.pyv_grammar.proofs.Files.{one_tree}
use Rattle.pyv_parse.proofs.file.one_tree.Goals as goal

pub returns : goal.returns
returns c = one_tree
