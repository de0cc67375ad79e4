use Rattle.std.proofs.Common.{◌≡◌, ◌+◌, length}
use Rattle.pyv_grammar.specs.Reading.{decl_at, file, whole}
use Rattle.pyv_parse.specs.Gives.{body_at}
use Rattle.pyv_parse.proofs.Declared.{before}
use Rattle.pyv_parse.proofs.file.decls.Given as goal

abbrev pub invariant-decls : goal.invariant-decls
invariant-decls l = before l.found (file (decl_at body_at) (length l.rest + 1) l.rest) ≡ whole 200 6 l.tokens

abbrev pub decreases-decls : goal.decreases-decls
decreases-decls l = length l.rest
