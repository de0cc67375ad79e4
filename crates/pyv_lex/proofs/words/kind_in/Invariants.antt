use Rattle.std.proofs.Common.{◌≡◌, drop, map}
use Rattle.std.specs.Prelude.{zip}
use Rattle.pyv_lex.specs.Spelling.{kind_in}
use Rattle.pyv_lex.proofs.words.kind_in.Given as goal

-- what is left of the words gives what all of them give
abbrev pub invariant-each : goal.invariant-each
invariant-each l = kind_in (zip (map (λ w. w.now) (drop l.place l.words)) (drop l.place l.kinds)) l.text ≡ kind_in (zip (map (λ w. w.now) l.words) l.kinds) l.text
