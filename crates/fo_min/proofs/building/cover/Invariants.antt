use Rattle.std.proofs.Common.{◌≡◌, map, sum}
use Rattle.std.specs.List.{range_with_len}
use Rattle.fo_core.specs.declared.term.Term.{Var}
use Rattle.fo_core.specs.declared.formula.Formula.{Eq}
use Rattle.fo_core.specs.Trials.{element as element_of}
use Rattle.fo_min.proofs.building.cover.Given as goal

-- the elements before this one are told
abbrev pub invariant-each : goal.invariant-each
invariant-each l = l.parts ≡ map (λ x. Eq (Var (sum l.sizes)) (element_of l.sizes l.sort x)) (range_with_len 0 l.x)
