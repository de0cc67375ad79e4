use Rattle.std.proofs.Common.{◌≡◌, ◌⊎◌, ℕ, drop}
use Rattle.pyv_meaning.specs.Gets.{Among}
use Rattle.pyv_sorts.specs.Inferring.{named}
use Rattle.pyv_sorts.proofs.infer.add_variables.Given as goal

abbrev pub invariant-each : goal.invariant-each
invariant-each l = (v : ℕ) → Among v (named l.uses) → Among v l.found.keys ⊎ Among v (named (drop l.told-index l.uses))
