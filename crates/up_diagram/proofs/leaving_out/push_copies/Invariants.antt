use Rattle.std.proofs.Common.{◌≡◌, ◌++◌, take}
use Rattle.up_diagram.proofs.leaving_out.push_copies.Given as goal

-- the literals before this one stand behind the others
abbrev pub invariant-each : goal.invariant-each
invariant-each l = l.into ≡ l.fn.into ++ take l.lit-index l.lits
