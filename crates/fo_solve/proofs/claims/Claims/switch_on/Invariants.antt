use Rattle.std.proofs.Common.{take}
use Rattle.std.specs.List.{AllZip}
use Rattle.fo_solve.specs.Contexts.{AreSwitched, IsOn}
use Rattle.fo_solve.proofs.claims.Claims.switch_on.Given as goal

-- the claims so far are kept and have their switches
abbrev pub invariant-each : goal.invariant-each
invariant-each l = record {
  switched : AreSwitched l.ground l.self.kept.items l.self.solver.vars l.self.solver.clauses;
  are_on : AllZip (IsOn l.self.kept.items) (take l.claim-index l.claims) l.switches.items;
}
