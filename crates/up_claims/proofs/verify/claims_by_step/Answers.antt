use Rattle.std.proofs.Common.{sym, subst, arith}
use Rattle.std.specs.List.{All}
use Rattle.fo_core.specs.Shift.{CanShift}
use Rattle.up_claims.specs.Claims.{property_at}
use Rattle.up_claims.proofs.CopyLemmas.{can-shift, can-closed}
use Rattle.up_claims.proofs.VerifyLemmas.{property-sorted}
use Rattle.up_claims.proofs.verify.claims_by_step.Goals as goal

pub add-requires-4 : goal.add-requires-4
add-requires-4 c =
    subst (All (CanShift c.args.sys.now.sig 0)) (sym c.as_slice-4.ensures)
    (can-closed c.args.sys.now.sig 0 c.args.sys.now.invariants c.requires.sys.invariants (omega arith))

pub add_denied-requires : goal.add_denied-requires
add_denied-requires c =
    subst (CanShift c.args.sys.now.sig 1) (sym c.property_at_number.ensures)
    (can-shift c.args.sys.now.sig 1 (property_at c.args.sys.now c.args.property) 1 (property-sorted c.args.sys.now c.requires.sys c.args.property c.requires.property) (omega arith))
