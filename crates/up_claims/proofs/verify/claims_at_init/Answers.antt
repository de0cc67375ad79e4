use Rattle.std.proofs.Common.{sym, subst, arith}
use Rattle.fo_core.specs.Shift.{CanShift}
use Rattle.up_claims.specs.Claims.{property_at}
use Rattle.up_claims.proofs.CopyLemmas.{can-shift}
use Rattle.up_claims.proofs.VerifyLemmas.{property-sorted}
use Rattle.up_claims.proofs.verify.claims_at_init.Goals as goal

pub add_denied-requires : goal.add_denied-requires
add_denied-requires c =
    subst (CanShift c.args.sys.now.sig 0) (sym c.property_at_number.ensures)
    (can-shift c.args.sys.now.sig 0 (property_at c.args.sys.now c.args.property) 1 (property-sorted c.args.sys.now c.requires.sys c.args.property c.requires.property) (omega arith))
