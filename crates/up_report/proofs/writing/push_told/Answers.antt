use Rattle.std.proofs.Common.{List, length, sym, subst}
use Rattle.std.specs.List.{All}
use Rattle.fo_text.specs.Texts.{HasText}
use Rattle.up_claims.specs.declared.verdict.Leave.{Leave}
use Rattle.up_report.proofs.WriteParts.{steps_are}
use Rattle.up_report.proofs.writing.push_told.Goals as goal

pub push_bounded-requires-clause-steps : goal.push_bounded-requires-clause-steps
push_bounded-requires-clause-steps c =
    let h = rw c.in-Bounded.is at c.requires.ranged in
    subst (λ (leaves : List Leave). All (λ (leave : Leave). HasText c.args.sig.now leave.step) leaves) (sym c.as_slice-in-Bounded.ensures)
    (steps_are c.args.sig.now (length c.in-Bounded.clauses) 1 c.in-Bounded.leaves h.leaves_are)
