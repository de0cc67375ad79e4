use Rattle.std.proofs.Common.{◌≡◌, Some, ap, sym, subst, ◌∙◌}
use Rattle.std.specs.Prelude.{slice_get}
use Rattle.std.proofs.lemmas.Option.{slice_get-get_or}
use Rattle.up_diagram.specs.Cubes.{IsCube}
use Rattle.up_claims.specs.declared.verdict.Kept.{Kept}
use Rattle.up_cert.specs.VerdictSpots.{no_clause}
use Rattle.up_cert.proofs.HaltLemmas.{clause-cube}
use Rattle.up_cert.proofs.WorldLemmas.{leave-told-ok}
use Rattle.up_cert.proofs.leaving.is_leave.Goals as goal

pub is_step_into-requires-clause-cube : goal.is_step_into-requires-clause-cube
is_step_into-requires-clause-cube c =
    let found = c.in-Some.ensures.lookup.3 in
    subst (λ (kept : Kept). IsCube c.args.sys.now.sig kept.cube) (sym (found.1 no_clause))
    (clause-cube c.args.sys.now.sig c.args.clauses.now c.args.leave.now.clause c.requires.clauses.sorted found.0)

pub returns-clause-shown : goal.returns-clause-shown
returns-clause-shown c =
    let found = c.in-Some.ensures.lookup.3 in
    let clauses = c.args.clauses.now in
    let leave = c.args.leave.now in
    let at : slice_get clauses leave.clause ≡ Some c.in-Some.kept.now = slice_get-get_or clauses leave.clause no_clause found.0 ∙ ap Some (sym (found.1 no_clause)) in
    leave-told-ok c.args.sys.now clauses c.args.level leave c.in-Some.kept.now c.is_step_into.result c.requires.level c.if-leave-level.false at c.if-kept-level.false
    c.is_step_into.ensures.shown
