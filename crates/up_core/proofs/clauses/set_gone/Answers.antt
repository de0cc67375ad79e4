use Rattle.std.proofs.Common.{◌≤◌, None, false, length, get_or, arith}
use Rattle.std.proofs.lemmas.Option.{slice_get-get_or}
use Rattle.up_core.specs.declared.state.ClauseEntry.{ClauseEntry}
use Rattle.up_core.specs.Steps.{gone_entry}
use Rattle.up_core.proofs.Changing.{set-is, past-is}
use Rattle.up_core.proofs.clauses.set_gone.Goals as goal

pub returns-then-place-entries : goal.returns-then-place-entries
returns-then-place-entries c =
    let xs = c.args.entries.now in
    let none : ClauseEntry = record { learnt = 0; level = 0; live = false; failed = None } in
    set-is c.args.place (gone_entry) xs (get_or xs c.args.place none) (slice_get-get_or xs c.args.place none (omega (arith, c.if-place-entries.true)))

pub returns-else-place-entries : goal.returns-else-place-entries
returns-else-place-entries c =
    let xs = c.args.entries.now in
    let past : length xs ≤ c.args.place = omega (arith, c.if-place-entries.false) in
    past-is c.args.place (gone_entry) xs past
