use Rattle.std.proofs.Common.{◌≤◌, None, false, length, get_or, arith}
use Rattle.std.proofs.lemmas.Option.{slice_get-get_or}
use Rattle.up_core.specs.declared.state.ClauseEntry.{ClauseEntry}
use Rattle.up_core.specs.Steps.{raised_entry}
use Rattle.up_core.proofs.Changing.{set-where, past-where}
use Rattle.up_core.proofs.clauses.set_level.Goals as goal

pub returns-then-k-entries : goal.returns-then-k-entries
returns-then-k-entries c =
    let xs = c.args.entries.now in
    let none : ClauseEntry = record { learnt = 0; level = 0; live = false; failed = None } in
    set-where c.args.place c.in-Some.k (raised_entry c.args.level) xs (get_or xs c.in-Some.k none) c.in-Some.is (slice_get-get_or xs c.in-Some.k none (omega (arith, c.if-k-entries.true)))

pub returns-else-k-entries : goal.returns-else-k-entries
returns-else-k-entries c =
    let xs = c.args.entries.now in
    let past : length xs ≤ c.in-Some.k = omega (arith, c.if-k-entries.false) in
    past-where c.args.place c.in-Some.k (raised_entry c.args.level) xs c.in-Some.is past
