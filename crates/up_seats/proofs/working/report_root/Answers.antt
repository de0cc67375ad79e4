use Rattle.std.proofs.Common.{subst}
use Rattle.up_block.specs.declared.blocking.Blocking.TheVariants as B
use Rattle.up_machine.specs.declared.event.Event.TheVariants as E
use Rattle.up_machine.specs.declared.event.Origin.TheVariants as O
use Rattle.up_core.specs.Known.{IsNotNow}
use Rattle.up_seats.proofs.Told.{plain, has-told, is-spent, has-answered-then, known-then}
use Rattle.up_seats.proofs.WorkReports.{to-root, to-drop}
use Rattle.up_seats.proofs.working.report_root.Goals as goal

pub before-requires-clause-known : goal.before-requires-clause-known
before-requires-clause-known c = (to-root c.args.core.now c.args.seat c.args.root c.requires).known

pub drop_ob-requires : goal.drop_ob-requires
drop_ob-requires c =
    let why = c.in-Err-Own in
    let own = (subst (IsNotNow c.args.core.now (E.Before c.args.seat (O.Initial c.args.root))) why.field-0-is why.ensures.when).1 in
    known-then c.args.core.now c.before-2.new.self c.args.seat (E.Drop c.args.seat why.clause) why.ensures.same
    (to-drop c.args.core.now c.args.seat (B.Initial c.args.root) why.clause tt c.requires own)

pub returns-in-Ok : goal.returns-in-Ok
returns-in-Ok c =
    let a = c.in-Ok.ensures in
    has-told c.args.core.now c.before-2.new.self c.args.seat (E.Before c.args.seat (O.Initial c.args.root)) (to-root c.args.core.now c.args.seat c.args.root c.requires) a.when a.made

pub returns-in-Err-Own : goal.returns-in-Err-Own
returns-in-Err-Own c =
    let why = c.in-Err-Own in
    let own = (subst (IsNotNow c.args.core.now (E.Before c.args.seat (O.Initial c.args.root))) why.field-0-is why.ensures.when).1 in
    let a = c.drop_ob.ensures in
    has-answered-then c.args.core.now c.before-2.new.self c.drop_ob.new.self c.args.seat (E.Drop c.args.seat why.clause) c.drop_ob.result c.is_ok.result why.ensures.same
    (to-drop c.args.core.now c.args.seat (B.Initial c.args.root) why.clause tt c.requires own) plain
    (record { made = a.made; same = a.same; when = a.when; is = c.is_ok.ensures.value })

pub returns-in-Err-Spent : goal.returns-in-Err-Spent
returns-in-Err-Spent c =
    let why = c.in-Err-Spent in
    let e = E.Before c.args.seat (O.Initial c.args.root) in
    is-spent c.args.core.now c.before-2.new.self c.args.seat e (to-root c.args.core.now c.args.seat c.args.root c.requires)
    (subst (IsNotNow c.args.core.now e) why.field-0-is why.ensures.when) why.ensures.same
