use Rattle.up_machine.specs.declared.event.Event.TheVariants as E
use Rattle.up_machine.specs.declared.event.Why.TheVariants as Y
use Rattle.up_seats.proofs.LookReports.{to-secure, to-find-no-more, of-empty, of-some}
use Rattle.up_seats.proofs.Told.{plain, has-answered}
use Rattle.up_seats.proofs.looking.report_nothing.Goals as goal

pub secure-requires : goal.secure-requires
secure-requires c =
    let nothing = of-empty c.as_slice.result.now c.args.brief.now.avoid c.is_empty.result c.as_slice.ensures c.is_empty.ensures c.if-is_empty.true in
    (to-secure c.args.core.now c.args.seat c.args.brief.now c.requires nothing).known

pub give_back-requires : goal.give_back-requires
give_back-requires c =
    let something = of-some c.as_slice.result.now c.args.brief.now.avoid c.is_empty.result c.as_slice.ensures c.is_empty.ensures c.if-is_empty.false in
    (to-find-no-more c.args.core.now c.args.seat c.args.brief.now c.requires something).known

pub returns-then-is_empty : goal.returns-then-is_empty
returns-then-is_empty c =
    let nothing = of-empty c.as_slice.result.now c.args.brief.now.avoid c.is_empty.result c.as_slice.ensures c.is_empty.ensures c.if-is_empty.true in
    let a = c.secure.ensures in
    has-answered c.args.core.now c.secure.new.self c.args.seat (E.Secure c.args.seat) c.secure.result c.is_ok.result
    (to-secure c.args.core.now c.args.seat c.args.brief.now c.requires nothing) plain
    (record { made = a.made; same = a.same; when = a.when; is = c.is_ok.ensures.value })

pub returns-else-is_empty : goal.returns-else-is_empty
returns-else-is_empty c =
    let something = of-some c.as_slice.result.now c.args.brief.now.avoid c.is_empty.result c.as_slice.ensures c.is_empty.ensures c.if-is_empty.false in
    let a = c.give_back.ensures in
    has-answered c.args.core.now c.give_back.new.self c.args.seat (E.Return c.args.seat Y.NoMore) c.give_back.result c.is_ok-else-is_empty.result
    (to-find-no-more c.args.core.now c.args.seat c.args.brief.now c.requires something) plain
    (record { made = a.made; same = a.same; when = a.when; is = c.is_ok-else-is_empty.ensures.value })
