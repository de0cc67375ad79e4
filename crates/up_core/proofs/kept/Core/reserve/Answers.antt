use Rattle.std.proofs.Common.{◌+◌, ◌≤◌, length, arith, sym, subst}
use Rattle.up_machine.specs.Replay.{replay}
use Rattle.up_core.specs.Room.{HasRoom}
use Rattle.up_core.proofs.EventCores.{spare-max}
use Rattle.up_core.proofs.NextCores.{core-more, jobs-are}
use Rattle.up_core.proofs.kept.Core.reserve.Goals as goal

pub invariant_of-self-in_err-reserve-2 : goal.invariant_of-self-in_err-reserve-2
invariant_of-self-in_err-reserve-2 c =
    let x = c.self.inside in
    let core = c.self.invariant in
    let h = c.reserve.new.self in
    let events : HasRoom x.spare h = omega (arith, core.room.events, c.reserve.ensures.len, c.reserve.ensures.capacity) in
    core-more x.sys x.order x.limits x.history x.state x.spare x.picks x.variables x.widest core h c.reserve-2.new.self x.spare x.picks x.variables c.reserve.ensures.items events
    (c.reserve-2.ensures.kept x.spare core.room.entries) c.reserve-2.ensures.same (omega arith) core.picks_for.picks_are (omega arith)

pub invariant_of-self-in_err-widen : goal.invariant_of-self-in_err-widen
invariant_of-self-in_err-widen c =
    let x = c.self.inside in
    let core = c.self.invariant in
    let h = c.reserve.new.self in
    let events : HasRoom x.spare h = omega (arith, core.room.events, c.reserve.ensures.len, c.reserve.ensures.capacity) in
    core-more x.sys x.order x.limits x.history x.state x.spare x.picks x.variables x.widest core h c.reserve-2.new.self x.spare c.widen.new.picks c.widen.new.variables c.reserve.ensures.items events
    (c.reserve-2.ensures.kept x.spare core.room.entries) c.reserve-2.ensures.same (omega arith) c.widen.ensures.picks c.widen.ensures.kept

pub invariant_of-self-2 : goal.invariant_of-self-2
invariant_of-self-2 c =
    let x = c.self.inside in
    let core = c.self.invariant in
    let h = c.reserve.new.self in
    let p = c.max-self-inside.result in
    let a = c.in_ok-reserve.ensures.ok in
    let b = c.max-self-inside.ensures in
    let events : HasRoom p h = omega (arith, core.room.events, c.reserve.ensures.len, c.reserve.ensures.capacity, a, b) in
    let more : x.spare ≤ p = omega (arith, b) in
    core-more x.sys x.order x.limits x.history x.state x.spare x.picks x.variables x.widest core h c.reserve-2.new.self p c.widen.new.picks c.widen.new.variables c.reserve.ensures.items events
    (spare-max x.spare c.in_ok-wanted.wanted p c.reserve-2.new.self b (c.reserve-2.ensures.kept x.spare core.room.entries) c.in_ok-reserve-2.ensures.room) c.reserve-2.ensures.same more c.widen.ensures.picks c.widen.ensures.kept

pub returns-clause-room : goal.returns-clause-room
returns-clause-room c =
    let x = c.self.inside in
    let p = c.max-self-inside.result in
    let jobs = jobs-are x.sys x.order x.limits x.history x.state x.spare x.picks x.variables x.widest c.self.invariant in
    let b = c.max-self-inside.ensures in
    let here : c.args.events + length (replay x.history.items).jobs ≤ p = omega (arith, jobs, c.len.ensures, c.in_ok-wanted.ensures, b) in
    subst (λ es. c.args.events + length (replay es).jobs ≤ p) (sym c.reserve.ensures.items) here
