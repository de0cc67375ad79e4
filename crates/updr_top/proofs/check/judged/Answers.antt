-- What judging a verdict comes to is a row of the table.
use Rattle.std.proofs.Common.{refl, inl, inr}
use Rattle.std.specs.Prelude.{None}
use Rattle.updr_top.specs.CheckSound.{judged_confirmed, judged_nothing, judged_wrong_at}
use Rattle.updr_top.proofs.Ended.{if_end}
use Rattle.updr_top.proofs.check.judged.Goals as goal

pub returns-in-Holds : goal.returns-in-Holds
returns-in-Holds g c =
    let sys = c.args.meant.now.sys in
    let told = c.args.report.now.verdict in
    let limit = g.F.Finder.limit c.args.finder.now in
    let judged = rw (c.in-Holds.is) at c.in_ok-judge.ensures.judged in
    if_end c.confirmed.result _ _
    (λ e is cs. inl (record { comes = judged_confirmed sys limit told c.requires.fits judged; bytes = _; left = None; says = (refl, refl); is = is })) c.confirmed.ensures

pub returns-in-Wrong : goal.returns-in-Wrong
returns-in-Wrong g c =
    let sys = c.args.meant.now.sys in
    let told = c.args.report.now.verdict in
    let limit = g.F.Finder.limit c.args.finder.now in
    let spot = c.in-Wrong.spot in
    let judged = rw (c.in-Wrong.is) at c.in_ok-judge.ensures.judged in
    let at = judged_wrong_at sys limit told spot judged in
    if_end c.wrong.result _ _
    (λ e is cs. inr (inl (record { comes = (spot, at); bytes = _; left = None; says = (spot, at, refl, refl); is = is }))) c.wrong.ensures

pub returns-in-Over : goal.returns-in-Over
returns-in-Over g c =
    let weight = c.in-Over.weight in
    let judged = rw (c.in-Over.is) at c.in_ok-judge.ensures.judged in
    if_end c.too_heavy.result _ _
    (λ e is cs. inr (inr (inl (record { comes = (weight, judged); bytes = _; left = None; says = (weight, judged, refl, refl); is = is })))) c.too_heavy.ensures

pub returns-in-Nothing : goal.returns-in-Nothing
returns-in-Nothing g c =
    let sys = c.args.meant.now.sys in
    let told = c.args.report.now.verdict in
    let limit = g.F.Finder.limit c.args.finder.now in
    let judged = rw (c.in-Nothing.is) at c.in_ok-judge.ensures.judged in
    if_end c.nothing.result _ _
    (λ e is cs. inr (inr (inr (inl (record { comes = judged_nothing sys limit told judged; bytes = _; left = None; says = (refl, refl); is = is }))))) c.nothing.ensures
