use Rattle.std.proofs.Common.{◌≡◌, sym, subst}
use Rattle.up_claims.specs.declared.report.Numbers.{Numbers}
use Rattle.up_core.specs.View.{CoreView, now, numbers_of}
use Rattle.up_core.proofs.NextCores.{numbers-are}
use Rattle.up_core.proofs.kept.Core.numbers.Goals as goal

pub returns : goal.returns
returns c =
    let x = c.self.inside in
    let told : Numbers = record { productive = x.state.productive; frontier = c.frontier.result; clauses = c.len.result } in
    let are = numbers-are x.sys x.order x.limits x.history x.state x.spare x.picks x.variables x.widest c.self.invariant c.len.result c.frontier.result c.len.ensures c.frontier.ensures in
    subst (λ (v : CoreView). told ≡ numbers_of (now v)) c.self.view_is (sym are)
