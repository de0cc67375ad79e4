use Rattle.std.proofs.Common.{ap, refl, inl, inr}
use Rattle.std.specs.Prelude.{None}
use Rattle.up_verify.specs.Verifying.{case_of}
use Rattle.updr_top.specs.Verify.{heavy_text}
use Rattle.updr_top.proofs.Ended.{if_end}
use Rattle.updr_top.proofs.verify.verified.Goals as goal

pub returns-in-Inductive : goal.returns-in-Inductive
returns-in-Inductive g c =
    let found = rw c.in-Inductive.is at c.in_ok-verify.ensures.found in
    if_end c.inductive.result _ _ (λ e is cs. inl (record { comes = found; bytes = _; left = None; says = (refl, refl); is = is })) c.inductive.ensures

pub returns-in-Fails : goal.returns-in-Fails
returns-in-Fails g c =
    let found = rw c.in-Fails.is at c.in_ok-verify.ensures.found in
    let f = c.in-Fails.failure in
    if_end c.failing.result _ _ (λ e is cs. inr (inl (record { comes = (case_of f, f.world, found.0); bytes = _; left = None; says = (case_of f, f.world, found.0, found.1, refl, refl); is = is }))) c.failing.ensures

pub returns-in-Over : goal.returns-in-Over
returns-in-Over g c =
    let found = rw c.in-Over.is at c.in_ok-verify.ensures.found in
    if_end c.too_heavy.result _ _ (λ e is cs. inr (inr (inl (record { comes = (found.0, found.1); bytes = _; left = None; says = (found.0, found.1, ap heavy_text found.2, refl); is = is })))) c.too_heavy.ensures
