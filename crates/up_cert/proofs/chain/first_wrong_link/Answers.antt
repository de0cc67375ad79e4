use Rattle.std.proofs.Common.{◌≡◌, ◌<◌, ℕ, None, length, ◌∙◌, subst, arith}
use Rattle.up_claims.specs.declared.verdict.Verdict.TheVariants.{NoUniversal}
use Rattle.up_cert.specs.Trying.{Looks}
use Rattle.up_cert.specs.VerdictSpots.{link_spots, links_below}
use Rattle.up_cert.proofs.LookLemmas.{looks-more, looks-wrong}
use Rattle.up_cert.proofs.chain.first_wrong_link.Goals as goal

pub returns-in-Some-clause-looks : goal.returns-in-Some-clause-looks
returns-in-Some-clause-looks c =
    let lt : c.each.k < length c.args.links.now = omega (arith, c.each-test.true) in
    looks-wrong c.args.sys.now (NoUniversal c.args.links.now) link_spots (length c.args.links.now) c.each.k c.in-Some.spot lt
    c.each.invariant.passed (rw c.in-Some.is at c.in_ok-spot.ensures.looks)

pub each-preserved : goal.each-preserved
each-preserved c = record {
  same = c.in_ok-spot.ensures.same ∙ c.each.invariant.same;
  passed = looks-more c.args.sys.now (NoUniversal c.args.links.now) link_spots c.each.k c.each.invariant.passed (rw c.in_default.is at c.in_ok-spot.ensures.looks);
}

pub returns-clause-looks : goal.returns-clause-looks
returns-clause-looks c =
    let end : c.each.k ≡ length c.args.links.now = omega (arith, c.each-test.false, c.each.auto.k-end) in
    subst (λ (n : ℕ). Looks c.args.sys.now (NoUniversal c.args.links.now) (links_below n) None) end c.each.invariant.passed
