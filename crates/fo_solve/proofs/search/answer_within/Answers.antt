use Rattle.std.proofs.Common.{subst, ◌≤◌, ◌∙◌, arith}
use Rattle.fo_terms.proofs.WeightLemmas.{weight-query}
use Rattle.fo_solve.proofs.Lemmas.{form_rises}
use Rattle.fo_solve.proofs.search.answer_within.Goals.{in-Some, in-None}
use Rattle.fo_solve.proofs.search.answer_within.Goals as goal

pub counts-requires-clause-order : goal.counts-requires-clause-order
counts-requires-clause-order c = form_rises c.args.sys.now.sig c.args.q.now c.in_ok-form.form c.args.order.now.numbers c.in_ok-form.ensures.edges c.requires.search.rises

pub search-requires-clause-rises : goal.search-requires-clause-rises
search-requires-clause-rises c = form_rises c.args.sys.now.sig c.args.q.now c.in_ok-form.form c.args.order.now.numbers c.in_ok-form.ensures.edges c.requires.search.rises

pub returns : goal.returns
returns c =
    let form = c.in_ok-form in
    let same = weight-query c.args.sys.now.sig c.args.q.now form.form form.ensures.copies form.ensures.skolems form.ensures.nodes in
    let light = subst (λ n. n ≤ c.args.limit) (c.weight-weight.ensures.uncut _ (c.as_slice.ensures ∙ c.in_ok-counts.ensures.counts) ∙ same) (omega (arith, c.if-weight-limit.false)) in
    elim c.match-branch-4.branch [
      | in-Some w ↦ rw w.result-is (light, (form.ensures.same_worlds _).1 (rw w.in-Some.is at c.in_ok-world.ensures))
      | in-None w ↦ rw w.result-is (light, λ v met. (rw w.in-None.is at c.in_ok-world.ensures) v ((form.ensures.same_worlds v).0 met))
    ]
