use Rattle.std.proofs.Common.{rules, ◌≡◌, ◌≤◌, List, length, sym, ap, subst, ◌∙◌}
use Rattle.std.specs.List.{All}
use Rattle.fo_core.specs.declared.formula.Formula.{Formula}
use Rattle.fo_terms.specs.FormWeight.{form_weight}
use Rattle.fo_terms.specs.Weighable.{CanWeigh}
use Rattle.fo_terms.proofs.WeightLemmas.{claims-weigh, few_of_weight, weight-cut}
use Rattle.fo_terms.proofs.weighing.weight.Goals as goal

pub claim_nodes-requires : goal.claim_nodes-requires
claim_nodes-requires c =
    let n = length c.args.counts.now in
    subst (λ (fs : List Formula). All (CanWeigh n) fs) (sym c.as_slice.ensures) (claims-weigh c.args.sig.now c.args.form.now n c.requires.form c.requires.counts)

pub returns-clause-uncut : goal.returns-clause-uncut
returns-clause-uncut c = λ U e.
    let exact : c.saturating_add-3.result ≡ form_weight c.args.sig.now c.args.form.now c.args.counts.now = search rules in
    exact ∙ ap (form_weight c.args.sig.now c.args.form.now) e ∙ weight-cut c.args.sig.now c.args.form.now U

pub returns-clause-light : goal.returns-clause-light
returns-clause-light c = λ U e le.
    let exact : c.saturating_add-3.result ≡ form_weight c.args.sig.now c.args.form.now c.args.counts.now = search rules in
    let whole = exact ∙ ap (form_weight c.args.sig.now c.args.form.now) e ∙ weight-cut c.args.sig.now c.args.form.now U in
    few_of_weight c.args.sig.now c.args.form.now U (subst (λ m. m ≤ 4000000) whole le)
