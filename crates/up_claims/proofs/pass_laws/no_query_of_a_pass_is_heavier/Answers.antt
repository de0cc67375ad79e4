use Rattle.up_claims.proofs.PassWeights.{root-less, before-less, pass-light}
use Rattle.up_claims.proofs.pass_laws.no_query_of_a_pass_is_heavier.Goals as goal

pub returns-clause-root : goal.returns-clause-root
returns-clause-root c sys cube k = root-less sys cube k

pub returns-clause-before : goal.returns-clause-before
returns-clause-before c sys frame cube k = before-less sys frame cube k

pub returns-clause-light : goal.returns-clause-light
returns-clause-light c sys limit frame cube asked what q no_root no_step root before is =
    pass-light sys limit frame cube no_root no_step root before asked what q is
