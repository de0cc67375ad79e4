use Rattle.fo_solve.specs.Solving.{form_counts}
use Rattle.fo_terms.proofs.WeightLemmas.{few_of_weight}
use Rattle.fo_solve.proofs.context.Context.new.Goals as goal

pub universe_from-requires-clause-few : goal.universe_from-requires-clause-few
universe_from-requires-clause-few c = few_of_weight c.args.sig.now c.args.form.now (form_counts c.args.sig.now c.args.form.now) c.requires.light
