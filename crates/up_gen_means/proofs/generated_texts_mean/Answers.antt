use Rattle.up_gen_means.proofs.Each.{each}
use Rattle.up_gen_means.proofs.generated_texts_mean.Goals as goal

pub returns : goal.returns
returns c = each
