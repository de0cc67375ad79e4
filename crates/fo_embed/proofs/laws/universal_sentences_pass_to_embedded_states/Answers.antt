use Rattle.fo_embed.proofs.Universals.{sentence-passes}
use Rattle.fo_embed.proofs.laws.universal_sentences_pass_to_embedded_states.Goals as goal

pub returns : goal.returns
returns c = sentence-passes
