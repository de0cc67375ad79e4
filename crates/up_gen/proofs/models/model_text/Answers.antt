use Rattle.std.proofs.Common.{rules, ◌≡◌, ◌≤◌, List, ℕ, length, subst, sym}
use Rattle.up_gen.specs.Models.{model_text_of}
use Rattle.up_gen.proofs.Lengths.{short}
use Rattle.up_gen.proofs.models.model_text.Goals as goal

pub returns-clause-short : goal.returns-clause-short
returns-clause-short c =
    let made : c.from_string.result ≡ model_text_of c.args.n = search rules in
    subst (λ (text : List ℕ). length text ≤ 2000) (sym made) (short c.args.n c.requires.low c.requires.high)
