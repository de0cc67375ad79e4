use Rattle.std.proofs.Common.{inl, refl}
use Rattle.pyv_parse.proofs.LeftOut.{left_out}
use Rattle.pyv_parse.proofs.file.is_unsupported.Goals as goal

pub returns-in-Theorem : goal.returns-in-Theorem
returns-in-Theorem c = (λ _. inl (left_out c.args.token.kind c.in-Theorem.is), λ _. refl)
