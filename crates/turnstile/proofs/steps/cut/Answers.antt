use Rattle.std.proofs.Common.{rules}
use Rattle.turnstile.proofs.Keeps.{splits}
use Rattle.turnstile.proofs.steps.cut.Goals as goal

pub split_seat-requires : goal.split_seat-requires
split_seat-requires g c = (search rules, search rules, splits _ _ _ _ _ _ _ c.requires.outside.0 c.requires.inside.0 c.requires.inside.1)
