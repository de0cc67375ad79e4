-- Why rounds come to an end: a number that falls with each of them.
use Rattle.std.specs.Prelude.{ℕ, ◌+◌, ◌-◌, ◌*◌, cond, length, Option, None, Some, nat_eq}
use Rattle.up_machine.specs.declared.limits.Limits.{Limits}
use Rattle.up_machine.specs.Machine.{Machine, done_seeds}
use Rattle.up_machine.specs.Told.{live_of}

-- 0 where a look found nothing further and no seed was done since, so that none is due; else 1
abbrev pub unrest : Option ℕ → ℕ → ℕ
unrest None done = 1
unrest (Some calm) done = cond (nat_eq calm done) 0 1

-- Three times the steps that are left, the live clauses, and the unrest.
abbrev pub left_of : Limits → Machine → ℕ
left_of limits m =
    3 * (limits.steps - m.productive) + length (live_of m.clauses) + unrest m.calm (done_seeds m)
