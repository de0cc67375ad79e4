use Rattle.std.proofs.Common.{◌≡◌, drop, map}
use Rattle.clap.specs.Words.{app_of}
use Rattle.updr_words.specs.Forms.{flag_rule, with_rules}
use Rattle.updr_words.proofs.form.with_flags.Given as goal

-- with what is left it comes to the same
abbrev pub invariant-each : goal.invariant-each
invariant-each l =
    with_rules (app_of l.command) (map flag_rule (map (λ s. s.now) (drop l.name-index l.flags))) ≡ with_rules (app_of l.fn.command) (map flag_rule (map (λ s. s.now) l.flags))
