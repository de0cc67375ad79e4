use Rattle.std.proofs.Common.{◌≡◌, drop, map}
use Rattle.clap.specs.Words.{app_of}
use Rattle.updr_words.specs.Forms.{number_of, number_rule, with_rules}
use Rattle.updr_words.proofs.form.with_numbers.Given as goal

-- with what is left it comes to the same
abbrev pub invariant-each : goal.invariant-each
invariant-each l =
    with_rules (app_of l.command) (map number_rule (map number_of (drop l.number-index l.numbers))) ≡ with_rules (app_of l.fn.command) (map number_rule (map number_of l.numbers))
