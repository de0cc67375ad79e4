use Rattle.std.proofs.Common.{◌≡◌, take, map}
use Rattle.clap.specs.Words.{found_of, rows_of}
use Rattle.updr_words.specs.Forms.{texts}
use Rattle.updr_words.specs.Jobs.{is_given}
use Rattle.updr_words.proofs.reading.flags_at.Given as goal

-- the first flags are looked for
abbrev pub invariant-each : goal.invariant-each
invariant-each l = l.given.items ≡ map (is_given (rows_of (found_of l.matches))) (texts (take l.flag-index l.flags))
