use Rattle.std.proofs.Common.{drop, map}
use Rattle.clap.specs.Words.{found_of, rows_of}
use Rattle.updr_words.specs.Forms.{number_of}
use Rattle.updr_words.specs.Jobs.{GivesNumber}
use Rattle.updr_words.proofs.Rest.{IsPaired}
use Rattle.updr_words.proofs.reading.numbers_at.Given as goal

abbrev pub invariant-each : goal.invariant-each
invariant-each l = IsPaired (GivesNumber (rows_of (found_of l.matches))) (map number_of l.numbers) l.values.items (map number_of (drop l.number-index l.numbers))
