use Rattle.std.proofs.Common.{drop}
use Rattle.clap.specs.Words.{found_of, rows_of}
use Rattle.updr_words.specs.Jobs.{GivesFile}
use Rattle.updr_words.specs.Forms.{texts}
use Rattle.updr_words.proofs.Rest.{IsPaired}
use Rattle.updr_words.proofs.reading.files_at.Given as goal

abbrev pub invariant-each : goal.invariant-each
invariant-each l = IsPaired (GivesFile (rows_of (found_of l.matches))) (texts l.places) (texts l.files.items) (texts (drop l.place-index l.places))
