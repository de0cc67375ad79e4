use Rattle.std.proofs.Common.{refl}
use Rattle.clap.specs.Words.{found_of, rows_of}
use Rattle.updr_words.specs.Forms.{number_of}
use Rattle.updr_words.specs.Jobs.{GivesNumber}
use Rattle.updr_words.proofs.Rest.{all_paired, never_paired}
use Rattle.updr_words.proofs.reading.numbers_at.Goals as goal

pub returns-in_default-clause-none : goal.returns-in_default-clause-none
returns-in_default-clause-none c = λ _ vs p.
    never_paired (GivesNumber (rows_of (found_of c.args.matches.now))) number_of c.args.numbers.now c.each.values.items c.each.number-index _ c.each-test.true c.each.invariant
    (c.in_default.ensures.none refl) vs p

pub returns-clause-found : goal.returns-clause-found
returns-clause-found c = all_paired (GivesNumber (rows_of (found_of c.args.matches.now))) number_of c.args.numbers.now c.each.values.items c.each.number-index c.each-test.false c.each.invariant
