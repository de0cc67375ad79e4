-- Options that several commands have.
use Rattle.std.specs.Prelude.{codes}
use Rattle.fo_core.specs.declared.query.TheConstants.{MOST_WEIGHT}
use Rattle.updr_words.specs.declared.form.Giving.TheVariants.{ByOption}
use Rattle.updr_words.specs.Forms.{Number}

-- `--weight`, the most that a query may weigh: from 1 to 4,000,000, and without it the greatest
abbrev pub weight_option : Number
weight_option = record { name = codes "weight"; giving = ByOption; usual = codes "4000000"; least = 1; most = MOST_WEIGHT }
