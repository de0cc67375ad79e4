use Rattle.std.proofs.Common.{◌≡◌, arith}
use Rattle.std.specs.Str.Parse.{ParsesUnsigned, ExplainsUnsignedError, HasUnsignedDigitsIfOk}
use Rattle.clap.specs.Words.{found_of}
use Rattle.updr_words.specs.Forms.{number_of}
use Rattle.updr_words.proofs.Parsing.{some_given, same_given, none_given}
use Rattle.updr_words.proofs.reading.number_at.Goals as goal

pub returns-in-Some-clause-some : goal.returns-in-Some-clause-some
returns-in-Some-clause-some c = some_given _ (λ bs r. ParsesUnsigned 32 10 bs r × ExplainsUnsignedError 10 bs r × HasUnsignedDigitsIfOk bs r) (λ t x h. h.0) (found_of c.args.matches.now) (number_of c.args.number.now) _ c.in-Some.ensures.none c.in-Some.ensures.value c.if-number-value.true c.if-value-number.true

pub returns-in_default-clause-none : goal.returns-in_default-clause-none
returns-in_default-clause-none c = λ _ v g.
    let same : v ≡ c.in-Some.value = same_given _ (λ bs r. ParsesUnsigned 32 10 bs r × ExplainsUnsignedError 10 bs r × HasUnsignedDigitsIfOk bs r) (λ t x h. h.0) (found_of c.args.matches.now) (number_of c.args.number.now) v c.in-Some.value c.in-Some.ensures.value g in
    let high = g.high in
    let past = c.if-value-number.false in
    omega arith

pub returns-in_default-2-clause-none : goal.returns-in_default-2-clause-none
returns-in_default-2-clause-none c = λ _ v g.
    let same : v ≡ c.in-Some.value = same_given _ (λ bs r. ParsesUnsigned 32 10 bs r × ExplainsUnsignedError 10 bs r × HasUnsignedDigitsIfOk bs r) (λ t x h. h.0) (found_of c.args.matches.now) (number_of c.args.number.now) v c.in-Some.value c.in-Some.ensures.value g in
    let low = g.low in
    let past = c.if-number-value.false in
    omega arith

pub returns-in_default-3-clause-none : goal.returns-in_default-3-clause-none
returns-in_default-3-clause-none c = λ _ v g.
    none_given _ (λ bs r. ParsesUnsigned 32 10 bs r × ExplainsUnsignedError 10 bs r × HasUnsignedDigitsIfOk bs r) (λ t x h. h.0) (found_of c.args.matches.now) (number_of c.args.number.now) c.in_default.ensures.value v g
