use Rattle.std.proofs.Common.{◌+◌, inl, inr, refl, arith}
use Rattle.pyv_lex.proofs.Fronts.{blank_front, comment_front, word_front, number_front, sign_front, other_front}
use Rattle.pyv_lex.proofs.front.front_piece.Goals as goal

pub returns-then-is_blank : goal.returns-then-is_blank
returns-then-is_blank c = blank_front c.in_ok-first.first.now c.in_ok-first.after.now c.args.text.now c.in_ok-first.ensures.cases.0 (c.if-is_blank.ensures.0 refl)

pub returns-then-first-eq35 : goal.returns-then-first-eq35
returns-then-first-eq35 c =
    comment_front c.in_ok-first.first.now c.in_ok-first.after.now c.args.text.now c.line_len-len.result (1 + c.line_len-len.result) c.in_ok-first.ensures.cases.0 c.if-first-eq35.true (omega arith) c.line_len-len.ensures.within c.line_len-len.ensures.all c.line_len-len.ensures.ends

pub returns-then-begins_word : goal.returns-then-begins_word
returns-then-begins_word c =
    word_front c.in_ok-first.first.now c.in_ok-first.after.now c.args.text.now c.word_len-len.result (1 + c.word_len-len.result) c.word_kind.result c.in_ok-first.ensures.cases.0 (omega arith) c.word_kind.ensures (c.if-begins_word.ensures.0 refl) c.word_len-len.ensures.within c.word_len-len.ensures.all c.word_len-len.ensures.ends

pub returns-then-is_digit : goal.returns-then-is_digit
returns-then-is_digit c =
    number_front c.in_ok-first.first.now c.in_ok-first.after.now c.args.text.now c.number_len-len.result (1 + c.number_len-len.result) c.in_ok-first.ensures.cases.0 (omega arith) (c.if-is_digit.ensures.0 refl) c.number_len-len.ensures.within c.number_len-len.ensures.all c.number_len-len.ensures.ends

pub returns-in-Some : goal.returns-in-Some
returns-in-Some c = sign_front c.args.text.now c.in-Some.len c.in-Some.kind c.in-Some.ensures.is.0 c.in-Some.ensures.is.1 c.in-Some.ensures.longest

pub returns : goal.returns
returns c =
    other_front c.in_ok-first.first.now c.in_ok-first.after.now c.args.text.now c.in_ok-first.ensures.cases.0 (omega arith) (omega arith)
    (λ w. elim w [ inl h ↦ absurd (let q = c.if-begins_word.ensures.1 h in cc) | inr h ↦ absurd (let q = c.if-is_digit.ensures.1 h in cc) ]) c.if-first-eq35.false c.in_default.ensures.longest
