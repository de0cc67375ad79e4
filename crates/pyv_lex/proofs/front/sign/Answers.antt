use Rattle.std.proofs.Common.{sym, subst, ◌∙◌, arith}
use Rattle.pyv_lex.specs.declared.token.Kind.TheVariants.{Iff, Implies, Unequal}
use Rattle.pyv_lex.specs.Spelling.{Sign}
use Rattle.pyv_lex.specs.Spelling as rule
use Rattle.pyv_lex.proofs.Signs.{shape, two, three, single, at_most_one, at_most_two, at_most_three}
use Rattle.pyv_lex.proofs.front.sign.Goals as goal
use Rattle.pyv_lex.proofs.front.sign.Goals.{else-first-eq60-via-then-first-eq60+then-second-eq45+else-byte_at-eq62, else-first-eq60-via-then-first-eq60+else-second-eq45, else-first-eq60-via-else-first-eq60, else-first-eq45-via-then-first-eq45+else-second-eq62, else-first-eq45-via-else-first-eq45, else-first-eq33-via-then-first-eq33+else-second-eq61, else-first-eq33-via-else-first-eq33}

pub returns-then-byte_at-eq62-clause-is : goal.returns-then-byte_at-eq62-clause-is
returns-then-byte_at-eq62-clause-is c =
    let f = three c.args.bytes.now 59 44 61 (sym c.byte_at-first.ensures ∙ c.if-first-eq60.true) (sym c.byte_at-second.ensures ∙ c.if-second-eq45.true) (sym c.byte_at.ensures ∙ c.if-byte_at-eq62.true) in
    (f.within, subst (Sign Iff) (sym f.is) rule.iff)

pub returns-then-byte_at-eq62-clause-longest : goal.returns-then-byte_at-eq62-clause-longest
returns-then-byte_at-eq62-clause-longest c = λ k text after h e. at_most_three c.args.bytes.now k text (shape k text after c.args.bytes.now h e)

pub returns-then-second-eq62-clause-is : goal.returns-then-second-eq62-clause-is
returns-then-second-eq62-clause-is c =
    let f = two c.args.bytes.now 44 61 (sym c.byte_at-first.ensures ∙ c.if-first-eq45.true) (sym c.byte_at-second.ensures ∙ c.if-second-eq62.true) in
    (f.within, subst (Sign Implies) (sym f.is) rule.implies)

pub returns-then-second-eq62-clause-longest : goal.returns-then-second-eq62-clause-longest
returns-then-second-eq62-clause-longest c = λ k text after h e. at_most_two c.args.bytes.now (λ p. let q = c.byte_at-first.ensures in let r = c.if-first-eq45.true in absurd (omega arith)) k text (shape k text after c.args.bytes.now h e)

pub returns-then-second-eq61-clause-is : goal.returns-then-second-eq61-clause-is
returns-then-second-eq61-clause-is c =
    let f = two c.args.bytes.now 32 60 (sym c.byte_at-first.ensures ∙ c.if-first-eq33.true) (sym c.byte_at-second.ensures ∙ c.if-second-eq61.true) in
    (f.within, subst (Sign Unequal) (sym f.is) rule.unequal)

pub returns-then-second-eq61-clause-longest : goal.returns-then-second-eq61-clause-longest
returns-then-second-eq61-clause-longest c = λ k text after h e. at_most_two c.args.bytes.now (λ p. let q = c.byte_at-first.ensures in let r = c.if-first-eq33.true in absurd (omega arith)) k text (shape k text after c.args.bytes.now h e)

pub returns-clause-is : goal.returns-clause-is
returns-clause-is c = single c.in_ok-single_sign.field-0 c.args.bytes.now c.byte_at-first.result c.byte_at-first.ensures c.in_ok-single_sign.ensures

pub returns-clause-longest : goal.returns-clause-longest
returns-clause-longest c = λ k text after h e.
    at_most_one c.args.bytes.now
    (λ x y z. elim c.else-first-eq60.branch [
      | else-first-eq60-via-then-first-eq60+then-second-eq45+else-byte_at-eq62 w ↦ w.if-byte_at-eq62.false (w.byte_at.ensures ∙ z)
      | else-first-eq60-via-then-first-eq60+else-second-eq45 w ↦ w.if-second-eq45.false (c.byte_at-second.ensures ∙ y)
      | else-first-eq60-via-else-first-eq60 w ↦ w.if-first-eq60.false (c.byte_at-first.ensures ∙ x)
    ])
    (λ x y. elim c.else-first-eq45.branch [
      | else-first-eq45-via-then-first-eq45+else-second-eq62 w ↦ w.if-second-eq62.false (c.byte_at-second.ensures ∙ y)
      | else-first-eq45-via-else-first-eq45 w ↦ w.if-first-eq45.false (c.byte_at-first.ensures ∙ x)
    ])
    (λ x y. elim c.else-first-eq33.branch [
      | else-first-eq33-via-then-first-eq33+else-second-eq61 w ↦ w.if-second-eq61.false (c.byte_at-second.ensures ∙ y)
      | else-first-eq33-via-else-first-eq33 w ↦ w.if-first-eq33.false (c.byte_at-first.ensures ∙ x)
    ])
    k text (shape k text after c.args.bytes.now h e)
