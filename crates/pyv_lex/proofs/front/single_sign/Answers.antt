use Rattle.std.proofs.Common.{◌∷◌, [], sym, subst}
use Rattle.pyv_lex.specs.declared.token.Kind.TheVariants.{Equal, Bang, Amp, Bar, RoundLeft, RoundRight, SquareLeft, SquareRight, CurlyLeft, CurlyRight, Comma, Dot, Colon}
use Rattle.pyv_lex.specs.Spelling.{Sign}
use Rattle.pyv_lex.specs.Spelling as rule
use Rattle.pyv_lex.proofs.front.single_sign.Goals as goal

pub returns-in-61 : goal.returns-in-61
returns-in-61 c = subst (λ b. Sign Equal (b ∷ [])) (sym c.in-61.is) rule.equal

pub returns-in-33 : goal.returns-in-33
returns-in-33 c = subst (λ b. Sign Bang (b ∷ [])) (sym c.in-33.is) rule.bang

pub returns-in-38 : goal.returns-in-38
returns-in-38 c = subst (λ b. Sign Amp (b ∷ [])) (sym c.in-38.is) rule.amp

pub returns-in-124 : goal.returns-in-124
returns-in-124 c = subst (λ b. Sign Bar (b ∷ [])) (sym c.in-124.is) rule.bar

pub returns-in-40 : goal.returns-in-40
returns-in-40 c = subst (λ b. Sign RoundLeft (b ∷ [])) (sym c.in-40.is) rule.round_left

pub returns-in-41 : goal.returns-in-41
returns-in-41 c = subst (λ b. Sign RoundRight (b ∷ [])) (sym c.in-41.is) rule.round_right

pub returns-in-91 : goal.returns-in-91
returns-in-91 c = subst (λ b. Sign SquareLeft (b ∷ [])) (sym c.in-91.is) rule.square_left

pub returns-in-93 : goal.returns-in-93
returns-in-93 c = subst (λ b. Sign SquareRight (b ∷ [])) (sym c.in-93.is) rule.square_right

pub returns-in-123 : goal.returns-in-123
returns-in-123 c = subst (λ b. Sign CurlyLeft (b ∷ [])) (sym c.in-123.is) rule.curly_left

pub returns-in-125 : goal.returns-in-125
returns-in-125 c = subst (λ b. Sign CurlyRight (b ∷ [])) (sym c.in-125.is) rule.curly_right

pub returns-in-44 : goal.returns-in-44
returns-in-44 c = subst (λ b. Sign Comma (b ∷ [])) (sym c.in-44.is) rule.comma

pub returns-in-46 : goal.returns-in-46
returns-in-46 c = subst (λ b. Sign Dot (b ∷ [])) (sym c.in-46.is) rule.dot

pub returns-in-58 : goal.returns-in-58
returns-in-58 c = subst (λ b. Sign Colon (b ∷ [])) (sym c.in-58.is) rule.colon
