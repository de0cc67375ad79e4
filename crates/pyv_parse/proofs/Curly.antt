-- Curly brackets that are open behind a token.
use Rattle.std.proofs.Common.{◌≡◌, ℕ, zero, suc, ◌+◌, ◌-◌, ◌≤◌, Bool, true, false, SomeIff, MatchOption, subst, cond, ◌==◌, List, [], ◌∷◌, length, Option, Some, None, Ok, Err, refl, sym, ap, ◌∙◌, add-one, arith}
use Rattle.pyv_lex.specs.declared.token.Kind.{Kind}
use Rattle.pyv_lex.specs.declared.token.Kind.TheVariants as kind
use Rattle.pyv_lex.specs.declared.token.Token.{Token}
use Rattle.pyv_grammar.specs.declared.reading.Stuck.TheVariants.{Bad}
use Rattle.pyv_grammar.specs.Reading.{number, eat, braces}

abbrev TokenAnd : Type 0
TokenAnd = Token × List Token

one_there : (b : Bool) (x y : TokenAnd) → cond {A = Option TokenAnd} b (Some x) None ≡ Some y → b ≡ true
one_there true x y e = refl
one_there false x y e = absurd cc

none_there : (b : Bool) (x : TokenAnd) → cond {A = Option TokenAnd} b (Some x) None ≡ None → b ≡ false
none_there true x e = absurd cc
none_there false x e = refl

there : (k : Kind) (t : Token) (r : List Token) (y : TokenAnd) → eat k (t ∷ r) ≡ Some y → (number t.kind == number k) ≡ true
unfolding eat
there k t r y e = one_there (number t.kind == number k) (t, r) y e

not_there : (k : Kind) (t : Token) (r : List Token) → eat k (t ∷ r) ≡ None → (number t.kind == number k) ≡ false
unfolding eat
not_there k t r e = none_there (number t.kind == number k) (t, r) e

opening : (d : ℕ) (t : Token) (r : List Token) (y : TokenAnd) → eat kind.CurlyLeft (t ∷ r) ≡ Some y → braces d (t ∷ r) ≡ braces (d + 1) r
unfolding braces
opening d t r y e = rw (there kind.CurlyLeft t r y e, add-one) refl

other : (d : ℕ) (t : Token) (r : List Token) → eat kind.CurlyLeft (t ∷ r) ≡ None → eat kind.CurlyRight (t ∷ r) ≡ None → braces d (t ∷ r) ≡ braces d r
unfolding braces
other d t r e f = rw (not_there kind.CurlyLeft t r e, not_there kind.CurlyRight t r f) refl

closing_first : (t : Token) (r : List Token) (y : TokenAnd) → eat kind.CurlyLeft (t ∷ r) ≡ None → eat kind.CurlyRight (t ∷ r) ≡ Some y → braces 0 (t ∷ r) ≡ Ok (tt, r)
unfolding braces
closing_first t r y e f = rw (not_there kind.CurlyLeft t r e, there kind.CurlyRight t r y f) refl

closing : (d : ℕ) (t : Token) (r : List Token) (y : TokenAnd) → 1 ≤ d → eat kind.CurlyLeft (t ∷ r) ≡ None → eat kind.CurlyRight (t ∷ r) ≡ Some y → braces d (t ∷ r) ≡ braces (d - 1) r
unfolding braces
closing zero t r y lt e f = absurd (omega arith)
closing (suc d) t r y lt e f = rw (not_there kind.CurlyLeft t r e, there kind.CurlyRight t r y f) refl

closes : (d : ℕ) (t : Token) (r : List Token) (y : TokenAnd) (left : Option ℕ) → eat kind.CurlyLeft (t ∷ r) ≡ None → eat kind.CurlyRight (t ∷ r) ≡ Some y → SomeIff left (1 ≤ d) (d - 1)
    → MatchOption left (braces d (t ∷ r) ≡ Ok (tt, r)) (λ n. braces d (t ∷ r) ≡ braces n r)
closes zero t r y None e f h = closing_first t r y e f
closes (suc d) t r y None e f h = absurd (h (omega arith))
closes d t r y (Some n) e f h = closing d t r y h.0 e f ∙ ap (λ (m : ℕ). braces m r) (sym h.1)

-- ---- where the tokens are told to begin with one

pub opening_at : (d : ℕ) (ts : List Token) (y : TokenAnd) → eat kind.CurlyLeft ts ≡ Some y → (t : Token) (r : List Token) → ts ≡ t ∷ r → braces d ts ≡ braces (d + 1) r
opening_at d ts y e t r q = ap (braces d) q ∙ opening d t r y (rw q at e)

pub other_at : (d : ℕ) (ts : List Token) → eat kind.CurlyLeft ts ≡ None → eat kind.CurlyRight ts ≡ None → (t : Token) (r : List Token) → ts ≡ t ∷ r → braces d ts ≡ braces d r
other_at d ts e f t r q = ap (braces d) q ∙ other d t r (rw q at e) (rw q at f)

pub closes_at : (d : ℕ) (ts : List Token) (y : TokenAnd) (left : Option ℕ) → eat kind.CurlyLeft ts ≡ None → eat kind.CurlyRight ts ≡ Some y → SomeIff left (1 ≤ d) (d - 1) → (t : Token) (r : List Token) → ts ≡ t ∷ r
    → MatchOption left (braces d ts ≡ Ok (tt, r)) (λ n. braces d ts ≡ braces n r)
closes_at d ts y left e f h t r q = subst (λ (us : List Token). MatchOption left (braces d us ≡ Ok (tt, r)) (λ n. braces d us ≡ braces n r)) (sym q) (closes d t r y left (rw q at e) (rw q at f) h)

pub at_end : (d : ℕ) (ts : List Token) → length ts ≡ 0 → braces d ts ≡ Err (Bad (length ts))
unfolding braces
at_end d [] h = refl
at_end d (t ∷ ts) h = absurd (omega arith)
