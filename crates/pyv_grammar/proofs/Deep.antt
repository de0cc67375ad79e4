-- A level further in, by the room that is left there.
use Rattle.std.proofs.Common.{◌≡◌, ℕ, zero, suc, ◌-◌, ◌<◌, List, refl, ap, arith}
use Rattle.pyv_lex.specs.declared.token.Token.{Token}
use Rattle.pyv_grammar.specs.declared.reading.Found.{Found}
use Rattle.pyv_grammar.specs.Grammar.{Level, Unary, Imps, Exprs}
use Rattle.pyv_grammar.specs.Reading.{Reader, deep, read}

pub deep_reads : (n v : ℕ) (l : Level) → 0 < n → deep n v l ≡ read (n - 1) v l
unfolding deep
deep_reads zero v l h = absurd (omega arith)
deep_reads (suc n) v l h =
    let e : n ≡ suc n - 1 = omega arith in
    ap (λ m. read m v l) e

pub deep_unary : (n v : ℕ) (ts : List Token) → 0 < n → deep n v Unary ts ≡ read (n - 1) v Unary ts
deep_unary n v ts h = ap (λ (f : Reader Found). f ts) (deep_reads n v Unary h)

pub deep_imps : (n v : ℕ) (ts : List Token) → 0 < n → deep n v Imps ts ≡ read (n - 1) v Imps ts
deep_imps n v ts h = ap (λ (f : Reader Found). f ts) (deep_reads n v Imps h)

pub deep_exprs : (n v : ℕ) (ts : List Token) → 0 < n → deep n v Exprs ts ≡ read (n - 1) v Exprs ts
deep_exprs n v ts h = ap (λ (f : Reader Found). f ts) (deep_reads n v Exprs h)
