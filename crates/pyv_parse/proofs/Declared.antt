-- Reading the declarations of a file one after the other, as a loop does.
use Rattle.std.proofs.Common.{◌≡◌, ◌==◌, true, false, ℕ, zero, suc, ◌+◌, ◌<◌, List, [], ◌∷◌, ◌++◌, length, Result, Ok, Err, refl, sym, ap, ◌∙◌, append_assoc, add-one, arith}
use Rattle.std.proofs.lemmas.Bool.{eqb-true}
use Rattle.std.proofs.lemmas.List.{append-nil}
use Rattle.pyv_lex.specs.declared.token.Token.{Token}
use Rattle.pyv_grammar.specs.declared.tree.Decl.{Decl}
use Rattle.pyv_grammar.specs.declared.reading.Stuck.{Stuck}
use Rattle.pyv_grammar.specs.Grammar.{Exprs}
use Rattle.pyv_grammar.specs.Reading.{Got, Reader, decl_at, read, before_all, file_on, file, whole}
use Rattle.pyv_grammar.proofs.Local.{Strict}
use Rattle.pyv_grammar.proofs.Good.{good_read, good_decl}
use Rattle.pyv_grammar.proofs.Files.{file_step, file_nil, file_enough}
use Rattle.pyv_parse.specs.declared.halt.Halt.{Halt}
use Rattle.pyv_parse.specs.declared.halt.Halt.TheVariants as halt
use Rattle.pyv_parse.specs.Gives.{Fails, body_at}

-- declarations before those that are read
abbrev pub before : List Decl → Result (List Decl) Stuck → Result (List Decl) Stuck
before xs (Ok ys) = Ok (xs ++ ys)
before xs (Err e) = Err e

from_none : (got : Result (List Decl) Stuck) → before [] got ≡ got
from_none (Ok ys) = refl
from_none (Err e) = refl

abbrev f : Reader Decl
f = decl_at body_at

strict : Strict f
unfolding body_at
strict = (good_decl (read 200 6 Exprs) (good_read 200 6 Exprs)).is_strict

pub begins : (ts : List Token) → before [] (file f (length ts + 1) ts) ≡ whole 200 6 ts
unfolding whole body_at
begins ts = from_none (file f (length ts + 1) ts)

pub ends : (xs : List Decl) (ts : List Token) → length ts ≡ 0 → before xs (file f (length ts + 1) ts) ≡ Ok xs
ends xs [] h = ap (before xs) (file_nil f 0) ∙ ap (λ (ys : List Decl). Ok ys) (append-nil xs)
ends xs (t ∷ ts) h = absurd (omega arith)

pub none_left : (n : ℕ) → true ≡ (n == 0) → n ≡ 0
none_left n h = eqb-true n 0 (sym h)

pub some_left : (n : ℕ) → false ≡ (n == 0) → 0 < n
some_left zero h = absurd cc
some_left (suc n) h = omega arith

regroup : (xs : List Decl) (x : Decl) (got : Result (List Decl) Stuck) → before xs (before_all x got) ≡ before (xs ++ x ∷ []) got
regroup xs x (Ok ys) = ap (λ (zs : List Decl). Ok zs) (sym (append_assoc xs (x ∷ []) ys))
regroup xs x (Err e) = refl

step : (ts : List Token) → 0 < length ts → file f (length ts + 1) ts ≡ file_on (f ts) (file f (length ts))
step ts lt = rw add-one (file_step f (length ts) ts lt)

pub goes_on : (xs : List Decl) (ts after : List Token) (x : Decl) → 0 < length ts → f ts ≡ Ok (x, after) → before (xs ++ x ∷ []) (file f (length after + 1) after) ≡ before xs (file f (length ts + 1) ts)
goes_on xs ts after x lt h =
    let less : length after < length ts = strict.by ts (x, after) h in
    let one : file f (length ts + 1) ts ≡ before_all x (file f (length ts) after) = step ts lt ∙ ap (λ (y : Got Decl). file_on y (file f (length ts))) h in
    let rest : file f (length ts) after ≡ file f (length after + 1) after = file_enough f strict (length ts) (length after + 1) after less (omega arith) in
    sym (ap (before xs) (one ∙ ap (before_all x) rest) ∙ regroup xs x (file f (length after + 1) after))

pub fails : (xs : List Decl) (ts : List Token) (d : Halt) → 0 < length ts → Fails d (f ts) → Fails d (before xs (file f (length ts + 1) ts))
fails xs ts halt.Memory lt h = tt
fails xs ts (halt.Stuck d) lt h = ap (before xs) (step ts lt ∙ ap (λ (y : Got Decl). file_on y (file f (length ts))) h)
