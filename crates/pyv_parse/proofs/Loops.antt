-- Reading the items of a list one after the other, as a loop does.
use Rattle.std.proofs.Common.{◌≡◌, Bool, true, false, cond, List, [], ◌∷◌, ◌++◌, length, Some, None, Ok, Err, refl, sym, ap, ◌∙◌, append_assoc}
use Rattle.std.proofs.lemmas.List.{append-nil}
use Rattle.pyv_lex.specs.declared.token.Kind.{Kind}
use Rattle.pyv_lex.specs.declared.token.Token.{Token}
use Rattle.pyv_grammar.specs.declared.reading.Stuck.TheVariants.{Deep}
use Rattle.pyv_grammar.specs.Reading.{Got, Reader, ◌>>=◌, give, and_then, sign, all_separated}
use Rattle.pyv_grammar.proofs.Local.{Strict}
use Rattle.pyv_grammar.proofs.Strict.{item, all_separated-step}
use Rattle.pyv_parse.specs.declared.halt.Halt.{Halt}
use Rattle.pyv_parse.specs.declared.halt.Halt.TheVariants as halt
use Rattle.pyv_parse.specs.Gives.{Fails, eat_behind, put_all, gathered, put_last}

-- what stands behind an operand
pub sign-none : {A : Type 0} (o b : Bool) (k : Kind) (f : Token → Reader A) (g : Reader A) (ts : List Token) → eat_behind o k ts ≡ None → sign o b k f g ts ≡ g ts
sign-none true b k f g ts h = refl
sign-none false b k f g ts h = rw h refl

pub sign-some : {A : Type 0} (o b : Bool) (k : Kind) (f : Token → Reader A) (g : Reader A) (ts after : List Token) (t : Token) → eat_behind o k ts ≡ Some (t, after) → sign o b k f g ts ≡ cond b (f t after) (Err (Deep (length ts)))
sign-some true b k f g ts after t h = absurd cc
sign-some false b k f g ts after t h = rw h refl

module _ {A M : Type 0} (put : M → A → M) (ends : A → Bool) (e : Reader A) (k : Kind) (s : Strict e) where
  regroup : (m : M) (x : A) (got : Got (List A)) → gathered put m (got >>= λ y. give (x ∷ y.0) y.1) ≡ gathered put (put m x) got
  regroup m x (Ok y) = refl
  regroup m x (Err f) = refl

  pub goes_on : (m : M) (rest after next : List Token) (t : Token) (x : A) → e rest ≡ Ok (x, after) → eat_behind (ends x) k after ≡ Some (t, next)
      → gathered put (put m x) (all_separated ends e k next) ≡ gathered put m (all_separated ends e k rest)
  goes_on m rest after next t x f h =
      let one : and_then e (item ends k (all_separated ends e k)) rest ≡ (all_separated ends e k next >>= λ y. give (x ∷ y.0) y.1) =
      ap (λ (z : Got A). z >>= λ y. item ends k (all_separated ends e k) y.0 y.1) f ∙ sign-some (ends x) true k (λ _. and_then (all_separated ends e k) (λ xs. give (x ∷ xs))) (give (x ∷ [])) after next t h
      in
      sym (ap (gathered put m) (all_separated-step ends e k s rest ∙ one) ∙ regroup m x (all_separated ends e k next))

  pub stops : (m : M) (rest after : List Token) (x : A) → e rest ≡ Ok (x, after) → eat_behind (ends x) k after ≡ None → gathered put m (all_separated ends e k rest) ≡ Ok (put m x, after)
  stops m rest after x f h =
      let one : and_then e (item ends k (all_separated ends e k)) rest ≡ Ok (x ∷ [], after) =
      ap (λ (z : Got A). z >>= λ y. item ends k (all_separated ends e k) y.0 y.1) f ∙ sign-none (ends x) true k (λ _. and_then (all_separated ends e k) (λ xs. give (x ∷ xs))) (give (x ∷ [])) after h
      in
      ap (gathered put m) (all_separated-step ends e k s rest ∙ one)

  pub fails : (m : M) (rest : List Token) (d : Halt) → Fails d (e rest) → Fails d (gathered put m (all_separated ends e k rest))
  fails m rest halt.Memory f = tt
  fails m rest (halt.Stuck d) f =
      let one : and_then e (item ends k (all_separated ends e k)) rest ≡ Err d = rw f refl in
      ap (gathered put m) (all_separated-step ends e k s rest ∙ one)

pub put_all-last : {A : Type 0} (xs ys : List A) → put_all put_last xs ys ≡ xs ++ ys
put_all-last xs [] = sym (append-nil xs)
put_all-last xs (y ∷ ys) = put_all-last (xs ++ y ∷ []) ys ∙ append_assoc xs (y ∷ []) ys

pub from_none : {A : Type 0} (got : Got (List A)) → gathered put_last [] got ≡ got
from_none (Ok y) = ap (λ (ys : List _). give ys y.1) (put_all-last [] y.0)
from_none (Err e) = refl

pub fails_then : {A B : Type 0} (f : A × List Token → Got B) (d : Halt) (got : Got A) → Fails d got → Fails d (got >>= f)
fails_then f halt.Memory got h = tt
fails_then f (halt.Stuck d) got h = rw h refl
