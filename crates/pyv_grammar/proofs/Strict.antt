-- Each reader is local, and reads a token or more.
use Rattle.std.proofs.Common.{◌≡◌, ℕ, zero, suc, ◌+◌, ◌<◌, ◌≤◌, Bool, true, false, cond, List, [], ◌∷◌, ◌++◌, length, Option, Some, None, Result, Ok, Err, refl, sym, ap, ap₂, subst, ◌∙◌, ◌⊎◌, inl, inr, append_assoc, arith}
use Rattle.std.proofs.lemmas.List.{length-append, append_cancel_right}
use Rattle.std.specs.Prelude.{nat_lt}
use Rattle.pyv_lex.specs.declared.token.Kind.{Kind}
use Rattle.pyv_lex.specs.declared.token.Token.{Token}
use Rattle.pyv_grammar.specs.declared.reading.Stuck.{Stuck}
use Rattle.pyv_grammar.specs.declared.reading.Stuck.TheVariants.{Bad, Deep}
use Rattle.pyv_grammar.specs.Reading.{Got, Reader, eat, on, ◌>>=◌, give, refuse, and_then, sign, try, opens, wants, separated, all_separated}
use Rattle.pyv_grammar.proofs.Eat.{first, Eaten, eat-some, eat-here, eat-none}
use Rattle.pyv_grammar.proofs.Local.{left, moved, LocalAt, Local, Strict, local_give, local_refuse, local_then, local_try, local_opens, local_sign}

-- a step that did not fail
pub bind_ok : {A B : Type 0} (r : Got A) (f : A × List Token → Got B) (y : B × List Token) → (r >>= f) ≡ Ok y → (x : A × List Token) × (r ≡ Ok x) × (f x ≡ Ok y)
bind_ok (Ok x) f y e = (x, refl, e)
bind_ok (Err d) f y e = absurd cc

abbrev pub no : {A : Type 0} → Stuck → Got A
no e = Err e

-- two ways to cut a list at one length
pub append_cancel_length : (p s q r : List Token) → p ++ s ≡ q ++ r → length s ≡ length r → (p ≡ q) × (s ≡ r)
append_cancel_length [] s [] r e l = (refl, e)
append_cancel_length [] s (t ∷ q) r e l = absurd (omega (arith, ap length e, length-append (t ∷ q) r))
append_cancel_length (t ∷ p) s [] r e l = absurd (omega (arith, ap length e, length-append (t ∷ p) s))
append_cancel_length (t ∷ p) s (u ∷ q) r e l =
    let h : p ++ s ≡ q ++ r = cc in
    let a : t ≡ u = cc in
    let rest = append_cancel_length p s q r h l in
    (ap₂ (λ (x : Token) (y : List Token). x ∷ y) a rest.0, rest.1)

abbrev pub done : {A : Type 0} → A × List Token → Got A
done x = Ok x

pub ok_is : {A : Type 0} (x y : A × List Token) → done x ≡ done y → x ≡ y
ok_is x y e = cc

at_most : {A : Type 0} (f : Reader A) (ts : List Token) (y : Got A) → LocalAt f ts y → (x : A × List Token) → y ≡ Ok x → length x.1 ≤ length ts
at_most {A = A} f ts (Ok y) h x e =
    let p : y ≡ x = ok_is y x e in
    subst (λ (z : A × List Token). length z.1 ≤ length ts) p (rw h.1 (omega (arith, length-append h.0 y.1)))
at_most f ts (Err d) h x e = absurd cc

pub local_most : {A : Type 0} (f : Reader A) → Local f → (ts : List Token) (x : A × List Token) → f ts ≡ Ok x → length x.1 ≤ length ts
local_most f h ts x e = at_most f ts (f ts) (h.by ts) x e

pub strict_refuse : {A : Type 0} → Strict (refuse {A = A})
strict_refuse = record { by = λ ts x e. absurd cc }

pub strict_then : {A B : Type 0} (f : Reader A) (g : A → Reader B) → Strict f → ((x : A) → Local (g x)) → Strict (and_then f g)
strict_then f g h k = record {
  by = λ ts y e.
      let b = bind_ok (f ts) (λ x. g x.0 x.1) y e in
      let m : length y.1 ≤ length b.0.1 = local_most (g b.0.0) (k b.0.0) b.0.1 y b.2 in
      let n : length b.0.1 < length ts = h.by ts b.0 b.1 in
      omega arith;
}

strict_on : {A : Type 0} (k : Kind) (f : Token → Reader A) (g : Reader A) (ts : List Token) → ((t : Token) → Local (f t)) → Strict g → (o : Option (Token × List Token)) → eat k ts ≡ o
    → (x : A × List Token) → on o (λ t. f t.0 t.1) (g ts) ≡ Ok x → length x.1 < length ts
strict_on k f g ts h s None e x q = s.by ts x q
strict_on k f g ts h s (Some t) e x q =
    let m : length x.1 ≤ length t.1 = local_most (f t.0) (h t.0) t.1 x q in
    let p = ap length ((eat-some k ts t.0 t.1 e).parts) in
    omega (arith, p)

pub strict_try : {A : Type 0} (k : Kind) (f : Token → Reader A) (g : Reader A) → ((t : Token) → Local (f t)) → Strict g → Strict (try k f g)
strict_try k f g h s = record { by = λ ts x e. strict_on k f g ts h s (eat k ts) refl x e }

strict_shut : {A : Type 0} (k : Kind) (g : Reader A) (ts : List Token) → Strict g → (o : Option (Token × List Token))
    → (x : A × List Token) → on o (λ _. Err (Deep (length ts))) (g ts) ≡ Ok x → length x.1 < length ts
strict_shut k g ts s None x q = s.by ts x q
strict_shut k g ts s (Some t) x q = absurd cc

pub strict_opens : {A : Type 0} (b : Bool) (k : Kind) (f : Token → Reader A) (g : Reader A) → ((t : Token) → Local (f t)) → Strict g → Strict (opens b k f g)
strict_opens true k f g h s = strict_try k f g h s
strict_opens false k f g h s = record { by = λ ts x e. strict_shut k g ts s (eat k ts) x e }

pub record Good {A : Type 0} (f : Reader A) : Type 0 where
  pub is_local : Local f
  pub is_strict : Strict f

pub good_then : {A B : Type 0} (f : Reader A) (g : A → Reader B) → Good f → ((x : A) → Local (g x)) → Good (and_then f g)
good_then f g h k = record { is_local = local_then f g h.is_local k; is_strict = strict_then f g h.is_strict k }

pub good_try : {A : Type 0} (k : Kind) (f : Token → Reader A) (g : Reader A) → ((t : Token) → Local (f t)) → Good g → Good (try k f g)
good_try k f g h s = record { is_local = local_try k f g h s.is_local; is_strict = strict_try k f g h s.is_strict }

pub good_opens : {A : Type 0} (b : Bool) (k : Kind) (f : Token → Reader A) (g : Reader A) → ((t : Token) → Local (f t)) → Good g → Good (opens b k f g)
good_opens b k f g h s = record { is_local = local_opens b k f g h s.is_local; is_strict = strict_opens b k f g h s.is_strict }

pub good_refuse : {A : Type 0} → Good (refuse {A = A})
good_refuse = record { is_local = local_refuse; is_strict = strict_refuse }

pub good_wants : (k : Kind) → Good (wants k)
good_wants k = good_try k (λ t. give t) refuse (λ t. local_give t) good_refuse

pub strict_sign : {A : Type 0} (o b : Bool) (k : Kind) (f : Token → Reader A) (g : Reader A) → ((t : Token) → Local (f t)) → Strict g → Strict (sign o b k f g)
strict_sign true b k f g h s = s
strict_sign false b k f g h s = strict_opens b k f g h s

-- ---- items with signs between them

-- one item, and those that again reads behind a sign
abbrev pub item : {A : Type 0} → (A → Bool) → Kind → Reader (List A) → A → Reader (List A)
item ends k again x = sign (ends x) true k (λ _. and_then again (λ xs. give (x ∷ xs))) (give (x ∷ []))

module _ {A : Type 0} (ends : A → Bool) (e : Reader A) (k : Kind) where
  pub local_separated : (n : ℕ) → Local e → Local (separated ends e k n)
  unfolding separated
  local_separated zero h = local_refuse
  local_separated (suc n) h =
      local_then e _ h (λ x. local_sign (ends x) true k _ _ (λ _. local_then (separated ends e k n) _ (local_separated n h) (λ y. local_give _)) (local_give _))

  pub strict_separated : (n : ℕ) → Good e → Strict (separated ends e k n)
  unfolding separated
  strict_separated zero h = strict_refuse
  strict_separated (suc n) h =
      strict_then e _ h.is_strict (λ x. local_sign (ends x) true k _ _ (λ _. local_then (separated ends e k n) _ (local_separated n h.is_local) (λ y. local_give _)) (local_give _))

  -- fuel for each token is enough
  turn_on : (o : Bool) (again other : Reader (List A)) (ts : List Token) (x : A × List Token) → ((us : List Token) → length us < length ts → again us ≡ other us) → length x.1 < length ts
      → (t : Option (Token × List Token)) → eat k x.1 ≡ t
      → cond o (give (x.0 ∷ []) x.1) (on t (λ t. and_then again (λ xs. give (x.0 ∷ xs)) t.1) (give (x.0 ∷ []) x.1)) ≡ cond o (give (x.0 ∷ []) x.1) (on t (λ t. and_then other (λ xs. give (x.0 ∷ xs)) t.1) (give (x.0 ∷ []) x.1))
  turn_on true again other ts x h lt t q = refl
  turn_on false again other ts x h lt None q = refl
  turn_on false again other ts x h lt (Some t) q =
      let p = ap length ((eat-some k x.1 t.0 t.1 q).parts) in
      let shorter : length t.1 < length ts = omega (arith, p) in
      ap (λ (g : Got (List A)). and_then (λ _. g) (λ xs. give (x.0 ∷ xs)) t.1) (h t.1 shorter)

  turn_same : (again other : Reader (List A)) (ts : List Token) → ((us : List Token) → length us < length ts → again us ≡ other us)
      → (g : Got A) → ((x : A × List Token) → g ≡ Ok x → length x.1 < length ts)
      → (g >>= λ x. item ends k again x.0 x.1) ≡ (g >>= λ x. item ends k other x.0 x.1)
  turn_same again other ts h (Ok x) lt = turn_on (ends x.0) again other ts x h (lt x refl) (eat k x.1) refl
  turn_same again other ts h (Err d) lt = refl

  pub enough : Strict e → (n m : ℕ) (ts : List Token) → length ts < n → length ts < m → separated ends e k n ts ≡ separated ends e k m ts
  unfolding separated
  enough s zero m ts h l = absurd (omega arith)
  enough s (suc n) zero ts h l = absurd (omega arith)
  enough s (suc n) (suc m) ts h l =
      turn_same (separated ends e k n) (separated ends e k m) ts (λ us lt. enough s n m us (omega arith) (omega arith)) (e ts) (λ x q. s.by ts x q)

  -- the step of a loop
  pub all_separated-step : Strict e → (ts : List Token) → all_separated ends e k ts ≡ and_then e (item ends k (all_separated ends e k)) ts
  unfolding separated all_separated
  all_separated-step s ts =
      enough s (length ts + 1) (suc (length ts)) ts (omega arith) (omega arith)
      ∙ turn_same (separated ends e k (length ts)) (all_separated ends e k) ts (λ us lt. enough s (length ts) (length us + 1) us lt (omega arith)) (e ts) (λ x q. s.by ts x q)

  -- ---- reading all items is local

  all_as : Strict e → (n : ℕ) (ts : List Token) → length ts < n → all_separated ends e k ts ≡ separated ends e k n ts
  unfolding all_separated
  all_as s n ts h = enough s (length ts + 1) n ts (omega arith) h

  -- what was read from the front is one list
  fronts : (p q r : List Token) (ts : List Token) → ts ≡ p ++ r → ts ≡ q ++ r → p ≡ q
  fronts p q r ts a b = append_cancel_right p q r (sym a ∙ b)

  all_ok : Good e → (n : ℕ) (ts p : List Token) (x : List A × List Token) (r : List Token) → ts ≡ p ++ x.1 → length (p ++ r) < n → (y : Got (List A)) → LocalAt (separated ends e k n) ts y → y ≡ Ok x
      → first x.1 ≡ first r → all_separated ends e k (p ++ r) ≡ Ok (x.0, r)
  all_ok good n ts p x r parts lt (Ok y) h q same =
      let is : y ≡ x = ok_is y x q in
      let p-is : h.0 ≡ p = fronts h.0 p x.1 ts (h.1 ∙ ap (λ (z : List A × List Token). h.0 ++ z.1) is) parts in
      let read : separated ends e k n (h.0 ++ r) ≡ Ok (y.0, r) = h.2 r (ap (λ (z : List A × List Token). first z.1) is ∙ same) in
      all_as good.is_strict n (p ++ r) lt ∙ ap (λ (l : List Token). separated ends e k n (l ++ r)) (sym p-is) ∙ read ∙ ap (λ (z : List A × List Token). done (z.0, r)) is
  all_ok good n ts p x r parts lt (Err d) h q same = absurd cc

  all_err : Good e → (n : ℕ) (ts p s : List Token) (d : Stuck) (r : List Token) → ts ≡ p ++ s → left d ≡ length s → length (p ++ r) < n → (y : Got (List A)) → LocalAt (separated ends e k n) ts y → y ≡ Err d
      → first s ≡ first r → all_separated ends e k (p ++ r) ≡ Err (moved d (length r))
  all_err good n ts p s d r parts len lt (Ok y) h q same = absurd cc
  all_err good n ts p s d r parts len lt (Err f) h q same =
      let is : f ≡ d = cc in
      let long : length h.1 ≡ length s = sym h.3 ∙ ap left is ∙ len in
      let both = append_cancel_length h.0 h.1 p s (sym h.2 ∙ parts) long in
      let read : separated ends e k n (h.0 ++ r) ≡ Err (moved f (length r)) = h.4 r (ap first both.1 ∙ same) in
      all_as good.is_strict n (p ++ r) lt ∙ ap (λ (l : List Token). separated ends e k n (l ++ r)) (sym both.0) ∙ read ∙ ap (λ (z : Stuck). no {A = List A} (moved z (length r))) is

  all_at : Good e → (n : ℕ) (ts : List Token) → length ts < n → (y : Got (List A)) → separated ends e k n ts ≡ y → LocalAt (separated ends e k n) ts y → LocalAt (all_separated ends e k) ts y
  all_at good n ts lt (Ok x) q h = (
    h.0,
    h.1,
    λ r f.
        let m = length (h.0 ++ r) + length ts + 1 in
        all_ok good m ts h.0 x r h.1 (omega arith) (separated ends e k m ts) ((local_separated m good.is_local).by ts) (enough good.is_strict m n ts (omega arith) lt ∙ q) f,
  )
  all_at good n ts lt (Err d) q h = (
    h.0,
    h.1,
    h.2,
    h.3,
    λ r f.
        let m = length (h.0 ++ r) + length ts + 1 in
        all_err good m ts h.0 h.1 d r h.2 h.3 (omega arith) (separated ends e k m ts) ((local_separated m good.is_local).by ts) (enough good.is_strict m n ts (omega arith) lt ∙ q) f,
  )

  pub good_all_separated : Good e → Good (all_separated ends e k)
  unfolding all_separated
  good_all_separated good = record {
    is_local = record { by = λ ts. all_at good (length ts + 1) ts (omega arith) (separated ends e k (length ts + 1) ts) refl ((local_separated (length ts + 1) good.is_local).by ts) };
    is_strict = record { by = λ ts x q. (strict_separated (length ts + 1) good).by ts x q };
  }
