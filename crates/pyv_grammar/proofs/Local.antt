-- A reader sees no further than the first token after what it reads.
use Rattle.std.proofs.Common.{◌≡◌, ℕ, zero, suc, ◌+◌, ◌<◌, ◌≤◌, Bool, true, false, cond, List, [], ◌∷◌, ◌++◌, length, Option, Some, None, Result, Ok, Err, refl, sym, ap, ap₂, subst, ◌∙◌, ◌⊎◌, inl, inr, append_assoc, arith}
use Rattle.std.proofs.lemmas.List.{length-append, append_cancel_right}
use Rattle.pyv_lex.specs.declared.token.Kind.{Kind}
use Rattle.pyv_lex.specs.declared.token.Token.{Token}
use Rattle.pyv_grammar.specs.declared.reading.Stuck.{Stuck}
use Rattle.pyv_grammar.specs.declared.reading.Stuck.TheVariants.{Bad, Deep}
use Rattle.pyv_grammar.specs.Reading.{Got, Reader, eat, on, ◌>>=◌, give, refuse, and_then, sign, try, opens}
use Rattle.pyv_grammar.proofs.Eat.{first, Eaten, eat-some, eat-here, eat-none}

abbrev pub left : Stuck → ℕ
left (Bad n) = n
left (Deep n) = n

-- the same fault, with so many tokens left
abbrev pub moved : Stuck → ℕ → Stuck
moved (Bad n) m = Bad m
moved (Deep n) m = Deep m

abbrev pub LocalAt : {A : Type 0} → Reader A → List Token → Got A → Type 0
LocalAt f ts (Ok x) = (p : List Token) × (ts ≡ p ++ x.1) × ((r : List Token) → first x.1 ≡ first r → f (p ++ r) ≡ Ok (x.0, r))
LocalAt f ts (Err e) = (p s : List Token) × (ts ≡ p ++ s) × (left e ≡ length s) × ((r : List Token) → first s ≡ first r → f (p ++ r) ≡ Err (moved e (length r)))

pub record Local {A : Type 0} (f : Reader A) : Type 0 where
  pub by : (ts : List Token) → LocalAt f ts (f ts)

pub record Strict {A : Type 0} (f : Reader A) : Type 0 where
  pub by : (ts : List Token) (x : A × List Token) → f ts ≡ Ok x → length x.1 < length ts

pub first-append : (p r s : List Token) → first r ≡ first s → first (p ++ r) ≡ first (p ++ s)
first-append [] r s h = h
first-append (t ∷ p) r s h = refl

pub local_give : {A : Type 0} (x : A) → Local (give x)
local_give x = record { by = λ ts. ([], refl, λ r h. refl) }

pub local_refuse : {A : Type 0} → Local (refuse {A = A})
local_refuse = record { by = λ ts. ([], ts, refl, refl, λ r h. refl) }

-- ---- one after the other

then_on : {A B : Type 0} (f : Reader A) (g : A → Reader B) (ts : List Token) (x : A × List Token) (p : List Token) → ts ≡ p ++ x.1 → ((r : List Token) → first x.1 ≡ first r → f (p ++ r) ≡ Ok (x.0, r))
    → (y : Got B) → LocalAt (g x.0) x.1 y → LocalAt (and_then f g) ts y
then_on {A = A} f g ts x p e h (Ok y) k = (
  p ++ k.0,
  e ∙ ap (λ (l : List Token). p ++ l) k.1 ∙ sym (append_assoc p k.0 y.1),
  λ r same.
      let a : f ((p ++ k.0) ++ r) ≡ Ok (x.0, k.0 ++ r) = ap f (append_assoc p k.0 r) ∙ h (k.0 ++ r) (ap first k.1 ∙ first-append k.0 y.1 r same) in
      ap (λ (z : Got A). z >>= λ v. g v.0 v.1) a ∙ k.2 r same,
)
then_on {A = A} f g ts x p e h (Err d) k = (
  p ++ k.0,
  k.1,
  e ∙ ap (λ (l : List Token). p ++ l) k.2 ∙ sym (append_assoc p k.0 k.1),
  k.3,
  λ r same.
      let a : f ((p ++ k.0) ++ r) ≡ Ok (x.0, k.0 ++ r) = ap f (append_assoc p k.0 r) ∙ h (k.0 ++ r) (ap first k.2 ∙ first-append k.0 k.1 r same) in
      ap (λ (z : Got A). z >>= λ v. g v.0 v.1) a ∙ k.4 r same,
)

then_at : {A B : Type 0} (f : Reader A) (g : A → Reader B) (ts : List Token) → ((x : A) → Local (g x)) → (y : Got A) → LocalAt f ts y → LocalAt (and_then f g) ts (y >>= λ x. g x.0 x.1)
then_at f g ts k (Ok x) h = then_on f g ts x h.0 h.1 h.2 (g x.0 x.1) ((k x.0).by x.1)
then_at f g ts k (Err d) h = (h.0, h.1, h.2, h.3, λ r same. ap (λ (z : Got _). z >>= λ v. g v.0 v.1) (h.4 r same))

pub local_then : {A B : Type 0} (f : Reader A) (g : A → Reader B) → Local f → ((x : A) → Local (g x)) → Local (and_then f g)
local_then f g h k = record { by = λ ts. then_at f g ts k (f ts) (h.by ts) }

-- ---- by the token at the front

abbrev TokenAnd : Type 0
TokenAnd = Token × List Token

none_at : {A : Type 0} (k : Kind) (f : List Token → TokenAnd → Got A) (g : Reader A) (ts : List Token) → eat k ts ≡ None → (y : Got A) → LocalAt g ts y → LocalAt (λ us. on (eat k us) (f us) (g us)) ts y
none_at k f g ts e (Ok x) h = (
  h.0,
  h.1,
  λ r same.
      let n : eat k (h.0 ++ r) ≡ None = eat-none k ts (h.0 ++ r) (ap first h.1 ∙ first-append h.0 x.1 r same) e in
      ap (λ (o : Option TokenAnd). on o (f (h.0 ++ r)) (g (h.0 ++ r))) n ∙ h.2 r same,
)
none_at k f g ts e (Err d) h = (
  h.0,
  h.1,
  h.2,
  h.3,
  λ r same.
      let n : eat k (h.0 ++ r) ≡ None = eat-none k ts (h.0 ++ r) (ap first h.2 ∙ first-append h.0 h.1 r same) e in
      ap (λ (o : Option TokenAnd). on o (f (h.0 ++ r)) (g (h.0 ++ r))) n ∙ h.4 r same,
)

some_at : {A : Type 0} (k : Kind) (f : Token → Reader A) (g : Reader A) (ts : List Token) (t : Token) (us : List Token) → Eaten k ts t us → (y : Got A) → LocalAt (f t) us y → LocalAt (try k f g) ts y
some_at k f g ts t us e (Ok x) h = (
  t ∷ h.0,
  e.parts ∙ ap (λ (l : List Token). t ∷ l) h.1,
  λ r same.
      ap (λ (o : Option TokenAnd). on o (λ t. f t.0 t.1) (g (t ∷ (h.0 ++ r)))) (eat-here k t (h.0 ++ r) e.kind) ∙ h.2 r same,
)
some_at k f g ts t us e (Err d) h = (
  t ∷ h.0,
  h.1,
  e.parts ∙ ap (λ (l : List Token). t ∷ l) h.2,
  h.3,
  λ r same.
      ap (λ (o : Option TokenAnd). on o (λ t. f t.0 t.1) (g (t ∷ (h.0 ++ r)))) (eat-here k t (h.0 ++ r) e.kind) ∙ h.4 r same,
)

try_at : {A : Type 0} (k : Kind) (f : Token → Reader A) (g : Reader A) (ts : List Token) → ((t : Token) → Local (f t)) → Local g → (o : Option TokenAnd) → eat k ts ≡ o → LocalAt (try k f g) ts (on o (λ t. f t.0 t.1) (g ts))
try_at k f g ts h l None e = none_at k (λ _ t. f t.0 t.1) g ts e (g ts) (l.by ts)
try_at k f g ts h l (Some t) e = some_at k f g ts t.0 t.1 (eat-some k ts t.0 t.1 e) (f t.0 t.1) ((h t.0).by t.1)

pub local_try : {A : Type 0} (k : Kind) (f : Token → Reader A) (g : Reader A) → ((t : Token) → Local (f t)) → Local g → Local (try k f g)
local_try k f g h l = record { by = λ ts. try_at k f g ts h l (eat k ts) refl }

-- no room: the sign itself is the fault
shut_on : {A : Type 0} (k : Kind) (g : Reader A) (t : Token) (r : List Token) → t.kind ≡ k → (s : List Token) → Some t ≡ first s → on (eat k s) (λ _. Err (Deep (length s))) (g s) ≡ Err (Deep (length s))
shut_on k g t r h [] e = absurd cc
shut_on k g t r h (u ∷ s) e =
    let p : u ≡ t = cc in
    ap (λ (o : Option TokenAnd). on o (λ _. Err (Deep (length (u ∷ s)))) (g (u ∷ s))) (eat-here k u s (ap (λ (x : Token). x.kind) p ∙ h))

shut_at : {A : Type 0} (k : Kind) (f : Token → Reader A) (g : Reader A) (ts : List Token) → Local g → (o : Option TokenAnd) → eat k ts ≡ o → LocalAt (opens false k f g) ts (on o (λ _. Err (Deep (length ts))) (g ts))
shut_at k f g ts l None e = none_at k (λ us _. Err (Deep (length us))) g ts e (g ts) (l.by ts)
shut_at k f g ts l (Some t) e =
    let h = eat-some k ts t.0 t.1 e in
    ([], ts, refl, refl, λ r same. shut_on k g t.0 t.1 h.kind r (sym (ap first h.parts) ∙ same))

pub local_opens : {A : Type 0} (b : Bool) (k : Kind) (f : Token → Reader A) (g : Reader A) → ((t : Token) → Local (f t)) → Local g → Local (opens b k f g)
local_opens true k f g h l = record { by = λ ts. try_at k f g ts h l (eat k ts) refl }
local_opens false k f g h l = record { by = λ ts. shut_at k f g ts l (eat k ts) refl }

pub local_sign : {A : Type 0} (o b : Bool) (k : Kind) (f : Token → Reader A) (g : Reader A) → ((t : Token) → Local (f t)) → Local g → Local (sign o b k f g)
local_sign true b k f g h l = l
local_sign false b k f g h l = local_opens b k f g h l
