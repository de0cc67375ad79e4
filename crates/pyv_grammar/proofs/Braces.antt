-- Curly brackets are read up to the one that closes them.
use Rattle.std.proofs.Common.{◌≡◌, ℕ, zero, suc, ◌+◌, ◌-◌, ◌<◌, ◌≤◌, Bool, true, false, cond, eqb, List, [], ◌∷◌, ◌++◌, length, Option, Some, None, Result, Ok, Err, refl, sym, ap, ap₂, subst, ◌∙◌, ◌⊎◌, inl, inr, append_assoc, arith}
use Rattle.std.proofs.lemmas.List.{append-nil, length-append}
use Rattle.std.proofs.lemmas.Bool.{eqb-true, eq-eqb}
use Rattle.std.specs.Prelude.{◌==◌}
use Rattle.pyv_lex.specs.declared.token.Kind.{Kind}
use Rattle.pyv_lex.specs.declared.token.Kind.TheVariants as kind
use Rattle.pyv_lex.specs.declared.token.Token.{Token}
use Rattle.pyv_grammar.specs.declared.reading.Stuck.{Stuck}
use Rattle.pyv_grammar.specs.declared.reading.Stuck.TheVariants.{Bad, Deep}
use Rattle.pyv_grammar.specs.Grammar.{IsBalanced}
use Rattle.pyv_grammar.specs.Grammar as rule
use Rattle.pyv_grammar.specs.Reading.{number, Got, Reader, after_brace, braces}
use Rattle.pyv_grammar.proofs.Eat.{same_kind}
use Rattle.pyv_grammar.proofs.Strict.{done, ok_is}
use Rattle.pyv_grammar.proofs.Exact.{Lang, After, Begins, Exact, Sure, Takes, Fails, a_token, is_kind, to_front}

-- the tokens close so many curly brackets, and one more, at their end
pub data Closes : ℕ → List Token → Type 0 where
  end : (r : Token) → r.kind ≡ kind.CurlyRight → Closes 0 (r ∷ [])
  down : (d : ℕ) (r : Token) (s : List Token) → r.kind ≡ kind.CurlyRight → Closes d s → Closes (suc d) (r ∷ s)
  up : (d : ℕ) (l : Token) (s : List Token) → l.kind ≡ kind.CurlyLeft → Closes (suc d) s → Closes d (l ∷ s)
  other : (d : ℕ) (t : Token) (s : List Token) → ¬ (t.kind ≡ kind.CurlyLeft) → ¬ (t.kind ≡ kind.CurlyRight) → Closes d s → Closes d (t ∷ s)

abbrev pub ClosesL : ℕ → Lang (Unit {0})
ClosesL d x s = Closes d s

left_yes : (t : Token) → eqb (number t.kind) (number kind.CurlyLeft) ≡ true → t.kind ≡ kind.CurlyLeft
left_yes t h = same_kind t.kind kind.CurlyLeft (eqb-true _ _ h)

right_yes : (t : Token) → eqb (number t.kind) (number kind.CurlyRight) ≡ true → t.kind ≡ kind.CurlyRight
right_yes t h = same_kind t.kind kind.CurlyRight (eqb-true _ _ h)

test_cases : (a b : ℕ) (c : Bool) → eqb a b ≡ c → (a ≡ b → ⊥) → eqb a b ≡ false
test_cases a b true e h = absurd (h (eqb-true _ _ e))
test_cases a b false e h = e

test_no : (a b : ℕ) → (a ≡ b → ⊥) → eqb a b ≡ false
test_no a b h = test_cases a b (eqb a b) refl h

-- enough closing brackets
closers : ℕ → List Token
closers zero = a_token kind.CurlyRight ∷ []
closers (suc d) = a_token kind.CurlyRight ∷ closers d

closers_close : (d : ℕ) → Closes d (closers d)
unfolding closers
closers_close zero = end (a_token kind.CurlyRight) (is_kind kind.CurlyRight)
closers_close (suc d) = down d (a_token kind.CurlyRight) (closers d) (is_kind kind.CurlyRight) (closers_close d)

-- ---- reading

module _ (t : Token) where
  step_left : (d : ℕ) (ts : List Token) → t.kind ≡ kind.CurlyLeft → braces d (t ∷ ts) ≡ braces (suc d) ts
  unfolding braces
  step_left d ts k = rw (eq-eqb (number t.kind) (number kind.CurlyLeft) (ap number k)) refl

  not_left : t.kind ≡ kind.CurlyRight → eqb (number t.kind) (number kind.CurlyLeft) ≡ false
  not_left k = ap (λ n. eqb n (number kind.CurlyLeft)) (ap number k)

  step_end : (ts : List Token) → t.kind ≡ kind.CurlyRight → braces 0 (t ∷ ts) ≡ Ok (tt, ts)
  unfolding braces
  step_end ts k = rw (not_left k, eq-eqb (number t.kind) (number kind.CurlyRight) (ap number k)) refl

  step_down : (d : ℕ) (ts : List Token) → t.kind ≡ kind.CurlyRight → braces (suc d) (t ∷ ts) ≡ braces d ts
  unfolding braces
  step_down d ts k = let e : suc d - 1 ≡ d = omega arith in rw (not_left k, eq-eqb (number t.kind) (number kind.CurlyRight) (ap number k)) (ap (λ n. braces n ts) e)

  step_other : (d : ℕ) (ts : List Token) → ¬ (t.kind ≡ kind.CurlyLeft) → ¬ (t.kind ≡ kind.CurlyRight) → braces d (t ∷ ts) ≡ braces d ts
  unfolding braces
  step_other d ts n m = rw (test_no (number t.kind) (number kind.CurlyLeft) (λ e. n (same_kind t.kind kind.CurlyLeft e)), test_no (number t.kind) (number kind.CurlyRight) (λ e. m (same_kind t.kind kind.CurlyRight e))) refl

-- which kind of token it is
pub data Sort (t : Token) : Type 0 where
  is_open : t.kind ≡ kind.CurlyLeft → Sort t
  is_close : t.kind ≡ kind.CurlyRight → Sort t
  is_other : ¬ (t.kind ≡ kind.CurlyLeft) → ¬ (t.kind ≡ kind.CurlyRight) → Sort t

sort_by : (t : Token) (l r : Bool) → eqb (number t.kind) (number kind.CurlyLeft) ≡ l → eqb (number t.kind) (number kind.CurlyRight) ≡ r → Sort t
sort_by t true r e f = is_open (left_yes t e)
sort_by t false true e f = is_close (right_yes t f)
sort_by t false false e f = is_other (λ k. let x = eq-eqb (number t.kind) (number kind.CurlyLeft) (ap number k) in absurd cc) (λ k. let x = eq-eqb (number t.kind) (number kind.CurlyRight) (ap number k) in absurd cc)

pub sort_of : (t : Token) → Sort t
sort_of t = sort_by t (eqb (number t.kind) (number kind.CurlyLeft)) (eqb (number t.kind) (number kind.CurlyRight)) refl refl

braces_complete : {d : ℕ} {s : List Token} → Closes d s → (rest : List Token) → braces d (s ++ rest) ≡ Ok (tt, rest)
braces_complete (end r k) rest = step_end r rest k
braces_complete (down d r s k c) rest = step_down r d (s ++ rest) k ∙ braces_complete c rest
braces_complete (up d l s k c) rest = step_left l d (s ++ rest) k ∙ braces_complete c rest
braces_complete (other d t s n m c) rest = step_other t d (s ++ rest) n m ∙ braces_complete c rest

later : (d c : ℕ) (t : Token) (ts : List Token) (x : Unit {0} × List Token) → ((s : List Token) → Closes c s → Closes d (t ∷ s)) → Takes (ClosesL c) ts x → Takes (ClosesL d) (t ∷ ts) x
later d c t ts x more s = record { text = t ∷ s.text; parts = ap (λ (l : List Token). t ∷ l) s.parts; is = more s.text s.is }

sound_by : (t : Token) (ts : List Token) → ((c : ℕ) (x : Unit {0} × List Token) → braces c ts ≡ Ok x → Takes (ClosesL c) ts x) → Sort t → (d : ℕ) (x : Unit {0} × List Token) → braces d (t ∷ ts) ≡ Ok x → Takes (ClosesL d) (t ∷ ts) x
sound_by t ts again (is_open k) d x h = later d (suc d) t ts x (λ s c. up d t s k c) (again (suc d) x (sym (step_left t d ts k) ∙ h))
sound_by t ts again (is_close k) zero x h = subst (Takes (ClosesL 0) (t ∷ ts)) (ok_is (tt, ts) x (sym (step_end t ts k) ∙ h)) (record { text = t ∷ []; parts = refl; is = end t k })
sound_by t ts again (is_close k) (suc d) x h = later (suc d) d t ts x (λ s c. down d t s k c) (again d x (sym (step_down t d ts k) ∙ h))
sound_by t ts again (is_other n m) d x h = later d d t ts x (λ s c. other d t s n m c) (again d x (sym (step_other t d ts n m) ∙ h))

braces_sound : (ts : List Token) (d : ℕ) (x : Unit {0} × List Token) → braces d ts ≡ Ok x → Takes (ClosesL d) ts x
unfolding braces
braces_sound [] d x h = absurd cc
braces_sound (t ∷ ts) d x h = sound_by t ts (braces_sound ts) (sort_of t) d x h

record AtEnd (d : ℕ) (ts : List Token) (e : Stuck) : Type 0 where
  is : e ≡ Bad 0
  rest : List Token
  closes : Closes d (ts ++ rest)

stuck_by : (t : Token) (ts : List Token) → ((c : ℕ) (e : Stuck) → braces c ts ≡ Err e → AtEnd c ts e) → Sort t → (d : ℕ) (e : Stuck) → braces d (t ∷ ts) ≡ Err e → AtEnd d (t ∷ ts) e
stuck_by t ts again (is_open k) d e h = let a = again (suc d) e (sym (step_left t d ts k) ∙ h) in record { is = a.is; rest = a.rest; closes = up d t (ts ++ a.rest) k a.closes }
stuck_by t ts again (is_close k) zero e h = absurd (let q = sym (step_end t ts k) ∙ h in cc)
stuck_by t ts again (is_close k) (suc d) e h = let a = again d e (sym (step_down t d ts k) ∙ h) in record { is = a.is; rest = a.rest; closes = down d t (ts ++ a.rest) k a.closes }
stuck_by t ts again (is_other n m) d e h = let a = again d e (sym (step_other t d ts n m) ∙ h) in record { is = a.is; rest = a.rest; closes = other d t (ts ++ a.rest) n m a.closes }

braces_stuck : (ts : List Token) (d : ℕ) (e : Stuck) → braces d ts ≡ Err e → AtEnd d ts e
unfolding braces
braces_stuck [] d e h = record { is = cc; rest = closers d; closes = closers_close d }
braces_stuck (t ∷ ts) d e h = stuck_by t ts (braces_stuck ts) (sort_of t) d e h

braces_fail : (d : ℕ) (ts : List Token) (e : Stuck) → braces d ts ≡ Err e → Fails (ClosesL d) (ClosesL d) ts e
braces_fail d ts e h =
    let a = braces_stuck ts d e h in
    subst (Fails (ClosesL d) (ClosesL d) ts) (sym a.is) (record { front = ts; back = []; parts = sym (append-nil ts); len = refl; viable = to_front (ClosesL d) ts (record { rest = a.rest; value = tt; is = a.closes }); deeper = λ f. absurd f })

pub exact_braces : (d : ℕ) (E : After (Unit {0})) → Sure (braces d) E (ClosesL d) (ClosesL d)
exact_braces d E = record {
  exact = record { sound = λ ts x h. braces_sound ts d x h; complete = λ a s rest h e. braces_complete h rest; fails = braces_fail d; wider = λ a s h. h };
  some = record { rest = closers d; value = tt; is = closers_close d };
}

-- ---- balanced

pub closes_behind : {b : List Token} → IsBalanced b → (d : ℕ) (s : List Token) → Closes d s → Closes d (b ++ s)
closes_behind rule.IsBalanced.none d s c = c
closes_behind (rule.IsBalanced.other t b n m h) d s c = other d t (b ++ s) n m (closes_behind h d s c)
closes_behind (rule.IsBalanced.braces l r a b k q h i) d s c =
    up d l ((a ++ r ∷ b) ++ s) k (subst (Closes (suc d)) (sym (append_assoc a (r ∷ b) s)) (closes_behind h (suc d) (r ∷ (b ++ s)) (down d r (b ++ s) q (closes_behind i d s c))))

-- what stands behind the first bracket that closes one
abbrev pub Then : ℕ → List Token → Type 0
Then zero s = s ≡ []
Then (suc d) s = Closes d s

pub record Split (d : ℕ) (s : List Token) : Type 0 where
  pub inner : List Token
  pub token : Token
  pub rest : List Token
  pub text : s ≡ inner ++ token ∷ rest
  pub closing : token.kind ≡ kind.CurlyRight
  pub balanced : IsBalanced inner
  pub then : Then d rest

around : (l : Token) (d : ℕ) (s : List Token) → l.kind ≡ kind.CurlyLeft → (f : Split (suc d) s) → Split d f.rest → Split d (l ∷ s)
around l d s k f g = record {
  inner = l ∷ (f.inner ++ f.token ∷ g.inner);
  token = g.token;
  rest = g.rest;
  text = ap (λ (z : List Token). l ∷ z) (f.text ∙ ap (λ (z : List Token). f.inner ++ f.token ∷ z) g.text ∙ sym (append_assoc f.inner (f.token ∷ g.inner) (g.token ∷ g.rest)));
  closing = g.closing;
  balanced = rule.IsBalanced.braces l f.token f.inner g.inner k f.closing f.balanced g.balanced;
  then = g.then;
}

pub split : (n : ℕ) {d : ℕ} {s : List Token} → Closes d s → length s ≤ n → Split d s
split zero (end r k) le = absurd (omega arith)
split zero (down d r s k c) le = absurd (omega arith)
split zero (up d l s k c) le = absurd (omega arith)
split zero (other d t s p q c) le = absurd (omega arith)
split (suc n) (end r k) le = record { inner = []; token = r; rest = []; text = refl; closing = k; balanced = rule.IsBalanced.none; then = refl }
split (suc n) (down d r s k c) le = record { inner = []; token = r; rest = s; text = refl; closing = k; balanced = rule.IsBalanced.none; then = c }
split (suc n) (up d l s k c) le =
    let f = split n c (omega arith) in
    let len = ap length f.text ∙ length-append f.inner (f.token ∷ f.rest) in
    around l d s k f (split n f.then (omega arith))
split (suc n) (other d t s p q c) le =
    let f = split n c (omega arith) in
    record { inner = t ∷ f.inner; token = f.token; rest = f.rest; text = ap (λ (z : List Token). t ∷ z) f.text; closing = f.closing; balanced = rule.IsBalanced.other t f.inner p q f.balanced; then = f.then }
