-- Readers that take exactly the texts that a function writes, and stop at the first byte by which none goes on.
use Rattle.std.proofs.Common.{◌≡◌, ℕ, ◌+◌, ◌⊎◌, inl, inr, Bool, true, false, cond, eqb, List, [], ◌∷◌, ◌++◌, length, Result, Ok, Err, refl, sym, ap, subst, ◌∙◌, append_assoc, arith}
use Rattle.std.specs.Prelude.{⊤}
use Rattle.std.proofs.lemmas.Bool.{eqb-true, eq-eqb}
use Rattle.fo_text.specs.Reading.{Read, ◌>>=◌, literal_at}

-- ---- steps of a reader

pub bind_ok : {A B : Type 0} (r : Result A ℕ) (f : A → Result B ℕ) (y : B) → (r >>= f) ≡ Ok y → (x : A) × (r ≡ Ok x) × (f x ≡ Ok y)
bind_ok (Ok x) f y e = (x, refl, e)
bind_ok (Err left) f y e = absurd cc

pub bind_err : {A B : Type 0} (r : Result A ℕ) (f : A → Result B ℕ) (left : ℕ) → (r >>= f) ≡ Err left → (r ≡ Err left) ⊎ ((x : A) × (r ≡ Ok x) × (f x ≡ Err left))
bind_err (Ok x) f left e = inr (x, refl, e)
bind_err (Err n) f left e = inl cc

pub bind_assoc : {A B C : Type 0} (r : Result A ℕ) (f : A → Result B ℕ) (g : B → Result C ℕ) → ((r >>= f) >>= g) ≡ (r >>= λ x. f x >>= g)
bind_assoc (Ok x) f g = refl
bind_assoc (Err left) f g = refl

abbrev done : {A : Type 0} → A → Result A ℕ
done x = Ok x

abbrev failed : {A : Type 0} → ℕ → Result A ℕ
failed {A} n = Err n

pub ok_is : {A : Type 0} (x y : A) → done x ≡ done y → x ≡ y
ok_is x y e = cc

pub err_is : {A : Type 0} (m n : ℕ) → failed {A = A} m ≡ failed n → m ≡ n
err_is m n e = cc

-- ---- what exact is

-- with the first byte of the rest behind the front, whatever follows, the reader fails
abbrev pub FailsBehind : {A : Type 0} → (List ℕ → Read A) → List ℕ → List ℕ → Type 0
FailsBehind read front [] = ⊤
FailsBehind read front (b ∷ rest) = (tail : List ℕ) → (left : ℕ) × (read (front ++ b ∷ tail) ≡ Err left)

-- some text goes on up to where so many bytes are left, and none with the byte there
pub record IsFault {A : Type 0} (Fits : A → Type 0) (text : A → List ℕ) (read : List ℕ → Read A) (bytes : List ℕ) (left : ℕ) : Type 0 where
  pub front : List ℕ
  pub rest : List ℕ
  pub split : bytes ≡ front ++ rest
  pub len : length rest ≡ left
  pub viable : (x : A) × Fits x × (tail : List ℕ) × (text x ≡ front ++ tail)
  pub fails : FailsBehind read front rest

pub record Exact {A : Type 0} (Fits : A → Type 0) (text : A → List ℕ) (read : List ℕ → Read A) : Type 0 where
  pub some : (x : A) × Fits x
  pub takes : (bytes : List ℕ) (x : A) (rest : List ℕ) → read bytes ≡ Ok (x, rest) → (bytes ≡ text x ++ rest) × Fits x
  pub again : (x : A) (rest : List ℕ) → Fits x → read (text x ++ rest) ≡ Ok (x, rest)
  pub fault : (bytes : List ℕ) (left : ℕ) → read bytes ≡ Err left → IsFault Fits text read bytes left

pub FailsBehind-along : {A B : Type 0} (read : List ℕ → Read A) (other : List ℕ → Read B) (front rest : List ℕ) → ((bytes : List ℕ) (left : ℕ) → read bytes ≡ Err left → other bytes ≡ Err left) → FailsBehind read front rest → FailsBehind other front rest
FailsBehind-along read other front [] along h = tt
FailsBehind-along read other front (b ∷ rest) along h = λ tail. let f = h tail in (f.0, along (front ++ b ∷ tail) f.0 f.1)

-- ---- nothing

pub exact_done : {A : Type 0} (x : A) → Exact (λ y. y ≡ x) (λ y. []) (λ bytes. Ok (x, bytes))
exact_done {A} x = record {
  some = (x, refl);
  takes = λ bytes y rest h. let e = ok_is (x, bytes) (y, rest) h in (ap (λ (p : A × List ℕ). p.1) e, sym (ap (λ (p : A × List ℕ). p.0) e));
  again = λ y rest e. rw e refl;
  fault = λ bytes left h. absurd (cc h);
}

-- ---- another value for the same text

module _ {A B : Type 0} (Fits : A → Type 0) (text : A → List ℕ) (read : List ℕ → Read A) (Suits : B → Type 0) (words : B → List ℕ) (other : List ℕ → Read B) (make : A → B) where
  abbrev Makes : Type 0
  Makes = (bytes : List ℕ) → other bytes ≡ (read bytes >>= λ x. Ok (make x.0, x.1))

  along : Makes → (bytes : List ℕ) (left : ℕ) → read bytes ≡ Err left → other bytes ≡ Err left
  along is bytes left h = is bytes ∙ ap (λ (r : Read A). r >>= λ x. Ok (make x.0, x.1)) h

  -- other makes a value of what read reads
  pub exact_map : Makes → ((x : A) → Fits x → Suits (make x) × (words (make x) ≡ text x)) → ((y : B) → Suits y → (x : A) × Fits x × (make x ≡ y)) → Exact Fits text read → Exact Suits words other
  exact_map is fits back e = record {
    some = (make e.some.0, (fits e.some.0 e.some.1).0);
    takes = λ bytes y rest h.
        let b = bind_ok (read bytes) (λ x. Ok (make x.0, x.1)) (y, rest) (sym (is bytes) ∙ h) in
        let t = e.takes bytes b.0.0 b.0.1 b.1 in
        let f = fits b.0.0 t.1 in
        subst (λ (p : B × List ℕ). (bytes ≡ words p.0 ++ p.1) × Suits p.0) (ok_is (make b.0.0, b.0.1) (y, rest) b.2) (t.0 ∙ ap (λ (u : List ℕ). u ++ b.0.1) (sym f.1), f.0);
    again = λ y rest s.
        let b = back y s in
        let f = fits b.0 b.1 in
        subst (λ (z : B). other (words z ++ rest) ≡ Ok (z, rest)) b.2
        (is (words (make b.0) ++ rest) ∙ ap (λ (u : List ℕ). read (u ++ rest) >>= λ x. Ok (make x.0, x.1)) f.1 ∙ ap (λ (r : Read A). r >>= λ x. Ok (make x.0, x.1)) (e.again b.0 rest b.1));
    fault = λ bytes left h. elim (bind_err (read bytes) (λ x. Ok (make x.0, x.1)) left (sym (is bytes) ∙ h)) [
      | inl l ↦
          let g = e.fault bytes left l in
          let v = g.viable in
          let f = fits v.0 v.1 in
          record { front = g.front; rest = g.rest; split = g.split; len = g.len; viable = (make v.0, f.0, v.2, f.1 ∙ v.3); fails = FailsBehind-along read other g.front g.rest (along is) g.fails }
      | inr r ↦ absurd (cc r.2)
    ];
  }

-- ---- one reader and then another

module _ {A B : Type 0} (Fits : A → Type 0) (text : A → List ℕ) (read : List ℕ → Read A) (Then : A → B → Type 0) (words : A → B → List ℕ) (next : A → List ℕ → Read B) (Suits : B → Type 0) (whole : B → List ℕ) (both : List ℕ → Read B) where
  abbrev Runs : Type 0
  Runs = (bytes : List ℕ) → both bytes ≡ (read bytes >>= λ x. next x.0 x.1)

  abbrev Joins : Type 0
  Joins = (x : A) (y : B) → Fits x → Then x y → Suits y × (whole y ≡ text x ++ words x y)

  abbrev Parts : Type 0
  Parts = (y : B) → Suits y → (x : A) × Fits x × Then x y

  fails_first : Runs → (bytes : List ℕ) (left : ℕ) → read bytes ≡ Err left → both bytes ≡ Err left
  fails_first is bytes left h = is bytes ∙ ap (λ (r : Read A). r >>= λ x. next x.0 x.1) h

  goes_second : Runs → (x : A) (bytes rest : List ℕ) (got : Read B) → read bytes ≡ Ok (x, rest) → next x rest ≡ got → both bytes ≡ got
  goes_second is x bytes rest got h g = is bytes ∙ ap (λ (r : Read A). r >>= λ x. next x.0 x.1) h ∙ g

  fails_second : Runs → Exact Fits text read → (x : A) (front rest : List ℕ) → Fits x → FailsBehind (next x) front rest → FailsBehind both (text x ++ front) rest
  fails_second is e x front [] fit h = tt
  fails_second is e x front (b ∷ rest) fit h = λ tail.
      let f = h tail in
      (f.0, ap both (append_assoc (text x) front (b ∷ tail)) ∙ goes_second is x (text x ++ (front ++ b ∷ tail)) (front ++ b ∷ tail) (Err f.0) (e.again x (front ++ b ∷ tail) fit) f.1)

  first_fault : Runs → Joins → ((x : A) → Fits x → Exact (Then x) (words x) (next x)) → (bytes : List ℕ) (left : ℕ) → IsFault Fits text read bytes left → IsFault Suits whole both bytes left
  first_fault is joins e2 bytes left g =
      let v = g.viable in
      let s = (e2 v.0 v.1).some in
      let j = joins v.0 s.0 v.1 s.1 in
      record { front = g.front; rest = g.rest; split = g.split; len = g.len; viable = (s.0, j.0, v.2 ++ words v.0 s.0, j.1 ∙ ap (λ (u : List ℕ). u ++ words v.0 s.0) v.3 ∙ append_assoc g.front v.2 (words v.0 s.0)); fails = FailsBehind-along read both g.front g.rest (fails_first is) g.fails }

  second_fault : Runs → Joins → Exact Fits text read → (x : A) (bytes rest : List ℕ) (left : ℕ) → Fits x → bytes ≡ text x ++ rest → IsFault (Then x) (words x) (next x) rest left → IsFault Suits whole both bytes left
  second_fault is joins e x bytes rest left fit parts g =
      let v = g.viable in
      let j = joins x v.0 fit v.1 in
      record { front = text x ++ g.front; rest = g.rest; split = parts ∙ ap (λ (u : List ℕ). text x ++ u) g.split ∙ sym (append_assoc (text x) g.front g.rest); len = g.len; viable = (v.0, j.0, v.2, j.1 ∙ ap (λ (u : List ℕ). text x ++ u) v.3 ∙ sym (append_assoc (text x) g.front v.2)); fails = fails_second is e x g.front g.rest fit g.fails }

  pub exact_then : Runs → Joins → Parts → Exact Fits text read → ((x : A) → Fits x → Exact (Then x) (words x) (next x)) → Exact Suits whole both
  exact_then is joins parts e e2 = record {
    some = let s = (e2 e.some.0 e.some.1).some in (s.0, (joins e.some.0 s.0 e.some.1 s.1).0);
    takes = λ bytes y rest h.
        let b = bind_ok (read bytes) (λ x. next x.0 x.1) (y, rest) (sym (is bytes) ∙ h) in
        let t = e.takes bytes b.0.0 b.0.1 b.1 in
        let u = (e2 b.0.0 t.1).takes b.0.1 y rest b.2 in
        let j = joins b.0.0 y t.1 u.1 in
        (t.0 ∙ ap (λ (l : List ℕ). text b.0.0 ++ l) u.0 ∙ sym (append_assoc (text b.0.0) (words b.0.0 y) rest) ∙ ap (λ (l : List ℕ). l ++ rest) (sym j.1), j.0);
    again = λ y rest s.
        let p = parts y s in
        let j = joins p.0 y p.1 p.2 in
        let regrouped : whole y ++ rest ≡ text p.0 ++ (words p.0 y ++ rest) = ap (λ (l : List ℕ). l ++ rest) j.1 ∙ append_assoc (text p.0) (words p.0 y) rest in
        ap both regrouped ∙ goes_second is p.0 (text p.0 ++ (words p.0 y ++ rest)) (words p.0 y ++ rest) (Ok (y, rest)) (e.again p.0 (words p.0 y ++ rest) p.1) ((e2 p.0 p.1).again y rest p.2);
    fault = λ bytes left h. elim (bind_err (read bytes) (λ x. next x.0 x.1) left (sym (is bytes) ∙ h)) [
      | inl l ↦ first_fault is joins e2 bytes left (e.fault bytes left l)
      | inr r ↦
          let t = e.takes bytes r.0.0 r.0.1 r.1 in
          second_fault is joins e r.0.0 bytes r.0.1 left t.1 t.0 ((e2 r.0.0 t.1).fault r.0.1 left r.2)
    ];
  }

-- ---- a literal text and then a reader

module _ {A : Type 0} (Fits : A → Type 0) (text : A → List ℕ) (read : List ℕ → Read A) (other : List ℕ → Read A) (t : ℕ) where
  abbrev OnByte : Type 0
  OnByte = (b : ℕ) (bytes : List ℕ) → other (b ∷ bytes) ≡ cond (eqb b t) (read bytes) (Err (length bytes + 1))

  at_byte : OnByte → (b : ℕ) (bytes : List ℕ) → eqb b t ≡ true → other (b ∷ bytes) ≡ read bytes
  at_byte on b bytes e = on b bytes ∙ ap (λ c. cond c (read bytes) (Err (length bytes + 1))) e

  past_byte : OnByte → (b : ℕ) (bytes : List ℕ) → eqb b t ≡ false → other (b ∷ bytes) ≡ Err (length bytes + 1)
  past_byte on b bytes e = on b bytes ∙ ap (λ c. cond c (read bytes) (Err (length bytes + 1))) e

  byte_fails : OnByte → (b : ℕ) → eqb b t ≡ true → (front rest : List ℕ) → FailsBehind read front rest → FailsBehind other (b ∷ front) rest
  byte_fails on b e front [] h = tt
  byte_fails on b e front (c ∷ rest) h = λ tail. let f = h tail in (f.0, at_byte on b (front ++ c ∷ tail) e ∙ f.1)

  byte_takes : OnByte → Exact Fits text read → (b : ℕ) (bytes : List ℕ) (x : A) (rest : List ℕ) → (c : Bool) → eqb b t ≡ c → other (b ∷ bytes) ≡ Ok (x, rest) → (b ∷ bytes ≡ t ∷ text x ++ rest) × Fits x
  byte_takes on e b bytes x rest true is h =
      let k = e.takes bytes x rest (sym (at_byte on b bytes is) ∙ h) in
      let same : b ≡ t = eqb-true b t is in
      (rw (same, ← k.0) refl, k.1)
  byte_takes on e b bytes x rest false is h = let k = past_byte on b bytes is in absurd cc

  byte_fault : OnByte → Exact Fits text read → (b : ℕ) (bytes : List ℕ) (left : ℕ) → (c : Bool) → eqb b t ≡ c → other (b ∷ bytes) ≡ Err left → IsFault Fits (λ x. t ∷ text x) other (b ∷ bytes) left
  byte_fault on e b bytes left true is h =
      let g = e.fault bytes left (sym (at_byte on b bytes is) ∙ h) in
      let v = g.viable in
      let same : b ≡ t = eqb-true b t is in
      record { front = b ∷ g.front; rest = g.rest; split = ap (λ (l : List ℕ). b ∷ l) g.split; len = g.len; viable = (v.0, v.1, v.2, ap (λ (l : List ℕ). t ∷ l) v.3 ∙ ap (λ (n : ℕ). n ∷ (g.front ++ v.2)) (sym same)); fails = byte_fails on b is g.front g.rest g.fails }
  byte_fault on e b bytes left false is h =
      let k : length bytes + 1 ≡ left = err_is {A = A × List ℕ} _ _ (sym (past_byte on b bytes is) ∙ h) in
      record { front = []; rest = b ∷ bytes; split = refl; len = omega arith; viable = (e.some.0, e.some.1, t ∷ text e.some.0, refl); fails = λ tail. (length tail + 1, past_byte on b tail is) }

  exact_byte : other [] ≡ Err 0 → OnByte → Exact Fits text read → Exact Fits (λ x. t ∷ text x) other
  exact_byte none on e = record {
    some = e.some;
    takes = λ bytes x rest. elim bytes as (λ (l : List ℕ). other l ≡ Ok (x, rest) → (l ≡ t ∷ text x ++ rest) × Fits x) [
      | [] ↦ λ h. absurd (cc (none, h))
      | b ∷ l ↦ byte_takes on e b l x rest (eqb b t) refl
    ];
    again = λ x rest fit. at_byte on t (text x ++ rest) (eq-eqb t t refl) ∙ e.again x rest fit;
    fault = λ bytes left. elim bytes as (λ (l : List ℕ). other l ≡ Err left → IsFault Fits (λ x. t ∷ text x) other l left) [
      | [] ↦ λ h. record { front = []; rest = []; split = refl; len = err_is {A = A × List ℕ} _ _ (sym none ∙ h); viable = (e.some.0, e.some.1, t ∷ text e.some.0, refl); fails = tt }
      | b ∷ l ↦ byte_fault on e b l left (eqb b t) refl
    ];
  }

on_cond : {A : Type 0} (c : Bool) (r : Result (List ℕ) ℕ) (left : ℕ) (read : List ℕ → Read A) → (cond c r (Err left) >>= read) ≡ cond c (r >>= read) (Err left)
on_cond true r left read = refl
on_cond false r left read = refl

pub exact_after : {A : Type 0} (Fits : A → Type 0) (text : A → List ℕ) (read : List ℕ → Read A) (front : List ℕ) → Exact Fits text read → Exact Fits (λ x. front ++ text x) (λ bytes. literal_at front bytes >>= read)
unfolding literal_at
exact_after Fits text read [] e = e
exact_after Fits text read (t ∷ front) e =
    exact_byte Fits (λ x. front ++ text x) (λ bytes. literal_at front bytes >>= read) (λ bytes. literal_at (t ∷ front) bytes >>= read) t refl
    (λ b bytes. on_cond (eqb b t) (literal_at front bytes) (length bytes + 1) read) (exact_after Fits text read front e)

-- ---- the same in other words

pub exact_words : {A : Type 0} (Fits Suits : A → Type 0) (text words : A → List ℕ) (read other : List ℕ → Read A) → ((bytes : List ℕ) → other bytes ≡ read bytes) → ((x : A) → Fits x → Suits x × (words x ≡ text x)) → ((x : A) → Suits x → Fits x) → Exact Fits text read → Exact Suits words other
exact_words {A} Fits Suits text words read other is fits back e =
    exact_map Fits text read Suits words other (λ x. x) (λ bytes. is bytes ∙ sym (unit (read bytes))) fits (λ x s. (x, back x s, refl)) e
  where
    unit : (r : Read A) → (r >>= λ x. Ok (x.0, x.1)) ≡ r
    unit (Ok x) = refl
    unit (Err left) = refl

-- ---- two readers whose values make one

-- another value, and the same rest
abbrev pub seen : {A B : Type 0} → (A → B) → Read A → Read B
seen f r = r >>= λ x. Ok (f x.0, x.1)

seen_seen : {A B C : Type 0} (f : A → B) (g : B → C) (h : A → C) (r : Read A) → ((x : A) → g (f x) ≡ h x) → seen g (seen f r) ≡ seen h r
seen_seen f g h (Ok x) same = ap (λ z. Ok (z, x.1)) (same x.0)
seen_seen f g h (Err left) same = refl

pairs : {A B C : Type 0} (make : A → B → C) (next : A → List ℕ → Read B) (r : Read A) → seen (λ (p : A × B). make p.0 p.1) (r >>= λ x. seen (λ (y : B). (x.0, y)) (next x.0 x.1)) ≡ (r >>= λ x. seen (make x.0) (next x.0 x.1))
pairs {A} {B} {C} make next (Ok x) = seen_seen (λ (y : B). (x.0, y)) (λ (p : A × B). make p.0 p.1) (make x.0) (next x.0 x.1) (λ y. refl)
pairs make next (Err left) = refl

module _ {A B C : Type 0} (Fits : A → Type 0) (text : A → List ℕ) (read : List ℕ → Read A) (Then : A → B → Type 0) (words : A → B → List ℕ) (next : A → List ℕ → Read B) (Suits : C → Type 0) (whole : C → List ℕ) (both : List ℕ → Read C) (make : A → B → C) where
  abbrev paired : A → List ℕ → Read (A × B)
  paired x bytes = seen (λ (y : B). (x, y)) (next x bytes)

  abbrev pair_read : List ℕ → Read (A × B)
  pair_read bytes = read bytes >>= λ x. paired x.0 x.1

  abbrev Pair : A × B → Type 0
  Pair p = Fits p.0 × Then p.0 p.1

  abbrev Second : A → A × B → Type 0
  Second x p = (p.0 ≡ x) × Then x p.1

  exact_second : (x : A) → Exact (Then x) (words x) (next x) → Exact (Second x) (λ p. words x p.1) (paired x)
  exact_second x e = exact_map (Then x) (words x) (next x) (Second x) (λ p. words x p.1) (paired x) (λ y. (x, y)) (λ bytes. refl) (λ y t. ((refl, t), refl)) (λ p s. (p.1, s.1, ap (λ (z : A). (z, p.1)) (sym s.0))) e

  joined : (x : A) (p : A × B) → Fits x → Second x p → Pair p × (text p.0 ++ words p.0 p.1 ≡ text x ++ words x p.1)
  joined x p fit s =
      ((subst Fits (sym s.0) fit, subst (λ (z : A). Then z p.1) (sym s.0) s.1), ap (λ (z : A). text z ++ words z p.1) s.0)

  exact_both : Exact Fits text read → ((x : A) → Fits x → Exact (Then x) (words x) (next x)) → Exact Pair (λ p. text p.0 ++ words p.0 p.1) pair_read
  exact_both e e2 =
      exact_then Fits text read Second (λ x p. words x p.1) paired Pair (λ p. text p.0 ++ words p.0 p.1) pair_read (λ bytes. refl) joined (λ p f. (p.0, f.0, (refl, f.1))) e (λ x fit. exact_second x (e2 x fit))

  pub exact_pair : ((bytes : List ℕ) → both bytes ≡ (read bytes >>= λ x. next x.0 x.1 >>= λ y. Ok (make x.0 y.0, y.1)))
      → ((x : A) (y : B) → Fits x → Then x y → Suits (make x y) × (whole (make x y) ≡ text x ++ words x y))
      → ((z : C) → Suits z → (x : A) × (y : B) × Fits x × Then x y × (make x y ≡ z))
      → Exact Fits text read → ((x : A) → Fits x → Exact (Then x) (words x) (next x)) → Exact Suits whole both
  exact_pair is fits parts e e2 =
      exact_map Pair (λ p. text p.0 ++ words p.0 p.1) pair_read Suits whole both (λ p. make p.0 p.1)
      (λ bytes. is bytes ∙ sym (pairs make next (read bytes)))
      (λ p f. fits p.0 p.1 f.0 f.1)
      (λ z s. let q = parts z s in ((q.0, q.1), (q.2, q.3), q.4))
      (exact_both e e2)
