-- A number in a range and the byte that ends it are read exactly.
use Rattle.std.proofs.Common.{◌≡◌, ℕ, zero, suc, ◌+◌, ◌-◌, ◌*◌, ◌/◌, ◌%◌, ◌^◌, ◌<◌, ◌≤◌, ◌⊎◌, inl, inr, Bool, true, false, cond, not, ◌&&◌, ◌||◌, eqb, leb, List, [], ◌∷◌, ◌++◌, length, decimal, Ok, Err, refl, sym, ap, subst, ◌∙◌, append_assoc, arith}
use Rattle.std.proofs.lemmas.Bool.{eqb-true, eqb-false, eq-eqb, ne_eqb, leb-true, le-leb, cases_lt}
use Rattle.std.proofs.Math.Nat.{pow-succ'}
use Rattle.std.proofs.lemmas.Fmt.{decimal_digit, decimal_step, decimal_by_steps}
use Rattle.std.proofs.lemmas.List.{append-nil}
use Rattle.fo_text.specs.Parts.{IsBetween, number_text}
use Rattle.fo_text.specs.Reading.{Read, reaches, begins_some, begins_number, goes_on, digits_at, number_at}
use Rattle.fo_text.proofs.Exact.{ok_is, err_is, FailsBehind, IsFault, Exact}

-- ---- tests

both : (x y : Bool) → (x && y) ≡ true → (x ≡ true) × (y ≡ true)
both true y e = (refl, e)
both false y e = absurd cc

either : (x y : Bool) → (x || y) ≡ true → (x ≡ true) ⊎ (y ≡ true)
either true y e = inl refl
either false y e = inr e

not_true : (x : Bool) → not x ≡ true → x ≡ false
not_true true e = absurd cc
not_true false e = refl

all_true : (x y : Bool) → x ≡ true → y ≡ true → (x && y) ≡ true
all_true x y e f = rw (e, f) refl

one_true : (x y : Bool) → (x ≡ true) ⊎ (y ≡ true) → (x || y) ≡ true
one_true true y h = refl
one_true false y h = elim h [ inl e ↦ absurd cc | inr e ↦ e ]

not_both : (x y : Bool) → x ≡ false → (x && y) ≡ false
not_both x y e = rw e refl

-- ---- numbers whose digits begin with those of another

module _ (least most : ℕ) where
  record Step (k low high : ℕ) : Type 0 where
    low_is : low ≤ most
    there : (least ≤ high) ⊎ (reaches k least most (10 * low) (10 * high + 9) ≡ true)

  step : (k low high : ℕ) → reaches (suc k) least most low high ≡ true → Step k low high
  unfolding reaches
  step k low high e =
      let p = both (leb low most) (leb least high || reaches k least most (10 * low) (10 * high + 9)) e in
      record { low_is = leb-true _ _ p.0; there = elim (either (leb least high) (reaches k least most (10 * low) (10 * high + 9)) p.1) [ inl h ↦ inl (leb-true _ _ h) | inr h ↦ inr h ] }

  step_back : (k low high : ℕ) → Step k low high → reaches (suc k) least most low high ≡ true
  unfolding reaches
  step_back k low high s =
      all_true _ _ (le-leb _ _ s.low_is)
      (one_true (leb least high) (reaches k least most (10 * low) (10 * high + 9)) (elim s.there [ inl h ↦ inl (le-leb _ _ h) | inr h ↦ inr h ]))

  none : (low high : ℕ) → reaches zero least most low high ≡ true → ⊥
  unfolding reaches
  none low high e = absurd cc

  low_within : (k low high : ℕ) → reaches k least most low high ≡ true → low ≤ most
  low_within zero low high e = absurd (none low high e)
  low_within (suc k) low high e = (step k low high e).low_is

  -- more numbers reach what fewer do
  wider : (k low high first last : ℕ) → first ≤ low → high ≤ last → reaches k least most low high ≡ true → reaches k least most first last ≡ true
  wider zero low high first last f l e = absurd (none low high e)
  wider (suc k) low high first last f l e =
      let s = step k low high e in
      let below : low ≤ most = s.low_is in
      step_back k first last (record {
        low_is = omega arith;
        there = elim s.there [
          | inl h ↦ inl (omega (arith, h, l))
          | inr h ↦ inr (wider k (10 * low) (10 * high + 9) (10 * first) (10 * last + 9) (omega arith) (omega arith) h)
        ];
      })

  regrouped : (low power : ℕ) → low * (10 * power) ≡ (10 * low) * power
  regrouped low power = omega arith

  one_power_more : (low k : ℕ) → low * 10 ^ suc k ≡ (10 * low) * 10 ^ k
  one_power_more low k = ap (λ (p : ℕ). low * p) (pow-succ' 10 k) ∙ regrouped low (10 ^ k)

  -- a step is not needed where it leads past the greatest number
  fewer : (k low high : ℕ) → most < low * 10 ^ k → reaches (suc k) least most low high ≡ true → reaches k least most low high ≡ true
  fewer zero low high past e = let below : low ≤ most = (step zero low high e).low_is in absurd (omega arith)
  fewer (suc k) low high past e =
      let s = step (suc k) low high e in
      step_back k low high (record {
        low_is = s.low_is;
        there = elim s.there [
          | inl h ↦ inl h
          | inr h ↦ inr (fewer k (10 * low) (10 * high + 9) (subst (λ (p : ℕ). most < p) (one_power_more low k) past) h)
        ];
      })

  -- a number in range whose digits begin with those of n
  record Continued (n : ℕ) : Type 0 where
    number : ℕ
    low : least ≤ number
    within : number ≤ most
    tail : List ℕ
    digits : decimal number ≡ decimal n ++ tail

  -- the digits of each number from `low` to `high` begin with those of n
  abbrev AllBegin : ℕ → ℕ → ℕ → Type 0
  AllBegin n low high = (x : ℕ) → low ≤ x → x ≤ high → x < 2 ^ 64 → (tail : List ℕ) × (decimal x ≡ decimal n ++ tail)

  one_more_digit : (n low high : ℕ) → 1 ≤ low → AllBegin n low high → AllBegin n (10 * low) (10 * high + 9)
  one_more_digit n low high some all x above below small =
      let t = all (x / 10) (omega arith) (omega arith) (omega arith) in
      let d : decimal x ≡ decimal (x / 10) ++ (48 + x % 10) ∷ [] = decimal_step x (omega arith) small in
      (t.0 ++ (48 + x % 10) ∷ [], d ∙ ap (λ (l : List ℕ). l ++ (48 + x % 10) ∷ []) t.1 ∙ append_assoc (decimal n) t.0 ((48 + x % 10) ∷ []))

  continued : (n x : ℕ) (low high : ℕ) → most < 2 ^ 64 → AllBegin n low high → low ≤ x → x ≤ high → least ≤ x → x ≤ most → Continued n
  continued n x low high small all a b c d = let t = all x a b (omega arith) in record { number = x; low = c; within = d; tail = t.0; digits = t.1 }

  reached : (k n low high : ℕ) → least ≤ most → most < 2 ^ 64 → low ≤ high → (1 ≤ low) ⊎ (k ≤ 1) → AllBegin n low high → reaches k least most low high ≡ true → Continued n
  reached zero n low high range small order some all e = absurd (none low high e)
  reached (suc k) n low high range small order some all e =
      let s = step k low high e in
      let below : low ≤ most = s.low_is in
      elim s.there [
        | inl h ↦ elim (cases_lt low least) [
          | inl lt ↦ continued n least low high small all (omega arith) h (omega arith) range
          | inr ge ↦ continued n low low high small all (omega arith) order (omega (arith, ge)) below
        ]
        | inr h ↦ elim some [
          | inl positive ↦ reached k n (10 * low) (10 * high + 9) range small (omega arith) (inl (omega (arith, positive))) (one_more_digit n low high positive all) h
          | inr one ↦ let z : k ≡ 0 = omega (arith, one) in absurd (none (10 * low) (10 * high + 9) (subst (λ (j : ℕ). reaches j least most (10 * low) (10 * high + 9) ≡ true) z h))
        ]
      ]

  alone : (n : ℕ) → AllBegin n n n
  alone n x above below small = let e : x ≡ n = omega arith in ([], ap decimal e ∙ sym (append-nil (decimal n)))

  pub some_within : (n : ℕ) → begins_some least most n ≡ true → n ≤ most
  some_within n e = low_within (cond (eqb n 0) 1 20) n n e

  some_by : (n : ℕ) (c : Bool) → eqb n 0 ≡ c → least ≤ most → most < 2 ^ 64 → reaches (cond c 1 20) least most n n ≡ true → Continued n
  some_by n true e range small h = reached 1 n n n range small (omega arith) (inr (omega arith)) (alone n) h
  some_by n false e range small h = let other = eqb-false n 0 e in reached 20 n n n range small (omega arith) (inl (omega arith)) (alone n) h

  some_number : (n : ℕ) → least ≤ most → most < 2 ^ 64 → begins_some least most n ≡ true → Continued n
  some_number n = some_by n (eqb n 0) refl

  itself_by : (n : ℕ) (c : Bool) → least ≤ n → n ≤ most → reaches (cond c 1 20) least most n n ≡ true
  itself_by n true low high = step_back 0 n n (record { low_is = high; there = inl low })
  itself_by n false low high = step_back 19 n n (record { low_is = high; there = inl low })

  itself : (n : ℕ) → least ≤ n → n ≤ most → begins_some least most n ≡ true
  itself n low high = itself_by n (eqb n 0) low high

  -- the front of digits that begin a number begins it too
  front_begins : (x : ℕ) → most < 2 ^ 64 → 10 ≤ x → begins_some least most x ≡ true → begins_some least most (x / 10) ≡ true
  front_begins x small ten e =
      let m = x / 10 in
      let within : x ≤ most = some_within x e in
      let all : reaches 20 least most x x ≡ true = subst (λ (c : Bool). reaches (cond c 1 20) least most x x ≡ true) (ne_eqb x 0 (λ z. omega arith)) e in
      let next : reaches 20 least most (10 * m) (10 * m + 9) ≡ true = wider 20 x x (10 * m) (10 * m + 9) (omega arith) (omega arith) all in
      let more : reaches 21 least most m m ≡ true = step_back 20 m m (record { low_is = omega arith; there = inr next }) in
      let enough : reaches 20 least most m m ≡ true = fewer 20 m m (omega arith) more in
      subst (λ (c : Bool). reaches (cond c 1 20) least most m m ≡ true) (sym (ne_eqb m 0 (λ z. omega arith))) enough

-- ---- digits

record Begins (least most b : ℕ) : Type 0 where
  low : 48 ≤ b
  high : b ≤ 57
  begun : begins_some least most (b - 48) ≡ true

record GoesOn (least most n b : ℕ) : Type 0 where
  some : 0 < n
  low : 48 ≤ b
  high : b ≤ 57
  begun : begins_some least most (10 * n + (b - 48)) ≡ true

begins_if : (least most b : ℕ) → begins_number least most b ≡ true → Begins least most b
begins_if least most b e =
    let p = both (leb 48 b && leb b 57) (begins_some least most (b - 48)) e in
    let q = both (leb 48 b) (leb b 57) p.0 in
    record { low = leb-true _ _ q.0; high = leb-true _ _ q.1; begun = p.1 }

if_begins : (least most b : ℕ) → Begins least most b → begins_number least most b ≡ true
if_begins least most b h = all_true _ _ (all_true _ _ (le-leb _ _ h.low) (le-leb _ _ h.high)) h.begun

goes_on_if : (least most n b : ℕ) → goes_on least most n b ≡ true → GoesOn least most n b
goes_on_if least most n b e =
    let p = both (not (eqb n 0) && (leb 48 b && leb b 57)) (begins_some least most (10 * n + (b - 48))) e in
    let q = both (not (eqb n 0)) (leb 48 b && leb b 57) p.0 in
    let r = both (leb 48 b) (leb b 57) q.1 in
    let z = eqb-false n 0 (not_true (eqb n 0) q.0) in
    record { some = omega arith; low = leb-true _ _ r.0; high = leb-true _ _ r.1; begun = p.1 }

pub stays_in_range : (least most n b : ℕ) → goes_on least most n b ≡ true → 10 * n + (b - 48) ≤ most
stays_in_range least most n b e = some_within least most _ (goes_on_if least most n b e).begun

pub begins_in_range : (least most b : ℕ) → begins_number least most b ≡ true → b - 48 ≤ most
begins_in_range least most b e = some_within least most _ (begins_if least most b e).begun

if_goes_on : (least most n b : ℕ) → GoesOn least most n b → goes_on least most n b ≡ true
if_goes_on least most n b h =
    let z : eqb n 0 ≡ false = ne_eqb n 0 (λ e. omega arith) in
    all_true _ _ (all_true _ _ (ap not z) (all_true _ _ (le-leb _ _ h.low) (le-leb _ _ h.high))) h.begun

-- the digits of a number are those of its front and its last one
decimal_more : (least most n b : ℕ) → most < 2 ^ 64 → GoesOn least most n b → decimal (10 * n + (b - 48)) ≡ decimal n ++ b ∷ []
decimal_more least most n b small h =
    let d = b - 48 in
    let m = 10 * n + d in
    let within : m ≤ most = some_within least most m h.begun in
    let front : m / 10 ≡ n = omega (arith, h.low, h.high) in
    let last : 48 + m % 10 ≡ b = omega (arith, h.low, h.high) in
    decimal_step m (omega (arith, h.some)) (omega arith) ∙ ap (λ (k : ℕ). decimal k ++ (48 + m % 10) ∷ []) front ∙ ap (λ (k : ℕ). decimal n ++ k ∷ []) last

pub record Bounds (least most ending : ℕ) : Type 0 where
  pub range : least ≤ most
  pub small : most < 2 ^ 64
  pub ends : ending < 48

module _ (least most ending : ℕ) where
  -- ---- the digits behind the first

  abbrev onward : ℕ → ℕ → List ℕ → Bool → Read ℕ
  onward n b bytes c = cond c (digits_at least most ending (10 * n + (b - 48)) bytes) (Err (length bytes + 1))

  abbrev ends_at : ℕ → ℕ → Bool
  ends_at n b = eqb b ending && leb least n

  digits_cons : (n b : ℕ) (bytes : List ℕ) → digits_at least most ending n (b ∷ bytes) ≡ cond (ends_at n b) (Ok (n, bytes)) (onward n b bytes (goes_on least most n b))
  unfolding digits_at
  digits_cons n b bytes = refl

  digits_next : (n b : ℕ) (bytes : List ℕ) → ends_at n b ≡ false → goes_on least most n b ≡ true → digits_at least most ending n (b ∷ bytes) ≡ digits_at least most ending (10 * n + (b - 48)) bytes
  digits_next n b bytes e g = digits_cons n b bytes ∙ ap (λ c. cond c (Ok (n, bytes)) (onward n b bytes (goes_on least most n b))) e ∙ ap (onward n b bytes) g

  digits_end : (n b : ℕ) (bytes : List ℕ) → ends_at n b ≡ true → digits_at least most ending n (b ∷ bytes) ≡ Ok (n, bytes)
  digits_end n b bytes e = digits_cons n b bytes ∙ ap (λ c. cond c (Ok (n, bytes)) (onward n b bytes (goes_on least most n b))) e

  digits_stop : (n b : ℕ) (bytes : List ℕ) → ends_at n b ≡ false → goes_on least most n b ≡ false → digits_at least most ending n (b ∷ bytes) ≡ Err (length bytes + 1)
  digits_stop n b bytes e g = digits_cons n b bytes ∙ ap (λ c. cond c (Ok (n, bytes)) (onward n b bytes (goes_on least most n b))) e ∙ ap (onward n b bytes) g

  record Takes (n : ℕ) (bytes : List ℕ) (x : ℕ) (rest : List ℕ) : Type 0 where
    text : decimal n ++ bytes ≡ decimal x ++ ending ∷ rest
    low : least ≤ x
    within : x ≤ most

  takes_by : (n b : ℕ) (bytes : List ℕ) (x : ℕ) (rest : List ℕ) → most < 2 ^ 64 → ((m : ℕ) → m ≤ most → digits_at least most ending m bytes ≡ Ok (x, rest) → Takes m bytes x rest)
      → (c d : Bool) → ends_at n b ≡ c → goes_on least most n b ≡ d → n ≤ most → digits_at least most ending n (b ∷ bytes) ≡ Ok (x, rest) → Takes n (b ∷ bytes) x rest
  takes_by n b bytes x rest small next true d e g h is =
      let same = ok_is (n, bytes) (x, rest) (sym (digits_end n b bytes e) ∙ is) in
      let number : n ≡ x = ap (λ (p : ℕ × List ℕ). p.0) same in
      let after : bytes ≡ rest = ap (λ (p : ℕ × List ℕ). p.1) same in
      let ended = both (eqb b ending) (leb least n) e in
      let byte : b ≡ ending = eqb-true b ending ended.0 in
      let enough : least ≤ n = leb-true _ _ ended.1 in
      record { text = ap (λ (k : ℕ). decimal k ++ b ∷ bytes) number ∙ ap (λ (k : ℕ). decimal x ++ k ∷ bytes) byte ∙ ap (λ (l : List ℕ). decimal x ++ ending ∷ l) after; low = omega arith; within = omega arith }
  takes_by n b bytes x rest small next false true e g h is =
      let k = goes_on_if least most n b g in
      let t = next (10 * n + (b - 48)) (some_within least most _ k.begun) (sym (digits_next n b bytes e g) ∙ is) in
      record { text = sym (append_assoc (decimal n) (b ∷ []) bytes) ∙ ap (λ (l : List ℕ). l ++ bytes) (sym (decimal_more least most n b small k)) ∙ t.text; low = t.low; within = t.within }
  takes_by n b bytes x rest small next false false e g h is = let k = digits_stop n b bytes e g in absurd cc

  digits_takes : (bytes : List ℕ) (n x : ℕ) (rest : List ℕ) → most < 2 ^ 64 → n ≤ most → digits_at least most ending n bytes ≡ Ok (x, rest) → Takes n bytes x rest
  unfolding digits_at
  digits_takes [] n x rest small h is = absurd cc
  digits_takes (b ∷ bytes) n x rest small h is = takes_by n b bytes x rest small (λ m k. digits_takes bytes m x rest small k) (ends_at n b) (goes_on least most n b) refl refl h is

  record Stops (n : ℕ) (bytes : List ℕ) (left : ℕ) : Type 0 where
    front : List ℕ
    rest : List ℕ
    split : bytes ≡ front ++ rest
    len : length rest ≡ left
    number : ℕ
    low : least ≤ number
    within : number ≤ most
    tail : List ℕ
    viable : decimal number ++ ending ∷ [] ≡ decimal n ++ (front ++ tail)
    fails : FailsBehind (digits_at least most ending n) front rest

  next_fails : (n b : ℕ) (front rest : List ℕ) → ends_at n b ≡ false → goes_on least most n b ≡ true → FailsBehind (digits_at least most ending (10 * n + (b - 48))) front rest → FailsBehind (digits_at least most ending n) (b ∷ front) rest
  next_fails n b front [] e g h = tt
  next_fails n b front (c ∷ rest) e g h = λ tail. let f = h tail in (f.0, digits_next n b (front ++ c ∷ tail) e g ∙ f.1)

  -- digits that begin a number do so up to the byte behind them
  ended_text : (n : ℕ) (c : Continued least most n) → decimal c.number ++ ending ∷ [] ≡ decimal n ++ (c.tail ++ ending ∷ [])
  ended_text n c = ap (λ (l : List ℕ). l ++ ending ∷ []) c.digits ∙ append_assoc (decimal n) c.tail (ending ∷ [])

  stops_by : (n b : ℕ) (bytes : List ℕ) (left : ℕ) → Bounds least most ending → ((m : ℕ) → begins_some least most m ≡ true → digits_at least most ending m bytes ≡ Err left → Stops m bytes left)
      → (c d : Bool) → ends_at n b ≡ c → goes_on least most n b ≡ d → begins_some least most n ≡ true → digits_at least most ending n (b ∷ bytes) ≡ Err left → Stops n (b ∷ bytes) left
  stops_by n b bytes left bounds next true d e g h is = let k = digits_end n b bytes e in absurd cc
  stops_by n b bytes left bounds next false true e g h is =
      let k = goes_on_if least most n b g in
      let s = next (10 * n + (b - 48)) k.begun (sym (digits_next n b bytes e g) ∙ is) in
      record {
        front = b ∷ s.front;
        rest = s.rest;
        split = ap (λ (l : List ℕ). b ∷ l) s.split;
        len = s.len;
        number = s.number;
        low = s.low;
        within = s.within;
        tail = s.tail;
        viable = s.viable ∙ ap (λ (l : List ℕ). l ++ (s.front ++ s.tail)) (decimal_more least most n b bounds.small k) ∙ append_assoc (decimal n) (b ∷ []) (s.front ++ s.tail);
        fails = next_fails n b s.front s.rest e g s.fails;
      }
  stops_by n b bytes left bounds next false false e g h is =
      let k : length bytes + 1 ≡ left = err_is {A = ℕ × List ℕ} _ _ (sym (digits_stop n b bytes e g) ∙ is) in
      let w = some_number least most n bounds.range bounds.small h in
      record { front = []; rest = b ∷ bytes; split = refl; len = omega arith; number = w.number; low = w.low; within = w.within; tail = w.tail ++ ending ∷ []; viable = ended_text n w; fails = λ tail. (length tail + 1, digits_stop n b tail e g) }

  digits_stops : (bytes : List ℕ) (n left : ℕ) → Bounds least most ending → begins_some least most n ≡ true → digits_at least most ending n bytes ≡ Err left → Stops n bytes left
  unfolding digits_at
  digits_stops [] n left bounds h is =
      let w = some_number least most n bounds.range bounds.small h in
      record { front = []; rest = []; split = refl; len = err_is {A = ℕ × List ℕ} _ _ is; number = w.number; low = w.low; within = w.within; tail = w.tail ++ ending ∷ []; viable = ended_text n w; fails = tt }
  digits_stops (b ∷ bytes) n left bounds h is = stops_by n b bytes left bounds (λ m k. digits_stops bytes m left bounds k) (ends_at n b) (goes_on least most n b) refl refl h is

  -- ---- the whole number

  number_cons : (b : ℕ) (bytes : List ℕ) → number_at least most ending (b ∷ bytes) ≡ cond (begins_number least most b) (digits_at least most ending (b - 48) bytes) (Err (length bytes + 1))
  unfolding number_at
  number_cons b bytes = refl

  number_nil : number_at least most ending [] ≡ Err 0
  unfolding number_at
  number_nil = refl

  number_next : (b : ℕ) (bytes : List ℕ) → begins_number least most b ≡ true → number_at least most ending (b ∷ bytes) ≡ digits_at least most ending (b - 48) bytes
  number_next b bytes e = number_cons b bytes ∙ ap (λ c. cond c (digits_at least most ending (b - 48) bytes) (Err (length bytes + 1))) e

  number_stop : (b : ℕ) (bytes : List ℕ) → begins_number least most b ≡ false → number_at least most ending (b ∷ bytes) ≡ Err (length bytes + 1)
  number_stop b bytes e = number_cons b bytes ∙ ap (λ c. cond c (digits_at least most ending (b - 48) bytes) (Err (length bytes + 1))) e

  first_digit : (b : ℕ) → Begins least most b → decimal (b - 48) ≡ b ∷ []
  first_digit b h =
      let k : 48 + (b - 48) ≡ b = omega (arith, h.low) in
      decimal_digit (b - 48) (omega (arith, h.high)) ∙ ap (λ (n : ℕ). n ∷ []) k

  abbrev Reads : ℕ → List ℕ → Type 0
  Reads x digits = begins_some least most x ≡ true → (tail : List ℕ) → number_at least most ending (digits ++ tail) ≡ digits_at least most ending x tail

  reads_one : (x : ℕ) → x < 10 → Reads x ((48 + x) ∷ [])
  reads_one x h begun tail =
      let k : 48 + x - 48 ≡ x = omega arith in
      number_next (48 + x) tail (if_begins least most (48 + x) (record { low = omega arith; high = omega arith; begun = ap (begins_some least most) k ∙ begun })) ∙ ap (λ (n : ℕ). digits_at least most ending n tail) k

  reads_more : Bounds least most ending → (x : ℕ) (digits : List ℕ) → 10 ≤ x → Reads (x / 10) digits → Reads x (digits ++ (48 + x % 10) ∷ [])
  reads_more bounds x digits ten front begun tail =
      let b = 48 + x % 10 in
      let k : 10 * (x / 10) + (48 + x % 10 - 48) ≡ x = omega arith in
      let other : eqb (48 + x % 10) ending ≡ false = ne_eqb _ _ (λ e. omega (arith, bounds.ends)) in
      ap (number_at least most ending) (append_assoc digits ((48 + x % 10) ∷ []) tail)
      ∙ front (front_begins least most x bounds.small ten begun) ((48 + x % 10) ∷ tail)
      ∙ digits_next (x / 10) (48 + x % 10) tail (not_both _ _ other)
      (if_goes_on least most (x / 10) (48 + x % 10) (record { some = omega arith; low = omega arith; high = omega arith; begun = ap (begins_some least most) k ∙ begun }))
      ∙ ap (λ (n : ℕ). digits_at least most ending n tail) k

  number_again : Bounds least most ending → (x : ℕ) (rest : List ℕ) → (least ≤ x) × (x ≤ most) → number_at least most ending ((decimal x ++ ending ∷ []) ++ rest) ≡ Ok (x, rest)
  number_again bounds x rest fit =
      ap (number_at least most ending) (append_assoc (decimal x) (ending ∷ []) rest)
      ∙ decimal_by_steps Reads reads_one (reads_more bounds) x (omega (arith, bounds.small, fit.1)) (itself least most x fit.0 fit.1) (ending ∷ rest)
      ∙ digits_end x ending rest (all_true _ _ (eq-eqb ending ending refl) (le-leb _ _ fit.0))

  number_takes : Bounds least most ending → (b : ℕ) (bytes : List ℕ) (x : ℕ) (rest : List ℕ) → (c : Bool) → begins_number least most b ≡ c → number_at least most ending (b ∷ bytes) ≡ Ok (x, rest) → (b ∷ bytes ≡ number_text ending x ++ rest) × IsBetween least most x
  number_takes bounds b bytes x rest true e is =
      let k = begins_if least most b e in
      let t = digits_takes bytes (b - 48) x rest bounds.small (some_within least most _ k.begun) (sym (number_next b bytes e) ∙ is) in
      (ap (λ (l : List ℕ). l ++ bytes) (sym (first_digit b k)) ∙ t.text ∙ sym (append_assoc (decimal x) (ending ∷ []) rest), (t.low, t.within))
  number_takes bounds b bytes x rest false e is = let k = number_stop b bytes e in absurd cc

  number_fails : (b : ℕ) (front rest : List ℕ) → begins_number least most b ≡ true → FailsBehind (digits_at least most ending (b - 48)) front rest → FailsBehind (number_at least most ending) (b ∷ front) rest
  number_fails b front [] e h = tt
  number_fails b front (c ∷ rest) e h = λ tail. let f = h tail in (f.0, number_next b (front ++ c ∷ tail) e ∙ f.1)

  number_fault : Bounds least most ending → (b : ℕ) (bytes : List ℕ) (left : ℕ) → (c : Bool) → begins_number least most b ≡ c → number_at least most ending (b ∷ bytes) ≡ Err left → IsFault (IsBetween least most) (number_text ending) (number_at least most ending) (b ∷ bytes) left
  number_fault bounds b bytes left true e is =
      let k = begins_if least most b e in
      let s = digits_stops bytes (b - 48) left bounds k.begun (sym (number_next b bytes e) ∙ is) in
      record {
        front = b ∷ s.front;
        rest = s.rest;
        split = ap (λ (l : List ℕ). b ∷ l) s.split;
        len = s.len;
        viable = (s.number, (s.low, s.within), s.tail, s.viable ∙ ap (λ (l : List ℕ). l ++ (s.front ++ s.tail)) (first_digit b k));
        fails = number_fails b s.front s.rest e s.fails;
      }
  number_fault bounds b bytes left false e is =
      let k : length bytes + 1 ≡ left = err_is {A = ℕ × List ℕ} _ _ (sym (number_stop b bytes e) ∙ is) in
      record { front = []; rest = b ∷ bytes; split = refl; len = omega arith; viable = (most, (bounds.range, omega arith), number_text ending most, refl); fails = λ tail. (length tail + 1, number_stop b tail e) }

  pub exact_number : Bounds least most ending → Exact (IsBetween least most) (number_text ending) (number_at least most ending)
  exact_number bounds = record {
    some = (most, (bounds.range, omega arith));
    takes = λ bytes x rest. elim bytes as (λ (l : List ℕ). number_at least most ending l ≡ Ok (x, rest) → (l ≡ number_text ending x ++ rest) × IsBetween least most x) [
      | [] ↦ λ is. let k = number_nil in absurd cc
      | b ∷ l ↦ number_takes bounds b l x rest (begins_number least most b) refl
    ];
    again = λ x rest fit. number_again bounds x rest fit;
    fault = λ bytes left. elim bytes as (λ (l : List ℕ). number_at least most ending l ≡ Err left → IsFault (IsBetween least most) (number_text ending) (number_at least most ending) l left) [
      | [] ↦ λ is. record { front = []; rest = []; split = refl; len = err_is {A = ℕ × List ℕ} _ _ (sym number_nil ∙ is); viable = (most, (bounds.range, omega arith), number_text ending most, refl); fails = tt }
      | b ∷ l ↦ number_fault bounds b l left (begins_number least most b) refl
    ];
  }
