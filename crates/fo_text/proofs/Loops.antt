-- Reading one thing after the other, as loops do.
use Rattle.std.proofs.Common.{◌≡◌, ◌==◌, if◌then◌else◌, ℕ, suc, ◌-◌, ◌+◌, ◌*◌, ◌≤◌, ◌<◌, Bool, true, false, cond, eqb, leb, ◌&&◌, ◌||◌, List, [], ◌∷◌, ◌++◌, length, get_or, drop, Ok, Err, refl, sym, ap, ◌∙◌, append_assoc, arith}
use Rattle.std.proofs.lemmas.Bool.{eq-eqb, ne_eqb, le-leb, lt-leb}
use Rattle.std.proofs.lemmas.List.{at_drop_more, length-drop, drop_all, append-nil, nil_from_length}
use Rattle.fo_text.specs.declared.halt.Halt.{Halt}
use Rattle.fo_text.specs.declared.halt.Halt.TheVariants.{Memory, Fault}
use Rattle.fo_text.specs.Reading.{Read, ◌>>=◌, Fails, literal_at, reaches, digits_at, goes_on, number_at, begins_number, values_at, table_at, tables_at, copy_at, copies_at, size_at, sizes_at}
use Rattle.fo_text.specs.declared.lines.Line.{Line}

-- ---- a literal text

pub literal_short : (text bytes : List ℕ) (i : ℕ) → i < length text → i ≡ length bytes → literal_at (drop i text) (drop i bytes) ≡ Err 0
unfolding literal_at
literal_short text bytes i h e =
    ap (literal_at (drop i text)) (drop_all i bytes (omega arith)) ∙ at_drop_more (λ t. literal_at t []) text i 0 h

pub literal_step : (text bytes : List ℕ) (i : ℕ) → i < length text → i < length bytes → get_or bytes i 0 ≡ get_or text i 0 → literal_at (drop i text) (drop i bytes) ≡ literal_at (drop (i + 1) text) (drop (i + 1) bytes)
unfolding literal_at
literal_step text bytes i h k e =
    at_drop_more (λ t. literal_at t (drop i bytes)) text i 0 h
    ∙ at_drop_more (literal_at (get_or text i 0 ∷ drop (i + 1) text)) bytes i 0 k
    ∙ ap (λ c. cond c (literal_at (drop (i + 1) text) (drop (i + 1) bytes)) (Err (length (drop (i + 1) bytes) + 1))) (eq-eqb (get_or bytes i 0) (get_or text i 0) e)

pub literal_other : (text bytes : List ℕ) (i : ℕ) → i < length text → i < length bytes → ¬ (get_or bytes i 0 ≡ get_or text i 0) → literal_at (drop i text) (drop i bytes) ≡ Err (length bytes - i)
unfolding literal_at
literal_other text bytes i h k e =
    let len : length (drop (i + 1) bytes) + 1 ≡ length bytes - i = omega (arith, length-drop (i + 1) bytes) in
    at_drop_more (λ t. literal_at t (drop i bytes)) text i 0 h
    ∙ at_drop_more (literal_at (get_or text i 0 ∷ drop (i + 1) text)) bytes i 0 k
    ∙ ap (λ c. cond c (literal_at (drop (i + 1) text) (drop (i + 1) bytes)) (Err (length (drop (i + 1) bytes) + 1))) (ne_eqb (get_or bytes i 0) (get_or text i 0) e)
    ∙ ap (λ (n : ℕ). Err n) len

pub literal_end : (text bytes : List ℕ) (i : ℕ) → length text ≤ i → literal_at (drop i text) (drop i bytes) ≡ Ok (drop i bytes)
unfolding literal_at
literal_end text bytes i h = ap (λ t. literal_at t (drop i bytes)) (drop_all i text h)

-- ---- numbers that begin with the digits of one

module _ (least most low high n i : ℕ) where
  abbrev farther : Bool
  farther = reaches (n - (i + 1)) least most (10 * low) (10 * high + 9)

  reach_step : i < n → reaches (n - i) least most low high ≡ (leb low most && (leb least high || farther))
  unfolding reaches
  reach_step h = let e : n - i ≡ suc (n - (i + 1)) = omega arith in rw e refl

  pub reach_past : i < n → most < low → reaches (n - i) least most low high ≡ false
  reach_past h past = reach_step h ∙ ap (λ b. b && (leb least high || farther)) (lt-leb low most past)

  pub reach_there : i < n → low ≤ most → least ≤ high → reaches (n - i) least most low high ≡ true
  reach_there h le there = reach_step h ∙ ap (λ b. b && (leb least high || farther)) (le-leb low most le) ∙ ap (λ b. b || farther) (le-leb least high there)

  pub reach_on : i < n → low ≤ most → high < least → reaches (n - i) least most low high ≡ farther
  reach_on h le below = reach_step h ∙ ap (λ b. b && (leb least high || farther)) (le-leb low most le) ∙ ap (λ b. b || farther) (lt-leb least high below)

  pub reach_none : n ≤ i → reaches (n - i) least most low high ≡ false
  unfolding reaches
  reach_none h = let e : n - i ≡ 0 = omega arith in rw e refl

-- ---- the digits of a number

module _ (least most ending n : ℕ) (bytes : List ℕ) (i : ℕ) where
  abbrev here : ℕ
  here = get_or bytes i 0

  abbrev rest : List ℕ
  rest = drop (i + 1) bytes

  abbrev ended : Bool
  ended = eqb here ending && leb least n

  abbrev onward : Bool → Read ℕ
  onward c = cond c (digits_at least most ending (10 * n + (here - 48)) rest) (Err (length rest + 1))

  at_digit : i < length bytes → digits_at least most ending n (drop i bytes) ≡ cond ended (Ok (n, rest)) (onward (goes_on least most n here))
  unfolding digits_at
  at_digit h = at_drop_more (digits_at least most ending n) bytes i 0 h

  pub digits_ended : i < length bytes → ended ≡ true → digits_at least most ending n (drop i bytes) ≡ Ok (n, rest)
  digits_ended h e = at_digit h ∙ ap (λ c. cond c (Ok (n, rest)) (onward (goes_on least most n here))) e

  pub digits_step : i < length bytes → ended ≡ false → goes_on least most n here ≡ true → digits_at least most ending n (drop i bytes) ≡ digits_at least most ending (10 * n + (here - 48)) rest
  digits_step h e g = at_digit h ∙ ap (λ c. cond c (Ok (n, rest)) (onward (goes_on least most n here))) e ∙ ap onward g

  pub digits_refused : i < length bytes → ended ≡ false → goes_on least most n here ≡ false → digits_at least most ending n (drop i bytes) ≡ Err (length bytes - i)
  digits_refused h e g =
      let len : length (drop (i + 1) bytes) + 1 ≡ length bytes - i = omega (arith, length-drop (i + 1) bytes) in
      at_digit h ∙ ap (λ c. cond c (Ok (n, rest)) (onward (goes_on least most n here))) e ∙ ap onward g ∙ ap (λ (m : ℕ). Err m) len

  pub digits_short : length bytes ≤ i → digits_at least most ending n (drop i bytes) ≡ Err 0
  unfolding digits_at
  digits_short h = ap (digits_at least most ending n) (drop_all i bytes h)

-- ---- its first digit

module _ (least most ending : ℕ) (bytes : List ℕ) where
  abbrev first : ℕ
  first = get_or bytes 0 0

  at_first : 0 < length bytes → number_at least most ending bytes ≡ cond (begins_number least most first) (digits_at least most ending (first - 48) (drop 1 bytes)) (Err (length (drop 1 bytes) + 1))
  unfolding number_at
  at_first h = at_drop_more (number_at least most ending) bytes 0 0 h

  pub number_begun : 0 < length bytes → begins_number least most first ≡ true → number_at least most ending bytes ≡ digits_at least most ending (first - 48) (drop 1 bytes)
  number_begun h b = at_first h ∙ ap (λ c. cond c (digits_at least most ending (first - 48) (drop 1 bytes)) (Err (length (drop 1 bytes) + 1))) b

  pub number_refused : 0 < length bytes → begins_number least most first ≡ false → number_at least most ending bytes ≡ Err (length bytes)
  number_refused h b =
      let len : length (drop 1 bytes) + 1 ≡ length bytes = omega (arith, length-drop 1 bytes) in
      at_first h ∙ ap (λ c. cond c (digits_at least most ending (first - 48) (drop 1 bytes)) (Err (length (drop 1 bytes) + 1))) b ∙ ap (λ (n : ℕ). Err n) len

  pub number_none : length bytes ≡ 0 → number_at least most ending bytes ≡ Err 0
  unfolding number_at
  number_none h = ap (number_at least most ending) (nil_from_length bytes h)

-- ---- a list

-- what was read before, and what is still read
abbrev pub with_front : {A : Type 0} → List A → Read (List A) → Read (List A)
with_front front read = read >>= λ x. Ok (front ++ x.0, x.1)

pub with_none : {A : Type 0} (read : Read (List A)) → with_front [] read ≡ read
with_none (Ok x) = refl
with_none (Err left) = refl

regroup : {A : Type 0} (front : List A) (x : A) (read : Read (List A)) → with_front front (read >>= λ xs. Ok (x ∷ xs.0, xs.1)) ≡ with_front (front ++ x ∷ []) read
regroup front x (Ok xs) = ap (λ ys. Ok (ys, xs.1)) (sym (append_assoc front (x ∷ []) xs.0))
regroup front x (Err left) = refl

pub list_step : {A : Type 0} (front : List A) (first : Read A) (next : List ℕ → Read (List A)) (x : A) (after : List ℕ) (all whole : Read (List A)) → all ≡ (first >>= λ x. next x.1 >>= λ xs. Ok (x.0 ∷ xs.0, xs.1)) → first ≡ Ok (x, after) → with_front front all ≡ whole → with_front (front ++ x ∷ []) (next after) ≡ whole
list_step {A} front head next x after all whole is h so_far =
    sym (regroup front x (next after)) ∙ sym (ap (with_front front) (is ∙ ap (λ (r : Read A). r >>= λ x. next x.1 >>= λ xs. Ok (x.0 ∷ xs.0, xs.1)) h)) ∙ so_far

pub list_ends : {A : Type 0} (e : Halt) (front : List A) (first : Read A) (next : List ℕ → Read (List A)) (all whole : Read (List A)) → all ≡ (first >>= λ x. next x.1 >>= λ xs. Ok (x.0 ∷ xs.0, xs.1)) → Fails e first → with_front front all ≡ whole → Fails e whole
list_ends Memory front head next all whole is h so_far = tt
list_ends {A} (Fault left) front head next all whole is h so_far =
    sym so_far ∙ ap (with_front front) (is ∙ ap (λ (r : Read A). r >>= λ x. next x.1 >>= λ xs. Ok (x.0 ∷ xs.0, xs.1)) h)

pub list_done : {A : Type 0} (front : List A) (rest : List ℕ) (all whole : Read (List A)) → all ≡ Ok ([], rest) → with_front front all ≡ whole → whole ≡ Ok (front, rest)
list_done front rest all whole is so_far = sym so_far ∙ ap (with_front front) is ∙ ap (λ xs. Ok (xs, rest)) (append-nil front)

-- ---- the lists that are read

pub values_step : (entries i most ending : ℕ) (bytes : List ℕ) → i < entries → ending ≡ (if (entries - i - 1) == 0 then 10 else 32) → values_at (entries - i) most bytes ≡ (number_at 0 most ending bytes >>= λ x. values_at (entries - (i + 1)) most x.1 >>= λ xs. Ok (x.0 ∷ xs.0, xs.1))
unfolding values_at
values_step entries i most ending bytes h e =
    let k : entries - i ≡ suc (entries - (i + 1)) = omega arith in
    let m : entries - i - 1 ≡ entries - (i + 1) = omega arith in
    let f : ending ≡ (if (entries - (i + 1)) == 0 then 10 else 32) = e ∙ ap (λ (n : ℕ). if n == 0 then 10 else 32) m in
    rw (k, f) refl

pub values_none : (entries i most : ℕ) (bytes : List ℕ) → entries ≤ i → values_at (entries - i) most bytes ≡ Ok ([], bytes)
unfolding values_at
values_none entries i most bytes h = let k : entries - i ≡ 0 = omega arith in rw k refl

pub tables_step : (lines : List Line) (i : ℕ) (line : Line) (bytes : List ℕ) → i < length lines → line ≡ get_or lines i line → tables_at (drop i lines) bytes ≡ (table_at line bytes >>= λ x. tables_at (drop (i + 1) lines) x.1 >>= λ xs. Ok (x.0 ∷ xs.0, xs.1))
unfolding tables_at
tables_step lines i line bytes h e =
    at_drop_more (λ l. tables_at l bytes) lines i line h ∙ ap (λ (l : Line). table_at l bytes >>= λ x. tables_at (drop (i + 1) lines) x.1 >>= λ xs. Ok (x.0 ∷ xs.0, xs.1)) (sym e)

pub tables_none : (lines : List Line) (i : ℕ) (bytes : List ℕ) → length lines ≤ i → tables_at (drop i lines) bytes ≡ Ok ([], bytes)
unfolding tables_at
tables_none lines i bytes h = ap (λ l. tables_at l bytes) (drop_all i lines h)

pub copies_step : (lines : List Line) (count k : ℕ) (bytes : List ℕ) → k < count → copies_at lines (count - k) k bytes ≡ (copy_at lines k bytes >>= λ x. copies_at lines (count - (k + 1)) (k + 1) x.1 >>= λ xs. Ok (x.0 ∷ xs.0, xs.1))
unfolding copies_at
copies_step lines count k bytes h =
    let e : count - k ≡ suc (count - (k + 1)) = omega arith in
    rw e refl

pub copies_none : (lines : List Line) (count k : ℕ) (bytes : List ℕ) → count ≤ k → copies_at lines (count - k) k bytes ≡ Ok ([], bytes)
unfolding copies_at
copies_none lines count k bytes h = let e : count - k ≡ 0 = omega arith in rw e refl

pub sizes_step : (names : List (List ℕ)) (i : ℕ) (name : List ℕ) (bytes : List ℕ) → i < length names → name ≡ get_or names i name → sizes_at (drop i names) bytes ≡ (size_at name bytes >>= λ x. sizes_at (drop (i + 1) names) x.1 >>= λ xs. Ok (x.0 ∷ xs.0, xs.1))
unfolding sizes_at
sizes_step names i name bytes h e =
    at_drop_more (λ l. sizes_at l bytes) names i name h ∙ ap (λ (l : List ℕ). size_at l bytes >>= λ x. sizes_at (drop (i + 1) names) x.1 >>= λ xs. Ok (x.0 ∷ xs.0, xs.1)) (sym e)

pub sizes_none : (names : List (List ℕ)) (i : ℕ) (bytes : List ℕ) → length names ≤ i → sizes_at (drop i names) bytes ≡ Ok ([], bytes)
unfolding sizes_at
sizes_none names i bytes h = ap (λ l. sizes_at l bytes) (drop_all i names h)
