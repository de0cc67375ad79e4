-- From exact readers to what they say of the bytes.
use Rattle.std.proofs.Common.{◌≡◌, ℕ, ◌+◌, ◌-◌, ◌<◌, List, [], ◌∷◌, ◌++◌, length, take, Ok, Err, Result, Bor, refl, sym, ap, ◌∙◌, append_assoc, length-append, arith}
use Rattle.std.specs.Prelude.{IfOk, IfErr}
use Rattle.std.proofs.lemmas.List.{append-nil, take_at}
use Rattle.fo_text.specs.declared.halt.Halt.{Halt}
use Rattle.fo_text.specs.declared.halt.Halt.TheVariants.{Memory, Fault}
use Rattle.fo_text.specs.Parts.{StartsWith, IsBetween, number_text, HasNumber, BeginsNumber, StopsBefore, HasPlace, IsOk, IsStop}
use Rattle.fo_text.specs.Reading.{Read, Gives, ◌>>=◌, literal_at, number_at}
use Rattle.fo_text.proofs.Exact.{ok_is, Exact, FailsBehind, exact_done, exact_after}
use Rattle.fo_text.proofs.Numbers.{Bounds, exact_number}

module _ {A : Type 0} (Fits : A → Type 0) (text : A → List ℕ) (read : List ℕ → Read A) (exact : Exact Fits text read) where
  -- the text of some value begins with these bytes
  abbrev pub Begins : List ℕ → Type 0
  Begins front = (x : A) × Fits x × StartsWith (text x) front

  no_text : (front rest : List ℕ) → FailsBehind read front rest → 0 < length rest → (bytes : List ℕ) → bytes ≡ front ++ rest → ¬ Begins (take (length front + 1) bytes)
  no_text front [] fails some bytes split = absurd (omega arith)
  no_text front (b ∷ rest) fails some bytes split = λ t.
      let long : length front + 1 ≡ length (front ++ b ∷ []) = omega (arith, length-append front (b ∷ [])) in
      let part : take (length front + 1) bytes ≡ front ++ b ∷ [] = ap (take (length front + 1)) (split ∙ sym (append_assoc front (b ∷ []) rest)) ∙ take_at (front ++ b ∷ []) rest (length front + 1) (sym long) in
      let f = fails t.2.0 in
      let whole : text t.0 ++ [] ≡ front ++ b ∷ t.2.0 = append-nil (text t.0) ∙ t.2.1 ∙ ap (λ (l : List ℕ). l ++ t.2.0) part ∙ append_assoc front (b ∷ []) t.2.0 in
      let taken : read (front ++ b ∷ t.2.0) ≡ Ok (t.0, []) = ap read (sym whole) ∙ exact.again t.0 [] t.1 in
      absurd (cc (taken, f.1))

  pub stops_before : (bytes : List ℕ) (left : ℕ) → read bytes ≡ Err left → StopsBefore Begins bytes left
  stops_before bytes left e =
      let f = exact.fault bytes left e in
      let v = f.viable in
      let len : length bytes ≡ length f.front + left = ap (λ (l : List ℕ). length l) f.split ∙ length-append f.front f.rest ∙ ap (λ (n : ℕ). length f.front + n) f.len in
      let place : length bytes - left ≡ length f.front = omega arith in
      let part : take (length bytes - left) bytes ≡ f.front = ap (take (length bytes - left)) f.split ∙ take_at f.front f.rest (length bytes - left) (sym place) in
      record {
        within = omega arith;
        begins = (v.0, v.1, (v.2, v.3 ∙ ap (λ (l : List ℕ). l ++ v.2) (sym part)));
        stops = λ lt b. no_text f.front f.rest f.fails (omega (arith, f.len)) bytes f.split (rw place at b);
      }

-- ---- a number

pub number_found : (least most ending : ℕ) → Bounds least most ending → (bytes : List ℕ) (x : ℕ) (rest : List ℕ) → number_at least most ending bytes ≡ Ok (x, rest) → IsBetween least most x × (bytes ≡ number_text ending x ++ rest)
number_found least most ending bounds bytes x rest e = let t = (exact_number least most ending bounds).takes bytes x rest e in (t.1, t.0)

pub number_only : (least most ending : ℕ) → Bounds least most ending → (bytes : List ℕ) (x : ℕ) (rest : List ℕ) → IsBetween least most x → bytes ≡ number_text ending x ++ rest → number_at least most ending bytes ≡ Ok (x, rest)
number_only least most ending bounds bytes x rest fit e = ap (number_at least most ending) e ∙ (exact_number least most ending bounds).again x rest fit

pub number_stops : (least most ending : ℕ) → Bounds least most ending → (bytes : List ℕ) (left : ℕ) → number_at least most ending bytes ≡ Err left → StopsBefore (BeginsNumber least most ending) bytes left
number_stops least most ending bounds = stops_before (IsBetween least most) (number_text ending) (number_at least most ending) (exact_number least most ending bounds)

pub number_never : (least most ending : ℕ) → Bounds least most ending → (bytes : List ℕ) (left : ℕ) (x : ℕ × List ℕ) → number_at least most ending bytes ≡ Err left → HasNumber least most ending bytes x → ⊥
number_never least most ending bounds bytes left x e h = let k = number_only least most ending bounds bytes x.0 x.1 h.0 h.1 in absurd (cc (k, e))

-- what is read says all
pub record Told (least most ending : ℕ) (bytes : List ℕ) (result : Result (ℕ × Bor (List ℕ)) Halt) : Type 0 where
  pub found : IfOk result (λ x. HasNumber least most ending bytes (x.0, x.1.now))
  pub only : (x : ℕ × List ℕ) → HasNumber least most ending bytes x → IsOk (λ (y : ℕ × Bor (List ℕ)). (y.0, y.1.now)) result x
  pub fault : IfErr result (IsStop (BeginsNumber least most ending) bytes)

pub number_told : (least most ending : ℕ) → Bounds least most ending → (bytes : List ℕ) (result : Result (ℕ × Bor (List ℕ)) Halt) → Gives (λ x. (x.0, x.1.now)) result (number_at least most ending bytes) → IfErr result HasPlace → Told least most ending bytes result
number_told least most ending bounds bytes (Ok x) e place = record {
  found = number_found least most ending bounds bytes x.0 x.1.now e;
  only = λ y h. ok_is (x.0, x.1.now) y (sym e ∙ number_only least most ending bounds bytes y.0 y.1 h.0 h.1);
  fault = tt;
}
number_told least most ending bounds bytes (Err Memory) e place = absurd place
number_told least most ending bounds bytes (Err (Fault left)) e place = record {
  found = tt;
  only = λ y h. number_never least most ending bounds bytes left y e h;
  fault = number_stops least most ending bounds bytes left e;
}

-- ---- a literal text

abbrev Alone : Unit {0} → Type 0
Alone x = x ≡ tt

-- what stands behind the text as what a reader of nothing gives
abbrev behind : Result (List ℕ) ℕ → Read (Unit {0})
behind r = r >>= λ rest. Ok (tt, rest)

abbrev literal_read : List ℕ → List ℕ → Read (Unit {0})
literal_read text bytes = behind (literal_at text bytes)

abbrev literal_text : List ℕ → Unit {0} → List ℕ
literal_text text x = text ++ []

exact_literal : (text : List ℕ) → Exact Alone (literal_text text) (literal_read text)
exact_literal text = exact_after Alone (λ x. []) (λ bytes. Ok (tt, bytes)) text (exact_done tt)

read_by : (r : Result (List ℕ) ℕ) (rest : List ℕ) → behind r ≡ Ok (tt, rest) → r ≡ Ok rest
read_by (Ok l) rest e = let same : (tt, l) ≡ (tt, rest) = ok_is {A = Unit {0} × List ℕ} (tt, l) (tt, rest) e in ap (λ (p : Unit {0} × List ℕ). Ok p.1) same
read_by (Err left) rest e = absurd cc

pub literal_found : (text bytes rest : List ℕ) → literal_at text bytes ≡ Ok rest → bytes ≡ text ++ rest
literal_found text bytes rest e =
    let t = (exact_literal text).takes bytes tt rest (ap behind e) in
    t.0 ∙ ap (λ (l : List ℕ). l ++ rest) (append-nil text)

pub literal_only : (text bytes rest : List ℕ) → bytes ≡ text ++ rest → literal_at text bytes ≡ Ok rest
literal_only text bytes rest e =
    read_by (literal_at text bytes) rest (ap (literal_read text) (e ∙ ap (λ (l : List ℕ). l ++ rest) (sym (append-nil text))) ∙ (exact_literal text).again tt rest refl)

pub literal_stops : (text bytes : List ℕ) (left : ℕ) → literal_at text bytes ≡ Err left → StopsBefore (StartsWith text) bytes left
literal_stops text bytes left e =
    let s = stops_before Alone (literal_text text) (literal_read text) (exact_literal text) bytes left (ap behind e) in
    record {
      within = s.within;
      begins = let b = s.begins in (b.2.0, sym (append-nil text) ∙ b.2.1);
      stops = λ lt b. s.stops lt (tt, refl, (b.0, append-nil text ∙ b.1));
    }

pub literal_never : (text bytes rest : List ℕ) (left : ℕ) → literal_at text bytes ≡ Err left → bytes ≡ text ++ rest → ⊥
literal_never text bytes rest left e h = let k = literal_only text bytes rest h in absurd (cc (k, e))

pub literal_same : (text bytes rest other : List ℕ) → literal_at text bytes ≡ Ok rest → bytes ≡ text ++ other → rest ≡ other
literal_same text bytes rest other e h = let k = literal_only text bytes other h in cc (k, e)
