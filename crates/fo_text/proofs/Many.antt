-- Items, each after a keyword, and then another keyword, are read exactly.
use Rattle.std.proofs.Common.{◌≡◌, ℕ, zero, suc, ◌+◌, ◌<◌, ◌≤◌, inl, inr, true, cond, eqb, List, [], ◌∷◌, ◌++◌, length, Ok, Err, refl, sym, ap, subst, ◌∙◌, append_assoc, length-append, arith}
use Rattle.std.specs.List.{AllByRecursion, flat_map}
use Rattle.fo_text.specs.Reading.{Read, ◌>>=◌, choice_at, many_by, many}
use Rattle.fo_text.proofs.Exact.{Exact, IsFault, FailsBehind, FailsBehind-along, bind_ok, bind_err, ok_is, err_is}
use Rattle.fo_text.proofs.Cuts.{bind_same, shorter}
use Rattle.fo_text.proofs.Choices.{exact_choice, are_apart, text_at, apart_long}

-- an item in front of a list that was read
abbrev pub with_item : {A : Type 0} → A → Read (List A) → Read (List A)
with_item x r = r >>= λ xs. Ok (x ∷ xs.0, xs.1)

with_item_ok : {A : Type 0} (x : A) (r : Read (List A)) (xs : List A) (rest : List ℕ) → with_item x r ≡ Ok (xs, rest) → (ys : List A) × (r ≡ Ok (ys, rest)) × (x ∷ ys ≡ xs)
with_item_ok {A} x (Ok ys) xs rest e =
    let s = ok_is (x ∷ ys.0, ys.1) (xs, rest) e in
    (ys.0, ap (λ (l : List ℕ). Ok (ys.0, l)) (ap (λ (p : List A × List ℕ). p.1) s), ap (λ (p : List A × List ℕ). p.0) s)
with_item_ok x (Err left) xs rest e = absurd cc

with_item_err : {A : Type 0} (x : A) (r : Read (List A)) (left : ℕ) → with_item x r ≡ Err left → r ≡ Err left
with_item_err x (Ok ys) left e = absurd cc
with_item_err {A} x (Err m) left e = ap (λ (n : ℕ). Err n) (err_is {A = List A × List ℕ} m left e)

module _ {A : Type 0} (Fits : A → Type 0) (text : A → List ℕ) (item : List ℕ → Read A) (stop go : List ℕ) where
  -- each item after the one keyword, and then the other
  abbrev pub many_text : List A → List ℕ
  many_text [] = stop
  many_text (x ∷ xs) = go ++ (text x ++ many_text xs)

  pub many_words : (xs : List A) → many_text xs ≡ flat_map (λ x. go ++ text x) xs ++ stop
  many_words [] = refl
  many_words (x ∷ xs) =
      ap (λ (l : List ℕ). go ++ (text x ++ l)) (many_words xs) ∙ sym (append_assoc go (text x) (flat_map (λ y. go ++ text y) xs ++ stop))
      ∙ sym (append_assoc (go ++ text x) (flat_map (λ y. go ++ text y) xs) stop)

  abbrev word_at : List ℕ → Read ℕ
  word_at bytes = choice_at [] [] (stop ∷ go ∷ []) bytes

  -- what follows a keyword, where the lists after it are read so
  abbrev after : (List ℕ → Read (List A)) → ℕ → List ℕ → Read (List A)
  after read k bytes = cond (eqb k 0) (Ok ([], bytes)) (item bytes >>= λ x. with_item x.0 (read x.1))

  many_suc : (n : ℕ) (bytes : List ℕ) → many_by stop go item (suc n) bytes ≡ (word_at bytes >>= λ w. after (many_by stop go item n) w.0 w.1)
  unfolding many_by
  many_suc n bytes = refl

  many_zero : (bytes : List ℕ) → many_by stop go item zero bytes ≡ Err 0
  unfolding many_by
  many_zero bytes = refl

  module _ (apart : are_apart (stop ∷ go ∷ []) ≡ true) (exact : Exact Fits text item) where
    abbrev texts : List (List ℕ)
    texts = stop ∷ go ∷ []

    abbrev read : List ℕ → Read (List A)
    read = many stop go item

    words : Exact (λ k. k < length texts) (text_at texts) word_at
    words = exact_choice stop (go ∷ []) apart

    text_long : (k : ℕ) → k < length texts → 0 < length (text_at texts k)
    text_long zero h = (apart_long stop go apart).0
    text_long (suc zero) h = (apart_long stop go apart).1
    text_long (suc (suc k)) h = absurd (omega arith)

    word_less : (bytes : List ℕ) (w : ℕ × List ℕ) → word_at bytes ≡ Ok w → length w.1 < length bytes
    word_less bytes w e =
        let t = words.takes bytes w.0 w.1 e in
        omega (arith, ap (λ (l : List ℕ). length l) t.0, length-append (text_at texts w.0) w.1, text_long w.0 t.1)

    after_same : (f g : List ℕ → Read (List A)) (k : ℕ) (bytes : List ℕ) → ((rest : List ℕ) → length rest ≤ length bytes → f rest ≡ g rest) → after f k bytes ≡ after g k bytes
    after_same f g k bytes h =
        ap (λ (r : Read (List A)). cond (eqb k 0) (Ok ([], bytes)) r)
        (bind_same (item bytes) (λ x. with_item x.0 (f x.1)) (λ x. with_item x.0 (g x.1)) (λ x e. ap (with_item x.0) (h x.1 (shorter Fits text item exact bytes x e))))

    enough : (m n : ℕ) (bytes : List ℕ) → length bytes < m → length bytes < n → many_by stop go item m bytes ≡ many_by stop go item n bytes
    enough zero n bytes h k = absurd (omega arith)
    enough (suc m) zero bytes h k = absurd (omega arith)
    enough (suc m) (suc n) bytes h k =
        many_suc m bytes
        ∙ bind_same (word_at bytes) (λ w. after (many_by stop go item m) w.0 w.1) (λ w. after (many_by stop go item n) w.0 w.1)
        (λ w e. after_same (many_by stop go item m) (many_by stop go item n) w.0 w.1 (λ rest l. enough m n rest (omega (arith, l, word_less bytes w e)) (omega (arith, l, word_less bytes w e))))
        ∙ sym (many_suc n bytes)

    -- one keyword, and what follows it
    pub many_step : (bytes : List ℕ) → read bytes ≡ (word_at bytes >>= λ w. after read w.0 w.1)
    many_step bytes =
        let e : length bytes + 1 ≡ suc (length bytes) = omega arith in
        ap (λ (n : ℕ). many_by stop go item n bytes) e ∙ many_suc (length bytes) bytes
        ∙ bind_same (word_at bytes) (λ w. after (many_by stop go item (length bytes)) w.0 w.1) (λ w. after read w.0 w.1)
        (λ w h. after_same (many_by stop go item (length bytes)) read w.0 w.1 (λ rest l. enough (length bytes) (length rest + 1) rest (omega (arith, l, word_less bytes w h)) (omega arith)))

    read_stop : (rest : List ℕ) → read (stop ++ rest) ≡ Ok ([], rest)
    read_stop rest = many_step (stop ++ rest) ∙ ap (λ (r : Read ℕ). r >>= λ w. after read w.0 w.1) (words.again 0 rest (omega arith))

    read_go : (bytes : List ℕ) → read (go ++ bytes) ≡ (item bytes >>= λ x. with_item x.0 (read x.1))
    read_go bytes = many_step (go ++ bytes) ∙ ap (λ (r : Read ℕ). r >>= λ w. after read w.0 w.1) (words.again 1 bytes (omega arith))

    read_item : (x : A) (bytes : List ℕ) → Fits x → read (go ++ (text x ++ bytes)) ≡ with_item x (read bytes)
    read_item x bytes fit = read_go (text x ++ bytes) ∙ ap (λ (r : Read A). r >>= λ y. with_item y.0 (read y.1)) (exact.again x bytes fit)

    again : (xs : List A) (rest : List ℕ) → AllByRecursion Fits xs → read (many_text xs ++ rest) ≡ Ok (xs, rest)
    again [] rest fits = read_stop rest
    again (x ∷ xs) rest fits =
        ap read (append_assoc go (text x ++ many_text xs) rest ∙ ap (λ (l : List ℕ). go ++ l) (append_assoc (text x) (many_text xs) rest))
        ∙ read_item x (many_text xs ++ rest) fits.0 ∙ ap (with_item x) (again xs rest fits.1)

    -- what was taken

    abbrev Taken : List ℕ → List A → List ℕ → Type 0
    Taken bytes xs rest = (bytes ≡ many_text xs ++ rest) × AllByRecursion Fits xs

    takes_by : (k : ℕ) (bytes q : List ℕ) (xs : List A) (rest : List ℕ) → k < length texts → bytes ≡ text_at texts k ++ q → ((r : List ℕ) (ys : List A) → length r ≤ length q → read r ≡ Ok (ys, rest) → Taken r ys rest) → after read k q ≡ Ok (xs, rest) → Taken bytes xs rest
    takes_by zero bytes q xs rest h parts next e =
        let none : List A = [] in
        let s = ok_is (none, q) (xs, rest) e in
        subst (λ (p : List A × List ℕ). Taken bytes p.0 p.1) s (parts, tt)
    takes_by (suc zero) bytes q xs rest h parts next e =
        let b = bind_ok (item q) (λ x. with_item x.0 (read x.1)) (xs, rest) e in
        let w = with_item_ok b.0.0 (read b.0.1) xs rest b.2 in
        let t = exact.takes q b.0.0 b.0.1 b.1 in
        let n = next b.0.1 w.0 (shorter Fits text item exact q b.0 b.1) w.1 in
        subst (λ (ys : List A). Taken bytes ys rest) w.2 (
          parts ∙ ap (λ (l : List ℕ). go ++ l) (t.0 ∙ ap (λ (l : List ℕ). text b.0.0 ++ l) n.0 ∙ sym (append_assoc (text b.0.0) (many_text w.0) rest)) ∙ sym (append_assoc go (text b.0.0 ++ many_text w.0) rest),
          (t.1, n.1),
        )
    takes_by (suc (suc k)) bytes q xs rest h parts next e = absurd (omega arith)

    takes : (n : ℕ) (bytes : List ℕ) (xs : List A) (rest : List ℕ) → length bytes < n → read bytes ≡ Ok (xs, rest) → Taken bytes xs rest
    takes zero bytes xs rest h e = absurd (omega arith)
    takes (suc n) bytes xs rest h e =
        let b = bind_ok (word_at bytes) (λ w. after read w.0 w.1) (xs, rest) (sym (many_step bytes) ∙ e) in
        let t = words.takes bytes b.0.0 b.0.1 b.1 in
        let less = word_less bytes b.0 b.1 in
        takes_by b.0.0 bytes b.0.1 xs rest t.1 t.0 (λ r ys l k. takes n r ys rest (omega (arith, l, less)) k) b.2

    -- where it stops

    fails_go : (front rest : List ℕ) → FailsBehind item front rest → FailsBehind read (go ++ front) rest
    fails_go front [] h = tt
    fails_go front (b ∷ rest) h = λ tail.
        let f = h tail in
        (f.0, ap read (append_assoc go front (b ∷ tail)) ∙ read_go (front ++ b ∷ tail) ∙ ap (λ (r : Read A). r >>= λ y. with_item y.0 (read y.1)) f.1)

    fails_item : (x : A) (front rest : List ℕ) → Fits x → FailsBehind read front rest → FailsBehind read (go ++ (text x ++ front)) rest
    fails_item x front [] fit h = tt
    fails_item x front (b ∷ rest) fit h = λ tail.
        let f = h tail in (
          f.0,
          ap read (append_assoc go (text x ++ front) (b ∷ tail) ∙ ap (λ (l : List ℕ). go ++ l) (append_assoc (text x) front (b ∷ tail)))
              ∙ read_item x (front ++ b ∷ tail) fit ∙ ap (with_item x) f.1,
        )

    abbrev Stops : List ℕ → ℕ → Type 0
    Stops = IsFault (AllByRecursion Fits) many_text read

    word_fault : (bytes : List ℕ) (left : ℕ) → IsFault (λ k. k < length texts) (text_at texts) word_at bytes left → Stops bytes left
    word_fault bytes left g = record {
      front = g.front;
      rest = g.rest;
      split = g.split;
      len = g.len;
      viable = by g.viable.0 g.viable.1 g.viable.2 g.viable.3;
      fails = FailsBehind-along word_at read g.front g.rest (λ l m h. many_step l ∙ ap (λ (r : Read ℕ). r >>= λ w. after read w.0 w.1) h) g.fails;
    }
      where
        by : (k : ℕ) → k < length texts → (tail : List ℕ) → text_at texts k ≡ g.front ++ tail → (xs : List A) × AllByRecursion Fits xs × (tail : List ℕ) × (many_text xs ≡ g.front ++ tail)
        by zero h tail e = ([], tt, tail, e)
        by (suc zero) h tail e = (exact.some.0 ∷ [], (exact.some.1, tt), tail ++ (text exact.some.0 ++ stop), ap (λ (l : List ℕ). l ++ (text exact.some.0 ++ stop)) e ∙ append_assoc g.front tail (text exact.some.0 ++ stop))
        by (suc (suc k)) h tail e = absurd (omega arith)

    item_fault : (bytes q : List ℕ) (left : ℕ) → bytes ≡ go ++ q → IsFault Fits text item q left → Stops bytes left
    item_fault bytes q left parts g =
        let v = g.viable in
        record {
          front = go ++ g.front;
          rest = g.rest;
          split = parts ∙ ap (λ (l : List ℕ). go ++ l) g.split ∙ sym (append_assoc go g.front g.rest);
          len = g.len;
          viable = (
            v.0 ∷ [],
            (v.1, tt),
            v.2 ++ stop,
            ap (λ (l : List ℕ). go ++ (l ++ stop)) v.3 ∙ ap (λ (l : List ℕ). go ++ l) (append_assoc g.front v.2 stop) ∙ sym (append_assoc go g.front (v.2 ++ stop)),
          );
          fails = fails_go g.front g.rest g.fails;
        }

    later_fault : (bytes q r : List ℕ) (x : A) (left : ℕ) → bytes ≡ go ++ q → q ≡ text x ++ r → Fits x → Stops r left → Stops bytes left
    later_fault bytes q r x left parts more fit g =
        let v = g.viable in
        let joined : (l : List ℕ) → go ++ (text x ++ (g.front ++ l)) ≡ (go ++ (text x ++ g.front)) ++ l =
        λ l. ap (λ (k : List ℕ). go ++ k) (sym (append_assoc (text x) g.front l)) ∙ sym (append_assoc go (text x ++ g.front) l) in
        record {
          front = go ++ (text x ++ g.front);
          rest = g.rest;
          split = parts ∙ ap (λ (l : List ℕ). go ++ l) (more ∙ ap (λ (l : List ℕ). text x ++ l) g.split) ∙ joined g.rest;
          len = g.len;
          viable = (x ∷ v.0, (fit, v.1), v.2, ap (λ (l : List ℕ). go ++ (text x ++ l)) v.3 ∙ joined v.2);
          fails = fails_item x g.front g.rest fit g.fails;
        }

    fault_by : (k : ℕ) (bytes q : List ℕ) (left : ℕ) → k < length texts → bytes ≡ text_at texts k ++ q → ((r : List ℕ) → length r ≤ length q → read r ≡ Err left → Stops r left) → after read k q ≡ Err left → Stops bytes left
    fault_by zero bytes q left h parts next e = absurd cc
    fault_by (suc zero) bytes q left h parts next e = elim (bind_err (item q) (λ x. with_item x.0 (read x.1)) left e) [
      | inl l ↦ item_fault bytes q left parts (exact.fault q left l)
      | inr r ↦
          let t = exact.takes q r.0.0 r.0.1 r.1 in
          later_fault bytes q r.0.1 r.0.0 left parts t.0 t.1 (next r.0.1 (shorter Fits text item exact q r.0 r.1) (with_item_err r.0.0 (read r.0.1) left r.2))
    ]
    fault_by (suc (suc k)) bytes q left h parts next e = absurd (omega arith)

    fault : (n : ℕ) (bytes : List ℕ) (left : ℕ) → length bytes < n → read bytes ≡ Err left → Stops bytes left
    fault zero bytes left h e = absurd (omega arith)
    fault (suc n) bytes left h e = elim (bind_err (word_at bytes) (λ w. after read w.0 w.1) left (sym (many_step bytes) ∙ e)) [
      | inl l ↦ word_fault bytes left (words.fault bytes left l)
      | inr r ↦
          let t = words.takes bytes r.0.0 r.0.1 r.1 in
          let less = word_less bytes r.0 r.1 in
          fault_by r.0.0 bytes r.0.1 left t.1 t.0 (λ l k i. fault n l left (omega (arith, k, less)) i) r.2
    ]

    pub exact_many : Exact (AllByRecursion Fits) many_text read
    exact_many = record {
      some = ([], tt);
      takes = λ bytes xs rest e. takes (length bytes + 1) bytes xs rest (omega arith) e;
      again = again;
      fault = λ bytes left e. fault (length bytes + 1) bytes left (omega arith) e;
    }
