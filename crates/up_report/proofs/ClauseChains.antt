-- Items of which each tells whether it is the last are read exactly.
use Rattle.std.proofs.Common.{◌≡◌, ℕ, zero, suc, ◌+◌, ◌<◌, inl, inr, Bool, true, false, cond, List, [], ◌∷◌, ◌++◌, length, Ok, Err, refl, sym, ap, subst, ◌∙◌, append_assoc, length-append, arith}
use Rattle.std.proofs.lemmas.List.{append-nil}
use Rattle.fo_text.specs.Reading.{Read, ◌>>=◌}
use Rattle.fo_text.proofs.Exact.{Exact, IsFault, FailsBehind, FailsBehind-along, bind_ok, bind_err, ok_is, err_is}
use Rattle.fo_text.proofs.Cuts.{bind_same}
use Rattle.fo_text.proofs.Many.{with_item}
use Rattle.up_report.specs.ClauseReading.{chain_by, chain}

with_item_ok : {A : Type 0} (x : A) (r : Read (List A)) (xs : List A) (rest : List ℕ) → with_item x r ≡ Ok (xs, rest) → (ys : List A) × (r ≡ Ok (ys, rest)) × (x ∷ ys ≡ xs)
with_item_ok {A} x (Ok ys) xs rest e =
    let s = ok_is (x ∷ ys.0, ys.1) (xs, rest) e in
    (ys.0, ap (λ (l : List ℕ). Ok (ys.0, l)) (ap (λ (p : List A × List ℕ). p.1) s), ap (λ (p : List A × List ℕ). p.0) s)
with_item_ok x (Err left) xs rest e = absurd cc

with_item_err : {A : Type 0} (x : A) (r : Read (List A)) (left : ℕ) → with_item x r ≡ Err left → r ≡ Err left
with_item_err x (Ok ys) left e = absurd cc
with_item_err {A} x (Err m) left e = ap (λ (n : ℕ). Err n) (err_is {A = List A × List ℕ} m left e)

-- items, each with its number and whether it is the last
module _ {A : Type 0} (Fits : ℕ → A × Bool → Type 0) (text : ℕ → A × Bool → List ℕ) (item : ℕ → List ℕ → Read (A × Bool)) where
  abbrev pub ChainFits : ℕ → List A → Type 0
  ChainFits k [] = ⊥
  ChainFits k (x ∷ []) = Fits k (x, true)
  ChainFits k (x ∷ y ∷ xs) = Fits k (x, false) × ChainFits (k + 1) (y ∷ xs)

  abbrev pub chain_text : ℕ → List A → List ℕ
  chain_text k [] = []
  chain_text k (x ∷ []) = text k (x, true)
  chain_text k (x ∷ y ∷ xs) = text k (x, false) ++ chain_text (k + 1) (y ∷ xs)

  abbrev next : (ℕ → List ℕ → Read (List A)) → ℕ → A → Bool → List ℕ → Read (List A)
  next read k x last bytes = cond last (Ok (x ∷ [], bytes)) (with_item x (read (k + 1) bytes))

  chain_suc : (n k : ℕ) (bytes : List ℕ) → chain_by item (suc n) k bytes ≡ (item k bytes >>= λ x. next (chain_by item n) k x.0.0 x.0.1 x.1)
  unfolding chain_by
  chain_suc n k bytes = refl

  -- what an item may be, and that it isn't empty, and that some item may be the last
  pub record AreItems : Type 0 where
    pub exact : (k : ℕ) → Exact (Fits k) (text k) (item k)
    pub long : (k : ℕ) (x : A × Bool) → Fits k x → 0 < length (text k x)
    pub ends : (k : ℕ) → (x : A) × Fits k (x, true)

  module _ (are : AreItems) where
    abbrev read : ℕ → List ℕ → Read (List A)
    read = chain item

    less : (k : ℕ) (bytes : List ℕ) (x : (A × Bool) × List ℕ) → item k bytes ≡ Ok x → length x.1 < length bytes
    less k bytes x e =
        let t = (are.exact k).takes bytes x.0 x.1 e in
        omega (arith, ap (λ (l : List ℕ). length l) t.0, length-append (text k x.0) x.1, are.long k x.0 t.1)

    next_same : (f g : ℕ → List ℕ → Read (List A)) (k : ℕ) (x : A) (last : Bool) (bytes : List ℕ) → f (k + 1) bytes ≡ g (k + 1) bytes → next f k x last bytes ≡ next g k x last bytes
    next_same f g k x last bytes e = ap (λ (r : Read (List A)). cond last (Ok (x ∷ [], bytes)) (with_item x r)) e

    enough : (m n k : ℕ) (bytes : List ℕ) → length bytes < m → length bytes < n → chain_by item m k bytes ≡ chain_by item n k bytes
    enough zero n k bytes h l = absurd (omega arith)
    enough (suc m) zero k bytes h l = absurd (omega arith)
    enough (suc m) (suc n) k bytes h l =
        chain_suc m k bytes
        ∙ bind_same (item k bytes) (λ x. next (chain_by item m) k x.0.0 x.0.1 x.1) (λ x. next (chain_by item n) k x.0.0 x.0.1 x.1)
        (λ x e. next_same (chain_by item m) (chain_by item n) k x.0.0 x.0.1 x.1 (enough m n (k + 1) x.1 (omega (arith, less k bytes x e)) (omega (arith, less k bytes x e))))
        ∙ sym (chain_suc n k bytes)

    step : (k : ℕ) (bytes : List ℕ) → read k bytes ≡ (item k bytes >>= λ x. next read k x.0.0 x.0.1 x.1)
    step k bytes =
        let e : length bytes + 1 ≡ suc (length bytes) = omega arith in
        ap (λ (n : ℕ). chain_by item n k bytes) e ∙ chain_suc (length bytes) k bytes
        ∙ bind_same (item k bytes) (λ x. next (chain_by item (length bytes)) k x.0.0 x.0.1 x.1) (λ x. next read k x.0.0 x.0.1 x.1)
        (λ x h. next_same (chain_by item (length bytes)) read k x.0.0 x.0.1 x.1 (enough (length bytes) (length x.1 + 1) (k + 1) x.1 (less k bytes x h) (omega arith)))

    read_item : (k : ℕ) (x : A) (last : Bool) (bytes : List ℕ) → Fits k (x, last) → read k (text k (x, last) ++ bytes) ≡ next read k x last bytes
    read_item k x last bytes fit = step k (text k (x, last) ++ bytes) ∙ ap (λ (r : Read (A × Bool)). r >>= λ y. next read k y.0.0 y.0.1 y.1) ((are.exact k).again (x, last) bytes fit)

    again : (k : ℕ) (xs : List A) (rest : List ℕ) → ChainFits k xs → read k (chain_text k xs ++ rest) ≡ Ok (xs, rest)
    again k [] rest fits = absurd fits
    again k (x ∷ []) rest fits = read_item k x true rest fits
    again k (x ∷ y ∷ xs) rest fits =
        ap (read k) (append_assoc (text k (x, false)) (chain_text (k + 1) (y ∷ xs)) rest)
        ∙ read_item k x false (chain_text (k + 1) (y ∷ xs) ++ rest) fits.0 ∙ ap (with_item x) (again (k + 1) (y ∷ xs) rest fits.1)

    abbrev Taken : ℕ → List ℕ → List A → List ℕ → Type 0
    Taken k bytes xs rest = (bytes ≡ chain_text k xs ++ rest) × ChainFits k xs

    cons_taken : (k : ℕ) (x : A) (bytes q : List ℕ) (ys : List A) (rest : List ℕ) → bytes ≡ text k (x, false) ++ q → Fits k (x, false) → Taken (k + 1) q ys rest → Taken k bytes (x ∷ ys) rest
    cons_taken k x bytes q [] rest parts fit t = absurd t.1
    cons_taken k x bytes q (y ∷ ys) rest parts fit t =
        (parts ∙ ap (λ (l : List ℕ). text k (x, false) ++ l) t.0 ∙ sym (append_assoc (text k (x, false)) (chain_text (k + 1) (y ∷ ys)) rest), (fit, t.1))

    takes_by : (k : ℕ) (x : A) (last : Bool) (bytes q : List ℕ) (xs : List A) (rest : List ℕ) → bytes ≡ text k (x, last) ++ q → Fits k (x, last) → ((ys : List A) → read (k + 1) q ≡ Ok (ys, rest) → Taken (k + 1) q ys rest) → next read k x last q ≡ Ok (xs, rest) → Taken k bytes xs rest
    takes_by k x true bytes q xs rest parts fit more e =
        let s = ok_is (x ∷ [], q) (xs, rest) e in
        subst (λ (p : List A × List ℕ). Taken k bytes p.0 p.1) s (parts, fit)
    takes_by k x false bytes q xs rest parts fit more e =
        let w = with_item_ok x (read (k + 1) q) xs rest e in
        subst (λ (ys : List A). Taken k bytes ys rest) w.2 (cons_taken k x bytes q w.0 rest parts fit (more w.0 w.1))

    takes : (n k : ℕ) (bytes : List ℕ) (xs : List A) (rest : List ℕ) → length bytes < n → read k bytes ≡ Ok (xs, rest) → Taken k bytes xs rest
    takes zero k bytes xs rest h e = absurd (omega arith)
    takes (suc n) k bytes xs rest h e =
        let b = bind_ok (item k bytes) (λ x. next read k x.0.0 x.0.1 x.1) (xs, rest) (sym (step k bytes) ∙ e) in
        let t = (are.exact k).takes bytes b.0.0 b.0.1 b.1 in
        let shorter = less k bytes b.0 b.1 in
        takes_by k b.0.0.0 b.0.0.1 bytes b.0.1 xs rest t.0 t.1 (λ ys l. takes n (k + 1) b.0.1 ys rest (omega (arith, shorter)) l) b.2

    -- some items from number k on
    one_more : (k : ℕ) (x : A) (last : Bool) → Fits k (x, last) → (xs : List A) × ChainFits k xs × (tail : List ℕ) × (chain_text k xs ≡ text k (x, last) ++ tail)
    one_more k x true fit = (x ∷ [], fit, [], sym (append-nil (text k (x, true))))
    one_more k x false fit = let y = are.ends (k + 1) in (x ∷ y.0 ∷ [], (fit, y.1), text (k + 1) (y.0, true), refl)

    abbrev Stops : ℕ → List ℕ → ℕ → Type 0
    Stops k = IsFault (ChainFits k) (chain_text k) (read k)

    first_fault : (k : ℕ) (bytes : List ℕ) (left : ℕ) → IsFault (Fits k) (text k) (item k) bytes left → Stops k bytes left
    first_fault k bytes left g =
        let v = g.viable in
        let m = one_more k v.0.0 v.0.1 v.1 in
        record {
          front = g.front;
          rest = g.rest;
          split = g.split;
          len = g.len;
          viable = (m.0, m.1, v.2 ++ m.2, m.3 ∙ ap (λ (l : List ℕ). l ++ m.2) v.3 ∙ append_assoc g.front v.2 m.2);
          fails = FailsBehind-along (item k) (read k) g.front g.rest (λ l n h. step k l ∙ ap (λ (r : Read (A × Bool)). r >>= λ x. next read k x.0.0 x.0.1 x.1) h) g.fails;
        }

    fails_later : (k : ℕ) (x : A) (front rest : List ℕ) → Fits k (x, false) → FailsBehind (read (k + 1)) front rest → FailsBehind (read k) (text k (x, false) ++ front) rest
    fails_later k x front [] fit h = tt
    fails_later k x front (b ∷ rest) fit h = λ tail.
        let f = h tail in
        (f.0, ap (read k) (append_assoc (text k (x, false)) front (b ∷ tail)) ∙ read_item k x false (front ++ b ∷ tail) fit ∙ ap (with_item x) f.1)

    cons_viable : (k : ℕ) (x : A) (front : List ℕ) → Fits k (x, false) → (ys : List A) → ChainFits (k + 1) ys → (tail : List ℕ) → chain_text (k + 1) ys ≡ front ++ tail → (xs : List A) × ChainFits k xs × (tail : List ℕ) × (chain_text k xs ≡ (text k (x, false) ++ front) ++ tail)
    cons_viable k x front fit [] f tail e = absurd f
    cons_viable k x front fit (y ∷ ys) f tail e =
        (x ∷ y ∷ ys, (fit, f), tail, ap (λ (l : List ℕ). text k (x, false) ++ l) e ∙ sym (append_assoc (text k (x, false)) front tail))

    later_fault : (k : ℕ) (x : A) (bytes q : List ℕ) (left : ℕ) → bytes ≡ text k (x, false) ++ q → Fits k (x, false) → Stops (k + 1) q left → Stops k bytes left
    later_fault k x bytes q left parts fit g =
        let v = g.viable in
        record {
          front = text k (x, false) ++ g.front;
          rest = g.rest;
          split = parts ∙ ap (λ (l : List ℕ). text k (x, false) ++ l) g.split ∙ sym (append_assoc (text k (x, false)) g.front g.rest);
          len = g.len;
          viable = cons_viable k x g.front fit v.0 v.1 v.2 v.3;
          fails = fails_later k x g.front g.rest fit g.fails;
        }

    fault_by : (k : ℕ) (x : A) (last : Bool) (bytes q : List ℕ) (left : ℕ) → bytes ≡ text k (x, last) ++ q → Fits k (x, last) → (read (k + 1) q ≡ Err left → Stops (k + 1) q left) → next read k x last q ≡ Err left → Stops k bytes left
    fault_by k x true bytes q left parts fit more e = absurd cc
    fault_by k x false bytes q left parts fit more e = later_fault k x bytes q left parts fit (more (with_item_err x (read (k + 1) q) left e))

    fault : (n k : ℕ) (bytes : List ℕ) (left : ℕ) → length bytes < n → read k bytes ≡ Err left → Stops k bytes left
    fault zero k bytes left h e = absurd (omega arith)
    fault (suc n) k bytes left h e = elim (bind_err (item k bytes) (λ x. next read k x.0.0 x.0.1 x.1) left (sym (step k bytes) ∙ e)) [
      | inl l ↦ first_fault k bytes left ((are.exact k).fault bytes left l)
      | inr r ↦
          let t = (are.exact k).takes bytes r.0.0 r.0.1 r.1 in
          let shorter = less k bytes r.0 r.1 in
          fault_by k r.0.0.0 r.0.0.1 bytes r.0.1 left t.0 t.1 (λ i. fault n (k + 1) r.0.1 left (omega (arith, shorter)) i) r.2
    ]

    pub exact_chain : (k : ℕ) → Exact (ChainFits k) (chain_text k) (chain item k)
    exact_chain k = record {
      some = let y = are.ends k in (y.0 ∷ [], y.1);
      takes = λ bytes xs rest e. takes (length bytes + 1) k bytes xs rest (omega arith) e;
      again = again k;
      fault = λ bytes left e. fault (length bytes + 1) k bytes left (omega arith) e;
    }

-- a first item that can't be read
pub chain_fails : {A : Type 0} (item : ℕ → List ℕ → Read (A × Bool)) (k : ℕ) (bytes : List ℕ) (left : ℕ) → item k bytes ≡ Err left → chain item k bytes ≡ Err left
unfolding chain_by
chain_fails {A} item k bytes left e =
    let more : length bytes + 1 ≡ suc (length bytes) = omega arith in
    ap (λ (n : ℕ). chain_by item n k bytes) more
    ∙ ap (λ (r : Read (A × Bool)). r >>= λ x. cond x.0.1 (Ok (x.0.0 ∷ [], x.1)) (chain_by item (length bytes) (k + 1) x.1 >>= λ xs. Ok (x.0.0 ∷ xs.0, xs.1))) e
