-- One of several texts is read exactly.
use Rattle.std.proofs.Common.{◌≡◌, ℕ, zero, suc, ◌+◌, ◌-◌, ◌<◌, ◌≤◌, ◌⊎◌, inl, inr, min, Bool, true, false, cond, eqb, ◌&&◌, List, [], ◌∷◌, ◌++◌, length, get_or, map, flat_map, Result, Ok, Err, refl, sym, ap, subst, ◌∙◌, arith}
use Rattle.std.specs.List.{range_with_len, list_all}
use Rattle.std.proofs.lemmas.Bool.{eq-eqb, cases_lt}
use Rattle.std.proofs.lemmas.List.{append-nil, get_or-map, length-map}
use Rattle.fo_text.specs.Reading.{Read, ◌>>=◌, literal_at, or_else, option_at, choose, choice_at}
use Rattle.fo_text.proofs.Exact.{Exact, IsFault, FailsBehind, exact_after, exact_done, exact_words, ok_is, err_is, bind_ok}
use Rattle.fo_text.proofs.Stopping.{literal_found, literal_only}

-- ---- a literal text

bind_by : {A B : Type 0} (c : Bool) (r : Result A ℕ) (left : ℕ) (f : A → Result B ℕ) → cond c (r >>= f) (Err left) ≡ (cond c r (Err left) >>= f)
bind_by true r left f = refl
bind_by false r left f = refl

pub literal_append : (a b bytes : List ℕ) → literal_at (a ++ b) bytes ≡ (literal_at a bytes >>= literal_at b)
unfolding literal_at
literal_append [] b bytes = refl
literal_append (t ∷ a) b [] = refl
literal_append (t ∷ a) b (c ∷ bytes) =
    ap (λ (r : Result (List ℕ) ℕ). cond (eqb c t) r (Err (length bytes + 1))) (literal_append a b bytes)
    ∙ bind_by (eqb c t) (literal_at a bytes) (length bytes + 1) (literal_at b)

within_by : (c : Bool) (r : Result (List ℕ) ℕ) (n left : ℕ) → ((m : ℕ) → r ≡ Err m → m ≤ n) → cond c r (Err (n + 1)) ≡ Err left → left ≤ n + 1
within_by true r n left h e = omega (arith, h left e)
within_by false r n left h e = omega (arith, err_is {A = List ℕ} (n + 1) left e)

pub literal_within : (text bytes : List ℕ) (left : ℕ) → literal_at text bytes ≡ Err left → left ≤ length bytes
unfolding literal_at
literal_within [] bytes left e = absurd cc
literal_within (t ∷ text) [] left e = omega (arith, err_is {A = List ℕ} 0 left e)
literal_within (t ∷ text) (b ∷ bytes) left e = omega (arith, within_by (eqb b t) (literal_at text bytes) (length bytes) left (λ m k. literal_within text bytes m k) e)

still_first : (c : Bool) (text rest tail : List ℕ) (m : ℕ) → length rest < m → cond c (literal_at text rest) (Err (length rest + 1)) ≡ Err m → (n : ℕ) × (cond c (literal_at text tail) (Err (length tail + 1)) ≡ Err n)
still_first true text rest tail m h e = absurd (omega (arith, literal_within text rest m e))
still_first false text rest tail m h e = (length tail + 1, refl)

still_by : (c : Bool) (r q : Result (List ℕ) ℕ) (k l m : ℕ) → (r ≡ Err m → (n : ℕ) × (q ≡ Err n)) → cond c r (Err k) ≡ Err m → (n : ℕ) × (cond c q (Err l) ≡ Err n)
still_by true r q k l m h e = h e
still_by false r q k l m h e = (l, refl)

-- a text that fails at a byte or before it does so whatever follows that byte
pub literal_still : (text front : List ℕ) (b : ℕ) (rest tail : List ℕ) (m : ℕ) → length rest < m → literal_at text (front ++ b ∷ rest) ≡ Err m → (n : ℕ) × (literal_at text (front ++ b ∷ tail) ≡ Err n)
unfolding literal_at
literal_still [] front b rest tail m h e = absurd cc
literal_still (t ∷ text) [] b rest tail m h e = still_first (eqb b t) text rest tail m h e
literal_still (t ∷ text) (a ∷ front) b rest tail m h e =
    still_by (eqb a t) (literal_at text (front ++ b ∷ rest)) (literal_at text (front ++ b ∷ tail)) (length (front ++ b ∷ rest) + 1) (length (front ++ b ∷ tail) + 1) m
    (literal_still text front b rest tail m h) e

pub literal_again : (text rest : List ℕ) → literal_at text (text ++ rest) ≡ Ok rest
literal_again text rest = literal_only text (text ++ rest) rest refl

-- ---- the first of two readings that found something

pub or_else_assoc : {A : Type 0} (a b c : Read A) → or_else (or_else a b) c ≡ or_else a (or_else b c)
or_else_assoc (Ok x) b c = refl
or_else_assoc (Err m) (Ok y) c = refl
or_else_assoc (Err m) (Err n) (Ok z) = refl
or_else_assoc (Err m) (Err n) (Err k) = let e : min (min m n) k ≡ min m (min n k) = omega arith in ap (λ (l : ℕ). Err l) e

or_else_ok : {A : Type 0} (a b : Read A) (x : A × List ℕ) → or_else a b ≡ Ok x → (a ≡ Ok x) ⊎ (b ≡ Ok x)
or_else_ok (Ok y) b x e = inl e
or_else_ok (Err m) (Ok y) x e = inr e
or_else_ok (Err m) (Err n) x e = absurd cc

or_else_err : {A : Type 0} (a b : Read A) (left : ℕ) → or_else a b ≡ Err left → (m : ℕ) × (n : ℕ) × (a ≡ Err m) × (b ≡ Err n) × (min m n ≡ left)
or_else_err (Ok y) b left e = absurd cc
or_else_err (Err m) (Ok y) left e = absurd cc
or_else_err {A} (Err m) (Err n) left e = (m, n, refl, refl, err_is {A = A × List ℕ} (min m n) left e)

-- ---- the options

-- x is one of the options
abbrev pub Among : {X : Type 0} → List X → X → Type 0
Among [] x = ⊥
Among (y ∷ options) x = (y ≡ x) ⊎ Among options x

pub among_left : {X : Type 0} (a b : List X) (x : X) → Among a x → Among (a ++ b) x
among_left [] b x h = absurd h
among_left (y ∷ a) b x h = elim h [
  | inl e ↦ inl e
  | inr k ↦ inr (among_left a b x k)
]

pub among_right : {X : Type 0} (a b : List X) (x : X) → Among b x → Among (a ++ b) x
among_right [] b x h = h
among_right (y ∷ a) b x h = inr (among_right a b x h)

pub among_either : {X : Type 0} (a b : List X) (x : X) → Among (a ++ b) x → Among a x ⊎ Among b x
among_either [] b x h = inr h
among_either (y ∷ a) b x h = elim h [
  | inl e ↦ inl (inl e)
  | inr k ↦ elim (among_either a b x k) [
    | inl l ↦ inl (inr l)
    | inr r ↦ inr r
  ]
]

pub among_map : {X Y : Type 0} (f : X → Y) (xs : List X) (x : X) → Among xs x → Among (map f xs) (f x)
among_map f [] x h = absurd h
among_map f (y ∷ xs) x h = elim h [
  | inl e ↦ inl (ap f e)
  | inr k ↦ inr (among_map f xs x k)
]

pub among_mapped : {X Y : Type 0} (f : X → Y) (xs : List X) (y : Y) → Among (map f xs) y → (x : X) × Among xs x × (f x ≡ y)
among_mapped f [] y h = absurd h
among_mapped f (x ∷ xs) y h = elim h [
  | inl e ↦ (x, inl refl, e)
  | inr k ↦ let r = among_mapped f xs y k in (r.0, inr r.1, r.2)
]

pub among_flat : {X Y : Type 0} (f : X → List Y) (xs : List X) (x : X) (y : Y) → Among xs x → Among (f x) y → Among (flat_map f xs) y
among_flat f [] x y h k = absurd h
among_flat f (z ∷ xs) x y h k = elim h [
  | inl e ↦ among_left (f z) (flat_map f xs) y (subst (λ (w : _). Among (f w) y) (sym e) k)
  | inr l ↦ among_right (f z) (flat_map f xs) y (among_flat f xs x y l k)
]

pub among_flattened : {X Y : Type 0} (f : X → List Y) (xs : List X) (y : Y) → Among (flat_map f xs) y → (x : X) × Among xs x × Among (f x) y
among_flattened f [] y h = absurd h
among_flattened f (x ∷ xs) y h = elim (among_either (f x) (flat_map f xs) y h) [
  | inl k ↦ (x, inl refl, k)
  | inr k ↦ let r = among_flattened f xs y k in (r.0, inr r.1, r.2)
]

pub among_range : (a n x : ℕ) → a ≤ x → x < a + n → Among (range_with_len a n) x
among_range a zero x h k = absurd (omega arith)
among_range a (suc n) x h k = elim (cases_lt a x) [
  | inl lt ↦ inr (among_range (a + 1) n x (omega arith) (omega arith))
  | inr le ↦ inl (omega arith)
]

pub ranged : (a n x : ℕ) → Among (range_with_len a n) x → (a ≤ x) × (x < a + n)
ranged a zero x h = absurd h
ranged a (suc n) x h = elim h [
  | inl e ↦ (omega arith, omega arith)
  | inr k ↦ let r = ranged (a + 1) n x k in (omega (arith, r.0), omega (arith, r.1))
]

abbrev told : {X : Type 0} → X → Result (List ℕ) ℕ → Read X
told x r = r >>= λ l. Ok (x, l)

module _ {X : Type 0} (text : X → List ℕ) where
  -- where the texts of two options stand at the front of the same bytes, they are one option
  abbrev pub Apart : List X → Type 0
  Apart options = (x y : X) → Among options x → Among options y → (p q : List ℕ) → text x ++ p ≡ text y ++ q → x ≡ y

  option_ok : (x y : X) (bytes rest : List ℕ) → option_at text x bytes ≡ Ok (y, rest) → (x ≡ y) × (literal_at (text x) bytes ≡ Ok rest)
  option_ok x y bytes rest e =
      let b = bind_ok (literal_at (text x) bytes) (λ r. Ok (x, r)) (y, rest) e in
      let s = ok_is (x, b.0) (y, rest) b.2 in
      (ap (λ (p : X × List ℕ). p.0) s, b.1 ∙ ap (λ (l : List ℕ). Ok l) (ap (λ (p : X × List ℕ). p.1) s))

  at_ok : (x : X) (bytes rest : List ℕ) → literal_at (text x) bytes ≡ Ok rest → option_at text x bytes ≡ Ok (x, rest)
  at_ok x bytes rest e = ap (λ (r : Result (List ℕ) ℕ). r >>= λ l. Ok (x, l)) e

  at_err : (x : X) (bytes : List ℕ) (left : ℕ) → literal_at (text x) bytes ≡ Err left → option_at text x bytes ≡ Err left
  at_err x bytes left e = ap (λ (r : Result (List ℕ) ℕ). r >>= λ l. Ok (x, l)) e

  option_err : (x : X) (bytes : List ℕ) (left : ℕ) → option_at text x bytes ≡ Err left → literal_at (text x) bytes ≡ Err left
  option_err x bytes left e = by (literal_at (text x) bytes) refl e
    where
      by : (r : Result (List ℕ) ℕ) → literal_at (text x) bytes ≡ r → told x r ≡ Err left → literal_at (text x) bytes ≡ Err left
      by (Ok l) is h = absurd cc
      by (Err m) is h = is ∙ ap (λ (k : ℕ). Err k) (err_is {A = X × List ℕ} m left h)

  pub choose_cons : (x : X) (options : List X) (bytes : List ℕ) → choose text (x ∷ options) bytes ≡ or_else (option_at text x bytes) (choose text options bytes)
  unfolding choose
  choose_cons x options bytes = refl

  pub choose_nil : (bytes : List ℕ) → choose text [] bytes ≡ Err (length bytes)
  unfolding choose
  choose_nil bytes = refl

  pub choose_takes : (options : List X) (bytes : List ℕ) (x : X) (rest : List ℕ) → choose text options bytes ≡ Ok (x, rest) → Among options x × (literal_at (text x) bytes ≡ Ok rest)
  choose_takes [] bytes x rest e = let n = choose_nil bytes in absurd cc
  choose_takes (y ∷ options) bytes x rest e = elim (or_else_ok (option_at text y bytes) (choose text options bytes) (x, rest) (sym (choose_cons y options bytes) ∙ e)) [
    | inl h ↦ let k = option_ok y x bytes rest h in (inl k.0, ap (λ (z : X). literal_at (text z) bytes) (sym k.0) ∙ k.1)
    | inr h ↦ let k = choose_takes options bytes x rest h in (inr k.0, k.1)
  ]

  pub choose_within : (options : List X) (bytes : List ℕ) (left : ℕ) → choose text options bytes ≡ Err left → left ≤ length bytes
  choose_within [] bytes left e = omega (arith, err_is {A = X × List ℕ} (length bytes) left (sym (choose_nil bytes) ∙ e))
  choose_within (y ∷ options) bytes left e =
      let k = or_else_err (option_at text y bytes) (choose text options bytes) left (sym (choose_cons y options bytes) ∙ e) in
      omega (arith, choose_within options bytes k.1 k.3, k.4)

  finds_by : (y : X) (options : List X) (bytes : List ℕ) (x : X) (rest : List ℕ) → literal_at (text x) bytes ≡ Ok rest → ((q : List ℕ) → literal_at (text y) bytes ≡ Ok q → y ≡ x) → ((y ≡ x) ⊎ Among options x) → (Among options x → choose text options bytes ≡ Ok (x, rest))
      → (r : Result (List ℕ) ℕ) → literal_at (text y) bytes ≡ r → or_else (option_at text y bytes) (choose text options bytes) ≡ Ok (x, rest)
  finds_by y options bytes x rest e only h next (Ok q) is =
      let same : y ≡ x = only q is in
      ap (λ (a : Read X). or_else a (choose text options bytes)) (subst (λ (z : X). option_at text z bytes ≡ Ok (x, rest)) (sym same) (at_ok x bytes rest e))
  finds_by y options bytes x rest e only h next (Err m) is =
      let other : Among options x = elim h [
        | inl same ↦ let k = ap (λ (z : X). literal_at (text z) bytes) same in absurd cc
        | inr k ↦ k
      ] in
      ap (λ (a : Read X). or_else a (choose text options bytes)) (at_err y bytes m is)
      ∙ ap (λ (b : Read X). or_else (Err m) b) (next other)

  -- where the text of x stands at the front, and that of no other option, x is chosen
  pub choose_finds : (options : List X) (bytes : List ℕ) (x : X) (rest : List ℕ) → literal_at (text x) bytes ≡ Ok rest → ((y : X) (q : List ℕ) → Among options y → literal_at (text y) bytes ≡ Ok q → y ≡ x) → Among options x → choose text options bytes ≡ Ok (x, rest)
  choose_finds [] bytes x rest e only h = absurd h
  choose_finds (y ∷ options) bytes x rest e only h =
      choose_cons y options bytes ∙ finds_by y options bytes x rest e (λ q k. only y q (inl refl) k) h (λ k. choose_finds options bytes x rest e (λ z q l. only z q (inr l)) k) (literal_at (text y) bytes) refl

  -- the text of no option goes on farther than the fault
  pub choose_least : (options : List X) (bytes : List ℕ) (left : ℕ) → choose text options bytes ≡ Err left → (y : X) → Among options y → (m : ℕ) × (literal_at (text y) bytes ≡ Err m) × (left ≤ m)
  choose_least [] bytes left e y h = absurd h
  choose_least (x ∷ options) bytes left e y h =
      let k = or_else_err (option_at text x bytes) (choose text options bytes) left (sym (choose_cons x options bytes) ∙ e) in
      elim h [
        | inl same ↦ (k.0, ap (λ (z : X). literal_at (text z) bytes) (sym same) ∙ option_err x bytes k.0 k.2, omega (arith, k.4))
        | inr l ↦ let r = choose_least options bytes k.1 k.3 y l in (r.0, r.1, omega (arith, k.4, r.2))
      ]

  -- and that of some option does so up to it
  pub choose_farthest : (x : X) (options : List X) (bytes : List ℕ) (left : ℕ) → choose text (x ∷ options) bytes ≡ Err left → (y : X) × Among (x ∷ options) y × (literal_at (text y) bytes ≡ Err left)
  choose_farthest x [] bytes left e =
      let k = or_else_err (option_at text x bytes) (choose text [] bytes) left (sym (choose_cons x [] bytes) ∙ e) in
      let l = option_err x bytes k.0 k.2 in
      let n = err_is {A = X × List ℕ} (length bytes) k.1 (sym (choose_nil bytes) ∙ k.3) in
      let same : k.0 ≡ left = omega (arith, k.4, n, literal_within (text x) bytes k.0 l) in
      (x, inl refl, l ∙ ap (λ (m : ℕ). Err m) same)
  choose_farthest x (y ∷ options) bytes left e =
      let k = or_else_err (option_at text x bytes) (choose text (y ∷ options) bytes) left (sym (choose_cons x (y ∷ options) bytes) ∙ e) in
      elim (cases_lt k.1 k.0) [
        | inl lt ↦
            let r = choose_farthest y options bytes k.1 k.3 in
            let same : k.1 ≡ left = omega (arith, k.4) in
            (r.0, inr r.1, r.2 ∙ ap (λ (m : ℕ). Err m) same)
        | inr le ↦
            let same : k.0 ≡ left = omega (arith, k.4) in
            (x, inl refl, option_err x bytes k.0 k.2 ∙ ap (λ (m : ℕ). Err m) same)
      ]

  pub choose_none : (options : List X) (bytes : List ℕ) → ((y : X) → Among options y → (m : ℕ) × (literal_at (text y) bytes ≡ Err m)) → (left : ℕ) × (choose text options bytes ≡ Err left)
  choose_none [] bytes h = (length bytes, choose_nil bytes)
  choose_none (x ∷ options) bytes h =
      let k = h x (inl refl) in
      let r = choose_none options bytes (λ y l. h y (inr l)) in (
        min k.0 r.0,
        choose_cons x options bytes ∙ ap (λ (a : Read X). or_else a (choose text options bytes)) (at_err x bytes k.0 k.1) ∙ ap (λ (b : Read X). or_else (Err k.0) b) r.1,
      )

  -- ---- it is exact

  fails_behind : (options : List X) (bytes front rest : List ℕ) (left : ℕ) → choose text options bytes ≡ Err left → bytes ≡ front ++ rest → length rest ≡ left → FailsBehind (choose text options) front rest
  fails_behind options bytes front [] left e split len = tt
  fails_behind options bytes front (b ∷ rest) left e split len = λ tail. choose_none options (front ++ b ∷ tail) (λ y h.
      let k = choose_least options bytes left e y h in
      literal_still (text y) front b rest tail k.0 (omega (arith, k.2, len)) (ap (literal_at (text y)) (sym split) ∙ k.1))

  fault_at : (x : X) (options : List X) (bytes : List ℕ) (left : ℕ) → choose text (x ∷ options) bytes ≡ Err left → IsFault (Among (x ∷ options)) text (choose text (x ∷ options)) bytes left
  fault_at x options bytes left e =
      let k = choose_farthest x options bytes left e in
      let exact = exact_after (λ (n : ℕ). n ≡ 0) (λ n. []) (λ l. Ok (0, l)) (text k.0) (exact_done 0) in
      let g = exact.fault bytes left (ap (λ (r : Result (List ℕ) ℕ). r >>= λ l. Ok (0, l)) k.2) in
      let v = g.viable in
      record {
        front = g.front;
        rest = g.rest;
        split = g.split;
        len = g.len;
        viable = (k.0, k.1, v.2, sym (append-nil (text k.0)) ∙ v.3);
        fails = fails_behind (x ∷ options) bytes g.front g.rest left e g.split g.len;
      }

  pub exact_choose : (x : X) (options : List X) → Apart (x ∷ options) → Exact (Among (x ∷ options)) text (choose text (x ∷ options))
  exact_choose x options apart = record {
    some = (x, inl refl);
    takes = λ bytes y rest e. let k = choose_takes (x ∷ options) bytes y rest e in (literal_found (text y) bytes rest k.1, k.0);
    again = λ y rest h. choose_finds (x ∷ options) (text y ++ rest) y rest (literal_again (text y) rest)
        (λ z q k l. apart z y k h q rest (sym (literal_found (text z) (text y ++ rest) q l))) h;
    fault = fault_at x options;
  }

  -- ---- options that are tried one after the other

  pub choose_append : (a b : List X) (bytes : List ℕ) → choose text (a ++ b) bytes ≡ or_else (choose text a bytes) (choose text b bytes)
  choose_append [] b bytes = sym (ap (λ (r : Read X). or_else r (choose text b bytes)) (choose_nil bytes) ∙ unit (choose text b bytes) (λ left e. choose_within b bytes left e))
    where
      unit : (r : Read X) → ((left : ℕ) → r ≡ Err left → left ≤ length bytes) → or_else (Err (length bytes)) r ≡ r
      unit (Ok x) h = refl
      unit (Err left) h = let k = h left refl in let e : min (length bytes) left ≡ left = omega arith in ap (λ (m : ℕ). Err m) e
  choose_append (x ∷ a) b bytes =
      choose_cons x (a ++ b) bytes ∙ ap (λ (r : Read X). or_else (option_at text x bytes) r) (choose_append a b bytes)
      ∙ sym (ap (λ (r : Read X). or_else r (choose text b bytes)) (choose_cons x a bytes) ∙ or_else_assoc (option_at text x bytes) (choose text a bytes) (choose text b bytes))

  -- The options before these were tried in vain, and the latest fault left this number of bytes.
  pub record Tried (options rest : List X) (bytes : List ℕ) (least : ℕ) : Type 0 where
    pub within : least ≤ length bytes
    pub same : or_else (Err least) (choose text rest bytes) ≡ choose text options bytes

  pub tried_none : (options : List X) (bytes : List ℕ) → Tried options options bytes (length bytes)
  tried_none options bytes = record { within = omega arith; same = ap (λ (r : Read X). or_else r (choose text options bytes)) (sym (choose_nil bytes)) ∙ sym (choose_append [] options bytes) }

  pub tried_more : (options front rest : List X) (bytes : List ℕ) (least left : ℕ) → Tried options (front ++ rest) bytes least → choose text front bytes ≡ Err left → Tried options rest bytes (min least left)
  tried_more options front rest bytes least left t e = record {
    within = omega (arith, t.within);
    same = or_else_assoc (Err least) (Err left) (choose text rest bytes)
        ∙ ap (λ (r : Read X). or_else (Err least) r) (sym (choose_append front rest bytes ∙ ap (λ (r : Read X). or_else r (choose text rest bytes)) e)) ∙ t.same;
  }

  pub tried_found : (options front rest : List X) (bytes : List ℕ) (least : ℕ) (x : X × List ℕ) → Tried options (front ++ rest) bytes least → choose text front bytes ≡ Ok x → choose text options bytes ≡ Ok x
  tried_found options front rest bytes least x t e =
      sym t.same ∙ ap (λ (r : Read X). or_else (Err least) r) (choose_append front rest bytes ∙ ap (λ (r : Read X). or_else r (choose text rest bytes)) e)

  pub tried_all : (options : List X) (bytes : List ℕ) (least : ℕ) → Tried options [] bytes least → choose text options bytes ≡ Err least
  tried_all options bytes least t =
      let e : min least (length bytes) ≡ least = omega (arith, t.within) in
      sym t.same ∙ ap (λ (r : Read X). or_else (Err least) r) (choose_nil bytes) ∙ ap (λ (m : ℕ). Err m) e

  pub choose_one : (x : X) (bytes rest : List ℕ) → literal_at (text x) bytes ≡ Ok rest → choose text (x ∷ []) bytes ≡ Ok (x, rest)
  choose_one x bytes rest e = choose_cons x [] bytes ∙ ap (λ (r : Read X). or_else r (choose text [] bytes)) (at_ok x bytes rest e)

  pub choose_not : (x : X) (bytes : List ℕ) (left : ℕ) → literal_at (text x) bytes ≡ Err left → choose text (x ∷ []) bytes ≡ Err left
  choose_not x bytes left e =
      let k = literal_within (text x) bytes left e in
      let m : min left (length bytes) ≡ left = omega arith in
      choose_cons x [] bytes ∙ ap (λ (r : Read X). or_else r (choose text [] bytes)) (at_err x bytes left e)
      ∙ ap (λ (r : Read X). or_else (Err left) r) (choose_nil bytes) ∙ ap (λ (n : ℕ). Err n) m

-- options seen as others
pub choose_map : {X Y : Type 0} (f : X → Y) (text : Y → List ℕ) (words : X → List ℕ) → ((x : X) → text (f x) ≡ words x) → (xs : List X) (bytes : List ℕ) → choose text (map f xs) bytes ≡ (choose words xs bytes >>= λ x. Ok (f x.0, x.1))
choose_map f text words same [] bytes = choose_nil text bytes ∙ sym (ap (λ r. r >>= λ x. Ok (f x.0, x.1)) (choose_nil words bytes))
choose_map {X} {Y} f text words same (x ∷ xs) bytes =
    choose_cons text (f x) (map f xs) bytes
    ∙ ap (λ (r : Read Y). or_else (option_at text (f x) bytes) r) (choose_map f text words same xs bytes)
    ∙ ap (λ (l : List ℕ). or_else (literal_at l bytes >>= λ rest. Ok (f x, rest)) (choose words xs bytes >>= λ y. Ok (f y.0, y.1))) (same x)
    ∙ sym (ap (λ r. r >>= λ y. Ok (f y.0, y.1)) (choose_cons words x xs bytes) ∙ by (literal_at (words x) bytes) (choose words xs bytes))
  where
    by : (a : Result (List ℕ) ℕ) (b : Read X) → (or_else (a >>= λ rest. Ok (x, rest)) b >>= λ y. Ok (f y.0, y.1)) ≡ or_else (a >>= λ rest. Ok (f x, rest)) (b >>= λ y. Ok (f y.0, y.1))
    by (Ok rest) b = refl
    by (Err m) (Ok y) = refl
    by (Err m) (Err n) = refl

-- ---- texts of a list, told by their places

-- at some byte that both have the texts differ
abbrev pub differ : List ℕ → List ℕ → Bool
differ [] u = false
differ (a ∷ t) [] = false
differ (a ∷ t) (b ∷ u) = cond (eqb a b) (differ t u) true

-- no two of the texts can stand at one place
abbrev pub are_apart : List (List ℕ) → Bool
are_apart [] = true
are_apart (t ∷ ts) = list_all (differ t) ts && are_apart ts

differ_by : (c : Bool) (a b : ℕ) (t u p q : List ℕ) → eqb a b ≡ c → (differ t u ≡ true → ¬ (t ++ p ≡ u ++ q)) → cond c (differ t u) true ≡ true → ¬ (a ∷ t ++ p ≡ b ∷ u ++ q)
differ_by true a b t u p q is next h e = next h cc
differ_by false a b t u p q is next h e = let k : a ≡ b = cc in let l = eq-eqb a b k in absurd cc

pub differ_apart : (t u p q : List ℕ) → differ t u ≡ true → ¬ (t ++ p ≡ u ++ q)
differ_apart [] u p q h e = absurd cc
differ_apart (a ∷ t) [] p q h e = absurd cc
differ_apart (a ∷ t) (b ∷ u) p q h e = differ_by (eqb a b) a b t u p q refl (differ_apart t u p q) h e

-- the text at a place of the list, after a mark and a word
abbrev pub placed : List ℕ → List ℕ → List (List ℕ) → ℕ → List ℕ
placed mark word texts k = mark ++ (word ++ get_or texts k [])

pub choice_is : (mark word : List ℕ) (texts : List (List ℕ)) (bytes : List ℕ) → choice_at mark word texts bytes ≡ choose (placed mark word texts) (range_with_len 0 (length texts)) bytes
unfolding choice_at
choice_is mark word texts bytes = refl

-- the places from one on
pub places_on : (i n : ℕ) → i < n → range_with_len i (n - i) ≡ (i ∷ []) ++ range_with_len (i + 1) (n - (i + 1))
places_on i n h = let e : n - i ≡ suc (n - (i + 1)) = omega arith in ap (range_with_len i) e

pub places_end : (i n : ℕ) → n ≤ i → range_with_len i (n - i) ≡ []
places_end i n h = let e : n - i ≡ 0 = omega arith in ap (range_with_len i) e

pub marked_is : (mark word text bytes : List ℕ) → literal_at (mark ++ (word ++ text)) bytes ≡ (literal_at mark bytes >>= λ r. literal_at word r >>= literal_at text)
marked_is mark word text bytes = literal_append mark (word ++ text) bytes ∙ by (literal_at mark bytes)
  where
    by : (r : Result (List ℕ) ℕ) → (r >>= literal_at (word ++ text)) ≡ (r >>= λ q. literal_at word q >>= literal_at text)
    by (Ok q) = literal_append word text q
    by (Err left) = refl

-- ---- the texts of a list, tried one after the other

module _ {T : Type 0} (f : T → List ℕ) (mark word : List ℕ) (texts : List T) (bytes : List ℕ) where
  abbrev pub TriedFrom : ℕ → ℕ → Type 0
  TriedFrom i least = Tried (placed mark word (map f texts)) (range_with_len 0 (length texts)) (range_with_len i (length texts - i)) bytes least

  abbrev pub marked_text : T → List ℕ
  marked_text t = mark ++ (word ++ f t)

  whole : choice_at mark word (map f texts) bytes ≡ choose (placed mark word (map f texts)) (range_with_len 0 (length texts)) bytes
  whole = choice_is mark word (map f texts) bytes ∙ ap (λ (n : ℕ). choose (placed mark word (map f texts)) (range_with_len 0 n) bytes) (length-map texts f)

  next : (i least : ℕ) → i < length texts → TriedFrom i least → Tried (placed mark word (map f texts)) (range_with_len 0 (length texts)) ((i ∷ []) ++ range_with_len (i + 1) (length texts - (i + 1))) bytes least
  next i least h t = subst (λ (l : List ℕ). Tried (placed mark word (map f texts)) (range_with_len 0 (length texts)) l bytes least) (places_on i (length texts) h) t

  text_is : (i : ℕ) (d : T) → i < length texts → placed mark word (map f texts) i ≡ marked_text (get_or texts i d)
  text_is i d h = ap (λ (l : List ℕ). mark ++ (word ++ l)) (get_or-map f texts i d [] h)

  pub from_none : TriedFrom 0 (length bytes)
  from_none =
      let e : length texts - 0 ≡ length texts = omega arith in
      subst (λ (n : ℕ). Tried (placed mark word (map f texts)) (range_with_len 0 (length texts)) (range_with_len 0 n) bytes (length bytes)) (sym e) (tried_none (placed mark word (map f texts)) (range_with_len 0 (length texts)) bytes)

  pub from_found : (i least : ℕ) (d : T) (rest : List ℕ) → i < length texts → TriedFrom i least → literal_at (marked_text (get_or texts i d)) bytes ≡ Ok rest → choice_at mark word (map f texts) bytes ≡ Ok (i, rest)
  from_found i least d rest h t e =
      whole ∙ tried_found (placed mark word (map f texts)) (range_with_len 0 (length texts)) (i ∷ []) (range_with_len (i + 1) (length texts - (i + 1))) bytes least (i, rest) (next i least h t)
      (choose_one (placed mark word (map f texts)) i bytes rest (ap (λ (l : List ℕ). literal_at l bytes) (text_is i d h) ∙ e))

  pub from_more : (i least left : ℕ) (d : T) → i < length texts → TriedFrom i least → literal_at (marked_text (get_or texts i d)) bytes ≡ Err left → TriedFrom (i + 1) (min least left)
  from_more i least left d h t e =
      tried_more (placed mark word (map f texts)) (range_with_len 0 (length texts)) (i ∷ []) (range_with_len (i + 1) (length texts - (i + 1))) bytes least left (next i least h t)
      (choose_not (placed mark word (map f texts)) i bytes left (ap (λ (l : List ℕ). literal_at l bytes) (text_is i d h) ∙ e))

  pub from_all : (i least : ℕ) → length texts ≤ i → TriedFrom i least → choice_at mark word (map f texts) bytes ≡ Err least
  from_all i least h t =
      whole ∙ tried_all (placed mark word (map f texts)) (range_with_len 0 (length texts)) bytes least
      (subst (λ (l : List ℕ). Tried (placed mark word (map f texts)) (range_with_len 0 (length texts)) l bytes least) (places_end i (length texts) h) t)

-- ---- one of these texts is read exactly

both : (x y : Bool) → (x && y) ≡ true → (x ≡ true) × (y ≡ true)
both true y e = (refl, e)
both false y e = absurd cc

pub apart_at : (texts : List (List ℕ)) → are_apart texts ≡ true → (i j : ℕ) → i < j → j < length texts → differ (get_or texts i []) (get_or texts j []) ≡ true
apart_at [] h i j lt k = absurd (omega arith)
apart_at (t ∷ ts) h zero zero lt k = absurd (omega arith)
apart_at (t ∷ ts) h zero (suc j) lt k = all_at ts (both (list_all (differ t) ts) (are_apart ts) h).0 j (omega arith)
  where
    all_at : (us : List (List ℕ)) → list_all (differ t) us ≡ true → (k : ℕ) → k < length us → differ t (get_or us k []) ≡ true
    all_at [] a k l = absurd (omega arith)
    all_at (u ∷ us) a zero l = (both (differ t u) (list_all (differ t) us) a).0
    all_at (u ∷ us) a (suc k) l = all_at us (both (differ t u) (list_all (differ t) us) a).1 k (omega arith)
apart_at (t ∷ ts) h (suc i) zero lt k = absurd (omega arith)
apart_at (t ∷ ts) h (suc i) (suc j) lt k = apart_at ts (both (list_all (differ t) ts) (are_apart ts) h).1 i j (omega arith) (omega arith)

-- the text at a place
abbrev pub text_at : List (List ℕ) → ℕ → List ℕ
text_at texts k = get_or texts k []

pub texts_apart : (texts : List (List ℕ)) → are_apart texts ≡ true → (i j : ℕ) → i < length texts → j < length texts → (p q : List ℕ) → text_at texts i ++ p ≡ text_at texts j ++ q → i ≡ j
texts_apart texts h i j k l p q e = elim (cases_lt i j) [
  | inl lt ↦ absurd (differ_apart (text_at texts i) (text_at texts j) p q (apart_at texts h i j lt l) e)
  | inr le ↦ elim (cases_lt j i) [
    | inl lt ↦ absurd (differ_apart (text_at texts j) (text_at texts i) q p (apart_at texts h j i lt k) (sym e))
    | inr ge ↦ omega arith
  ]
]

pub exact_choice : (t : List ℕ) (ts : List (List ℕ)) → are_apart (t ∷ ts) ≡ true → Exact (λ k. k < length (t ∷ ts)) (text_at (t ∷ ts)) (choice_at [] [] (t ∷ ts))
exact_choice t ts h =
    let texts : List (List ℕ) = t ∷ ts in
    let places : List ℕ = range_with_len 1 (length ts) in
    let apart : Apart (text_at texts) (zero ∷ places) =
    λ i j a b p q e. texts_apart texts h i j (omega (arith, (ranged 0 (suc (length ts)) i a).1)) (omega (arith, (ranged 0 (suc (length ts)) j b).1)) p q e in
    exact_words (Among (zero ∷ places)) (λ k. k < length texts) (text_at texts) (text_at texts) (choose (text_at texts) (zero ∷ places)) (choice_at [] [] texts)
    (λ bytes. choice_is [] [] texts bytes)
    (λ k a. (omega (arith, (ranged 0 (suc (length ts)) k a).1), refl))
    (λ k lt. among_range 0 (suc (length ts)) k (omega arith) (omega arith))
    (exact_choose (text_at texts) zero places apart)

differ_long : (t u : List ℕ) → differ t u ≡ true → (0 < length t) × (0 < length u)
differ_long [] u e = absurd cc
differ_long (a ∷ t) [] e = absurd cc
differ_long (a ∷ t) (b ∷ u) e = (omega arith, omega arith)

-- neither of two such texts is empty
pub apart_long : (t u : List ℕ) → are_apart (t ∷ u ∷ []) ≡ true → (0 < length t) × (0 < length u)
apart_long t u e = differ_long t u (both (differ t u) true (both (list_all (differ t) (u ∷ [])) (are_apart (u ∷ [])) e).0).0
