-- Lemmas on histories.
use Rattle.std.proofs.Common.{◌≡◌, ◌≢◌, ℕ, le-ltb, lt-ltb, drop, ◌+◌, ◌<◌, ◌≤◌, nat_eq, List, [], ◌∷◌, ◌++◌, length, sym, refl, ap, ◌∙◌, subst, inl, inr, arith, ne_eqb, if◌then◌else◌}
use Rattle.std.proofs.lemmas.List.{append-nil, length-append}
use Rattle.std.specs.List.{All}
use Rattle.std.proofs.lemmas.List.Elements.{All-append, All-nil, All-cons, filter-append}
use mathlib.Core.Logic.{dite}
use mathlib.Core.List.{append_assoc}
use native.Mathlib.Decide.{dec_le}
use Rattle.turnstile.specs.History.{entries_of, IsPrefixOf, Continues, AddsAtMostOne, longer}

module _ {E : Type 0} where
  pub IsPrefixOf-refl : (xs : List E) → IsPrefixOf xs xs
  IsPrefixOf-refl xs = ([], sym (append-nil xs))

  pub IsPrefixOf-trans : (xs ys zs : List E) → IsPrefixOf xs ys → IsPrefixOf ys zs → IsPrefixOf xs zs
  IsPrefixOf-trans xs ys zs p q = (p.0 ++ q.0, q.1 ∙ (ap (λ l. l ++ q.0) p.1 ∙ append_assoc xs p.0 q.0))

  pub entries_of-append : (number : E → ℕ) (k : ℕ) (xs ys : List E) → entries_of number k (xs ++ ys) ≡ entries_of number k xs ++ entries_of number k ys
  entries_of-append number k xs ys = filter-append (λ e. nat_eq (number e) k) xs ys

  -- a list of no elements
  nothing : (xs : List E) → length xs ≡ 0 → xs ≡ []
  nothing [] e = refl
  nothing (x ∷ xs) e = absurd (omega arith)

  -- the first element, else d
  abbrev head_of : E → List E → E
  head_of d (x ∷ xs) = x
  head_of d [] = d

  -- of two beginnings of one list, the shorter begins the longer
  nested : (xs m ys n : List E) → xs ++ m ≡ ys ++ n → length xs ≤ length ys → (x : List E) × (ys ≡ xs ++ x) × (m ≡ x ++ n)
  nested [] m ys n e le = (ys, refl, e)
  nested (x ∷ xs) m [] n e le = absurd (omega arith)
  nested (x ∷ xs) m (y ∷ ys) n e le = let t = nested xs m ys n (ap (drop 1) e) (omega arith) in (t.0, (λ i. head_of x (sym e i) ∷ t.1 i), t.2)

module _ {E : Type 0} (number : E → ℕ) where
  -- what has been seen whole stays so in a longer beginning
  still : (log xs ys : List E) (k : ℕ) → IsPrefixOf xs log → IsPrefixOf ys log → length xs ≤ length ys → entries_of number k log ≡ entries_of number k xs → entries_of number k log ≡ entries_of number k ys
  still log xs ys k p q le whole =
      let t = nested xs p.0 ys q.0 (sym p.1 ∙ q.1) le in
      let F : List E → List E = entries_of number k in
      let a : F log ≡ F xs ++ F p.0 = ap F p.1 ∙ entries_of-append number k xs p.0 in
      let b : F p.0 ≡ F t.0 ++ F q.0 = ap F t.2 ∙ entries_of-append number k t.0 q.0 in
      let c : F log ≡ F ys ++ F q.0 = ap F q.1 ∙ entries_of-append number k ys q.0 in
      let la : length (F xs) ≡ length (F xs) + length (F p.0) = ap length (sym whole ∙ a) ∙ length-append (F xs) (F p.0) in
      let lb : length (F p.0) ≡ length (F t.0) + length (F q.0) = ap length b ∙ length-append (F t.0) (F q.0) in
      c ∙ (ap (λ (zs : List E). F ys ++ zs) (nothing (F q.0) (omega arith)) ∙ append-nil (F ys))

  -- `top` is one of two beginnings of `log`, and the other begins it
  pub record Tops (log xs ys top : List E) : Type 0 where
    pub begins : IsPrefixOf top log
    pub first : IsPrefixOf xs top
    pub second : IsPrefixOf ys top
    pub keeps_first : (k : ℕ) → entries_of number k log ≡ entries_of number k xs → entries_of number k log ≡ entries_of number k top
    pub keeps_second : (k : ℕ) → entries_of number k log ≡ entries_of number k ys → entries_of number k log ≡ entries_of number k top

  -- the longer of two beginnings is such a one
  pub longest : (log xs ys : List E) → IsPrefixOf xs log → IsPrefixOf ys log → Tops log xs ys (longer xs ys)
  longest log xs ys p q = dite (dec_le (length ys) (length xs))
      (λ le. let t = nested ys q.0 xs p.0 (sym q.1 ∙ p.1) le in rw (le-ltb (length xs) (length ys) le) record {
        begins = p;
        first = IsPrefixOf-refl xs;
        second = (t.0, t.1);
        keeps_first = λ k h. h;
        keeps_second = λ k h. still log ys xs k q p le h;
      })
      (λ no. let le : length xs ≤ length ys = omega arith in let t = nested xs p.0 ys q.0 (sym p.1 ∙ q.1) le in rw (lt-ltb (length xs) (length ys) (omega arith)) record {
        begins = q;
        first = (t.0, t.1);
        second = IsPrefixOf-refl ys;
        keeps_first = λ k h. still log xs ys k p q le h;
        keeps_second = λ k h. h;
      })

  -- the longer of two beginnings goes on from both
  pub goes_on_both : (from to from' to' : ℕ) (log xs ys : List E) → Continues number from to xs log → Continues number from' to' ys log
      → Continues number from to xs (longer xs ys) × Continues number from' to' ys (longer xs ys)
  goes_on_both from to from' to' log xs ys p q = let up = longest log xs ys p.begins q.begins in (
    record { begins = up.first; own = λ k a b. sym (up.keeps_first k (p.own k a b)) ∙ p.own k a b },
    record { begins = up.second; own = λ k a b. sym (up.keeps_second k (q.own k a b)) ∙ q.own k a b },
  )

  -- an entry of another number
  another : (k : ℕ) (log : List E) (e : E) → number e ≢ k → entries_of number k (log ++ e ∷ []) ≡ entries_of number k log
  another k log e ne = entries_of-append number k log (e ∷ []) ∙ (ap (λ b. entries_of number k log ++ (if b then e ∷ [] else [])) (ne_eqb (number e) k ne) ∙ append-nil (entries_of number k log))

  -- what a visit adds
  pub record Adds (from to : ℕ) (old new : List E) : Type 0 where
    pub more : List E
    pub is : new ≡ old ++ more
    pub carried : (callers : ℕ) → to ≤ callers → All (λ e. number e < callers) old → All (λ e. number e < callers) new
    pub other : (k : ℕ) → ((m : ℕ) → from ≤ m → m < to → m ≢ k) → entries_of number k new ≡ entries_of number k old

  -- a visit that adds at most one entry of these numbers
  pub adds : (from to : ℕ) (old new : List E) → AddsAtMostOne number from to old new → Adds from to old new
  adds from to old new (inl same) = record {
    more = [];
    is = same ∙ sym (append-nil old);
    carried = λ c le all. subst (All (λ e. number e < c)) (sym same) all;
    other = λ k h. ap (entries_of number k) same;
  }
  adds from to old new (inr t) = record {
    more = t.0 ∷ [];
    is = t.1;
    carried = λ c le all. subst (All (λ e. number e < c)) (sym t.1) (All-append (λ e. number e < c) old (t.0 ∷ []) all (let a = t.3 in All-cons (λ e. number e < c) t.0 [] (omega arith) (All-nil (λ e. number e < c))));
    other = λ k h. ap (entries_of number k) t.1 ∙ another k old t.0 (h (number t.0) t.2 t.3);
  }
