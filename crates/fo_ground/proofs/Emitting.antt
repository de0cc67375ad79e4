-- Clauses that mean one thing, composed: conjunction, disjunction with helper variables, equivalence.
use Rattle.std.proofs.Common.{◌≡◌, ◌↔◌, ℕ, suc, Bool, true, false, cond, ◌<◌, ◌≤◌, ◌⊎◌, inl, inr, List, [], ◌∷◌, ◌++◌, length, get_or, refl, sym, ap, subst, ◌∙◌, arith, true≢false, length-append}
use Rattle.std.specs.List.{All, Any}
use Rattle.std.specs.Prelude.{◌==◌}
use Rattle.std.proofs.lemmas.Bool.{cases_lt}
use Rattle.std.proofs.lemmas.Bool.Decides.{Decides-eqb}
use Rattle.std.proofs.lemmas.List.{get_or_append_left}
use Rattle.std.proofs.Math.Seq.{get_or-append_seam}
use Rattle.std.proofs.lemmas.List.Elements.{All-push}
use Rattle.std.proofs.lemmas.List.Quantifiers.{Any-push}
use Rattle.prop_core.specs.declared.lit.Lit.{Lit}
use Rattle.prop_core.specs.Formula.{MeetsClause, MeetsAll, IsWithin, AreWithin}
use Rattle.fo_ground.specs.Emits.{Agrees, Adds, Offers}

abbrev V : Type 0
V = ℕ → Bool

module _ {X : Type 0} (P : X → Type 0) where
  pub Any-wider : (xs : List X) (y : X) → Any P xs → Any P (xs ++ y ∷ [])
  Any-wider xs y h = (h.0, h.1, omega (arith, h.2, length-append xs (y ∷ [])), get_or_append_left xs (y ∷ []) h.1 h.0 h.2 ∙ h.3, h.4)

  pub Any-push_cases : (xs : List X) (y : X) → Any P (xs ++ y ∷ []) → Any P xs ⊎ P y
  Any-push_cases xs y h = by_place (cases_lt h.0 (length xs))
    where
      by_place : (h.0 < length xs) ⊎ (length xs ≤ h.0) → Any P xs ⊎ P y
      by_place (inl lt) = inl (h.0, h.1, lt, sym (get_or_append_left xs (y ∷ []) h.1 h.0 lt) ∙ h.3, h.4)
      by_place (inr le) =
          let last : length xs ≡ h.0 = omega (arith, h.2, length-append xs (y ∷ [])) in
          inr (subst P (sym h.3 ∙ ap (λ n. get_or (xs ++ y ∷ []) n h.1) (sym last) ∙ get_or-append_seam xs y [] h.1) h.4)

  pub All-split : (xs : List X) (y : X) → All P (xs ++ y ∷ []) → All P xs × P y
  All-split xs y h = (
    (λ k d lt. subst P (get_or_append_left xs (y ∷ []) d k lt) (h k d (omega (arith, length-append xs (y ∷ []))))),
    subst P (get_or-append_seam xs y [] y) (h (length xs) y (omega (arith, length-append xs (y ∷ [])))),
  )

-- a clause reads only its own variables
pub clause_agrees : (n : ℕ) (v u : V) (c : List Lit) → IsWithin n c → Agrees n v u → MeetsClause v c → MeetsClause u c
clause_agrees n v u c h same m =
    (m.0, m.1, m.2, m.3, same m.1.var (subst (λ (l : Lit). l.var < n) m.3 (h m.0 m.1 m.2)) ∙ m.4)

pub clauses_agree : (n : ℕ) (v u : V) (K : List (List Lit)) → AreWithin n K → Agrees n v u → MeetsAll v K → MeetsAll u K
clauses_agree n v u K h same m = λ k d lt. clause_agrees n v u (get_or K k d) (h k d lt) same (m k d lt)

pub within_more : (n k : ℕ) (c : List Lit) → n ≤ k → IsWithin n c → IsWithin k c
within_more n k c le h = λ i d lt. let below = h i d lt in omega arith

pub are_within_more : (n k : ℕ) (K : List (List Lit)) → n ≤ k → AreWithin n K → AreWithin k K
are_within_more n k K le h = λ i d lt. within_more n k (get_or K i d) le (h i d lt)

pub agrees_less : (n k : ℕ) (v u : V) → n ≤ k → Agrees k v u → Agrees n v u
agrees_less n k v u le h = λ i lt. h i (omega arith)

pub agrees_on : (n : ℕ) (v u t : V) → Agrees n v u → Agrees n u t → Agrees n v t
agrees_on n v u t h k = λ i lt. k i lt ∙ h i lt

-- one variable reassigned
abbrev pub given : V → ℕ → Bool → V
given v h b = λ k. cond (k == h) b (v k)

pub given-same : (v : V) (h : ℕ) (b : Bool) → given v h b h ≡ b
given-same v h b = ap (λ t. cond t b (v h)) ((Decides-eqb h h).1 refl)

pub given-agrees : (v : V) (n : ℕ) (b : Bool) → Agrees n v (given v n b)
given-agrees v n b k lt = by_case (k == n) refl
  where
    by_case : (t : Bool) → (k == n) ≡ t → cond t b (v k) ≡ v k
    by_case true e = let same : k ≡ n = (Decides-eqb k n).0 e in absurd (omega arith)
    by_case false e = refl

pub meets_only : (v : V) (l : Lit) → MeetsClause v (l ∷ []) → v l.var ≡ l.positive
meets_only v l h = by_case (Any-push_cases (λ l. v l.var ≡ l.positive) [] l h)
  where
    by_case : Any (λ (l : Lit). v l.var ≡ l.positive) [] ⊎ (v l.var ≡ l.positive) → v l.var ≡ l.positive
    by_case (inl c) = absurd (omega (arith, c.2))
    by_case (inr c) = c

module _ (base : ℕ) (prefix : List Lit) where
  -- equivalent meanings are interchangeable
  pub adds_same : (M N : V → Type 0) (n : ℕ) (K : List (List Lit)) (k : ℕ) (L : List (List Lit)) → ((v : V) → M v → N v) → ((v : V) → N v → M v) → Adds base prefix M n K k L → Adds base prefix N n K k L
  adds_same M N n K k L to from h = record {
    over = h.over;
    grows = h.grows;
    before = h.before;
    after = h.after;
    sound = λ v m. let r = h.sound v m in (r.0, turned v r.1);
    complete = λ a v same m p. h.complete a v same m (back a v p);
  }
    where
      turned : (v : V) → MeetsClause v prefix ⊎ M v → MeetsClause v prefix ⊎ N v
      turned v (inl c) = inl c
      turned v (inr c) = inr (to v c)

      back : (a v : V) → MeetsClause v prefix ⊎ N a → MeetsClause v prefix ⊎ M a
      back a v (inl c) = inl c
      back a v (inr c) = inr (from a c)

  -- a true meaning needs no clause
  pub adds_nothing : (M : V → Type 0) (n : ℕ) (K : List (List Lit)) → base ≤ n → AreWithin n K → ((v : V) → M v) → Adds base prefix M n K n K
  adds_nothing M n K le h true_ = record {
    over = le;
    grows = omega arith;
    before = h;
    after = h;
    sound = λ v m. (m, inr (true_ v));
    complete = λ a v same m p. (v, (λ i lt. refl), m);
  }

  -- a false meaning leaves the prefix as the clause
  pub adds_prefix : (M : V → Type 0) (n : ℕ) (K : List (List Lit)) → base ≤ n → AreWithin n K → IsWithin n prefix → ((v : V) → ¬ M v) → Adds base prefix M n K n (K ++ prefix ∷ [])
  adds_prefix M n K le h inside false_ = record {
    over = le;
    grows = omega arith;
    before = h;
    after = All-push (IsWithin n) K prefix h inside;
    sound = λ v m. let r = All-split (MeetsClause v) K prefix m in (r.0, inl r.1);
    complete = λ a v same m p. (v, (λ i lt. refl), All-push (MeetsClause v) K prefix m (only a v p));
  }
    where
      only : (a v : V) → MeetsClause v prefix ⊎ M a → MeetsClause v prefix
      only a v (inl c) = c
      only a v (inr c) = absurd (false_ a c)

  -- a literal is put behind the prefix
  pub adds_literal : (M : V → Type 0) (n : ℕ) (K : List (List Lit)) (l : Lit) → base ≤ n → AreWithin n K → IsWithin n prefix → l.var < base → ((v : V) → (v l.var ≡ l.positive) ↔ M v) → Adds base prefix M n K n (K ++ (prefix ++ l ∷ []) ∷ [])
  adds_literal M n K l le h inside lt means = record {
    over = le;
    grows = omega arith;
    before = h;
    after = All-push (IsWithin n) K (prefix ++ l ∷ []) h (All-push (λ (l : Lit). l.var < n) prefix l inside (omega arith));
    sound = λ v m. let r = All-split (MeetsClause v) K (prefix ++ l ∷ []) m in (r.0, turned v (Any-push_cases (λ l. v l.var ≡ l.positive) prefix l r.1));
    complete = λ a v same m p. (v, (λ i lt. refl), All-push (MeetsClause v) K (prefix ++ l ∷ []) m (back a v same p));
  }
    where
      turned : (v : V) → MeetsClause v prefix ⊎ (v l.var ≡ l.positive) → MeetsClause v prefix ⊎ M v
      turned v (inl c) = inl c
      turned v (inr c) = inr ((means v).0 c)

      back : (a v : V) → Agrees base a v → MeetsClause v prefix ⊎ M a → MeetsClause v (prefix ++ l ∷ [])
      back a v same (inl c) = Any-wider (λ l. v l.var ≡ l.positive) prefix l c
      back a v same (inr c) = Any-push (λ l. v l.var ≡ l.positive) prefix l (same l.var lt ∙ (means a).1 c)

  -- two meanings added in turn are their conjunction
  pub adds_and : (M N : V → Type 0) (n : ℕ) (K : List (List Lit)) (k : ℕ) (L : List (List Lit)) (j : ℕ) (J : List (List Lit)) → IsWithin n prefix → Adds base prefix M n K k L → Adds base prefix N k L j J → Adds base prefix (λ v. M v × N v) n K j J
  adds_and M N n K k L j J inside g h = record {
    over = g.over;
    grows = omega (arith, g.grows, h.grows);
    before = g.before;
    after = h.after;
    sound = λ v m. let r = h.sound v m in let q = g.sound v r.0 in (q.0, both v q.1 r.1);
    complete = λ a v same m p.
        let r = g.complete a v same m (left a v p) in
        let q = h.complete a r.0 (agrees_on base a v r.0 same (agrees_less base n v r.0 g.over r.1)) r.2 (right a v r.0 r.1 p) in
        (q.0, agrees_on n v r.0 q.0 r.1 (agrees_less n k r.0 q.0 g.grows q.1), q.2);
  }
    where
      both : (v : V) → MeetsClause v prefix ⊎ M v → MeetsClause v prefix ⊎ N v → MeetsClause v prefix ⊎ (M v × N v)
      both v (inl c) _ = inl c
      both v (inr c) (inl d) = inl d
      both v (inr c) (inr d) = inr (c, d)

      left : (a v : V) → MeetsClause v prefix ⊎ (M a × N a) → MeetsClause v prefix ⊎ M a
      left a v (inl c) = inl c
      left a v (inr c) = inr c.0

      right : (a v u : V) → Agrees n v u → MeetsClause v prefix ⊎ (M a × N a) → MeetsClause u prefix ⊎ N a
      right a v u same (inl c) = inl (clause_agrees n v u prefix inside same c)
      right a v u same (inr c) = inr c.1

  -- a disjunction of nothing begins as the prefix
  pub offers_none : (M : V → Type 0) (n : ℕ) (K : List (List Lit)) → base ≤ n → AreWithin n K → IsWithin n prefix → ((v : V) → ¬ M v) → Offers base prefix M n K n K prefix
  offers_none M n K le h inside false_ = record {
    over = le;
    grows = omega arith;
    before = h;
    after = h;
    inside = inside;
    sound = λ v m. (m, λ c. inl c);
    idle = λ a v same m. (v, (λ i lt. refl), m);
    complete = λ a v same m p. (v, (λ i lt. refl), m, only a v p);
  }
    where
      only : (a v : V) → MeetsClause v prefix ⊎ M a → MeetsClause v prefix
      only a v (inl c) = c
      only a v (inr c) = absurd (false_ a c)

  module _ (M N : V → Type 0) (n : ℕ) (K : List (List Lit)) (k : ℕ) (L : List (List Lit)) (clause : List Lit) (g : Offers base prefix M n K k L clause) where
    pub offers_same : ((v : V) → M v → N v) → ((v : V) → N v → M v) → Offers base prefix N n K k L clause
    offers_same to from = record {
      over = g.over;
      grows = g.grows;
      before = g.before;
      after = g.after;
      inside = g.inside;
      sound = λ v m. let r = g.sound v m in (r.0, λ c. turned v (r.1 c));
      idle = g.idle;
      complete = λ a v same m p. g.complete a v same m (back a v p);
    }
      where
        turned : (v : V) → MeetsClause v prefix ⊎ M v → MeetsClause v prefix ⊎ N v
        turned v (inl c) = inl c
        turned v (inr c) = inr (to v c)

        back : (a v : V) → MeetsClause v prefix ⊎ N a → MeetsClause v prefix ⊎ M a
        back a v (inl c) = inl c
        back a v (inr c) = inr (from a c)

    either : (v : V) → MeetsClause v prefix ⊎ M v → MeetsClause v prefix ⊎ (M v ⊎ N v)
    either v (inl c) = inl c
    either v (inr c) = inr (inl c)

    -- a disjunct that is a literal joins the clause
    pub offers_literal : (l : Lit) → l.var < base → ((v : V) → (v l.var ≡ l.positive) ↔ N v) → Offers base prefix (λ v. M v ⊎ N v) n K k L (clause ++ l ∷ [])
    offers_literal l lt means = record {
      over = g.over;
      grows = g.grows;
      before = g.before;
      after = g.after;
      inside = All-push (λ (l : Lit). l.var < k) clause l g.inside (omega (arith, g.over, g.grows));
      sound = λ v m. let r = g.sound v m in (r.0, λ c. by_literal v r.1 (Any-push_cases (λ l. v l.var ≡ l.positive) clause l c));
      idle = g.idle;
      complete = λ a v same m p. found a v same m p;
    }
      where
        by_literal : (v : V) → (MeetsClause v clause → MeetsClause v prefix ⊎ M v) → MeetsClause v clause ⊎ (v l.var ≡ l.positive) → MeetsClause v prefix ⊎ (M v ⊎ N v)
        by_literal v f (inl c) = either v (f c)
        by_literal v f (inr c) = inr (inr ((means v).0 c))

        wider : (v : V) → (u : V) × Agrees n v u × MeetsAll u L × MeetsClause u clause → (u : V) × Agrees n v u × MeetsAll u L × MeetsClause u (clause ++ l ∷ [])
        wider v r = (r.0, r.1, r.2, Any-wider (λ k. r.0 k.var ≡ k.positive) clause l r.3)

        found : (a v : V) → Agrees base a v → MeetsAll v K → MeetsClause v prefix ⊎ (M a ⊎ N a) → (u : V) × Agrees n v u × MeetsAll u L × MeetsClause u (clause ++ l ∷ [])
        found a v same m (inl c) = wider v (g.complete a v same m (inl c))
        found a v same m (inr (inl c)) = wider v (g.complete a v same m (inr c))
        found a v same m (inr (inr c)) =
            let r = g.idle a v same m in
            (r.0, r.1, r.2, Any-push (λ k. r.0 k.var ≡ k.positive) clause l (r.1 l.var (omega (arith, g.over)) ∙ same l.var lt ∙ (means a).1 c))

    -- any other disjunct is implied by a new variable, which joins the clause
    pub offers_helper : (j : ℕ) (J : List (List Lit)) → Adds base (record { var = k; positive = false } ∷ []) N (suc k) L j J → Offers base prefix (λ v. M v ⊎ N v) n K j J (clause ++ record { var = k; positive = true } ∷ [])
    offers_helper j J h = record {
      over = g.over;
      grows = omega (arith, g.grows, h.grows);
      before = g.before;
      after = h.after;
      inside = All-push (λ (l : Lit). l.var < j) clause _ (within_more k j clause (omega (arith, h.grows)) g.inside) (omega (arith, h.grows));
      sound = λ v m. let r = h.sound v m in let q = g.sound v r.0 in (q.0, λ c. by_helper v q.1 r.1 (Any-push_cases (λ l. v l.var ≡ l.positive) clause _ c));
      idle = λ a v same m. off v (g.idle a v same m) a same;
      complete = λ a v same m p. found a v same m p;
    }
      where
        by_helper : (v : V) → (MeetsClause v clause → MeetsClause v prefix ⊎ M v) → MeetsClause v (record { var = k; positive = false } ∷ []) ⊎ N v → MeetsClause v clause ⊎ (v k ≡ true) → MeetsClause v prefix ⊎ (M v ⊎ N v)
        by_helper v f _ (inl c) = either v (f c)
        by_helper v f (inr d) (inr c) = inr (inr d)
        by_helper v f (inl d) (inr c) = absurd (true≢false (sym c ∙ meets_only v (record { var = k; positive = false }) d))

        -- values for the new variable and for those that its disjunct brings
        set_to : (b : Bool) (v : V) (r : (u : V) × Agrees n v u × MeetsAll u L) (a : V) → Agrees base a v → MeetsClause (given r.0 k b) (record { var = k; positive = false } ∷ []) ⊎ N a → (u : V) × Agrees n v u × MeetsAll u J × Agrees k r.0 u × (u k ≡ b)
        set_to b v r a same p =
            let u = given r.0 k b in
            let below = given-agrees r.0 k b in
            let q = h.complete a u (agrees_on base a v u same (agrees_on base v r.0 u (agrees_less base n v r.0 g.over r.1) (agrees_less base k r.0 u (omega (arith, g.over, g.grows)) below))) (clauses_agree k r.0 u L g.after below r.2) p in
            (q.0, agrees_on n v r.0 q.0 r.1 (agrees_on n r.0 u q.0 (agrees_less n k r.0 u g.grows below) (agrees_less n (suc k) u q.0 (omega (arith, g.grows)) q.1)), q.2, agrees_on k r.0 u q.0 below (agrees_less k (suc k) u q.0 (omega arith) q.1), q.1 k (omega arith) ∙ given-same r.0 k b)

        off : (v : V) → (u : V) × Agrees n v u × MeetsAll u L → (a : V) → Agrees base a v → (u : V) × Agrees n v u × MeetsAll u J
        off v r a same = let q = set_to false v r a same (inl (0, _, omega arith, refl, given-same r.0 k false)) in (q.0, q.1, q.2)

        kept : (v : V) → (u : V) × Agrees n v u × MeetsAll u L × MeetsClause u clause → (a : V) → Agrees base a v → (u : V) × Agrees n v u × MeetsAll u J × MeetsClause u (clause ++ record { var = k; positive = true } ∷ [])
        kept v r a same =
            let q = set_to false v (r.0, r.1, r.2) a same (inl (0, record { var = k; positive = false }, omega arith, refl, given-same r.0 k false)) in
            (q.0, q.1, q.2, Any-wider (λ l. q.0 l.var ≡ l.positive) clause (record { var = k; positive = true }) (clause_agrees k r.0 q.0 clause g.inside q.3 r.3))

        found : (a v : V) → Agrees base a v → MeetsAll v K → MeetsClause v prefix ⊎ (M a ⊎ N a) → (u : V) × Agrees n v u × MeetsAll u J × MeetsClause u (clause ++ record { var = k; positive = true } ∷ [])
        found a v same m (inl c) = kept v (g.complete a v same m (inl c)) a same
        found a v same m (inr (inl c)) = kept v (g.complete a v same m (inr c)) a same
        found a v same m (inr (inr c)) =
            let q = set_to true v (g.idle a v same m) a same (inr c) in
            (q.0, q.1, q.2, Any-push (λ l. q.0 l.var ≡ l.positive) clause (record { var = k; positive = true }) q.4)

    -- the finished clause is added
    pub offers_added : Adds base prefix M n K k (L ++ clause ∷ [])
    offers_added = record {
      over = g.over;
      grows = g.grows;
      before = g.before;
      after = All-push (IsWithin k) L clause g.after g.inside;
      sound = λ v m. let r = All-split (MeetsClause v) L clause m in let q = g.sound v r.0 in (q.0, q.1 r.1);
      complete = λ a v same m p. let r = g.complete a v same m p in (r.0, r.1, All-push (MeetsClause r.0) L clause r.2 r.3);
    }
