-- The meaning of the two- and three-literal clauses from which the axioms are made, and of a loop that adds them.
use Rattle.std.proofs.Common.{◌≡◌, ◌↔◌, ℕ, zero, suc, Bool, true, false, ◌+◌, ◌<◌, ◌≤◌, ◌⊎◌, inl, inr, List, [], ◌∷◌, ◌++◌, length, get_or, take, refl, sym, subst, ◌∙◌, arith, true≢false}
use Rattle.std.specs.List.{All}
use Rattle.std.proofs.lemmas.Bool.{cases_lt}
use Rattle.std.proofs.lemmas.List.{take_all}
use Rattle.std.proofs.lemmas.List.Elements.{All-nil, All-cons, All-push}
use Rattle.fo_core.specs.declared.formula.Formula.{Formula}
use Rattle.prop_core.specs.declared.lit.Lit.{Lit}
use Rattle.prop_core.specs.Formula.{MeetsClause, IsWithin, AreWithin}
use Rattle.fo_terms.specs.declared.terms.Universe.{Universe}
use Rattle.fo_ground.specs.declared.layout.Layout.{Layout}
use Rattle.fo_ground.specs.Emits.{Agrees, Adds, rule, implied}
use Rattle.fo_terms.specs.Universe.{IsOf}
use Rattle.fo_ground.specs.Layout.{first_of, size_of, IsLaidOut, IsMetBy}
use Rattle.fo_ground.proofs.Emitting.{All-split, clause_agrees, within_more, adds_same, adds_nothing, adds_and}

abbrev V : Type 0
V = ℕ → Bool

-- one clause over the atoms' variables means itself
pub adds_clause : (base : ℕ) (c : List Lit) (n : ℕ) (K : List (List Lit)) → base ≤ n → AreWithin n K → IsWithin base c → Adds base [] (λ v. MeetsClause v c) n K n (K ++ c ∷ [])
adds_clause base c n K le h inside = record {
  over = le;
  grows = omega arith;
  before = h;
  after = All-push (IsWithin n) K c h (within_more base n c le inside);
  sound = λ v m. let r = All-split (MeetsClause v) K c m in (r.0, inr r.1);
  complete = λ a v same m p. (v, (λ i lt. refl), All-push (MeetsClause v) K c m (met a v same p));
}
  where
    met : (a v : V) → Agrees base a v → MeetsClause v [] ⊎ MeetsClause a c → MeetsClause v c
    met a v same (inl e) = absurd (omega (arith, e.2))
    met a v same (inr m) = clause_agrees base a v c inside same m

rule-within : (n x y z : ℕ) → x < n → y < n → z < n → IsWithin n (rule x y z)
rule-within n x y z a b c =
    let ly : Lit = record { var = y; positive = false } in
    let lz : Lit = record { var = z; positive = true } in
    All-cons (λ (l : Lit). l.var < n) (record { var = x; positive = false }) (ly ∷ lz ∷ []) a (All-cons (λ (l : Lit). l.var < n) ly (lz ∷ []) b (All-cons (λ (l : Lit). l.var < n) lz [] c (All-nil (λ (l : Lit). l.var < n))))

rule-means : (v : V) (x y z : ℕ) → MeetsClause v (rule x y z) ↔ (v x ≡ true → v y ≡ true → v z ≡ true)
rule-means v x y z = ((λ m. some m.0 m.1 m.2 m.3 m.4), (λ f. by_x (v x) refl f))
  where
    some : (k : ℕ) (l : Lit) → k < 3 → get_or (rule x y z) k l ≡ l → v l.var ≡ l.positive → v x ≡ true → v y ≡ true → v z ≡ true
    some zero l lt e m tx ty = absurd (true≢false (sym tx ∙ subst (λ (l : Lit). v l.var ≡ l.positive) (sym e) m))
    some (suc zero) l lt e m tx ty = absurd (true≢false (sym ty ∙ subst (λ (l : Lit). v l.var ≡ l.positive) (sym e) m))
    some (suc (suc zero)) l lt e m tx ty = subst (λ (l : Lit). v l.var ≡ l.positive) (sym e) m
    some (suc (suc (suc k))) l lt e m tx ty = absurd (omega arith)

    by_y : v x ≡ true → (b : Bool) → v y ≡ b → (v x ≡ true → v y ≡ true → v z ≡ true) → MeetsClause v (rule x y z)
    by_y tx false e f = (1, record { var = y; positive = false }, omega arith, refl, e)
    by_y tx true e f = (2, record { var = z; positive = true }, omega arith, refl, f tx e)

    by_x : (b : Bool) → v x ≡ b → (v x ≡ true → v y ≡ true → v z ≡ true) → MeetsClause v (rule x y z)
    by_x false e f = (0, record { var = x; positive = false }, omega arith, refl, e)
    by_x true e f = by_y e (v y) refl f

implied-within : (n x z : ℕ) → x < n → z < n → IsWithin n (implied x z)
implied-within n x z a c =
    let lz : Lit = record { var = z; positive = true } in
    All-cons (λ (l : Lit). l.var < n) (record { var = x; positive = false }) (lz ∷ []) a (All-cons (λ (l : Lit). l.var < n) lz [] c (All-nil (λ (l : Lit). l.var < n)))

implied-means : (v : V) (x z : ℕ) → MeetsClause v (implied x z) ↔ (v x ≡ true → v z ≡ true)
implied-means v x z = ((λ m. some m.0 m.1 m.2 m.3 m.4), (λ f. by_x (v x) refl f))
  where
    some : (k : ℕ) (l : Lit) → k < 2 → get_or (implied x z) k l ≡ l → v l.var ≡ l.positive → v x ≡ true → v z ≡ true
    some zero l lt e m tx = absurd (true≢false (sym tx ∙ subst (λ (l : Lit). v l.var ≡ l.positive) (sym e) m))
    some (suc zero) l lt e m tx = subst (λ (l : Lit). v l.var ≡ l.positive) (sym e) m
    some (suc (suc k)) l lt e m tx = absurd (omega arith)

    by_x : (b : Bool) → v x ≡ b → (v x ≡ true → v z ≡ true) → MeetsClause v (implied x z)
    by_x false e f = (0, record { var = x; positive = false }, omega arith, refl, e)
    by_x true e f = (1, record { var = z; positive = true }, omega arith, refl, f e)

unit-means : (v : V) (z : ℕ) → MeetsClause v (record { var = z; positive = true } ∷ []) ↔ (v z ≡ true)
unit-means v z = ((λ m. some m.0 m.1 m.2 m.3 m.4), (λ t. (0, record { var = z; positive = true }, omega arith, refl, t)))
  where
    some : (k : ℕ) (l : Lit) → k < 1 → get_or (record { var = z; positive = true } ∷ []) k l ≡ l → v l.var ≡ l.positive → v z ≡ true
    some zero l lt e m = subst (λ (l : Lit). v l.var ≡ l.positive) (sym e) m
    some (suc k) l lt e m = absurd (omega arith)

module _ (n : ℕ) (K : List (List Lit)) (within : AreWithin n K) (base : ℕ) (le : base ≤ n) where
  pub rule-added : (x y z : ℕ) → x < base → y < base → z < base → Adds base [] (λ v. v x ≡ true → v y ≡ true → v z ≡ true) n K n (K ++ rule x y z ∷ [])
  rule-added x y z a b c = adds_same base [] (λ v. MeetsClause v (rule x y z)) (λ v. v x ≡ true → v y ≡ true → v z ≡ true) n K n (K ++ rule x y z ∷ [])
      (λ v. (rule-means v x y z).0) (λ v. (rule-means v x y z).1) (adds_clause base (rule x y z) n K le within (rule-within base x y z a b c))

  pub implied-added : (x z : ℕ) → x < base → z < base → Adds base [] (λ v. v x ≡ true → v z ≡ true) n K n (K ++ implied x z ∷ [])
  implied-added x z a c = adds_same base [] (λ v. MeetsClause v (implied x z)) (λ v. v x ≡ true → v z ≡ true) n K n (K ++ implied x z ∷ [])
      (λ v. (implied-means v x z).0) (λ v. (implied-means v x z).1) (adds_clause base (implied x z) n K le within (implied-within base x z a c))

  pub unit-added : (z : ℕ) → z < base → Adds base [] (λ v. v z ≡ true) n K n (K ++ (record { var = z; positive = true } ∷ []) ∷ [])
  unit-added z c = adds_same base [] (λ v. MeetsClause v (record { var = z; positive = true } ∷ [])) (λ v. v z ≡ true) n K n (K ++ (record { var = z; positive = true } ∷ []) ∷ [])
      (λ v. (unit-means v z).0) (λ v. (unit-means v z).1)
      (adds_clause base (record { var = z; positive = true } ∷ []) n K le within (All-cons (λ (l : Lit). l.var < base) (record { var = z; positive = true }) [] c (All-nil (λ (l : Lit). l.var < base))))

pub none-within : (n : ℕ) → IsWithin n []
none-within n = All-nil (λ (l : Lit). l.var < n)

-- one thing for each number of a range
module _ (base : ℕ) (P : ℕ → V → Type 0) (n : ℕ) (K : List (List Lit)) (first : ℕ) where
  pub range-none : base ≤ n → AreWithin n K → Adds base [] (λ v. (i : ℕ) → first ≤ i → i < first → P i v) n K n K
  range-none over within = adds_nothing base [] (λ v. (i : ℕ) → first ≤ i → i < first → P i v) n K over within (λ v i ge lt. absurd (omega arith))

  pub range-more : (i k : ℕ) (L : List (List Lit)) (j : ℕ) (J : List (List Lit)) → first ≤ i → Adds base [] (λ v. (t : ℕ) → first ≤ t → t < i → P t v) n K k L → Adds base [] (P i) k L j J →
      Adds base [] (λ v. (t : ℕ) → first ≤ t → t < i + 1 → P t v) n K j J
  range-more i k L j J ge a b = adds_same base [] (λ v. ((t : ℕ) → first ≤ t → t < i → P t v) × P i v) (λ v. (t : ℕ) → first ≤ t → t < i + 1 → P t v) n K j J
      (λ v h t le lt. by_place v h t le lt (cases_lt t i))
      (λ v h. ((λ t le lt. h t le (omega arith)), h i ge (omega arith)))
      (adds_and base [] (λ v. (t : ℕ) → first ≤ t → t < i → P t v) (P i) n K k L j J (none-within n) a b)
    where
      by_place : (v : V) → ((t : ℕ) → first ≤ t → t < i → P t v) × P i v → (t : ℕ) → first ≤ t → t < i + 1 → (t < i) ⊎ (i ≤ t) → P t v
      by_place v h t le lt (inl below) = h.0 t le below
      by_place v h t le lt (inr at) = let e : i ≡ t = omega arith in subst (λ t. P t v) e h.1

  -- where these numbers are those of which something else is asked
  pub range-as : (Q : ℕ → Type 0) (t k : ℕ) (L : List (List Lit)) → ((i : ℕ) → Q i → (first ≤ i) × (i < t)) → ((i : ℕ) → first ≤ i → i < t → Q i) →
      Adds base [] (λ v. (i : ℕ) → first ≤ i → i < t → P i v) n K k L → Adds base [] (λ v. (i : ℕ) → Q i → P i v) n K k L
  range-as Q t k L to from a = adds_same base [] (λ v. (i : ℕ) → first ≤ i → i < t → P i v) (λ v. (i : ℕ) → Q i → P i v) n K k L
      (λ v h i q. let b = to i q in h i b.0 b.1) (λ v h i le lt. h i (from i le lt)) a

module _ (u : Universe) (lay : Layout) (r : IsLaidOut u lay) (s : ℕ) (below : s < lay.sig.sorts) (P : ℕ → V → Type 0) (n : ℕ) (K : List (List Lit)) where
  -- one thing for each term of a sort
  pub block-all : (first t k : ℕ) (L : List (List Lit)) → first ≡ first_of u lay s → t ≡ first_of u lay s + size_of u lay s →
      Adds lay.base [] (λ v. (i : ℕ) → first ≤ i → i < t → P i v) n K k L → Adds lay.base [] (λ v. (i : ℕ) → IsOf u.terms s i → P i v) n K k L
  block-all first t k L is end a = range-as lay.base P n K first (IsOf u.terms s) t k L
      (λ i of. let b = (r.blocks s i below).0 of in (omega (arith, b.0), omega (arith, b.1)))
      (λ i ge lt. (r.blocks s i below).1 (omega arith, omega arith)) a

  -- one thing for each term of a sort behind one
  pub later-all : (p t k : ℕ) (L : List (List Lit)) → IsOf u.terms s p → t ≡ first_of u lay s + size_of u lay s →
      Adds lay.base [] (λ v. (i : ℕ) → p + 1 ≤ i → i < t → P i v) n K k L → Adds lay.base [] (λ v. (i : ℕ) → p < i → IsOf u.terms s i → P i v) n K k L
  later-all p t k L of end a = adds_same lay.base [] (λ v. (i : ℕ) → p + 1 ≤ i → i < t → P i v) (λ v. (i : ℕ) → p < i → IsOf u.terms s i → P i v) n K k L
      (λ v h i lt at. let b = (r.blocks s i below).0 at in h i (omega arith) (omega (arith, b.1)))
      (λ v h i ge lt. let b = (r.blocks s p below).0 of in h i (omega arith) ((r.blocks s i below).1 (omega (arith, b.0), omega arith))) a

-- a prefix of the claims that is as long as they are is all of them
pub claims-all : (u : Universe) (lay : Layout) (fs : List Formula) (i n : ℕ) (K : List (List Lit)) (k : ℕ) (L : List (List Lit)) → length fs ≤ i →
    Adds lay.base [] (λ v. All (λ f. IsMetBy u lay f [] v) (take i fs)) n K k L → Adds lay.base [] (λ v. All (λ f. IsMetBy u lay f [] v) fs) n K k L
claims-all u lay fs i n K k L le h = adds_same lay.base [] (λ v. All (λ f. IsMetBy u lay f [] v) (take i fs)) (λ v. All (λ f. IsMetBy u lay f [] v) fs) n K k L
    (λ v m. subst (All (λ f. IsMetBy u lay f [] v)) (take_all i fs le) m) (λ v m. subst (All (λ f. IsMetBy u lay f [] v)) (sym (take_all i fs le)) m) h
