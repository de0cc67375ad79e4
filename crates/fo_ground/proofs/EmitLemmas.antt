-- One step of emitting a formula, for each of its constructors.
use Rattle.std.proofs.Common.{◌≡◌, ℕ, suc, Bool, true, false, ◌+◌, ◌<◌, ◌≤◌, ◌⊎◌, inl, inr, List, [], ◌∷◌, ◌++◌, length, get_or, take, sym, ap, subst, ◌∙◌, arith, true≢false, add-one, length-append}
use Rattle.std.specs.List.{All, Any}
use Rattle.std.specs.Prelude.{Option, Some, None, IsSome}
use Rattle.std.specs.Option.{option_to_list}
use Rattle.std.proofs.lemmas.Bool.{cases_lt}
use Rattle.std.proofs.lemmas.List.Elements.{All-nil, All-cons, All-push, AllZip-push}
use Rattle.std.proofs.lemmas.List.Quantifiers.{Any-push}
use Rattle.std.proofs.lemmas.List.{take_all}
use Rattle.std.proofs.Math.Seq.{take-suc, take-append_seam}
use Rattle.fo_core.specs.declared.formula.Formula.{Formula, True, False}
use Rattle.fo_core.specs.declared.formula.Formula.TheVariants as F
use Rattle.fo_core.proofs.Rows.{sorted-And, sorted-Or, sorted-All}
use Rattle.prop_core.specs.declared.lit.Lit.{Lit}
use Rattle.prop_core.specs.Formula.{IsWithin, AreWithin}
use Rattle.fo_terms.specs.declared.terms.Universe.{Universe}
use Rattle.fo_terms.specs.Universe.{IsOf}
use Rattle.fo_ground.specs.declared.layout.Layout.{Layout}
use Rattle.fo_ground.specs.Emits.{Adds, Offers}
use Rattle.fo_ground.specs.Layout.{slot, first_of, size_of, same_by, fact_by, IsLaidOut, HasInstance, IsLiteralOf, IsMetBy}
use Rattle.fo_ground.proofs.MetRows.{met-And, met-Or, met-All}
use Rattle.fo_ground.proofs.Emitting.{Any-push_cases, Any-wider, All-split, adds_same, adds_nothing, adds_prefix, adds_literal, adds_and, offers_none, offers_same, offers_literal, offers_helper, offers_added}

abbrev V : Type 0
V = ℕ → Bool

module _ {X : Type 0} (P : X → Type 0) where
  front : (xs : List X) (i : ℕ) (x : X) → i < length xs → x ≡ get_or xs i x → take (i + 1) xs ≡ take i xs ++ x ∷ []
  front xs i x lt is = rw add-one (take-suc xs i x lt ∙ ap (λ y. take i xs ++ y ∷ []) (sym is))

  all_and : (xs : List X) (i : ℕ) (x : X) → i < length xs → x ≡ get_or xs i x → All P (take i xs) × P x → All P (take (i + 1) xs)
  all_and xs i x lt is h = subst (All P) (sym (front xs i x lt is)) (All-push P (take i xs) x h.0 h.1)

  all_parts : (xs : List X) (i : ℕ) (x : X) → i < length xs → x ≡ get_or xs i x → All P (take (i + 1) xs) → All P (take i xs) × P x
  all_parts xs i x lt is h = All-split P (take i xs) x (subst (All P) (front xs i x lt is) h)

  any_or : (xs : List X) (i : ℕ) (x : X) → i < length xs → x ≡ get_or xs i x → Any P (take i xs) ⊎ P x → Any P (take (i + 1) xs)
  any_or xs i x lt is h = subst (Any P) (sym (front xs i x lt is)) (by_case h)
    where
      by_case : Any P (take i xs) ⊎ P x → Any P (take i xs ++ x ∷ [])
      by_case (inl h) = Any-wider P (take i xs) x h
      by_case (inr h) = Any-push P (take i xs) x h

  any_parts : (xs : List X) (i : ℕ) (x : X) → i < length xs → x ≡ get_or xs i x → Any P (take (i + 1) xs) → Any P (take i xs) ⊎ P x
  any_parts xs i x lt is h = Any-push_cases P (take i xs) x (subst (Any P) (front xs i x lt is) h)

module _ (u : Universe) (lay : Layout) (env : List ℕ) (prefix : List Lit) (n : ℕ) (K : List (List Lit)) where
  abbrev Met : Formula → V → Type 0
  Met f v = IsMetBy u lay f env v

  pub literal-added : (f : Formula) (l : Lit) → IsLiteralOf u lay f env l → lay.base ≤ n → AreWithin n K → IsWithin n prefix → Adds lay.base prefix (IsMetBy u lay f env) n K n (K ++ (prefix ++ l ∷ []) ∷ [])
  literal-added f l h over within inside = adds_literal lay.base prefix (IsMetBy u lay f env) n K l over within inside h.within h.means

  pub True-added : lay.base ≤ n → AreWithin n K → Adds lay.base prefix (IsMetBy u lay True env) n K n K
  True-added over within = adds_nothing lay.base prefix (IsMetBy u lay True env) n K over within (λ v. tt)

  pub False-added : lay.base ≤ n → AreWithin n K → IsWithin n prefix → Adds lay.base prefix (IsMetBy u lay False env) n K n (K ++ prefix ∷ [])
  False-added over within inside = adds_prefix lay.base prefix (IsMetBy u lay False env) n K over within inside (λ v h. h)

  module _ (fs : List Formula) where
    pub each-none : lay.base ≤ n → AreWithin n K → Adds lay.base prefix (λ v. All (λ f. IsMetBy u lay f env v) (take 0 fs)) n K n K
    each-none over within = adds_nothing lay.base prefix (λ v. All (λ f. IsMetBy u lay f env v) (take 0 fs)) n K over within (λ v k d lt. absurd (omega arith))

    pub each-more : (i : ℕ) (g : Formula) (k : ℕ) (L : List (List Lit)) (j : ℕ) (J : List (List Lit)) → IsWithin n prefix → i < length fs → g ≡ get_or fs i g →
        Adds lay.base prefix (λ v. All (λ f. IsMetBy u lay f env v) (take i fs)) n K k L → Adds lay.base prefix (IsMetBy u lay g env) k L j J →
        Adds lay.base prefix (λ v. All (λ f. IsMetBy u lay f env v) (take (i + 1) fs)) n K j J
    each-more i g k L j J inside lt is a b =
        adds_same lay.base prefix (λ v. All (λ f. IsMetBy u lay f env v) (take i fs) × IsMetBy u lay g env v) (λ v. All (λ f. IsMetBy u lay f env v) (take (i + 1) fs)) n K j J
        (λ v. all_and (λ f. IsMetBy u lay f env v) fs i g lt is) (λ v. all_parts (λ f. IsMetBy u lay f env v) fs i g lt is)
        (adds_and lay.base prefix (λ v. All (λ f. IsMetBy u lay f env v) (take i fs)) (IsMetBy u lay g env) n K k L j J inside a b)

    pub each-all : (i k : ℕ) (L : List (List Lit)) → length fs ≤ i → Adds lay.base prefix (λ v. All (λ f. IsMetBy u lay f env v) (take i fs)) n K k L → Adds lay.base prefix (IsMetBy u lay (F.And fs) env) n K k L
    each-all i k L le a = adds_same lay.base prefix (λ v. All (λ f. IsMetBy u lay f env v) (take i fs)) (IsMetBy u lay (F.And fs) env) n K k L
        (λ v h. (met-And u.terms (slot u lay) (same_by u lay v) (fact_by u lay v) fs env).1 (subst (All (λ f. IsMetBy u lay f env v)) (take_all i fs le) h))
        (λ v h. subst (All (λ f. IsMetBy u lay f env v)) (sym (take_all i fs le)) ((met-And u.terms (slot u lay) (same_by u lay v) (fact_by u lay v) fs env).0 h)) a

    pub some-none : lay.base ≤ n → AreWithin n K → IsWithin n prefix → Offers lay.base prefix (λ v. Any (λ f. IsMetBy u lay f env v) (take 0 fs)) n K n K prefix
    some-none over within inside = offers_none lay.base prefix (λ v. Any (λ f. IsMetBy u lay f env v) (take 0 fs)) n K over within inside (λ v h. omega (arith, h.2))

    module _ (i : ℕ) (g : Formula) (k : ℕ) (L : List (List Lit)) (clause : List Lit) (lt : i < length fs) (is : g ≡ get_or fs i g)
        (o : Offers lay.base prefix (λ v. Any (λ f. IsMetBy u lay f env v) (take i fs)) n K k L clause) where
      pub some-literal : (l : Lit) → IsLiteralOf u lay g env l → Offers lay.base prefix (λ v. Any (λ f. IsMetBy u lay f env v) (take (i + 1) fs)) n K k L (clause ++ l ∷ [])
      some-literal l h =
          offers_same lay.base prefix (λ v. Any (λ f. IsMetBy u lay f env v) (take i fs) ⊎ IsMetBy u lay g env v) (λ v. Any (λ f. IsMetBy u lay f env v) (take (i + 1) fs)) n K k L (clause ++ l ∷ [])
          (offers_literal lay.base prefix (λ v. Any (λ f. IsMetBy u lay f env v) (take i fs)) (IsMetBy u lay g env) n K k L clause o l h.within h.means)
          (λ v. any_or (λ f. IsMetBy u lay f env v) fs i g lt is) (λ v. any_parts (λ f. IsMetBy u lay f env v) fs i g lt is)

      pub some-helper : (j : ℕ) (J : List (List Lit)) → Adds lay.base (record { var = k; positive = false } ∷ []) (IsMetBy u lay g env) (k + 1) L j J →
          Offers lay.base prefix (λ v. Any (λ f. IsMetBy u lay f env v) (take (i + 1) fs)) n K j J (clause ++ record { var = k; positive = true } ∷ [])
      some-helper j J h =
          let h' : Adds lay.base (record { var = k; positive = false } ∷ []) (IsMetBy u lay g env) (suc k) L j J = subst (λ n. Adds lay.base (record { var = k; positive = false } ∷ []) (IsMetBy u lay g env) n L j J) (add-one k) h in
          offers_same lay.base prefix (λ v. Any (λ f. IsMetBy u lay f env v) (take i fs) ⊎ IsMetBy u lay g env v) (λ v. Any (λ f. IsMetBy u lay f env v) (take (i + 1) fs)) n K j J (clause ++ record { var = k; positive = true } ∷ [])
          (offers_helper lay.base prefix (λ v. Any (λ f. IsMetBy u lay f env v) (take i fs)) (IsMetBy u lay g env) n K k L clause o j J h')
          (λ v. any_or (λ f. IsMetBy u lay f env v) fs i g lt is) (λ v. any_parts (λ f. IsMetBy u lay f env v) fs i g lt is)

    pub some-all : (i k : ℕ) (L : List (List Lit)) (clause : List Lit) → length fs ≤ i → Offers lay.base prefix (λ v. Any (λ f. IsMetBy u lay f env v) (take i fs)) n K k L clause → Adds lay.base prefix (IsMetBy u lay (F.Or fs) env) n K k (L ++ clause ∷ [])
    some-all i k L clause le o = adds_same lay.base prefix (λ v. Any (λ f. IsMetBy u lay f env v) (take i fs)) (IsMetBy u lay (F.Or fs) env) n K k (L ++ clause ∷ [])
        (λ v h. (met-Or u.terms (slot u lay) (same_by u lay v) (fact_by u lay v) fs env).1 (subst (Any (λ f. IsMetBy u lay f env v)) (take_all i fs le) h))
        (λ v h. subst (Any (λ f. IsMetBy u lay f env v)) (sym (take_all i fs le)) ((met-Or u.terms (slot u lay) (same_by u lay v) (fact_by u lay v) fs env).0 h))
        (offers_added lay.base prefix (λ v. Any (λ f. IsMetBy u lay f env v) (take i fs)) (λ v. ⊥) n K k L clause o)

  module _ (s : ℕ) (g : Formula) (first : ℕ) where
    abbrev Below : ℕ → V → Type 0
    Below p v = (q : ℕ) → first ≤ q → q < p → IsMetBy u lay g (env ++ q ∷ []) v

    pub every-none : lay.base ≤ n → AreWithin n K → Adds lay.base prefix (λ v. (q : ℕ) → first ≤ q → q < first → IsMetBy u lay g (env ++ q ∷ []) v) n K n K
    every-none over within = adds_nothing lay.base prefix (Below first) n K over within (λ v q le lt. absurd (omega arith))

    pub every-more : (p k : ℕ) (L : List (List Lit)) (j : ℕ) (J : List (List Lit)) → IsWithin n prefix → first ≤ p →
        Adds lay.base prefix (λ v. (q : ℕ) → first ≤ q → q < p → IsMetBy u lay g (env ++ q ∷ []) v) n K k L → Adds lay.base prefix (IsMetBy u lay g (env ++ p ∷ [])) k L j J →
        Adds lay.base prefix (λ v. (q : ℕ) → first ≤ q → q < p + 1 → IsMetBy u lay g (env ++ q ∷ []) v) n K j J
    every-more p k L j J inside le a b = adds_same lay.base prefix (λ v. Below p v × IsMetBy u lay g (env ++ p ∷ []) v) (Below (p + 1)) n K j J
        (λ v h q ge lt. by_place v h q ge lt (cases_lt q p))
        (λ v h. ((λ q ge lt. h q ge (omega arith)), h p le (omega arith)))
        (adds_and lay.base prefix (Below p) (IsMetBy u lay g (env ++ p ∷ [])) n K k L j J inside a b)
      where
        by_place : (v : V) → ((q : ℕ) → first ≤ q → q < p → IsMetBy u lay g (env ++ q ∷ []) v) × IsMetBy u lay g (env ++ p ∷ []) v → (q : ℕ) → first ≤ q → q < p + 1 → (q < p) ⊎ (p ≤ q) → IsMetBy u lay g (env ++ q ∷ []) v
        by_place v h q ge lt (inl below) = h.0 q ge below
        by_place v h q ge lt (inr at) = let e : p ≡ q = omega arith in subst (λ q. IsMetBy u lay g (env ++ q ∷ []) v) e h.1

    pub every-all : (p k : ℕ) (L : List (List Lit)) → IsLaidOut u lay → s < lay.sig.sorts → first ≡ first_of u lay s → first_of u lay s + size_of u lay s ≤ p → p ≤ first_of u lay s + size_of u lay s →
        Adds lay.base prefix (λ v. (q : ℕ) → first ≤ q → q < p → IsMetBy u lay g (env ++ q ∷ []) v) n K k L → Adds lay.base prefix (IsMetBy u lay (F.All s g) env) n K k L
    every-all p k L r lt is ge le a = adds_same lay.base prefix (Below p) (IsMetBy u lay (F.All s g) env) n K k L
        (λ v h. subst (λ (A : Type 0). A) (sym (met-All u.terms (slot u lay) (same_by u lay v) (fact_by u lay v) s g env)) (λ q of. let b = (r.blocks s q lt).0 of in h q (omega (arith, b.0)) (omega (arith, b.1))))
        (λ v h q ge' below. (subst (λ (A : Type 0). A) (met-All u.terms (slot u lay) (same_by u lay v) (fact_by u lay v) s g env) h) q ((r.blocks s q lt).1 (omega arith, omega arith))) a

module _ (u : Universe) (lay : Layout) (env : List ℕ) where
  pub instance-And : (fs : List Formula) (i : ℕ) (g : Formula) → HasInstance u lay env (F.And fs) → i < length fs → HasInstance u lay env (get_or fs i g)
  instance-And fs i g h lt = record { sorts = h.sorts; places = h.places; sorted = sorted-And lay.sig lay.copies fs h.sorts h.sorted i g lt }

  pub instance-Or : (fs : List Formula) (i : ℕ) (g : Formula) → HasInstance u lay env (F.Or fs) → i < length fs → HasInstance u lay env (get_or fs i g)
  instance-Or fs i g h lt = record { sorts = h.sorts; places = h.places; sorted = sorted-Or lay.sig lay.copies fs h.sorts h.sorted i g lt }

  pub sort-All : (s : ℕ) (g : Formula) → HasInstance u lay env (F.All s g) → s < lay.sig.sorts
  sort-All s g h = (subst (λ (A : Type 0). A) (sorted-All lay.sig lay.copies s g h.sorts) h.sorted).0

  pub instance-All : (s : ℕ) (g : Formula) (p : ℕ) → IsLaidOut u lay → HasInstance u lay env (F.All s g) → first_of u lay s ≤ p → p < first_of u lay s + size_of u lay s → HasInstance u lay (env ++ p ∷ []) g
  instance-All s g p r h ge lt =
      let sorted = subst (λ (A : Type 0). A) (sorted-All lay.sig lay.copies s g h.sorts) h.sorted in
      record { sorts = h.sorts ++ s ∷ []; places = AllZip-push (λ p s. IsOf u.terms s p) env h.sorts p s h.places ((r.blocks s p sorted.0).1 (ge, lt)); sorted = sorted.1 }

pub negative-within : (k : ℕ) → IsWithin (k + 1) (record { var = k; positive = false } ∷ [])
negative-within k = All-cons (λ (l : Lit). l.var < k + 1) (record { var = k; positive = false }) [] (omega arith) (All-nil (λ (l : Lit). l.var < k + 1))

-- a push undone by a pop
pub popped : (xs : List ℕ) (x : ℕ) (ys : List ℕ) (r : Option ℕ) → IsSome r → xs ++ x ∷ [] ≡ ys ++ option_to_list r → ys ≡ xs
popped xs x ys (Some y) some e =
    let same : length ys ≡ length xs = omega (arith, ap length e, length-append xs (x ∷ []), length-append ys (y ∷ [])) in
    sym (take-append_seam ys (y ∷ [])) ∙ ap (take (length ys)) (sym e) ∙ ap (λ n. take n (xs ++ x ∷ [])) same ∙ take-append_seam xs (x ∷ [])
popped xs x ys None some e = absurd (true≢false (sym some))
