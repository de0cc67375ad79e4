-- First terms represent their classes: each term has one, and no two are the same.
use Rattle.std.proofs.Common.{◌≡◌, ℕ, zero, suc, Bool, true, false, cond, ◌<◌, ◌≤◌, ◌⊎◌, inl, inr, List, [], ◌∷◌, ◌++◌, length, get_or, refl, sym, subst, ◌∙◌, arith, true≢false, length-append}
use Rattle.std.specs.List.{All, AllPairs, list_any, position_or_len}
use Rattle.std.specs.Prelude.{◌==◌, slice_index}
use Rattle.std.proofs.lemmas.Bool.{cases_lt}
use Rattle.std.proofs.lemmas.Bool.Decides.{Decides-eqb}
use Rattle.std.proofs.lemmas.List.{get_or_append_left}
use Rattle.std.proofs.Math.Seq.{get_or-append_seam}
use Rattle.std.proofs.lemmas.List.Elements.{All-push, All-nil}
use Rattle.std.proofs.lemmas.List.Quantifiers.{all_pairs_push}
use Rattle.std.proofs.lemmas.List.Folds.{Any-from_list_any, list_any_at}
use Rattle.std.proofs.lemmas.Grind.{get_or_default_zero}
use Rattle.std.proofs.lemmas.List.Sums.{fails_before_first, passes_at_first, position_or_len_is}
use Rattle.fo_core.specs.declared.signature.Sig.{Sig}
use Rattle.fo_terms.specs.declared.terms.Ground.{Ground}
use Rattle.fo_terms.specs.Universe.{IsOf, sort_at}
use Rattle.fo_ground.specs.Instances.{IsEquality}
use Rattle.fo_ground.specs.Classes.{heads, heads_of, class_of, class_count}

same_number : (a b : ℕ) → (a == b) ≡ true → a ≡ b
same_number a b e = (Decides-eqb a b).0 e

module _ (ts : List Ground) (at : ℕ → ℕ → List ℕ → ℕ) (same : ℕ → ℕ → Bool) (fact : ℕ → ℕ → List ℕ → Bool) where
  -- p is represented
  abbrev pub Stands : List ℕ → ℕ → Type 0
  Stands hs p = (k : ℕ) × (k < length hs) × (same (get_or hs k 0) p ≡ true)

  pub record AreHeads (s n : ℕ) (hs : List ℕ) : Type 0 where
    pub sorted : All (λ q. (q < n) × (sort_at ts q ≡ s)) hs
    pub cover : (p : ℕ) → p < n → sort_at ts p ≡ s → Stands hs p
    pub apart : AllPairs (λ q p. same q p ≡ false) hs

  module _ (s n : ℕ) (hs : List ℕ) (h : AreHeads s n hs) where
    later : All (λ q. (q < suc n) × (sort_at ts q ≡ s)) hs
    later k d lt = let r = h.sorted k d lt in (omega (arith, r.0), r.1)

    -- a term of another sort changes nothing
    heads_other : (sort_at ts n ≡ s → ⊥) → AreHeads s (suc n) hs
    heads_other other = record {
      sorted = later;
      cover = λ p lt is. before p (cases_lt p n) lt is;
      apart = h.apart;
    }
      where
        before : (p : ℕ) → (p < n) ⊎ (n ≤ p) → p < suc n → sort_at ts p ≡ s → Stands hs p
        before p (inl lt) _ is = h.cover p lt is
        before p (inr le) lt is = let e : p ≡ n = omega arith in absurd (other (subst (λ p. sort_at ts p ≡ s) e is))

    -- a represented term changes nothing
    heads_known : Stands hs n → AreHeads s (suc n) hs
    heads_known found = record {
      sorted = later;
      cover = λ p lt is. before p (cases_lt p n) lt is;
      apart = h.apart;
    }
      where
        before : (p : ℕ) → (p < n) ⊎ (n ≤ p) → p < suc n → sort_at ts p ≡ s → Stands hs p
        before p (inl lt) _ is = h.cover p lt is
        before p (inr le) lt is = let e : n ≡ p = omega arith in subst (Stands hs) e found

    -- a term that isn't represented begins a class
    heads_new : sort_at ts n ≡ s → same n n ≡ true → ((k : ℕ) (d : ℕ) → k < length hs → same (get_or hs k d) n ≡ false) → AreHeads s (suc n) (hs ++ n ∷ [])
    heads_new is itself none = record {
      sorted = All-push (λ q. (q < suc n) × (sort_at ts q ≡ s)) hs n later (omega arith, is);
      cover = λ p lt is. before p (cases_lt p n) lt is;
      apart = all_pairs_push (λ q p. same q p ≡ false) hs n h.apart none;
    }
      where
        before : (p : ℕ) → (p < n) ⊎ (n ≤ p) → p < suc n → sort_at ts p ≡ s → Stands (hs ++ n ∷ []) p
        before p (inl lt) _ is =
            let old = h.cover p lt is in
            (old.0, omega (arith, old.1, length-append hs (n ∷ [])), subst (λ q. same q p ≡ true) (sym (get_or_append_left hs (n ∷ []) 0 old.0 old.1)) old.2)
        before p (inr le) lt is =
            let e : n ≡ p = omega arith in
            (length hs, omega (arith, length-append hs (n ∷ [])), subst (λ p. same (get_or (hs ++ n ∷ []) (length hs) 0) p ≡ true) e (subst (λ q. same q n ≡ true) (sym (get_or-append_seam hs n [] 0)) itself))

  none_alike : (hs : List ℕ) (n : ℕ) → list_any (λ q. same q n) hs ≡ false → (k : ℕ) (d : ℕ) → k < length hs → same (get_or hs k d) n ≡ false
  none_alike hs n e k d lt = by_case (same (get_or hs k d) n) refl
    where
      by_case : (b : Bool) → same (get_or hs k d) n ≡ b → b ≡ false
      by_case true is = absurd (true≢false (sym (list_any_at (λ q. same q n) hs k d lt is) ∙ e))
      by_case false is = refl

  heads_more : (s n : ℕ) → ((p : ℕ) → p < suc n → same p p ≡ true) → AreHeads s n (heads ts at same fact s n) → AreHeads s (suc n) (heads ts at same fact s (suc n))
  heads_more s n itself before = by_sort (sort_at ts n == s) refl
    where
      by_class : sort_at ts n ≡ s → (b : Bool) → list_any (λ q. same q n) (heads ts at same fact s n) ≡ b → AreHeads s (suc n) (cond b (heads ts at same fact s n) (heads ts at same fact s n ++ n ∷ []))
      by_class is true e =
          let a = Any-from_list_any (λ q. same q n) (heads ts at same fact s n) e in
          heads_known s n (heads ts at same fact s n) before (a.0, a.2, subst (λ q. same q n ≡ true) (sym a.3 ∙ get_or_default_zero (heads ts at same fact s n) a.0 a.1 a.2) a.4)
      by_class is false e = heads_new s n (heads ts at same fact s n) before is (itself n (omega arith)) (none_alike (heads ts at same fact s n) n e)

      by_sort : (b : Bool) → (sort_at ts n == s) ≡ b → AreHeads s (suc n) (cond b (cond (list_any (λ q. same q n) (heads ts at same fact s n)) (heads ts at same fact s n) (heads ts at same fact s n ++ n ∷ [])) (heads ts at same fact s n))
      by_sort true e = by_class (same_number (sort_at ts n) s e) (list_any (λ q. same q n) (heads ts at same fact s n)) refl
      by_sort false e = heads_other s n (heads ts at same fact s n) before (λ is. true≢false (sym ((Decides-eqb (sort_at ts n) s).1 is) ∙ e))

  pub heads-are : (s n : ℕ) → ((p : ℕ) → p < n → same p p ≡ true) → AreHeads s n (heads ts at same fact s n)
  heads-are s zero itself = record { sorted = All-nil _; cover = λ p lt is. absurd (omega arith); apart = λ i j d lt le. absurd (omega arith) }
  heads-are s (suc n) itself = heads_more s n itself (heads-are s n (λ p lt. itself p (omega arith)))

  module _ (sig : Sig) (copies : ℕ) (e : IsEquality ts at same fact sig copies) where
    pub heads_of-are : (s : ℕ) → AreHeads s (length ts) (heads_of ts at same fact s)
    heads_of-are s = heads-are s (length ts) (λ p lt. e.reflexive (sort_at ts p) p (lt, refl))

    -- first terms are terms of the sort
    pub head-is : (s x : ℕ) → x < class_count ts at same fact s → IsOf ts s (slice_index (heads_of ts at same fact s) x)
    head-is s x lt = (heads_of-are s).sorted x 0 lt

    -- a term's class number is in range, and its first term is the same as the term
    class-found : (hs : List ℕ) (p : ℕ) → Stands hs p → (position_or_len (λ q. same q p) hs < length hs) × (same (get_or hs (position_or_len (λ q. same q p) hs) 0) p ≡ true)
    class-found hs p st = by_case (cases_lt (position_or_len (λ q. same q p) hs) (length hs))
      where
        by_case : (position_or_len (λ q. same q p) hs < length hs) ⊎ (length hs ≤ position_or_len (λ q. same q p) hs) → (position_or_len (λ q. same q p) hs < length hs) × (same (get_or hs (position_or_len (λ q. same q p) hs) 0) p ≡ true)
        by_case (inl lt) = (lt, passes_at_first (λ q. same q p) hs 0 lt)
        by_case (inr le) = absurd (true≢false (sym st.2 ∙ fails_before_first (λ q. same q p) hs st.0 0 (omega (arith, st.1))))

    pub class_of-lt : (s p : ℕ) → IsOf ts s p → class_of ts at same fact p < class_count ts at same fact s
    class_of-lt s p of =
        subst (λ s. class_of ts at same fact p < class_count ts at same fact s) of.1
        (class-found (heads_of ts at same fact (sort_at ts p)) p ((heads_of-are (sort_at ts p)).cover p of.0 refl)).0

    pub head-same : (s p : ℕ) → IsOf ts s p → same (slice_index (heads_of ts at same fact s) (class_of ts at same fact p)) p ≡ true
    head-same s p of =
        subst (λ s. same (slice_index (heads_of ts at same fact s) (class_of ts at same fact p)) p ≡ true) of.1
        (class-found (heads_of ts at same fact (sort_at ts p)) p ((heads_of-are (sort_at ts p)).cover p of.0 refl)).1

    -- terms of one class are the same
    pub class-same : (s p q : ℕ) → IsOf ts s p → IsOf ts s q → class_of ts at same fact p ≡ class_of ts at same fact q → same p q ≡ true
    class-same s p q a b is =
        let x = class_of ts at same fact p in
        let head = slice_index (heads_of ts at same fact s) x in
        let h = head-is s x (class_of-lt s p a) in
        e.transitive s p head q a h b (e.symmetric s head p h a (head-same s p a))
        (subst (λ x. same (slice_index (heads_of ts at same fact s) x) q ≡ true) (sym is) (head-same s q b))

    -- the x-th first term is of class x
    class-head : (s x : ℕ) → x < class_count ts at same fact s → position_or_len (λ q. same q (slice_index (heads_of ts at same fact s) x)) (heads_of ts at same fact s) ≡ x
    class-head s x lt =
        let hs = heads_of ts at same fact s in
        let h = head-is s x lt in
        position_or_len_is (λ q. same q (slice_index hs x)) hs x 0 (omega arith) (λ k below. (heads_of-are s).apart k x 0 below lt) (λ _. e.reflexive s (slice_index hs x) h)

    pub class_of-head : (s x : ℕ) → x < class_count ts at same fact s → class_of ts at same fact (slice_index (heads_of ts at same fact s) x) ≡ x
    class_of-head s x lt =
        let p = slice_index (heads_of ts at same fact s) x in
        subst (λ s. position_or_len (λ q. same q p) (heads_of ts at same fact s) ≡ x) (sym (head-is s x lt).1) (class-head s x lt)

    -- terms that are the same are of one class
    pub class-equal : (s p q : ℕ) → IsOf ts s p → IsOf ts s q → same p q ≡ true → class_of ts at same fact p ≡ class_of ts at same fact q
    class-equal s p q a b is =
        let x = class_of ts at same fact p in
        let hs = heads_of ts at same fact s in
        let lt = class_of-lt s p a in
        let h = head-is s x lt in
        let first = λ (k : ℕ) (below : k < x). fails (same (slice_index hs k) q) k below refl in
        subst (λ r. x ≡ position_or_len (λ t. same t q) (heads_of ts at same fact r)) (sym b.1)
        (sym (position_or_len_is (λ t. same t q) hs x 0 (omega arith) first (λ _. e.transitive s (slice_index hs x) p q h a b (head-same s p a) is)))
      where
        -- else two first terms would be the same, by transitivity
        fails : (t : Bool) (k : ℕ) → k < class_of ts at same fact p → same (slice_index (heads_of ts at same fact s) k) q ≡ t → t ≡ false
        fails false k below t = refl
        fails true k below t =
            let hs = heads_of ts at same fact s in
            let x = class_of ts at same fact p in
            let lt = class_of-lt s p a in
            let hk = head-is s k (omega arith) in
            let hx = head-is s x lt in
            absurd (true≢false (sym (e.transitive s (slice_index hs k) q (slice_index hs x) hk b hx t
            (e.transitive s q p (slice_index hs x) b a hx (e.symmetric s p q a b is) (e.symmetric s (slice_index hs x) p hx a (head-same s p a)))) ∙ (heads_of-are s).apart k x 0 below lt))
