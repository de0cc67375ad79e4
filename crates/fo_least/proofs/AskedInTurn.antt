-- Of the lists of two queries that a search for a least world asks, each with those asked before it,
-- one begins the other.
use Rattle.std.proofs.Common.{◌≡◌, ℕ, true, ◌⊎◌, inl, inr, ◌+◌, ◌<◌, List, [], ◌∷◌, ◌++◌, length, refl, sym, ap, subst, ◌∙◌, arith}
use Rattle.std.proofs.lemmas.Bool.{cases_order}
use Rattle.std.proofs.lemmas.List.{append_assoc, append-nil, take_all}
use Rattle.fo_core.specs.declared.query.Query.{Query}
use Rattle.fo_core.specs.declared.signature.Sig.{Sig}
use Rattle.fo_core.specs.Finds.{HasNoWorld}
use Rattle.fo_core.specs.Asked.{is_relation_at, AreNextSizes, AreNextValues, size_trials, value_trials, queries_for, IsAsked, at_first, for_size, for_value}
use Rattle.fo_least.specs.Begins.{Begins, OneBegins}
use Rattle.fo_core.specs.Trials.{trial}
use Rattle.fo_least.proofs.Beginnings.{Leads, leads-behind, leads-front, leads-range}
use Rattle.fo_least.proofs.Determined.{sizes-begin, values-begin, leads-size, leads-value}

module _ {X : Type 0} where
  -- of two lists, each with the element after it: they are the same, or one with its element begins the
  -- other list
  abbrev pub InTurn : List X → X → List X → X → Type 0
  InTurn before x others y = ((before ≡ others) × (x ≡ y)) ⊎ (Leads before x others ⊎ Leads others y before)

  pub other-way : (before : List X) (x : X) (others : List X) (y : X) → InTurn before x others y → InTurn others y before x
  other-way before x others y (inl (e, same)) = inl (sym e, sym same)
  other-way before x others y (inr (inl leads)) = inr (inr leads)
  other-way before x others y (inr (inr leads)) = inr (inl leads)

  -- the n-th of a range of elements, and the m-th, after the same ones
  pub turns-of-range : (f : ℕ → X) (front : List X) (trials : ℕ → List X) → ((k m : ℕ) → k < m → Leads (trials k) (f k) (trials m)) →
      (n m : ℕ) → InTurn (front ++ trials n) (f n) (front ++ trials m) (f m)
  turns-of-range f front trials each n m = by_order (cases_order n m)
    where
      by_order : (n ≡ m) ⊎ ((n < m) ⊎ (m < n)) → InTurn (front ++ trials n) (f n) (front ++ trials m) (f m)
      by_order (inl same) = inl (ap (λ k. front ++ trials k) same, ap f same)
      by_order (inr (inl lt)) = inr (inl (leads-behind front (trials n) (f n) (trials m) (each n m lt)))
      by_order (inr (inr lt)) = inr (inr (leads-behind front (trials m) (f m) (trials n) (each m n lt)))

  begins-more : (before : List X) (x : X) (others : List X) (y : X) → Leads before x others → Begins (before ++ x ∷ []) (others ++ y ∷ [])
  begins-more before x others y (after, e) = (
    after ++ y ∷ [],
    append_assoc before (x ∷ []) (after ++ y ∷ []) ∙ sym (append_assoc before (x ∷ after) (y ∷ [])) ∙ ap (λ xs. xs ++ y ∷ []) e,
  )

  pub one-begins : (before : List X) (x : X) (others : List X) (y : X) → InTurn before x others y → OneBegins (before ++ x ∷ []) (others ++ y ∷ [])
  one-begins before x others y (inl (e, same)) = inl ([], append-nil (before ++ x ∷ []) ∙ ap (λ xs. xs ++ x ∷ []) e ∙ ap (λ z. others ++ z ∷ []) same)
  one-begins before x others y (inr (inl leads)) = inl (begins-more before x others y leads)
  one-begins before x others y (inr (inr leads)) = inr (begins-more others y before x leads)

module _ (sig : Sig) (q : Query) where
  abbrev sized : List ℕ → ℕ → Query
  sized sizes n = trial sig q (sizes ++ (n + 1) ∷ []) []

  abbrev before_size : List ℕ → ℕ → List Query
  before_size sizes n = queries_for sig q sizes [] ++ size_trials sig q sizes n

  abbrev valued : List ℕ → List ℕ → ℕ → Query
  valued sizes values v = trial sig q sizes (values ++ v ∷ [])

  abbrev before_value : List ℕ → List ℕ → ℕ → List Query
  before_value sizes values v = queries_for sig q sizes values ++ value_trials sig q sizes values v

  -- the query itself comes first
  first-of-all : (others : List Query) (r : Query) → IsAsked sig q others r → InTurn [] q others r
  first-of-all _ _ at_first = inl (refl, refl)
  first-of-all _ _ (for_size sizes n some next more none) = inr (inl (_, refl))
  first-of-all _ _ (for_value sizes values v some next all next_values more one none) = inr (inl (_, refl))

  -- trials of the same size are in turn, and a trial of an earlier size comes first
  sizes-in-turn : (sizes others : List ℕ) (n m : ℕ) → AreNextSizes sig q sizes → AreNextSizes sig q others →
      ((k : ℕ) → k < n → HasNoWorld sig (sized sizes k)) → ((k : ℕ) → k < m → HasNoWorld sig (sized others k)) →
      InTurn (before_size sizes n) (sized sizes n) (before_size others m) (sized others m)
  sizes-in-turn sizes others n m next other_next none other_none = by_order (cases_order (length sizes) (length others))
    where
      by_order : (length sizes ≡ length others) ⊎ ((length sizes < length others) ⊎ (length others < length sizes)) → InTurn (before_size sizes n) (sized sizes n) (before_size others m) (sized others m)
      by_order (inl long) =
          let same : sizes ≡ others = sizes-begin sig q sizes others next other_next (omega (arith, long)) ∙ take_all (length sizes) others (omega (arith, long)) in
          subst (λ ns. InTurn (before_size sizes n) (sized sizes n) (before_size ns m) (sized ns m)) same
          (turns-of-range (sized sizes) (queries_for sig q sizes []) (size_trials sig q sizes) (leads-range (sized sizes)) n m)
      by_order (inr (inl lt)) = inr (inl (leads-front (before_size sizes n) (sized sizes n) (queries_for sig q others []) (size_trials sig q others m) (leads-size sig q sizes n none others [] next other_next lt)))
      by_order (inr (inr lt)) = inr (inr (leads-front (before_size others m) (sized others m) (queries_for sig q sizes []) (size_trials sig q sizes n) (leads-size sig q others m other_none sizes [] other_next next lt)))

  -- trials of sizes come before trials of values
  size-before-value : (sizes others values : List ℕ) (n v : ℕ) → AreNextSizes sig q sizes → AreNextSizes sig q others → length sizes < length others →
      ((k : ℕ) → k < n → HasNoWorld sig (sized sizes k)) → Leads (before_size sizes n) (sized sizes n) (before_value others values v)
  size-before-value sizes others values n v next other_next lt none =
      leads-front (before_size sizes n) (sized sizes n) (queries_for sig q others values) (value_trials sig q others values v)
      (leads-size sig q sizes n none others values next other_next lt)

  -- what a trial of a value is asked after
  record IsValueAsked (sizes values : List ℕ) (v : ℕ) : Type 0 where
    values_next : AreNextValues sig q sizes values
    one : is_relation_at sig q sizes (length values) ≡ true → v ≡ 0
    none : (u : ℕ) → u < v → HasNoWorld sig (valued sizes values u)

  -- trials of the same entry are in turn, and a trial of an earlier entry comes first
  values-in-turn : (sizes values others : List ℕ) (v u : ℕ) → IsValueAsked sizes values v → IsValueAsked sizes others u →
      InTurn (before_value sizes values v) (valued sizes values v) (before_value sizes others u) (valued sizes others u)
  values-in-turn sizes values others v u a b = by_order (cases_order (length values) (length others))
    where
      by_order : (length values ≡ length others) ⊎ ((length values < length others) ⊎ (length others < length values)) → InTurn (before_value sizes values v) (valued sizes values v) (before_value sizes others u) (valued sizes others u)
      by_order (inl long) =
          let same : values ≡ others = values-begin sig q sizes values others a.values_next b.values_next (omega (arith, long)) ∙ take_all (length values) others (omega (arith, long)) in
          subst (λ vs. InTurn (before_value sizes values v) (valued sizes values v) (before_value sizes vs u) (valued sizes vs u)) same
          (turns-of-range (valued sizes values) (queries_for sig q sizes values) (value_trials sig q sizes values) (leads-range (valued sizes values)) v u)
      by_order (inr (inl lt)) =
          inr (inl (leads-front (before_value sizes values v) (valued sizes values v) (queries_for sig q sizes others) (value_trials sig q sizes others u)
          (leads-value sig q sizes values v a.one a.none others a.values_next b.values_next lt)))
      by_order (inr (inr lt)) =
          inr (inr (leads-front (before_value sizes others u) (valued sizes others u) (queries_for sig q sizes values) (value_trials sig q sizes values v)
          (leads-value sig q sizes others u b.one b.none values b.values_next a.values_next lt)))

  pub in-turn : (before others : List Query) (p r : Query) → IsAsked sig q before p → IsAsked sig q others r → InTurn before p others r
  in-turn _ others _ r at_first b = first-of-all others r b
  in-turn before _ p _ a at_first = other-way [] q before p (first-of-all before p a)
  in-turn _ _ _ _ (for_size sizes n _ next more none) (for_size others m _ other_next other_more other_none) = sizes-in-turn sizes others n m next other_next none other_none
  in-turn _ _ _ _ (for_size sizes n _ next more none) (for_value others values v _ other_next all _ _ _ _) =
      inr (inl (size-before-value sizes others values n v next other_next (omega (arith, more, all)) none))
  in-turn _ _ _ _ (for_value others values v _ other_next all _ _ _ _) (for_size sizes n _ next more none) =
      inr (inr (size-before-value sizes others values n v next other_next (omega (arith, more, all)) none))
  in-turn _ _ _ _ (for_value sizes values v _ next all values_next _ one none) (for_value others other_values u _ other_next other_all other_values_next _ other_one other_none) =
      let same : others ≡ sizes = sizes-begin sig q others sizes other_next next (omega (arith, all, other_all)) ∙ take_all (length others) sizes (omega (arith, all, other_all)) in
      let b : IsValueAsked others other_values u = record { values_next = other_values_next; one = other_one; none = other_none } in
      subst (λ ns. InTurn (before_value sizes values v) (valued sizes values v) (before_value ns other_values u) (valued ns other_values u)) (sym same)
      (values-in-turn sizes values other_values v u (record { values_next = values_next; one = one; none = none }) (subst (λ ns. IsValueAsked ns other_values u) same b))

  pub asked-begins : (before others : List Query) (p r : Query) → IsAsked sig q before p → IsAsked sig q others r → OneBegins (before ++ p ∷ []) (others ++ r ∷ [])
  asked-begins before others p r a b = one-begins before p others r (in-turn before others p r a b)
