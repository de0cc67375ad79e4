-- Layers: which sorts they mark, and how one is made from the next.
use Rattle.std.proofs.Common.{◌≡◌, ℕ, zero, suc, ◌+◌, ◌<◌, ◌≤◌, ◌⊎◌, inl, inr, ◌↔◌, Bool, true, false, List, [], ◌∷◌, ◌++◌, length, length-append, get_or, set, replicate, refl, sym, subst, ◌∙◌, true≢false, arith}
use Rattle.std.proofs.lemmas.Bool.{cases_lt}
use Rattle.std.proofs.lemmas.List.{get_or_default, get_or-set_same, get_or-set_other, get_or-replicate, get_or_past, length-replicate, get_or_append_left, get_or_push}
use Rattle.pyv_strat.specs.declared.edges.Edge.{Edge}
use Rattle.pyv_strat.specs.Edges.{Among}
use Rattle.pyv_strat.specs.Walks.{Marks, Reaches, IsLayer, AreLayers, Returns, NoneReturns}
use Rattle.pyv_strat.proofs.EdgeLemmas.{AnyBefore}
use Rattle.pyv_strat.proofs.WalkLemmas.{equal_or_not}

-- one of the first n edges leads from a to a marked sort
abbrev pub LeadsBefore : List Edge → List Bool → ℕ → ℕ → Type 0
LeadsBefore edges layer n a = (b : ℕ) × AnyBefore (λ (e : Edge). (e.from ≡ a) × (e.to ≡ b)) edges n × Marks layer b

pub marks_within : (layer : List Bool) (a : ℕ) → Marks layer a → a < length layer
marks_within layer a h = by_place (cases_lt a (length layer))
  where
    by_place : (a < length layer) ⊎ (length layer ≤ a) → a < length layer
    by_place (inl lt) = lt
    by_place (inr le) = absurd (true≢false (sym h ∙ get_or_past layer a false le))

pub marks_all : (n a : ℕ) → Marks (replicate n true) a ↔ (a < n)
marks_all n a = (λ h. there h (cases_lt a n), λ lt. get_or-replicate n a true false lt)
  where
    there : Marks (replicate n true) a → (a < n) ⊎ (n ≤ a) → a < n
    there h (inl lt) = lt
    there h (inr le) = let lt = marks_within (replicate n true) a h in omega (arith, lt, length-replicate n true)

pub marks_none : (n a : ℕ) → ¬ Marks (replicate n false) a
marks_none n a h =
    let lt = marks_within (replicate n false) a h in
    true≢false (sym h ∙ get_or-replicate n a false false (omega (arith, lt, length-replicate n false)))

module _ (edges : List Edge) (layer : List Bool) where
  pub leads-none : (n a : ℕ) → Marks (replicate n false) a ↔ LeadsBefore edges layer 0 a
  leads-none n a = (λ h. absurd (marks_none n a h), back)
    where
      back : LeadsBefore edges layer 0 a → Marks (replicate n false) a
      back h = let lt = h.1.3 in absurd (omega (arith, lt))

  widen : (n a : ℕ) → LeadsBefore edges layer n a → LeadsBefore edges layer (n + 1) a
  widen n a h = (h.0, (h.1.0, h.1.1, h.1.2, omega (arith, h.1.3), h.1.4, h.1.5), h.2)

  -- the last of the edges, or one before it
  last_or_before : (n a : ℕ) (e : Edge) → n < length edges → e ≡ get_or edges n e → LeadsBefore edges layer (n + 1) a → LeadsBefore edges layer n a ⊎ ((e.from ≡ a) × Marks layer e.to)
  last_or_before n a e lt is h = at h.1.0 h.1.1 h.1.2 h.1.3 h.1.4 h.1.5 (cases_lt h.1.0 n)
    where
      at : (k : ℕ) (f : Edge) → k < length edges → k < n + 1 → get_or edges k f ≡ f → (f.from ≡ a) × (f.to ≡ h.0) → (k < n) ⊎ (n ≤ k) → LeadsBefore edges layer n a ⊎ ((e.from ≡ a) × Marks layer e.to)
      at k f within below same ends (inl less) = inl (h.0, (k, f, within, less, same, ends), h.2)
      at k f within below same ends (inr le) =
          let here : k ≡ n = omega arith in
          let one : get_or edges n f ≡ f = subst (λ j. get_or edges j f ≡ f) here same in
          let equal : f ≡ e = sym one ∙ get_or_default edges n f e lt ∙ sym is in
          let goal : Marks layer f.to = subst (Marks layer) (sym ends.1) h.2 in
          inr (subst (λ (g : Edge). g.from ≡ a) equal ends.0, subst (λ (g : Edge). Marks layer g.to) equal goal)

  pub leads-unmarked : (before : List Bool) (n : ℕ) (e : Edge) → n < length edges → e ≡ get_or edges n e → get_or layer e.to false ≡ false → ((a : ℕ) → Marks before a ↔ LeadsBefore edges layer n a) → (a : ℕ) → Marks before a ↔ LeadsBefore edges layer (n + 1) a
  leads-unmarked before n e lt is off seen a = (λ h. widen n a ((seen a).0 h), λ h. back (last_or_before n a e lt is h))
    where
      back : LeadsBefore edges layer n a ⊎ ((e.from ≡ a) × Marks layer e.to) → Marks before a
      back (inl h) = (seen a).1 h
      back (inr h) = absurd (true≢false (sym h.1 ∙ off))

  pub leads-marked : (before : List Bool) (n : ℕ) (e : Edge) → n < length edges → e ≡ get_or edges n e → get_or layer e.to false ≡ true → e.from < length before → ((a : ℕ) → Marks before a ↔ LeadsBefore edges layer n a) → (a : ℕ) → Marks (set before e.from true) a ↔ LeadsBefore edges layer (n + 1) a
  leads-marked before n e lt is on fits seen a = by_place (equal_or_not a e.from)
    where
      by_place : (a ≡ e.from) ⊎ (¬ (a ≡ e.from)) → Marks (set before e.from true) a ↔ LeadsBefore edges layer (n + 1) a
      by_place (inl same) = (
        λ h. (e.to, (n, e, lt, omega arith, sym is, (sym same, refl)), on),
        λ h. subst (λ x. get_or (set before e.from true) x false ≡ true) (sym same) (get_or-set_same before e.from true false fits),
      )
      by_place (inr other) = (
        λ h. widen n a ((seen a).0 (sym (get_or-set_other before e.from a true false other) ∙ h)),
        λ h. get_or-set_other before e.from a true false other ∙ back (last_or_before n a e lt is h),
      )
        where
          back : LeadsBefore edges layer n a ⊎ ((e.from ≡ a) × Marks layer e.to) → Marks before a
          back (inl h) = (seen a).1 h
          back (inr h) = absurd (other (sym h.0))

  pub leads-all : (before : List Bool) (n : ℕ) → length edges ≤ n → ((a : ℕ) → Marks before a ↔ LeadsBefore edges layer n a) → (a : ℕ) → Marks before a ↔ ((b : ℕ) × Among edges a b × Marks layer b)
  leads-all before n le seen a = (λ h. there ((seen a).0 h), λ h. (seen a).1 (back h))
    where
      there : LeadsBefore edges layer n a → (b : ℕ) × Among edges a b × Marks layer b
      there h = (h.0, (h.1.0, h.1.1, h.1.2, h.1.4, h.1.5), h.2)

      back : (b : ℕ) × Among edges a b × Marks layer b → LeadsBefore edges layer n a
      back h = (h.0, (h.1.0, h.1.1, h.1.2, omega (arith, h.1.2), h.1.3, h.1.4), h.2)

-- the layer before the one of k edges is the one of an edge more
pub layer-before : (edges : List Edge) (goal : ℕ → Type 0) (k : ℕ) (layer before : List Bool) → IsLayer edges goal k layer → ((a : ℕ) → Marks before a ↔ ((b : ℕ) × Among edges a b × Marks layer b)) → IsLayer edges goal (suc k) before
layer-before edges goal k layer before is marks a = (
  λ h. let r = (marks a).0 h in (r.0, r.1, (is r.0).0 r.2),
  λ h. (marks a).1 (h.0, h.1, (is h.0).1 h.2),
)

-- the same, with the number of edges counted from 1
pub layer-next : (edges : List Edge) (goal : ℕ → Type 0) (k : ℕ) (layer before : List Bool) → 1 ≤ k → ((m : ℕ) → suc m ≡ k → IsLayer edges goal m layer) → ((a : ℕ) → Marks before a ↔ ((b : ℕ) × Among edges a b × Marks layer b)) → IsLayer edges goal k before
layer-next edges goal zero layer before some is marks = absurd (omega arith)
layer-next edges goal (suc k) layer before some is marks = layer-before edges goal k layer before (is k refl) marks

-- and with one added
pub layer-added : (edges : List Edge) (goal : ℕ → Type 0) (k : ℕ) (layer before : List Bool) → IsLayer edges goal k layer → ((a : ℕ) → Marks before a ↔ ((b : ℕ) × Among edges a b × Marks layer b)) → IsLayer edges goal (k + 1) before
layer-added edges goal k layer before is marks = let same : suc k ≡ k + 1 = omega arith in subst (λ n. IsLayer edges goal n before) same (layer-before edges goal k layer before is marks)

-- what a test of a place in a layer says
pub marked-at : (layer : List Bool) (a : ℕ) (b : Bool) → a < length layer → b ≡ get_or layer a b → b ≡ true → Marks layer a
marked-at layer a b lt is on = get_or_default layer a false b lt ∙ sym is ∙ on

pub unmarked-at : (layer : List Bool) (a : ℕ) (b : Bool) → a < length layer → b ≡ get_or layer a b → b ≡ false → ¬ Marks layer a
unmarked-at layer a b lt is off h = true≢false (sym h ∙ get_or_default layer a false b lt ∙ sym is ∙ off)

pub none-longer : (edges : List Edge) (k a : ℕ) → NoneReturns edges k a → ¬ Returns edges k a → NoneReturns edges (k + 1) a
none-longer edges k a none here j lt = by_place (cases_lt j k)
  where
    by_place : (j < k) ⊎ (k ≤ j) → ¬ Returns edges j a
    by_place (inl less) = none j less
    by_place (inr le) = let same : k ≡ j = omega arith in λ h. here (subst (λ n. Returns edges n a) (sym same) h)

pub layers-more : (edges : List Edge) (goal sorts k : ℕ) (layers : List (List Bool)) (layer : List Bool) → AreLayers edges goal sorts k layers → length layer ≡ sorts → IsLayer edges (λ b. b ≡ goal) k layer → AreLayers edges goal sorts (k + 1) (layers ++ layer ∷ [])
layers-more edges goal sorts k layers layer are long is = record { many = many; long = λ j lt. longs j lt (cases_lt j k); each = λ j lt. eachs j lt (cases_lt j k) }
  where
    many : length (layers ++ layer ∷ []) ≡ k + 1
    many = omega (arith, length-append layers (layer ∷ []), are.many)

    before : (j : ℕ) → j < k → get_or (layers ++ layer ∷ []) j [] ≡ get_or layers j []
    before j lt = get_or_append_left layers (layer ∷ []) [] j (omega (arith, are.many))

    last : (j : ℕ) → k ≤ j → j < k + 1 → get_or (layers ++ layer ∷ []) j [] ≡ layer
    last j le lt = get_or_push layers layer [] j (omega (arith, are.many))

    longs : (j : ℕ) → j < k + 1 → (j < k) ⊎ (k ≤ j) → length (get_or (layers ++ layer ∷ []) j []) ≡ sorts
    longs j lt (inl less) = subst (λ l. length l ≡ sorts) (sym (before j less)) (are.long j less)
    longs j lt (inr le) = subst (λ l. length l ≡ sorts) (sym (last j le lt)) long

    eachs : (j : ℕ) → j < k + 1 → (j < k) ⊎ (k ≤ j) → IsLayer edges (λ b. b ≡ goal) j (get_or (layers ++ layer ∷ []) j [])
    eachs j lt (inl less) = subst (IsLayer edges (λ b. b ≡ goal) j) (sym (before j less)) (are.each j less)
    eachs j lt (inr le) =
        let same : k ≡ j = omega arith in
        subst (IsLayer edges (λ b. b ≡ goal) j) (sym (last j le lt)) (subst (λ n. IsLayer edges (λ b. b ≡ goal) n layer) same is)
