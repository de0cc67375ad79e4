-- Numbers by the lengths of the longest walks.
use Rattle.std.proofs.Common.{◌≡◌, ℕ, zero, suc, ◌+◌, ◌-◌, ◌<◌, ◌≤◌, ◌⊎◌, inl, inr, ◌↔◌, Bool, true, false, cond, List, length, get_or, refl, sym, subst, ◌∙◌, true≢false, arith}
use Rattle.std.proofs.lemmas.Bool.{cases_lt}
use Rattle.fo_core.specs.SortGraph.{Rises}
use Rattle.pyv_strat.specs.declared.edges.Edge.{Edge}
use Rattle.pyv_strat.specs.Edges.{Among, AreWithin}
use Rattle.pyv_strat.specs.Walks.{Marks, Reaches, IsLayer, NoneReturns}
use Rattle.pyv_strat.proofs.WalkLemmas.{none_long}

module _ (edges : List Edge) (sorts : ℕ) where
  abbrev pub Walks : ℕ → ℕ → Type 0
  Walks k a = Reaches (Among edges) (λ b. b < sorts) k a

  -- of the walks of fewer than k edges from a, the longest has h edges, and a's number is h less
  -- than the number of sorts
  pub record Height (k a value : ℕ) : Type 0 where
    pub h : ℕ
    pub few : h < k
    pub number : value + h ≡ sorts
    pub walk : Walks h a
    pub none : (j : ℕ) → h < j → j < k → ¬ Walks j a

  pub height-first : (a : ℕ) → a < sorts → Height 1 a sorts
  height-first a lt = record { h = 0; few = omega arith; number = omega arith; walk = lt; none = λ j more less. absurd (omega arith) }

  height-more : (k a value : ℕ) (b : Bool) → k < sorts → (b ≡ true ↔ Walks k a) → Height k a value → Height (k + 1) a (cond b (sorts - k) value)
  height-more k a value true lt marks height = record { h = k; few = omega arith; number = omega arith; walk = marks.0 refl; none = λ j more less. absurd (omega arith) }
  height-more k a value false lt marks height = record { h = height.h; few = omega (arith, height.few); number = height.number; walk = height.walk; none = λ j more less. none j more less (cases_lt j k) }
    where
      none : (j : ℕ) → height.h < j → j < k + 1 → (j < k) ⊎ (k ≤ j) → ¬ Walks j a
      none j more less (inl lt) = height.none j more lt
      none j more less (inr le) =
          let here : j ≡ k = omega arith in
          λ w. true≢false (sym (marks.1 (subst (λ x. Walks x a) here w)))

  pub heights-more : (k : ℕ) (layer : List Bool) (old new : List ℕ) → k < sorts → IsLayer edges (λ b. b < sorts) k layer → length old ≡ sorts → ((a : ℕ) → a < length old → get_or new a 0 ≡ cond (get_or layer a false) (sorts - k) (get_or old a 0)) → ((a : ℕ) → a < sorts → Height k a (get_or old a 0)) → (a : ℕ) → a < sorts → Height (k + 1) a (get_or new a 0)
  heights-more k layer old new lt is many given heights a less =
      subst (Height (k + 1) a) (sym (given a (omega arith))) (height-more k a (get_or old a 0) (get_or layer a false) lt (is a) (heights a less))

  module _ (within : (a b : ℕ) → Among edges a b → (a < sorts) × (b < sorts)) (acyclic : (a : ℕ) → a < sorts → NoneReturns edges sorts a) where
    higher : (k a b x y : ℕ) → sorts ≤ k → k ≤ sorts → Among edges a b → Height k a x → Height k b y → x < y
    higher k a b x y le ge e one next = by_height (cases_lt one.h (suc next.h)) (cases_lt (suc next.h) k)
      where
        longer : Walks (suc next.h) a
        longer = (b, e, next.walk)

        by_height : (one.h < suc next.h) ⊎ (suc next.h ≤ one.h) → (suc next.h < k) ⊎ (k ≤ suc next.h) → x < y
        by_height (inr more) h = omega (arith, one.number, next.number)
        by_height (inl less) (inl few) = absurd (one.none (suc next.h) less few longer)
        by_height (inl less) (inr many) =
            let all : suc next.h ≡ sorts = omega (arith, next.few) in
            absurd (none_long (Among edges) sorts within (λ v j lt few. acyclic v lt j few) (λ c. c < sorts) a (within a b e).0 (subst (λ n. Walks n a) all longer))

    pub rises : (k : ℕ) (numbers : List ℕ) → 1 ≤ k → sorts ≤ k → (1 ≤ sorts → k ≤ sorts) → length numbers ≡ sorts → ((a : ℕ) → a < sorts → Height k a (get_or numbers a 0)) → Rises (Among edges) sorts numbers
    rises k numbers some le ge many heights = record { one_each = many; rising = rising }
      where
        rising : (a b : ℕ) → Among edges a b → get_or numbers a 0 < get_or numbers b 0
        rising a b e =
            let ends = within a b e in
            let one : 1 ≤ sorts = omega (arith, ends.0) in
            higher k a b (get_or numbers a 0) (get_or numbers b 0) le (ge one) e (heights a ends.0) (heights b ends.1)

-- the ends of an edge among edges that are within bounds
pub ends_within : (edges : List Edge) (sorts : ℕ) → AreWithin sorts edges → (a b : ℕ) → Among edges a b → (a < sorts) × (b < sorts)
ends_within edges sorts within a b e =
    let w = subst (λ (x : Edge). (x.from < sorts) × (x.to < sorts)) e.3 (within e.0 e.1 e.2) in
    (subst (λ n. n < sorts) e.4.0 w.0, subst (λ n. n < sorts) e.4.1 w.1)
