-- What is known of the parts of a formula whose nodes are counted, and how the counts add up.
use Rattle.std.proofs.Common.{◌≡◌, ℕ, Bool, true, false, not, ◌+◌, ◌*◌, ◌<◌, ◌≤◌, List, [], ◌∷◌, ◌++◌, length, get_or, take, sym, ap, subst, ◌∙◌, arith}
use Rattle.std.specs.Prelude.{slice_index}
use Rattle.std.proofs.lemmas.List.{take_all}
use Rattle.fo_core.specs.declared.formula.Formula.{Formula}
use Rattle.fo_core.specs.declared.formula.Formula.TheVariants as F
use Rattle.fo_core.specs.Weights.{added, power, nodes}
use Rattle.fo_core.proofs.Rows.{sorted-Not, sorted-And, sorted-Or, sorted-All, sorted-Ex}
use Rattle.fo_core.specs.QueryWeight.{cut}
use Rattle.fo_terms.specs.Weighable.{CanWeigh}
use Rattle.fo_terms.proofs.Cuts.{cut-add, cut-mul_left}
use Rattle.fo_terms.proofs.NodeRows.{nodes-Not, nodes-And, nodes-Or, nodes-All, nodes-not_All, nodes-Ex, nodes-not_Ex}
use Rattle.fo_terms.proofs.Sums.{added-more, power-push}

module _ (count : ℕ) where
  pub weigh-Not : (g : Formula) → CanWeigh count (F.Not g) → CanWeigh count g
  weigh-Not g h = record { sig = h.sig; copies = h.copies; variables = h.variables; sorted = subst (λ (A : Type 0). A) (sorted-Not h.sig h.copies g h.variables) h.sorted; sorts = h.sorts }

  pub weigh-And : (fs : List Formula) (i : ℕ) (g : Formula) → CanWeigh count (F.And fs) → i < length fs → CanWeigh count (get_or fs i g)
  weigh-And fs i g h lt = record { sig = h.sig; copies = h.copies; variables = h.variables; sorted = sorted-And h.sig h.copies fs h.variables h.sorted i g lt; sorts = h.sorts }

  pub weigh-Or : (fs : List Formula) (i : ℕ) (g : Formula) → CanWeigh count (F.Or fs) → i < length fs → CanWeigh count (get_or fs i g)
  weigh-Or fs i g h lt = record { sig = h.sig; copies = h.copies; variables = h.variables; sorted = sorted-Or h.sig h.copies fs h.variables h.sorted i g lt; sorts = h.sorts }

  pub weigh-All : (s : ℕ) (g : Formula) → CanWeigh count (F.All s g) → (s < count) × CanWeigh count g
  weigh-All s g h =
      let both = subst (λ (A : Type 0). A) (sorted-All h.sig h.copies s g h.variables) h.sorted in
      (omega (arith, both.0, h.sorts), record { sig = h.sig; copies = h.copies; variables = h.variables ++ s ∷ []; sorted = both.1; sorts = h.sorts })

  pub weigh-Ex : (s : ℕ) (g : Formula) → CanWeigh count (F.Ex s g) → (s < count) × CanWeigh count g
  weigh-Ex s g h =
      let both = subst (λ (A : Type 0). A) (sorted-Ex h.sig h.copies s g h.variables) h.sorted in
      (omega (arith, both.0, h.sorts), record { sig = h.sig; copies = h.copies; variables = h.variables ++ s ∷ []; sorted = both.1; sorts = h.sorts })

module _ (U : List ℕ) where
  -- the number is that of the formula's nodes, below universals with so many values
  abbrev pub Weighs : Bool → Formula → ℕ → ℕ → Type 0
  Weighs b f above r = (us : List ℕ) → above ≡ cut (power U us) → r ≡ cut (nodes U b f us)

  pub weighs-at : (f g : Formula) (b p : Bool) (above r q : ℕ) → f ≡ g → b ≡ p → r ≡ q → Weighs p g above q → Weighs b f above r
  weighs-at f g b p above r q e i j h =
      subst (λ (x : Formula). Weighs b x above r) (sym e) (subst (λ x. Weighs x g above r) (sym i) (subst (λ x. Weighs p g above x) (sym j) h))

  pub weighs-Not : (b : Bool) (g : Formula) (above r : ℕ) → Weighs (not b) g above r → Weighs b (F.Not g) above r
  weighs-Not b g above r h us e = h us e ∙ ap cut (sym (nodes-Not U us b g))

  -- one more part of a conjunction or disjunction
  pub parts-more : (b : Bool) (fs : List Formula) (i above sum r : ℕ) (d : Formula) → i < length fs → Weighs b (get_or fs i d) above r →
      (us : List ℕ) → above ≡ cut (power U us) → sum ≡ cut (power U us + added (λ g. nodes U b g us) (take i fs)) → cut (sum + r) ≡ cut (power U us + added (λ g. nodes U b g us) (take (i + 1) fs))
  parts-more b fs i above sum r d lt h us e so_far =
      ap (λ n. cut (n + r)) so_far
      ∙ ap (λ n. cut (cut (power U us + added (λ g. nodes U b g us) (take i fs)) + n)) (h us e)
      ∙ cut-add (power U us + added (λ g. nodes U b g us) (take i fs)) (nodes U b (get_or fs i d) us)
      ∙ ap cut (let same : power U us + added (λ g. nodes U b g us) (take i fs) + nodes U b (get_or fs i d) us ≡ power U us + added (λ g. nodes U b g us) (take (i + 1) fs) = omega (arith, added-more (λ g. nodes U b g us) fs i d lt) in same)

  pub weighs-And : (b : Bool) (fs : List Formula) (i above sum : ℕ) → length fs ≤ i → ((us : List ℕ) → above ≡ cut (power U us) → sum ≡ cut (power U us + added (λ g. nodes U b g us) (take i fs))) → Weighs b (F.And fs) above sum
  weighs-And b fs i above sum le h us e = h us e ∙ ap (λ (gs : List Formula). cut (power U us + added (λ g. nodes U b g us) gs)) (take_all i fs le) ∙ ap cut (sym (nodes-And U us b fs))

  pub weighs-Or : (b : Bool) (fs : List Formula) (i above sum : ℕ) → length fs ≤ i → ((us : List ℕ) → above ≡ cut (power U us) → sum ≡ cut (power U us + added (λ g. nodes U b g us) (take i fs))) → Weighs b (F.Or fs) above sum
  weighs-Or b fs i above sum le h us e = h us e ∙ ap (λ (gs : List Formula). cut (power U us + added (λ g. nodes U b g us) gs)) (take_all i fs le) ∙ ap cut (sym (nodes-Or U us b fs))

  -- a node above the nodes of a body
  over : (above r p q : ℕ) → above ≡ cut p → r ≡ cut q → cut (above + r) ≡ cut (p + q)
  over above r p q e f = ap (λ n. cut (n + r)) e ∙ ap (λ n. cut (cut p + n)) f ∙ cut-add p q

  lower : (above p s : ℕ) (us : List ℕ) → above ≡ cut (power U us) → p ≡ cut (above * slice_index U s) → p ≡ cut (power U (us ++ s ∷ []))
  lower above p s us e is = is ∙ ap (λ n. cut (n * slice_index U s)) e ∙ cut-mul_left (power U us) (slice_index U s) ∙ ap cut (sym (power-push U us s))

  pub weighs-All : (s : ℕ) (g : Formula) (above below r : ℕ) → below ≡ cut (above * slice_index U s) → Weighs true g below r → Weighs true (F.All s g) above (cut (above + r))
  weighs-All s g above below r is h us e = over above r (power U us) (nodes U true g (us ++ s ∷ [])) e (h (us ++ s ∷ []) (lower above below s us e is)) ∙ ap cut (sym (nodes-All U us s g))

  pub weighs-not_All : (s : ℕ) (g : Formula) (above r : ℕ) → Weighs false g above r → Weighs false (F.All s g) above (cut (above + r))
  weighs-not_All s g above r h us e = over above r (power U us) (nodes U false g us) e (h us e) ∙ ap cut (sym (nodes-not_All U us s g))

  pub weighs-Ex : (s : ℕ) (g : Formula) (above r : ℕ) → Weighs true g above r → Weighs true (F.Ex s g) above (cut (above + r))
  weighs-Ex s g above r h us e = over above r (power U us) (nodes U true g us) e (h us e) ∙ ap cut (sym (nodes-Ex U us s g))

  pub weighs-not_Ex : (s : ℕ) (g : Formula) (above below r : ℕ) → below ≡ cut (above * slice_index U s) → Weighs false g below r → Weighs false (F.Ex s g) above (cut (above + r))
  weighs-not_Ex s g above below r is h us e = over above r (power U us) (nodes U false g (us ++ s ∷ [])) e (h (us ++ s ∷ []) (lower above below s us e is)) ∙ ap cut (sym (nodes-not_Ex U us s g))
