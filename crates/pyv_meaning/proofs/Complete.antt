-- Where an expression means something, nothing is at fault, and that is what is built.
use Rattle.std.proofs.Common.{◌≡◌, ℕ, ◌+◌, ◌==◌, ◌<◌, ◌≤◌, ◌++◌, Bool, true, false, not, List, [], ◌∷◌, length, refl, sym, subst, arith, length-append}
use Rattle.std.specs.Prelude.{Option, Some, None, IfSome}
use Rattle.std.proofs.lemmas.Bool.{eqb-true, eq-eqb}
use Rattle.fo_core.specs.Tables.{symbol_at}
use Rattle.fo_core.specs.declared.names.Names.{Names}
use Rattle.fo_core.specs.declared.signature.Sig.{Sig}
use Rattle.fo_core.specs.declared.term.Term.{Term}
use Rattle.fo_core.specs.declared.formula.Formula.{Formula}
use Rattle.pyv_meaning.specs.declared.fault.SortFault.{SortFault}
use Rattle.pyv_meaning.specs.declared.stand.Stand.{Stand}
use Rattle.pyv_meaning.specs.declared.variable.Meaning.{Meaning}
use Rattle.pyv_meaning.specs.declared.variable.Meaning.TheVariants.{Variable, Symbol, Unknown}
use Rattle.pyv_meaning.specs.Builds.{named_term, named_formula, term_of, terms_of, formula_of, formulas_of}
use Rattle.pyv_meaning.specs.Clashes.{suits, meaning_sort, term_sort, clash, each_clash, distinct_clash, argument_clash}
use Rattle.pyv_meaning.specs.Means.{one_sort, HaveSorts, NameMeansTerm, NameMeans, MeansTerm, MeanTerms, Means, EachMeans}
use Rattle.pyv_meaning.specs.NameFaults.{◌then◌, new_fault, sort_fault, binder_faults, name_fault, fault, faults, list_fault, distinct_faults}
use Rattle.pyv_meaning.specs.Scope.{number, resolve}
use Rattle.pyv_meaning.specs.Uses.{places}
use Rattle.pyv_meaning.specs.Tree.{Name, Binder, Tree, Trees, Truth, Named, New, Distinct, Not, Joined, Connected, Compared, Quantified, If, none, more, count, is_alone, bound_names}
use Rattle.pyv_meaning.proofs.Basics.{then_none, unless_none, and_right, is_below}
use Rattle.pyv_meaning.proofs.Resolved.{resolved}

pub bound_length : (bs : List Binder) → length (bound_names bs) ≡ length bs
bound_length [] = refl
bound_length (b ∷ bs) = omega (arith, bound_length bs)

pub inner_length : (scope : List Name) (bs : List Binder) → length (scope ++ bound_names bs) ≡ length scope + length bs
inner_length scope bs = rw (length-append, bound_length bs) refl

module _ (names : Names) (sort_of : ℕ → ℕ) where
  sort_none : (d : Option Name) (v : ℕ) → (IfSome d (λ (n : Name). number names.sorts n.word ≡ Some (sort_of v))) → sort_fault names d ≡ None
  sort_none None v h = refl
  sort_none (Some n) v h = rw h refl

  pub binders_none : (bs : List Binder) (above : ℕ) → above + length bs ≤ 64 → HaveSorts names sort_of bs → binder_faults names bs above ≡ None
  binders_none [] above le h = refl
  binders_none (b ∷ bs) above le h =
      then_none _ _ (unless_none _ _ (is_below above 64 (omega (arith, le)))) (then_none _ _ (sort_none b.sort b.name.place h.0) (binders_none bs (above + 1) (omega (arith, le)) h.1))

module _ (names : Names) (sig : Sig) (step : Bool) (sort_of : ℕ → ℕ) where
  abbrev pub asked : Bool → Bool → Stand
  asked ahead formula = record { step = step; ahead = ahead; formula = formula; over = false }

  new_none : (ahead formula : Bool) (p : ℕ) → step ≡ true → ahead ≡ false → new_fault (asked ahead formula) p ≡ None
  new_none ahead formula p e h = rw (e, h) refl

  no_argument_clash : (xs : Trees) (scope : List Name) → argument_clash names sig sort_of xs [] scope ≡ None
  no_argument_clash none scope = refl
  no_argument_clash (more x xs) scope = refl

  alone_fine : (xs : Trees) (b : Bool) (a : Stand) (scope : List Name) → is_alone b (count xs) ≡ true → faults names sig xs a scope ≡ None
  alone_fine none b a scope h = refl
  alone_fine (more x xs) b a scope h = let z = eqb-true (count xs + 1) 0 (and_right (not b) (count xs + 1 == 0) h) in absurd (omega (arith, z))

  -- a variable of the scope stands under few binders
  abbrev IsLow : Meaning → Type 0
  IsLow m = (v l : ℕ) → m ≡ Variable v l → l < 64

  low : (scope : List Name) (w : List ℕ) → length scope ≤ 64 → IsLow (resolve names scope w)
  low scope w le v l e = let s = resolved names scope w v l e in omega (arith, s.5, le)

  abbrev BuildsTerm : Tree → Bool → List Name → ℕ → Term → Type 0
  BuildsTerm x ahead scope s t =
      (fault names sig x (asked ahead false) scope ≡ None) × ((want : Option ℕ) → suits want s ≡ true → clash names sig sort_of x want scope ≡ None) × (term_of names sig x ahead scope ≡ t) × (term_sort names sig sort_of x scope ≡ s)

  abbrev BuildsTerms : Trees → Bool → List Name → List ℕ → List Term → Type 0
  BuildsTerms xs ahead scope ss ts =
      (count xs ≡ length ss) × (faults names sig xs (asked ahead false) scope ≡ None) × (argument_clash names sig sort_of xs ss scope ≡ None) × (terms_of names sig xs ahead scope ≡ ts)

  abbrev Builds : Trees → Bool → List Name → Type 0
  Builds xs ahead scope = (ss : List ℕ) (ts : List Term) → MeanTerms names sig step sort_of xs ahead scope ss ts → BuildsTerms xs ahead scope ss ts

  complete_named : (m : Meaning) (p : ℕ) (b : Bool) (xs : Trees) (ahead : Bool) (scope : List Name) (s : ℕ) (t : Term) → IsLow m
      → NameMeansTerm names sig step sort_of m b (count xs) (λ ss ts. MeanTerms names sig step sort_of xs ahead scope ss ts) ahead s t → Builds xs ahead scope
      → ((name_fault names sig (asked ahead false) m p b (count xs) then faults names sig xs (asked ahead false) scope) ≡ None)
      × (argument_clash names sig sort_of xs (places names sig m) scope ≡ None)
      × (named_term names sig m ahead (terms_of names sig xs ahead scope) ≡ t) × (meaning_sort names sig sort_of m ≡ s)
  complete_named (Variable v l) p b xs ahead scope s t lo h args =
      (rw (h.0, is_below l 64 (lo v l refl)) (alone_fine xs b (asked ahead false) scope h.0), no_argument_clash xs scope, sym h.2, h.1)
  complete_named (Symbol k) p b xs ahead scope s t lo h args =
      let built = args (symbol_at sig k).args h.2 h.3 in
      let arity = eq-eqb (count xs) (length (symbol_at sig k).args) built.0 in
      (rw (h.0, arity) built.1, built.2, rw (built.3, h.4) refl, h.1)
  complete_named Unknown p b xs ahead scope s t lo h args = absurd h

  complete_name : (m : Meaning) (p : ℕ) (b : Bool) (xs : Trees) (ahead : Bool) (scope : List Name) (y : Formula)
      → NameMeans names sig step sort_of m (λ ss ts. MeanTerms names sig step sort_of xs ahead scope ss ts) ahead y → Builds xs ahead scope
      → ((name_fault names sig (asked ahead true) m p b (count xs) then faults names sig xs (asked ahead false) scope) ≡ None)
      × (argument_clash names sig sort_of xs (places names sig m) scope ≡ None)
      × (named_formula names sig m ahead (terms_of names sig xs ahead scope) ≡ y)
  complete_name (Variable v l) p b xs ahead scope y h args = absurd h
  complete_name (Symbol k) p b xs ahead scope y h args =
      let built = args (symbol_at sig k).args h.1 h.2 in
      let arity = eq-eqb (count xs) (length (symbol_at sig k).args) built.0 in
      (rw (h.0, arity) built.1, built.2, rw (built.3, h.3) refl)
  complete_name Unknown p b xs ahead scope y h args = absurd h

  mutual
    pub complete_term : (x : Tree) (ahead : Bool) (scope : List Name) (s : ℕ) (t : Term) → length scope ≤ 64 → MeansTerm names sig step sort_of x ahead scope s t → BuildsTerm x ahead scope s t
    complete_term (Named n b xs) ahead scope s t le h =
        let k = complete_named (resolve names scope n.word) n.place b xs ahead scope s t (low scope n.word le) h (λ ss ts m. complete_terms xs ahead scope ss ts le m) in
        (k.0, λ want w. then_none _ _ (unless_none _ _ (subst (λ r. suits want r ≡ true) (sym k.3) w)) k.1, k.2, k.3)
    complete_term (New p x) ahead scope s t le h =
        let k = complete_term x true scope s t le h.2 in
        (then_none _ _ (new_none ahead false p h.0 h.1) k.0, k.1, k.2, k.3)
    complete_term (Truth p b) ahead scope s t le h = absurd h
    complete_term (Distinct p xs) ahead scope s t le h = absurd h
    complete_term (Not p x) ahead scope s t le h = absurd h
    complete_term (Joined p j xs) ahead scope s t le h = absurd h
    complete_term (Connected p c x y) ahead scope s t le h = absurd h
    complete_term (Compared p e x y) ahead scope s t le h = absurd h
    complete_term (Quantified p q bs x) ahead scope s t le h = absurd h
    complete_term (If p x y z) ahead scope s t le h = absurd h

    pub complete_terms : (xs : Trees) (ahead : Bool) (scope : List Name) (ss : List ℕ) (ts : List Term) → length scope ≤ 64 → MeanTerms names sig step sort_of xs ahead scope ss ts → BuildsTerms xs ahead scope ss ts
    complete_terms none ahead scope [] [] le h = (refl, refl, refl, refl)
    complete_terms none ahead scope [] (t ∷ ts) le h = absurd h
    complete_terms none ahead scope (s ∷ ss) ts le h = absurd h
    complete_terms (more x xs) ahead scope [] ts le h = absurd h
    complete_terms (more x xs) ahead scope (s ∷ ss) [] le h = absurd h
    complete_terms (more x xs) ahead scope (s ∷ ss) (t ∷ ts) le h =
        let one = complete_term x ahead scope s t le h.0 in
        let rest = complete_terms xs ahead scope ss ts le h.1 in
        (omega (arith, rest.0), then_none _ _ one.0 rest.1, then_none _ _ (one.1 (Some s) (eq-eqb s s refl)) rest.2, rw (one.2, rest.3) refl)

  -- the terms of a `distinct`, all of one sort
  pub complete_alike : (xs : Trees) (ahead : Bool) (scope : List Name) (i s : ℕ) (ts : List Term) → length scope ≤ 64 → count xs + i ≤ 16 → MeanTerms names sig step sort_of xs ahead scope (one_sort xs s) ts
      → (distinct_faults names sig xs (asked ahead true) i scope ≡ None) × (each_clash names sig sort_of xs (Some s) scope ≡ None) × (terms_of names sig xs ahead scope ≡ ts)
  complete_alike none ahead scope i s [] le few h = (refl, refl, refl)
  complete_alike none ahead scope i s (t ∷ ts) le few h = absurd h
  complete_alike (more x xs) ahead scope i s [] le few h = absurd h
  complete_alike (more x xs) ahead scope i s (t ∷ ts) le few h =
      let one = complete_term x ahead scope s t le h.0 in
      let rest = complete_alike xs ahead scope (i + 1) s ts le (omega (arith, few)) h.1 in
      (then_none _ _ (rw (is_below i 16 (omega (arith, few))) one.0) rest.0, then_none _ _ (one.1 (Some s) (eq-eqb s s refl)) rest.1, rw (one.2, rest.2) refl)

  complete_distinct : (xs : Trees) (ahead : Bool) (scope : List Name) (s : ℕ) (ts : List Term) → length scope ≤ 64 → MeanTerms names sig step sort_of xs ahead scope (one_sort xs s) ts
      → each_clash names sig sort_of xs (Some s) scope ≡ None → distinct_clash names sig sort_of xs scope ≡ None
  complete_distinct none ahead scope s ts le h c = refl
  complete_distinct (more x xs) ahead scope s [] le h c = absurd h
  complete_distinct (more x xs) ahead scope s (t ∷ ts) le h c =
      let one = complete_term x ahead scope s t le h.0 in
      then_none _ _ (one.1 None refl) (subst (λ n. each_clash names sig sort_of xs (Some n) scope ≡ None) (sym one.3) (second _ _ c))
    where
      second : (f g : Option SortFault) → (f then g) ≡ None → g ≡ None
      second None g h = h
      second (Some e) g h = absurd (cc)

  abbrev pub BuildsFormula : Tree → Bool → List Name → Formula → Type 0
  BuildsFormula x ahead scope y =
      (fault names sig x (asked ahead true) scope ≡ None) × (clash names sig sort_of x None scope ≡ None) × (formula_of names sig sort_of x ahead scope ≡ y)

  mutual
    pub complete : (x : Tree) (ahead : Bool) (scope : List Name) (y : Formula) → length scope ≤ 64 → Means names sig step sort_of x ahead scope y → BuildsFormula x ahead scope y
    complete (Truth p b) ahead scope y le h = (refl, refl, sym h)
    complete (Named n b xs) ahead scope y le h = complete_name (resolve names scope n.word) n.place b xs ahead scope y h (λ ss ts m. complete_terms xs ahead scope ss ts le m)
    complete (New p x) ahead scope y le h = let k = complete x true scope y le h.2 in (then_none _ _ (new_none ahead true p h.0 h.1) k.0, k.1, k.2)
    complete (Distinct p xs) ahead scope y le h =
        let k = complete_alike xs ahead scope 0 h.1 h.2 le (omega (arith, h.0)) h.3 in
        (k.0, complete_distinct xs ahead scope h.1 h.2 le h.3 k.1, rw (k.2, h.4) refl)
    complete (Not p x) ahead scope y le h = let k = complete x ahead scope h.0 le h.1 in (k.0, k.1, rw (k.2, h.2) refl)
    complete (Joined p j xs) ahead scope y le h =
        let k = complete_each xs ahead scope h.0 le h.1 in
        (listed xs p ahead scope k.0, k.1, rw (k.2, h.2) refl)
    complete (Connected p c x z) ahead scope y le h =
        let one = complete x ahead scope h.0 le h.2 in
        let two = complete z ahead scope h.1 le h.3 in
        (then_none _ _ one.0 two.0, then_none _ _ one.1 two.1, rw (one.2, two.2, h.4) refl)
    complete (Compared p e x z) ahead scope y le h =
        let one = complete_term x ahead scope h.0 h.1 le h.3 in
        let two = complete_term z ahead scope h.0 h.2 le h.4 in
        (then_none _ _ one.0 two.0, then_none _ _ (one.1 None refl) (rw one.3 (two.1 (Some h.0) (eq-eqb h.0 h.0 refl))), rw (one.2, two.2, h.5) refl)
    complete (Quantified p q bs x) ahead scope y le h =
        let one = complete x ahead (scope ++ bound_names bs) h.2 (rw (inner_length scope bs) h.0) h.3 in
        (then_none _ _ (binders_none names sort_of bs (length scope) h.0 h.1) one.0, one.1, rw (one.2, h.4) refl)
    complete (If p x z w) ahead scope y le h =
        let one = complete x ahead scope h.0 le h.3 in
        let two = complete z ahead scope h.1 le h.4 in
        let three = complete w ahead scope h.2 le h.5 in
        (then_none _ _ one.0 (then_none _ _ two.0 three.0), then_none _ _ one.1 (then_none _ _ two.1 three.1), rw (one.2, two.2, three.2, h.6) refl)

    pub complete_each : (xs : Trees) (ahead : Bool) (scope : List Name) (ys : List Formula) → length scope ≤ 64 → EachMeans names sig step sort_of xs ahead scope ys
        → (faults names sig xs (asked ahead true) scope ≡ None) × (each_clash names sig sort_of xs None scope ≡ None) × (formulas_of names sig sort_of xs ahead scope ≡ ys)
    complete_each none ahead scope [] le h = (refl, refl, refl)
    complete_each none ahead scope (y ∷ ys) le h = absurd h
    complete_each (more x xs) ahead scope [] le h = absurd h
    complete_each (more x xs) ahead scope (y ∷ ys) le h =
        let one = complete x ahead scope y le h.0 in
        let rest = complete_each xs ahead scope ys le h.1 in
        (then_none _ _ one.0 rest.0, then_none _ _ one.1 rest.1, rw (one.2, rest.2) refl)

    listed : (xs : Trees) (p : ℕ) (ahead : Bool) (scope : List Name) → faults names sig xs (asked ahead true) scope ≡ None → list_fault names sig xs (asked ahead true) p scope ≡ None
    listed none p ahead scope h = refl
    listed (more x xs) p ahead scope h = h
