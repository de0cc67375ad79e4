-- Where nothing is at fault, what is built is what the expression means.
use Rattle.std.proofs.Common.{◌≡◌, ℕ, ◌+◌, ◌≤◌, ◌++◌, Bool, true, false, not, List, [], ◌∷◌, length, refl, sym, ap, subst, inl, inr, arith}
use Rattle.std.specs.Prelude.{Option, Some, None, IfSome, nat_lt}
use Rattle.std.proofs.lemmas.Bool.{eqb-true}
use Rattle.fo_core.specs.Tables.{symbol_at}
use Rattle.fo_core.specs.declared.names.Names.{Names}
use Rattle.fo_core.specs.declared.signature.Sig.{Sig}
use Rattle.pyv_meaning.specs.declared.fault.SortFault.TheVariants.{TooMany}
use Rattle.pyv_meaning.specs.declared.stand.Stand.{Stand}
use Rattle.pyv_meaning.specs.declared.variable.Meaning.{Meaning}
use Rattle.pyv_meaning.specs.declared.variable.Meaning.TheVariants.{Variable, Symbol, Unknown}
use Rattle.pyv_meaning.specs.declared.variable.Use.{Use}
use Rattle.pyv_meaning.specs.declared.variable.Use.TheVariants.{Binder as Binds, Is}
use Rattle.pyv_meaning.specs.Builds.{named_term, named_formula, term_of, terms_of, formula_of, formulas_of}
use Rattle.pyv_meaning.specs.Clashes.{suits, meaning_sort, term_sort, clash, each_clash, distinct_clash, argument_clash}
use Rattle.pyv_meaning.specs.Gets.{Among, here, there}
use Rattle.pyv_meaning.specs.Means.{one_sort, HaveSorts, NameMeansTerm, NameMeans, MeansTerm, MeanTerms, Means, EachMeans}
use Rattle.pyv_meaning.specs.NameFaults.{unless, is_formula, is_kind, is_declared, new_fault, sort_fault, binder_faults, name_fault, fault, faults, list_fault, distinct_faults}
use Rattle.pyv_meaning.specs.Scope.{number, resolve}
use Rattle.pyv_meaning.specs.Uses.{places, uses, each_uses, has_sort, declared_as, binder_uses}
use Rattle.pyv_meaning.specs.Tree.{Name, Binder, Tree, Trees, Truth, Named, New, Distinct, Not, Joined, Connected, Compared, Quantified, If, none, more, count, is_alone, bound_names}
use Rattle.pyv_meaning.proofs.Basics.{both_fine, unless_fine, not_true, true_or_false, below, among_left, among_right}
use Rattle.pyv_meaning.proofs.Complete.{asked, inner_length}

-- the sorts that bound variables are given are those of sort_of
abbrev pub Agrees : (ℕ → ℕ) → List Use → Type 0
Agrees sort_of us = (v s : ℕ) → Among (Binds v) us → Among (Is v s) us → sort_of v ≡ s

module _ (sort_of : ℕ → ℕ) where
  pub agrees_left : (us vs : List Use) → Agrees sort_of (us ++ vs) → Agrees sort_of us
  agrees_left us vs a v s b m = a v s (among_left _ us vs b) (among_left _ us vs m)

  pub agrees_right : (us vs : List Use) → Agrees sort_of (us ++ vs) → Agrees sort_of vs
  agrees_right us vs a v s b m = a v s (among_right _ us vs b) (among_right _ us vs m)

term_kind : (relation : Bool) (p : ℕ) → is_kind false relation p ≡ None → relation ≡ false
term_kind false p h = refl
term_kind true p h = absurd (cc)

formula_kind : (relation : Bool) (p : ℕ) → is_kind true relation p ≡ None → relation ≡ true
formula_kind true p h = refl
formula_kind false p h = absurd (cc)

module _ (names : Names) (sort_of : ℕ → ℕ) where
  declared_sort : (v : ℕ) (o : Option ℕ) (p : ℕ) → is_declared o p ≡ None → ((s : ℕ) → Among (Is v s) (has_sort v o) → sort_of v ≡ s) → o ≡ Some (sort_of v)
  declared_sort v None p f a = absurd (cc)
  declared_sort v (Some s) p f a = ap (λ n. Some n) (sym (a s (here _ _)))

  told_sort : (v : ℕ) (d : Option Name) → sort_fault names d ≡ None → ((s : ℕ) → Among (Is v s) (declared_as names v d) → sort_of v ≡ s) → IfSome d (λ (n : Name). number names.sorts n.word ≡ Some (sort_of v))
  told_sort v None f a = tt
  told_sort v (Some n) f a = declared_sort v (number names.sorts n.word) n.place f a

  -- where nothing is at fault, bound variables have the sorts that are told
  pub have_sorts : (bs : List Binder) → (fine : (b : Binder) → Among b bs → sort_fault names b.sort ≡ None) → Agrees sort_of (binder_uses names bs) → HaveSorts names sort_of bs
  have_sorts [] fine a = tt
  have_sorts (b ∷ bs) fine a = (
    told_sort b.name.place b.sort (fine b (here _ _)) (λ s m. a b.name.place s (here _ _) (there _ _ _ (among_left _ _ _ m))),
    have_sorts bs (λ c m. fine c (there _ _ _ m)) (agrees_right sort_of (declared_as names b.name.place b.sort) _ (λ v s k m. a v s (there _ _ _ k) (there _ _ _ m))),
  )

  pub each_sort_fine : (bs : List Binder) (above : ℕ) → binder_faults names bs above ≡ None → (b : Binder) → Among b bs → sort_fault names b.sort ≡ None
  each_sort_fine _ above f b (here _ xs) = (both_fine _ _ (both_fine _ _ f).1).0
  each_sort_fine _ above f b (there _ y xs m) = each_sort_fine xs (above + 1) (both_fine _ _ (both_fine _ _ f).1).1 b m

  pub few_binders : (bs : List Binder) (above : ℕ) → above ≤ 64 → binder_faults names bs above ≡ None → above + length bs ≤ 64
  few_binders [] above le f = omega (arith, le)
  few_binders (b ∷ bs) above le f =
      let fine = both_fine _ _ f in
      let k = few_binders bs (above + 1) (omega (arith, below above 64 (unless_fine _ _ fine.0))) (both_fine _ _ fine.1).1 in
      omega (arith, k)

module _ (names : Names) (sig : Sig) (step : Bool) (sort_of : ℕ → ℕ) where
  new_fine : (ahead formula over : Bool) (p : ℕ) → new_fault (record { step = step; ahead = ahead; formula = formula; over = over }) p ≡ None → (step ≡ true) × (ahead ≡ false)
  new_fine ahead formula over p h = let k = both_fine _ _ h in let l = both_fine _ _ k.1 in (unless_fine _ _ k.0, not_true _ (unless_fine _ _ l.0))

  -- a term is asked, which may be one too many
  abbrev term_asked : Bool → Bool → Stand
  term_asked ahead over = record { step = step; ahead = ahead; formula = false; over = over }

  no_formula : (p : ℕ) → is_formula (term_asked false false) p ≡ None → ⊥
  no_formula p h = absurd (cc)

  -- what the arguments mean, once it is known for them
  abbrev Arguments : Trees → Bool → List Name → Type 0
  Arguments xs ahead scope = (ss : List ℕ) → count xs ≡ length ss → argument_clash names sig sort_of xs ss scope ≡ None → MeanTerms names sig step sort_of xs ahead scope ss (terms_of names sig xs ahead scope)

  sound_named : (m : Meaning) (p : ℕ) (b : Bool) (xs : Trees) (ahead over : Bool) (scope : List Name) → name_fault names sig (term_asked ahead over) m p b (count xs) ≡ None
      → argument_clash names sig sort_of xs (places names sig m) scope ≡ None → Arguments xs ahead scope
      → NameMeansTerm names sig step sort_of m b (count xs) (λ ss ts. MeanTerms names sig step sort_of xs ahead scope ss ts) ahead (meaning_sort names sig sort_of m) (named_term names sig m ahead (terms_of names sig xs ahead scope))
  sound_named (Variable v level) p b xs ahead over scope f h args = let fine = both_fine _ _ f in (unless_fine (is_alone b (count xs)) _ fine.0, refl, refl)
  sound_named (Symbol k) p b xs ahead over scope f h args =
      let fine = both_fine _ _ f in
      let arity = eqb-true (count xs) (length (symbol_at sig k).args) (let g = both_fine _ _ fine.1 in unless_fine _ _ g.0) in
      (term_kind _ p fine.0, refl, terms_of names sig xs ahead scope, args (symbol_at sig k).args arity h, refl)
  sound_named Unknown p b xs ahead over scope f h args = absurd (cc)

  mutual
    -- what it means, and that it suits where it stands
    pub sound_term : (x : Tree) (ahead over : Bool) (want : Option ℕ) (scope : List Name) → fault names sig x (term_asked ahead over) scope ≡ None → clash names sig sort_of x want scope ≡ None
        → MeansTerm names sig step sort_of x ahead scope (term_sort names sig sort_of x scope) (term_of names sig x ahead scope) × (suits want (term_sort names sig sort_of x scope) ≡ true)
    sound_term (Named n b xs) ahead over want scope f h =
        let fine = both_fine _ _ f in
        let good = both_fine _ _ h in
        (sound_named (resolve names scope n.word) n.place b xs ahead over scope fine.0 good.1 (λ ss e k. sound_terms xs ahead scope ss e fine.1 k), unless_fine _ _ good.0)
    sound_term (New p x) ahead over want scope f h =
        let fine = both_fine _ _ f in
        let ok = new_fine ahead false over p fine.0 in
        let k = sound_term x true false want scope fine.1 h in
        ((ok.0, ok.1, k.0), k.1)
    sound_term (Truth p b) ahead over want scope f h = absurd (cc)
    sound_term (Distinct p xs) ahead over want scope f h = absurd (cc)
    sound_term (Not p x) ahead over want scope f h = absurd (cc)
    sound_term (Joined p j none) ahead over want scope f h = absurd (cc)
    sound_term (Joined p j (more x xs)) ahead over want scope f h = let k = both_fine _ _ f in absurd (no_formula p k.1)
    sound_term (Connected p c x y) ahead over want scope f h = let k = both_fine _ _ f in absurd (no_formula p k.1)
    sound_term (Compared p e x y) ahead over want scope f h = let k = both_fine _ _ f in absurd (no_formula p k.1)
    sound_term (Quantified p q bs x) ahead over want scope f h = absurd (cc)
    sound_term (If p x y z) ahead over want scope f h = absurd (cc)

    pub sound_terms : (xs : Trees) (ahead : Bool) (scope : List Name) (ss : List ℕ) → count xs ≡ length ss → faults names sig xs (term_asked ahead false) scope ≡ None → argument_clash names sig sort_of xs ss scope ≡ None
        → MeanTerms names sig step sort_of xs ahead scope ss (terms_of names sig xs ahead scope)
    sound_terms none ahead scope [] e f h = tt
    sound_terms none ahead scope (s ∷ ss) e f h = absurd (omega (arith, e))
    sound_terms (more x xs) ahead scope [] e f h = absurd (omega (arith, e))
    sound_terms (more x xs) ahead scope (s ∷ ss) e f h =
        let fine = both_fine _ _ f in
        let good = both_fine _ _ h in
        let one = sound_term x ahead false (Some s) scope fine.0 good.0 in
        (subst (λ n. MeansTerm names sig step sort_of x ahead scope n (term_of names sig x ahead scope)) (sym (eqb-true s _ one.1)) one.0, sound_terms xs ahead scope ss (omega (arith, e)) fine.1 good.1)

  -- the terms of a `distinct`, which all have the sort of the first
  sound_alike : (xs : Trees) (ahead : Bool) (scope : List Name) (i s : ℕ) → distinct_faults names sig xs (asked names sig step sort_of ahead true) i scope ≡ None → each_clash names sig sort_of xs (Some s) scope ≡ None
      → MeanTerms names sig step sort_of xs ahead scope (one_sort xs s) (terms_of names sig xs ahead scope)
  sound_alike none ahead scope i s f h = tt
  sound_alike (more x xs) ahead scope i s f h =
      let fine = both_fine _ _ f in
      let good = both_fine _ _ h in
      let one = sound_term x ahead (not (nat_lt i 16)) (Some s) scope fine.0 good.0 in
      (subst (λ n. MeansTerm names sig step sort_of x ahead scope n (term_of names sig x ahead scope)) (sym (eqb-true s _ one.1)) one.0, sound_alike xs ahead scope (i + 1) s fine.1 good.1)

  no_more : (p : ℕ) → unless (not true) (TooMany p) ≡ None → ⊥
  no_more p h = absurd (cc)

  -- a term that is one too many is at fault
  over_name : (m : Meaning) (p : ℕ) (b : Bool) (n : ℕ) (ahead : Bool) → name_fault names sig (term_asked ahead true) m p b n ≡ None → ⊥
  over_name (Variable v level) p b n ahead f = let k = both_fine _ _ f in let l = both_fine _ _ k.1 in no_more p l.1
  over_name (Symbol k) p b n ahead f = let k = both_fine _ _ f in let l = both_fine _ _ k.1 in no_more p l.1
  over_name Unknown p b n ahead f = absurd (cc)

  over_fault : (x : Tree) (ahead : Bool) (scope : List Name) → fault names sig x (term_asked ahead true) scope ≡ None → ⊥
  over_fault (Named n b xs) ahead scope f = over_name (resolve names scope n.word) n.place b (count xs) ahead (let k = both_fine _ _ f in k.0)
  over_fault (New p x) ahead scope f = let k = both_fine _ _ f in let l = both_fine _ _ k.0 in let m = both_fine _ _ l.1 in no_more p m.1
  over_fault (Truth p b) ahead scope f = absurd (cc)
  over_fault (Distinct p xs) ahead scope f = absurd (cc)
  over_fault (Not p x) ahead scope f = absurd (cc)
  over_fault (Joined p j none) ahead scope f = absurd (cc)
  over_fault (Joined p j (more x xs)) ahead scope f = let k = both_fine _ _ f in no_formula p k.1
  over_fault (Connected p c x y) ahead scope f = let k = both_fine _ _ f in no_formula p k.1
  over_fault (Compared p e x y) ahead scope f = let k = both_fine _ _ f in no_formula p k.1
  over_fault (Quantified p q bs x) ahead scope f = absurd (cc)
  over_fault (If p x y z) ahead scope f = absurd (cc)

  few_terms : (xs : Trees) (ahead : Bool) (scope : List Name) (i : ℕ) → i ≤ 16 → distinct_faults names sig xs (asked names sig step sort_of ahead true) i scope ≡ None → count xs + i ≤ 16
  few_terms none ahead scope i le f = omega (arith, le)
  few_terms (more x xs) ahead scope i le f =
      let fine = both_fine _ _ f in
      elim (true_or_false (nat_lt i 16)) [
        | inl t ↦ let k = few_terms xs ahead scope (i + 1) (omega (arith, below i 16 t)) fine.1 in omega (arith, k)
        | inr t ↦ absurd (over_fault x ahead scope (subst (λ b. fault names sig x (term_asked ahead (not b)) scope ≡ None) t fine.0))
      ]

  sound_name : (m : Meaning) (p : ℕ) (b : Bool) (xs : Trees) (ahead : Bool) (scope : List Name) → name_fault names sig (asked names sig step sort_of ahead true) m p b (count xs) ≡ None
      → argument_clash names sig sort_of xs (places names sig m) scope ≡ None → Arguments xs ahead scope
      → NameMeans names sig step sort_of m (λ ss ts. MeanTerms names sig step sort_of xs ahead scope ss ts) ahead (named_formula names sig m ahead (terms_of names sig xs ahead scope))
  sound_name (Variable v level) p b xs ahead scope f h args = absurd (cc)
  sound_name (Symbol k) p b xs ahead scope f h args =
      let fine = both_fine _ _ f in
      let arity = eqb-true (count xs) (length (symbol_at sig k).args) (let g = both_fine _ _ fine.1 in unless_fine _ _ g.0) in
      (formula_kind _ p fine.0, terms_of names sig xs ahead scope, args (symbol_at sig k).args arity h, refl)
  sound_name Unknown p b xs ahead scope f h args = absurd (cc)

  sound_distinct : (xs : Trees) (ahead : Bool) (scope : List Name) → distinct_faults names sig xs (asked names sig step sort_of ahead true) 0 scope ≡ None → distinct_clash names sig sort_of xs scope ≡ None
      → (s : ℕ) × MeanTerms names sig step sort_of xs ahead scope (one_sort xs s) (terms_of names sig xs ahead scope)
  sound_distinct none ahead scope f h = (0, tt)
  sound_distinct (more x xs) ahead scope f h =
      let fine = both_fine _ _ f in
      let good = both_fine _ _ h in
      (term_sort names sig sort_of x scope, ((sound_term x ahead false None scope fine.0 good.0).0, sound_alike xs ahead scope 1 (term_sort names sig sort_of x scope) fine.1 good.1))

  members_fine : (xs : Trees) (p : ℕ) (ahead : Bool) (scope : List Name) → list_fault names sig xs (asked names sig step sort_of ahead true) p scope ≡ None → faults names sig xs (asked names sig step sort_of ahead true) scope ≡ None
  members_fine none p ahead scope h = refl
  members_fine (more x xs) p ahead scope h = h

  mutual
    pub sound : (x : Tree) (ahead : Bool) (scope : List Name) → length scope ≤ 64 → fault names sig x (asked names sig step sort_of ahead true) scope ≡ None → Agrees sort_of (uses names sig x scope)
        → clash names sig sort_of x None scope ≡ None → Means names sig step sort_of x ahead scope (formula_of names sig sort_of x ahead scope)
    sound (Truth p b) ahead scope le f a h = refl
    sound (Named n b xs) ahead scope le f a h =
        let fine = both_fine _ _ f in
        sound_name (resolve names scope n.word) n.place b xs ahead scope fine.0 h (λ ss e k. sound_terms xs ahead scope ss e fine.1 k)
    sound (New p x) ahead scope le f a h =
        let fine = both_fine _ _ f in
        let ok = new_fine ahead true false p fine.0 in
        (ok.0, ok.1, sound x true scope le fine.1 a h)
    sound (Distinct p xs) ahead scope le f a h =
        let k = sound_distinct xs ahead scope f h in
        let few = few_terms xs ahead scope 0 (omega arith) f in
        (omega (arith, few), k.0, terms_of names sig xs ahead scope, k.1, refl)
    sound (Not p x) ahead scope le f a h = (formula_of names sig sort_of x ahead scope, sound x ahead scope le f a h, refl)
    sound (Joined p j xs) ahead scope le f a h = (formulas_of names sig sort_of xs ahead scope, sound_each xs ahead scope le (members_fine xs p ahead scope f) a h, refl)
    sound (Connected p c x z) ahead scope le f a h =
        let fine = both_fine _ _ f in
        let good = both_fine _ _ h in (
          formula_of names sig sort_of x ahead scope,
          formula_of names sig sort_of z ahead scope,
          sound x ahead scope le fine.0 (agrees_left sort_of _ _ a) good.0,
          sound z ahead scope le fine.1 (agrees_right sort_of (uses names sig x scope) _ a) good.1,
          refl,
        )
    sound (Compared p e x z) ahead scope le f a h =
        let fine = both_fine _ _ f in
        let good = both_fine _ _ h in
        let left = sound_term x ahead false None scope fine.0 good.0 in
        let right = sound_term z ahead false (Some (term_sort names sig sort_of x scope)) scope fine.1 good.1 in (
          term_sort names sig sort_of x scope,
          term_of names sig x ahead scope,
          term_of names sig z ahead scope,
          left.0,
          subst (λ n. MeansTerm names sig step sort_of z ahead scope n (term_of names sig z ahead scope)) (sym (eqb-true _ _ right.1)) right.0,
          refl,
        )
    sound (Quantified p q bs x) ahead scope le f a h =
        let fine = both_fine _ _ f in
        let few = few_binders names sort_of bs (length scope) le fine.0 in
        let inner : length (scope ++ bound_names bs) ≤ 64 = rw (inner_length scope bs) few in (
          few,
          have_sorts names sort_of bs (each_sort_fine names sort_of bs (length scope) fine.0) (agrees_left sort_of (binder_uses names bs) _ a),
          formula_of names sig sort_of x ahead (scope ++ bound_names bs),
          sound x ahead (scope ++ bound_names bs) inner fine.1 (agrees_right sort_of (binder_uses names bs) _ a) h,
          refl,
        )
    sound (If p x z w) ahead scope le f a h =
        let fine = both_fine _ _ f in
        let rest = both_fine _ _ fine.1 in
        let good = both_fine _ _ h in
        let well = both_fine _ _ good.1 in
        let b = agrees_right sort_of (uses names sig x scope) _ a in (
          formula_of names sig sort_of x ahead scope,
          formula_of names sig sort_of z ahead scope,
          formula_of names sig sort_of w ahead scope,
          sound x ahead scope le fine.0 (agrees_left sort_of _ _ a) good.0,
          sound z ahead scope le rest.0 (agrees_left sort_of _ _ b) well.0,
          sound w ahead scope le rest.1 (agrees_right sort_of (uses names sig z scope) _ b) well.1,
          refl,
        )

    pub sound_each : (xs : Trees) (ahead : Bool) (scope : List Name) → length scope ≤ 64 → faults names sig xs (asked names sig step sort_of ahead true) scope ≡ None → Agrees sort_of (each_uses names sig xs scope)
        → each_clash names sig sort_of xs None scope ≡ None → EachMeans names sig step sort_of xs ahead scope (formulas_of names sig sort_of xs ahead scope)
    sound_each none ahead scope le f a h = tt
    sound_each (more x xs) ahead scope le f a h =
        let fine = both_fine _ _ f in
        let good = both_fine _ _ h in
        (sound x ahead scope le fine.0 (agrees_left sort_of _ _ a) good.0, sound_each xs ahead scope le fine.1 (agrees_right sort_of (uses names sig x scope) _ a) good.1)
