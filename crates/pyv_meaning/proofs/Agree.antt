-- The sorts of what an expression means agree with all its uses, and are declared ones.
use Rattle.std.proofs.Common.{◌≡◌, ℕ, ◌==◌, ◌++◌, Bool, true, false, cond, List, [], ◌∷◌, refl, sym, ◌∙◌, subst}
use Rattle.std.specs.Prelude.{Option, Some, None, IfSome}
use Rattle.std.specs.List.{AllByRecursion}
use Rattle.fo_core.specs.Tables.{symbol_at}
use Rattle.fo_core.specs.declared.names.Names.{Names}
use Rattle.fo_core.specs.declared.signature.Sig.{Sig}
use Rattle.fo_core.specs.declared.term.Term.{Term}
use Rattle.fo_core.specs.declared.formula.Formula.{Formula}
use Rattle.pyv_meaning.specs.declared.variable.Meaning.{Meaning}
use Rattle.pyv_meaning.specs.declared.variable.Meaning.TheVariants.{Variable, Symbol, Unknown}
use Rattle.pyv_meaning.specs.declared.variable.Side.{Side}
use Rattle.pyv_meaning.specs.declared.variable.Side.TheVariants.{OfVariable, OfSort, Neither}
use Rattle.pyv_meaning.specs.declared.variable.Use.{Use}
use Rattle.pyv_meaning.specs.declared.variable.Use.TheVariants.{Binder as Binds, Is, Alike}
use Rattle.pyv_meaning.specs.Gets.{Among, here, there, Gets, itself, along, back}
use Rattle.pyv_meaning.specs.Means.{one_sort, HaveSorts, NameMeansTerm, NameMeans, MeansTerm, MeanTerms, Means, EachMeans}
use Rattle.pyv_meaning.specs.Scope.{number, resolve}
use Rattle.pyv_meaning.specs.Uses.{stands, equated, equated_with, all_equated, first_occurs, has_sort, declared_as, binder_uses, side_of, side, sides, places, uses, each_uses, argument_uses}
use Rattle.pyv_meaning.specs.Tree.{Name, Binder, Tree, Trees, Truth, Named, New, Distinct, Not, Joined, Connected, Compared, Quantified, If, none, more, count, bound_names}

-- what is known of the sorts that are declared for symbols and variables
pub record SortsAre (names : Names) (sig : Sig) (Ok : ℕ → Type 0) : Type 0 where
  pub args : (k : ℕ) → AllByRecursion Ok (symbol_at sig k).args
  pub result : (k : ℕ) → (symbol_at sig k).relation ≡ false → Ok (symbol_at sig k).result
  pub told : (w : List ℕ) (s : ℕ) → number names.sorts w ≡ Some s → Ok s

module _ (sort_of : ℕ → ℕ) (Ok : ℕ → Type 0) where
  -- what a use says is so
  abbrev pub Holds : Use → Type 0
  Holds (Binds v) = Unit {0}
  Holds (Is v s) = (sort_of v ≡ s) × Ok s
  Holds (Alike v w) = sort_of v ≡ sort_of w

  abbrev pub Hold : List Use → Type 0
  Hold [] = Unit {0}
  Hold (u ∷ us) = Holds u × Hold us

  pub hold_both : (us vs : List Use) → Hold us → Hold vs → Hold (us ++ vs)
  hold_both [] vs h k = k
  hold_both (u ∷ us) vs h k = (h.0, hold_both us vs h.1 k)

  pub hold_at : (us : List Use) (u : Use) → Among u us → Hold us → Holds u
  hold_at _ u (here x xs) h = h.0
  hold_at _ u (there x y xs m) h = hold_at xs u m h.1

  -- So the variables get no other sorts than these.
  pub gets_same : (us : List Use) (v s : ℕ) → Hold us → Gets us v s → sort_of v ≡ s
  gets_same us _ _ h (itself v s m) = (hold_at us (Is v s) m h).0
  gets_same us _ _ h (along v w s m g) = hold_at us (Alike v w) m h ∙ gets_same us w s h g
  gets_same us _ _ h (back v w s m g) = sym (hold_at us (Alike v w) m h) ∙ gets_same us v s h g

  -- and these are declared ones
  pub gets_ok : (us : List Use) (v s : ℕ) → Hold us → Gets us v s → Ok s
  gets_ok us _ _ h (itself v s m) = (hold_at us (Is v s) m h).1
  gets_ok us _ _ h (along v w s m g) = gets_ok us w s h g
  gets_ok us _ _ h (back v w s m g) = gets_ok us v s h g

  abbrev HasSort : Side → ℕ → Type 0
  HasSort (OfVariable v) s = sort_of v ≡ s
  HasSort (OfSort r) s = (r ≡ s) × Ok r
  HasSort Neither s = Unit {0}

  abbrev AllHave : List Side → ℕ → Type 0
  AllHave [] s = Unit {0}
  AllHave (x ∷ xs) s = HasSort x s × AllHave xs s

  stands_hold : (x : Side) (s : ℕ) → Ok s → HasSort x s → Hold (stands x s)
  stands_hold (OfVariable v) s o h = ((h, o), tt)
  stands_hold (OfSort r) s o h = tt
  stands_hold Neither s o h = tt

  equated_hold : (x y : Side) (s : ℕ) → HasSort x s → HasSort y s → Hold (equated x y)
  equated_hold (OfVariable v) (OfVariable w) s h k = (h ∙ sym k, tt)
  equated_hold (OfVariable v) (OfSort r) s h k = ((h ∙ sym k.0, k.1), tt)
  equated_hold (OfVariable v) Neither s h k = tt
  equated_hold (OfSort r) (OfVariable v) s h k = ((k ∙ sym h.0, h.1), tt)
  equated_hold (OfSort r) (OfSort q) s h k = tt
  equated_hold (OfSort r) Neither s h k = tt
  equated_hold Neither y s h k = tt

  with_hold : (x : Side) (ys : List Side) (s : ℕ) → HasSort x s → AllHave ys s → Hold (equated_with x ys)
  with_hold x [] s h k = tt
  with_hold x (y ∷ ys) s h k = hold_both (equated x y) _ (equated_hold x y s h k.0) (with_hold x ys s h k.1)

  all_hold : (xs : List Side) (s : ℕ) → AllHave xs s → Hold (all_equated xs)
  all_hold [] s h = tt
  all_hold (x ∷ xs) s h = hold_both (equated_with x xs) _ (with_hold x xs s h.0 h.1) (all_hold xs s h.1)

  first_hold : (m : Meaning) (p : ℕ) → Hold (first_occurs m p)
  first_hold (Variable v level) p = elim (v == p) as (λ b. Hold (cond b (Binds v ∷ []) [])) [ true ↦ (tt, tt) | false ↦ tt ]
  first_hold (Symbol k) p = tt
  first_hold Unknown p = tt

module _ (names : Names) (sig : Sig) (sort_of : ℕ → ℕ) (Ok : ℕ → Type 0) (sorts : SortsAre names sig Ok) where
  declared_hold : (v : ℕ) (d : Option Name) → IfSome d (λ (n : Name). number names.sorts n.word ≡ Some (sort_of v)) → Hold sort_of Ok (declared_as names v d)
  declared_hold v None h = tt
  declared_hold v (Some n) h = subst (λ o. Hold sort_of Ok (has_sort v o)) (sym h) ((refl, sorts.told n.word (sort_of v) h), tt)

  pub binders_hold : (bs : List Binder) → HaveSorts names sort_of bs → Hold sort_of Ok (binder_uses names bs)
  binders_hold [] h = tt
  binders_hold (b ∷ bs) h = (tt, hold_both sort_of Ok (declared_as names b.name.place b.sort) _ (declared_hold b.name.place b.sort h.0) (binders_hold bs h.1))

module _ (names : Names) (sig : Sig) (step : Bool) (sort_of : ℕ → ℕ) (Ok : ℕ → Type 0) (sorts : SortsAre names sig Ok) where
  side_named : (m : Meaning) (b : Bool) (n : ℕ) (P : List ℕ → List Term → Type 0) (ahead : Bool) (s : ℕ) (t : Term) → NameMeansTerm names sig step sort_of m b n P ahead s t → HasSort sort_of Ok (side_of names sig m) s
  side_named (Variable v level) b n P ahead s t h = h.1
  side_named (Symbol k) b n P ahead s t h = (h.1, sorts.result k h.0)
  side_named Unknown b n P ahead s t h = absurd h

  side_has : (x : Tree) (ahead : Bool) (scope : List Name) (s : ℕ) (t : Term) → MeansTerm names sig step sort_of x ahead scope s t → HasSort sort_of Ok (side names sig x scope) s
  side_has (Named n b xs) ahead scope s t h = side_named (resolve names scope n.word) b (count xs) _ ahead s t h
  side_has (New p x) ahead scope s t h = side_has x true scope s t h.2
  side_has (Truth p b) ahead scope s t h = tt
  side_has (Distinct p xs) ahead scope s t h = tt
  side_has (Not p x) ahead scope s t h = tt
  side_has (Joined p j xs) ahead scope s t h = tt
  side_has (Connected p c x y) ahead scope s t h = tt
  side_has (Compared p e x y) ahead scope s t h = tt
  side_has (Quantified p q bs x) ahead scope s t h = tt
  side_has (If p x y z) ahead scope s t h = tt

  sides_have : (xs : Trees) (ahead : Bool) (scope : List Name) (s : ℕ) (ts : List Term) → MeanTerms names sig step sort_of xs ahead scope (one_sort xs s) ts → AllHave sort_of Ok (sides names sig xs scope) s
  sides_have none ahead scope s ts h = tt
  sides_have (more x xs) ahead scope s [] h = absurd h
  sides_have (more x xs) ahead scope s (t ∷ ts) h = (side_has x ahead scope s t h.0, sides_have xs ahead scope s ts h.1)

  abbrev Given : Trees → Bool → List Name → Type 0
  Given xs ahead scope = (ss : List ℕ) (ts : List Term) → AllByRecursion Ok ss → MeanTerms names sig step sort_of xs ahead scope ss ts → Hold sort_of Ok (argument_uses names sig xs ss scope)

  no_arguments : (xs : Trees) (scope : List Name) → Hold sort_of Ok (argument_uses names sig xs [] scope)
  no_arguments none scope = tt
  no_arguments (more x xs) scope = tt

  named_hold : (m : Meaning) (b : Bool) (xs : Trees) (ahead : Bool) (scope : List Name) (s : ℕ) (t : Term) → NameMeansTerm names sig step sort_of m b (count xs) (λ ss ts. MeanTerms names sig step sort_of xs ahead scope ss ts) ahead s t
      → Given xs ahead scope → Hold sort_of Ok (argument_uses names sig xs (places names sig m) scope)
  named_hold (Variable v level) b xs ahead scope s t h args = no_arguments xs scope
  named_hold (Symbol k) b xs ahead scope s t h args = args (symbol_at sig k).args h.2 (sorts.args k) h.3
  named_hold Unknown b xs ahead scope s t h args = absurd h

  name_hold : (m : Meaning) (xs : Trees) (ahead : Bool) (scope : List Name) (y : Formula) → NameMeans names sig step sort_of m (λ ss ts. MeanTerms names sig step sort_of xs ahead scope ss ts) ahead y
      → Given xs ahead scope → Hold sort_of Ok (argument_uses names sig xs (places names sig m) scope)
  name_hold (Variable v level) xs ahead scope y h args = absurd h
  name_hold (Symbol k) xs ahead scope y h args = args (symbol_at sig k).args h.1 (sorts.args k) h.2
  name_hold Unknown xs ahead scope y h args = absurd h

  mutual
    pub term_agrees : (x : Tree) (ahead : Bool) (scope : List Name) (s : ℕ) (t : Term) → MeansTerm names sig step sort_of x ahead scope s t → Hold sort_of Ok (uses names sig x scope)
    term_agrees (Named n b xs) ahead scope s t h =
        hold_both sort_of Ok (first_occurs (resolve names scope n.word) n.place) _ (first_hold sort_of Ok (resolve names scope n.word) n.place)
        (named_hold (resolve names scope n.word) b xs ahead scope s t h (λ ss ts o m. terms_agree xs ahead scope ss ts o m))
    term_agrees (New p x) ahead scope s t h = term_agrees x true scope s t h.2
    term_agrees (Truth p b) ahead scope s t h = absurd h
    term_agrees (Distinct p xs) ahead scope s t h = absurd h
    term_agrees (Not p x) ahead scope s t h = absurd h
    term_agrees (Joined p j xs) ahead scope s t h = absurd h
    term_agrees (Connected p c x y) ahead scope s t h = absurd h
    term_agrees (Compared p e x y) ahead scope s t h = absurd h
    term_agrees (Quantified p q bs x) ahead scope s t h = absurd h
    term_agrees (If p x y z) ahead scope s t h = absurd h

    pub terms_agree : (xs : Trees) (ahead : Bool) (scope : List Name) (ss : List ℕ) (ts : List Term) → AllByRecursion Ok ss → MeanTerms names sig step sort_of xs ahead scope ss ts → Hold sort_of Ok (argument_uses names sig xs ss scope)
    terms_agree none ahead scope ss ts o h = tt
    terms_agree (more x xs) ahead scope [] ts o h = tt
    terms_agree (more x xs) ahead scope (s ∷ ss) [] o h = absurd h
    terms_agree (more x xs) ahead scope (s ∷ ss) (t ∷ ts) o h =
        hold_both sort_of Ok (stands (side names sig x scope) s) _ (stands_hold sort_of Ok (side names sig x scope) s o.0 (side_has x ahead scope s t h.0))
        (hold_both sort_of Ok (uses names sig x scope) _ (term_agrees x ahead scope s t h.0) (terms_agree xs ahead scope ss ts o.1 h.1))

  alike_agree : (xs : Trees) (ahead : Bool) (scope : List Name) (ss : List ℕ) (ts : List Term) → MeanTerms names sig step sort_of xs ahead scope ss ts → Hold sort_of Ok (each_uses names sig xs scope)
  alike_agree none ahead scope ss ts h = tt
  alike_agree (more x xs) ahead scope [] ts h = absurd h
  alike_agree (more x xs) ahead scope (s ∷ ss) [] h = absurd h
  alike_agree (more x xs) ahead scope (s ∷ ss) (t ∷ ts) h = hold_both sort_of Ok (uses names sig x scope) _ (term_agrees x ahead scope s t h.0) (alike_agree xs ahead scope ss ts h.1)

  mutual
    -- An expression's meaning agrees with all its uses.
    pub agrees : (x : Tree) (ahead : Bool) (scope : List Name) (y : Formula) → Means names sig step sort_of x ahead scope y → Hold sort_of Ok (uses names sig x scope)
    agrees (Truth p b) ahead scope y h = tt
    agrees (Named n b xs) ahead scope y h =
        hold_both sort_of Ok (first_occurs (resolve names scope n.word) n.place) _ (first_hold sort_of Ok (resolve names scope n.word) n.place)
        (name_hold (resolve names scope n.word) xs ahead scope y h (λ ss ts o m. terms_agree xs ahead scope ss ts o m))
    agrees (New p x) ahead scope y h = agrees x true scope y h.2
    agrees (Distinct p xs) ahead scope y h =
        hold_both sort_of Ok (all_equated (sides names sig xs scope)) _ (all_hold sort_of Ok (sides names sig xs scope) h.1 (sides_have xs ahead scope h.1 h.2 h.3)) (alike_agree xs ahead scope (one_sort xs h.1) h.2 h.3)
    agrees (Not p x) ahead scope y h = agrees x ahead scope h.0 h.1
    agrees (Joined p j xs) ahead scope y h = each_agrees xs ahead scope h.0 h.1
    agrees (Connected p c x z) ahead scope y h = hold_both sort_of Ok (uses names sig x scope) _ (agrees x ahead scope h.0 h.2) (agrees z ahead scope h.1 h.3)
    agrees (Compared p e x z) ahead scope y h =
        hold_both sort_of Ok (equated (side names sig x scope) (side names sig z scope)) _
        (equated_hold sort_of Ok (side names sig x scope) (side names sig z scope) h.0 (side_has x ahead scope h.0 h.1 h.3) (side_has z ahead scope h.0 h.2 h.4))
        (hold_both sort_of Ok (uses names sig x scope) _ (term_agrees x ahead scope h.0 h.1 h.3) (term_agrees z ahead scope h.0 h.2 h.4))
    agrees (Quantified p q bs x) ahead scope y h = hold_both sort_of Ok (binder_uses names bs) _ (binders_hold names sig sort_of Ok sorts bs h.1) (agrees x ahead (scope ++ bound_names bs) h.2 h.3)
    agrees (If p x z w) ahead scope y h =
        hold_both sort_of Ok (uses names sig x scope) _ (agrees x ahead scope h.0 h.3)
        (hold_both sort_of Ok (uses names sig z scope) _ (agrees z ahead scope h.1 h.4) (agrees w ahead scope h.2 h.5))

    pub each_agrees : (xs : Trees) (ahead : Bool) (scope : List Name) (ys : List Formula) → EachMeans names sig step sort_of xs ahead scope ys → Hold sort_of Ok (each_uses names sig xs scope)
    each_agrees none ahead scope ys h = tt
    each_agrees (more x xs) ahead scope [] h = absurd h
    each_agrees (more x xs) ahead scope (y ∷ ys) h = hold_both sort_of Ok (uses names sig x scope) _ (agrees x ahead scope y h.0) (each_agrees xs ahead scope ys h.1)
