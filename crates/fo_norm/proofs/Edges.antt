-- Skolem functions lead from sort to sort along the edges of the formulas in the sort graph.
use Rattle.std.proofs.Common.{◌≡◌, ℕ, Bool, true, false, true≢false, not, ◌↔◌, ◌⊎◌, inl, inr, List, [], ◌∷◌, ◌++◌, refl, sym, subst, arith}
use Rattle.std.specs.List.{Any, Contains}
use Rattle.std.proofs.lemmas.List.Elements.{Contains-append_left, Contains-push, Contains-push_cases}
use Rattle.fo_core.specs.declared.signature.Sig.{Sig}
use Rattle.fo_core.specs.declared.signature.Symbol.{Symbol}
use Rattle.fo_core.specs.declared.formula.Formula.{Formula, True, False, Rel, Eq, Not', And', Or', All', Ex', Row_of-Formula, end_of-Formula, more_of-Formula}
use Rattle.fo_core.specs.Skolems.{skolem, skolem_symbols, skolem_symbols_row, skolem_symbols_list, extended}
use Rattle.fo_core.specs.SortGraph.{HasExistential, OneHasExistential, FormulaEdge, OneFormulaEdge, Leads, FunctionEdge, FormulasEdge, ClaimsEdge}
use Rattle.fo_core.proofs.ShiftTruth.{either_way, any_cases, any_made}

module _ {X : Type 0} (P : X → Type 0) where
  none : Any P [] → ⊥
  none h = absurd (omega (arith, h.2))

  any_split : (xs ys : List X) → Any P (xs ++ ys) → Any P xs ⊎ Any P ys
  any_split [] ys h = inr h
  any_split (x ∷ xs) ys h = at (any_split xs ys) (any_cases P x (xs ++ ys) h)
    where
      at : (Any P (xs ++ ys) → Any P xs ⊎ Any P ys) → P x ⊎ Any P (xs ++ ys) → Any P (x ∷ xs) ⊎ Any P ys
      at rest (inl p) = inl (any_made P x xs (inl p))
      at rest (inr a) = either_way (λ b. any_made P x xs (inr b)) (λ b. b) (rest a)

  any_left : (xs ys : List X) → Any P xs → Any P (xs ++ ys)
  any_left [] ys h = absurd (none h)
  any_left (x ∷ xs) ys h = any_made P x (xs ++ ys) (either_way (λ p. p) (any_left xs ys) (any_cases P x xs h))

  any_right : (xs ys : List X) → Any P ys → Any P (xs ++ ys)
  any_right [] ys h = h
  any_right (x ∷ xs) ys h = any_made P x (xs ++ ys) (inr (any_right xs ys h))

  any_joined : (xs ys : List X) → Any P xs ⊎ Any P ys → Any P (xs ++ ys)
  any_joined xs ys (inl h) = any_left xs ys h
  any_joined xs ys (inr h) = any_right xs ys h

module _ (a b : ℕ) where
  -- an edge into an existential of the formula from a universal above it, or inside
  abbrev Inner : Bool → Formula → List ℕ → Type 0
  Inner sign f us = (Contains us a × HasExistential b f sign) ⊎ FormulaEdge a b f sign

  abbrev InnerRow : Bool → {n : _} → Row_of-Formula n → List ℕ → Type 0
  InnerRow sign row us = (Contains us a × OneHasExistential b row sign) ⊎ OneFormulaEdge a b row sign

  abbrev Led : List Symbol → Type 0
  Led = Any (Leads a b)

  below : (sign : Bool) (f : Formula) (us : List ℕ) (s : ℕ) → Inner sign f (us ++ s ∷ []) → (Contains us a × HasExistential b f sign) ⊎ ((s ≡ a) × HasExistential b f sign) ⊎ FormulaEdge a b f sign
  below sign f us s (inr e) = inr (inr e)
  below sign f us s (inl h) = at (Contains-push_cases us s a h.0)
    where
      at : Contains us a ⊎ (s ≡ a) → (Contains us a × HasExistential b f sign) ⊎ ((s ≡ a) × HasExistential b f sign) ⊎ FormulaEdge a b f sign
      at (inl c) = inl (c, h.1)
      at (inr e) = inr (inl (e, h.1))

  last_of : (us : List ℕ) (s : ℕ) → s ≡ a → Contains (us ++ s ∷ []) a
  last_of us s e = subst (λ x. Contains (us ++ s ∷ []) x) e (Contains-push us s)

  -- a universal adds edges from its sort
  under_universal : (P : Type 0) (sign : Bool) (f : Formula) (us : List ℕ) (s : ℕ) → Inner sign f (us ++ s ∷ []) → (Contains us a × (P ⊎ HasExistential b f sign)) ⊎ ((sign ≡ sign) × (s ≡ a) × HasExistential b f sign) ⊎ FormulaEdge a b f sign
  under_universal P sign f us s h = at (below sign f us s h)
    where
      at : (Contains us a × HasExistential b f sign) ⊎ ((s ≡ a) × HasExistential b f sign) ⊎ FormulaEdge a b f sign → (Contains us a × (P ⊎ HasExistential b f sign)) ⊎ ((sign ≡ sign) × (s ≡ a) × HasExistential b f sign) ⊎ FormulaEdge a b f sign
      at (inl r) = inl (r.0, inr r.1)
      at (inr (inl r)) = inr (inl (refl, r.0, r.1))
      at (inr (inr e)) = inr (inr e)

  from_universal : (sign : Bool) (f : Formula) (us : List ℕ) (s : ℕ) {P Q : Type 0} → ¬ P → (Contains us a × (P ⊎ HasExistential b f sign)) ⊎ (Q × (s ≡ a) × HasExistential b f sign) ⊎ FormulaEdge a b f sign → Inner sign f (us ++ s ∷ [])
  from_universal sign f us s never (inl (c, inl p)) = absurd (never p)
  from_universal sign f us s never (inl (c, inr h)) = inl (Contains-append_left us (s ∷ []) a c, h)
  from_universal sign f us s never (inr (inl h)) = inl (last_of us s h.1, h.2)
  from_universal sign f us s never (inr (inr e)) = inr e

  -- an existential adds edges to its sort
  at_existential : (Q : Type 0) (sign : Bool) (f : Formula) (us : List ℕ) (s : ℕ) (ss : List Symbol) → (Led ss → Inner sign f us) → Led (skolem us s ∷ ss) → (Contains us a × (((sign ≡ sign) × (s ≡ b)) ⊎ HasExistential b f sign)) ⊎ Q ⊎ FormulaEdge a b f sign
  at_existential Q sign f us s ss inner h = at (any_cases (Leads a b) (skolem us s) ss h)
    where
      later : Inner sign f us → (Contains us a × (((sign ≡ sign) × (s ≡ b)) ⊎ HasExistential b f sign)) ⊎ Q ⊎ FormulaEdge a b f sign
      later (inl r) = inl (r.0, inr r.1)
      later (inr e) = inr (inr e)

      at : Leads a b (skolem us s) ⊎ Led ss → (Contains us a × (((sign ≡ sign) × (s ≡ b)) ⊎ HasExistential b f sign)) ⊎ Q ⊎ FormulaEdge a b f sign
      at (inl l) = inl (l.argument, inl (refl, l.result))
      at (inr r) = later (inner r)

  from_existential : (sign : Bool) (f : Formula) (us : List ℕ) (s : ℕ) (ss : List Symbol) {P Q : Type 0} → ¬ Q → (Inner sign f us → Led ss) → (Contains us a × ((P × (s ≡ b)) ⊎ HasExistential b f sign)) ⊎ (Q × (s ≡ a) × HasExistential b f sign) ⊎ FormulaEdge a b f sign → Led (skolem us s ∷ ss)
  from_existential sign f us s ss never inner (inl (c, inl e)) = any_made (Leads a b) (skolem us s) ss (inl (record { function = refl; argument = c; result = e.1 }))
  from_existential sign f us s ss never inner (inl (c, inr h)) = any_made (Leads a b) (skolem us s) ss (inr (inner (inl (c, h))))
  from_existential sign f us s ss never inner (inr (inl h)) = absurd (never h.0)
  from_existential sign f us s ss never inner (inr (inr e)) = any_made (Leads a b) (skolem us s) ss (inr (inner (inr e)))

  one_of : (sign : Bool) (f : Formula) {n : _} (rest : Row_of-Formula n) (us : List ℕ) → Inner sign f us ⊎ InnerRow sign rest us → (Contains us a × (HasExistential b f sign ⊎ OneHasExistential b rest sign)) ⊎ FormulaEdge a b f sign ⊎ OneFormulaEdge a b rest sign
  one_of sign f rest us (inl (inl h)) = inl (h.0, inl h.1)
  one_of sign f rest us (inl (inr e)) = inr (inl e)
  one_of sign f rest us (inr (inl h)) = inl (h.0, inr h.1)
  one_of sign f rest us (inr (inr e)) = inr (inr e)

  which_of : (sign : Bool) (f : Formula) {n : _} (rest : Row_of-Formula n) (us : List ℕ) → (Contains us a × (HasExistential b f sign ⊎ OneHasExistential b rest sign)) ⊎ FormulaEdge a b f sign ⊎ OneFormulaEdge a b rest sign → Inner sign f us ⊎ InnerRow sign rest us
  which_of sign f rest us (inl (c, inl h)) = inl (inl (c, h))
  which_of sign f rest us (inl (c, inr h)) = inr (inl (c, h))
  which_of sign f rest us (inr (inl e)) = inl (inr e)
  which_of sign f rest us (inr (inr e)) = inr (inr e)

  neither : {P : Type 0} → (P × ⊥) ⊎ ⊥ → ⊥
  neither (inl h) = h.1
  neither (inr h) = h

  mutual
    led_inner : (sign : Bool) (f : Formula) (us : List ℕ) → Led (skolem_symbols sign f us) → Inner sign f us
    led_inner sign True us h = absurd (none (Leads a b) h)
    led_inner sign False us h = absurd (none (Leads a b) h)
    led_inner sign (Rel r d args) us h = absurd (none (Leads a b) h)
    led_inner sign (Eq x y) us h = absurd (none (Leads a b) h)
    led_inner sign (Not' _ (more_of-Formula f _)) us h = led_inner (not sign) f us h
    led_inner sign (And' _ row) us h = led_inner_row sign row us h
    led_inner sign (Or' _ row) us h = led_inner_row sign row us h
    led_inner true (All' s _ (more_of-Formula f _)) us h = under_universal ((true ≡ false) × (s ≡ b)) true f us s (led_inner true f (us ++ s ∷ []) h)
    led_inner false (All' s _ (more_of-Formula f _)) us h = at_existential ((false ≡ true) × (s ≡ a) × HasExistential b f false) false f us s (skolem_symbols false f us) (led_inner false f us) h
    led_inner true (Ex' s _ (more_of-Formula f _)) us h = at_existential ((true ≡ false) × (s ≡ a) × HasExistential b f true) true f us s (skolem_symbols true f us) (led_inner true f us) h
    led_inner false (Ex' s _ (more_of-Formula f _)) us h = under_universal ((false ≡ true) × (s ≡ b)) false f us s (led_inner false f (us ++ s ∷ []) h)

    led_inner_row : (sign : Bool) {n : _} (row : Row_of-Formula n) (us : List ℕ) → Led (skolem_symbols_row sign row us) → InnerRow sign row us
    led_inner_row sign end_of-Formula us h = absurd (none (Leads a b) h)
    led_inner_row sign (more_of-Formula f rest) us h =
        one_of sign f rest us (either_way (led_inner sign f us) (led_inner_row sign rest us) (any_split (Leads a b) (skolem_symbols sign f us) (skolem_symbols_row sign rest us) h))

  mutual
    inner_led : (sign : Bool) (f : Formula) (us : List ℕ) → Inner sign f us → Led (skolem_symbols sign f us)
    inner_led sign True us h = absurd (neither h)
    inner_led sign False us h = absurd (neither h)
    inner_led sign (Rel r d args) us h = absurd (neither h)
    inner_led sign (Eq x y) us h = absurd (neither h)
    inner_led sign (Not' _ (more_of-Formula f _)) us h = inner_led (not sign) f us h
    inner_led sign (And' _ row) us h = inner_led_row sign row us h
    inner_led sign (Or' _ row) us h = inner_led_row sign row us h
    inner_led true (All' s _ (more_of-Formula f _)) us h = inner_led true f (us ++ s ∷ []) (from_universal true f us s (λ p. true≢false p.0) h)
    inner_led false (All' s _ (more_of-Formula f _)) us h = from_existential false f us s (skolem_symbols false f us) (λ q. true≢false (sym q)) (inner_led false f us) h
    inner_led true (Ex' s _ (more_of-Formula f _)) us h = from_existential true f us s (skolem_symbols true f us) true≢false (inner_led true f us) h
    inner_led false (Ex' s _ (more_of-Formula f _)) us h = inner_led false f (us ++ s ∷ []) (from_universal false f us s (λ p. true≢false (sym p.0)) h)

    inner_led_row : (sign : Bool) {n : _} (row : Row_of-Formula n) (us : List ℕ) → InnerRow sign row us → Led (skolem_symbols_row sign row us)
    inner_led_row sign end_of-Formula us h = absurd (neither h)
    inner_led_row sign (more_of-Formula f rest) us h =
        any_joined (Leads a b) (skolem_symbols sign f us) (skolem_symbols_row sign rest us) (either_way (inner_led sign f us) (inner_led_row sign rest us) (which_of sign f rest us h))

  -- at closed claims
  closed : (f : Formula) → Inner true f [] → FormulaEdge a b f true
  closed f (inl h) = absurd (omega (arith, h.0.1))
  closed f (inr e) = e

  claims_led : (fs : List Formula) → Led (skolem_symbols_list true fs []) → FormulasEdge fs true a b
  claims_led [] h = absurd (none (Leads a b) h)
  claims_led (f ∷ fs) h =
      any_made (λ f. FormulaEdge a b f true) f fs
      (either_way (λ l. closed f (led_inner true f [] l)) (claims_led fs) (any_split (Leads a b) (skolem_symbols true f []) (skolem_symbols_list true fs []) h))

  led_claims : (fs : List Formula) → FormulasEdge fs true a b → Led (skolem_symbols_list true fs [])
  led_claims [] h = absurd (none (λ f. FormulaEdge a b f true) h)
  led_claims (f ∷ fs) h =
      any_joined (Leads a b) (skolem_symbols true f []) (skolem_symbols_list true fs [])
      (either_way (λ e. inner_led true f [] (inr e)) (led_claims fs) (any_cases (λ f. FormulaEdge a b f true) f fs h))

  pub same_edges : (sig : Sig) (fs : List Formula) → FunctionEdge (extended sig (skolem_symbols_list true fs [])) a b ↔ ClaimsEdge sig fs a b
  same_edges sig fs = (
    λ h. either_way (λ l. l) (claims_led fs) (any_split (Leads a b) sig.symbols (skolem_symbols_list true fs []) h),
    λ h. any_joined (Leads a b) sig.symbols (skolem_symbols_list true fs []) (either_way (λ l. l) (led_claims fs) h),
  )
