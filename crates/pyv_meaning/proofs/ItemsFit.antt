-- A system that declarations mean is well-sorted, its names fit, and no place of it stands under more than 64 binders.
use Rattle.std.proofs.Common.{◌≡◌, ℕ, zero, suc, ◌+◌, ◌-◌, ◌^◌, ◌<◌, ◌≤◌, false, List, [], ◌∷◌, length, map, refl, sym, ap, ◌∙◌, subst, inl, inr, arith}
use Rattle.std.specs.Prelude.{Option, Some, None, IfSome, is_none, slice_index_or}
use Rattle.std.specs.List.{All, AllZip, AllByRecursion}
use Rattle.std.proofs.lemmas.List.{length-map}
use Rattle.std.proofs.lemmas.List.Elements.{All-nil, All-cons}
use Rattle.fo_core.specs.Named.{NamesFit}
use Rattle.fo_core.specs.Sorted.{IsFormula, AreClosed, HasSorts, IsSig, IsStepOf, IsSystem, binders, NestAtMost, IsWithinDepth}
use Rattle.fo_core.specs.Tables.{no_symbol}
use Rattle.fo_core.specs.declared.names.Names.{Names}
use Rattle.fo_core.specs.declared.signature.Sig.{Sig}
use Rattle.fo_core.specs.declared.system.Step.{Step}
use Rattle.fo_core.specs.declared.system.System.{System}
use Rattle.fo_core.specs.declared.formula.Formula.{Formula}
use Rattle.fo_core.proofs.Zips.{AllZip-length}
use Rattle.pyv_meaning.specs.Bodies.{ClaimMeans, StepMeans}
use Rattle.pyv_meaning.specs.Declaring.{words, symbol_names, names_in, sort_number, result_number, symbol_in, sig_in, IsSort, IsDeclared, AreDeclared}
use Rattle.pyv_meaning.specs.Gets.{Among, here, there}
use Rattle.pyv_meaning.specs.Items.{Item, SymbolItem, Body, Role, Axiom, Init, Safety, Invariant, claim_body, transition_body, is_role, sorts, symbols, transitions, steps, claim_of, claims}
use Rattle.pyv_meaning.specs.Items as item
use Rattle.pyv_meaning.specs.Meaning.{ItemsMean}
use Rattle.pyv_meaning.specs.Scope.{number, or_zero}
use Rattle.pyv_meaning.specs.Tree.{Name, Binder, Tree, bound_names}
use Rattle.pyv_meaning.proofs.Agree.{SortsAre}
use Rattle.pyv_meaning.proofs.Basics.{among_left, first_or}
use Rattle.pyv_meaning.proofs.Complete.{bound_length}
use Rattle.pyv_meaning.proofs.Congruent.{told_bound}
use Rattle.pyv_meaning.proofs.Fits.{number_below}
use Rattle.pyv_meaning.proofs.SystemFits.{sorts_ok, body_fine}
use Rattle.pyv_meaning.proofs.Top.{each_at}
use Rattle.pyv_meaning.proofs.Whole.{modifies_none, is_claim}

-- a step is a transition
is_transition : (items : List Item) (b : Body) → Among b (steps items) → (ps : List Binder) × (ms : List Name) × (x : Tree) × (b ≡ transition_body ps ms x)
is_transition [] b m = elim m [ ]
is_transition (item.Sort n ∷ rest) b m = is_transition rest b m
is_transition (item.Symbol s ∷ rest) b m = is_transition rest b m
is_transition (item.Trace ∷ rest) b m = is_transition rest b m
is_transition (item.Claim r x ∷ rest) b m = is_transition rest b m
is_transition (item.Transition n ps ms x ∷ rest) b m = elim (first_or b (transition_body ps ms x) (steps rest) m) [ inl e ↦ (ps, ms, x, e) | inr q ↦ is_transition rest b q ]

-- as many steps as transitions, and no more properties than declarations
steps_length : (items : List Item) → length (steps items) ≡ length (transitions items)
steps_length [] = refl
steps_length (item.Sort n ∷ rest) = steps_length rest
steps_length (item.Symbol s ∷ rest) = steps_length rest
steps_length (item.Trace ∷ rest) = steps_length rest
steps_length (item.Claim r x ∷ rest) = steps_length rest
steps_length (item.Transition n ps ms x ∷ rest) = omega (arith, steps_length rest)

properties_length : (items : List Item) → length (claims Safety items) + length (claims Invariant items) ≤ length items
properties_length [] = omega arith
properties_length (item.Sort n ∷ rest) = omega (arith, properties_length rest)
properties_length (item.Symbol s ∷ rest) = omega (arith, properties_length rest)
properties_length (item.Trace ∷ rest) = omega (arith, properties_length rest)
properties_length (item.Transition n ps ms x ∷ rest) = omega (arith, properties_length rest)
properties_length (item.Claim Axiom x ∷ rest) = omega (arith, properties_length rest)
properties_length (item.Claim Init x ∷ rest) = omega (arith, properties_length rest)
properties_length (item.Claim Safety x ∷ rest) = omega (arith, properties_length rest)
properties_length (item.Claim Invariant x ∷ rest) = omega (arith, properties_length rest)

all_of : {A B : Type 0} (P : A → Type 0) (Q : B → Type 0) (f : A → B) (xs : List A) → ((x : A) → P x → Q (f x)) → AllByRecursion P xs → All Q (map f xs)
all_of {A = A} {B = B} P Q f [] g h = All-nil Q
all_of {A = A} {B = B} P Q f (x ∷ xs) g h = All-cons Q (f x) (map f xs) (g x h.0) (all_of P Q f xs g h.1)

each_of : {A B : Type 0} (P : A → Type 0) (Q : B → Type 0) (f : A → B) (xs : List A) → ((x : A) → P x → Q (f x)) → AllByRecursion P xs → AllByRecursion Q (map f xs)
each_of {A = A} {B = B} P Q f [] g h = tt
each_of {A = A} {B = B} P Q f (x ∷ xs) g h = (g x h.0, each_of P Q f xs g h.1)

all_among : (P : ℕ → Type 0) (f : Name → ℕ) (ns : List Name) → ((n : Name) → Among n ns → P (f n)) → All P (map f ns)
all_among P f [] h = All-nil P
all_among P f (n ∷ ns) h = All-cons P (f n) (map f ns) (h n (here _ _)) (all_among P f ns (λ k m. h k (there _ _ _ m)))

module _ (items : List Item) (d : AreDeclared items) where
  abbrev IsLow : ℕ → Type 0
  IsLow s = s < length (sorts items)

  sort_below : (n : Name) → IsSort items n → IsLow (sort_number items n)
  sort_below n h =
      let e : sort_number items n ≡ h.0 = ap or_zero h.1 in
      let long = length-map (sorts items) (λ (n : Name). n.word) in
      let low = number_below (words (sorts items)) n.word h.0 h.1 in
      omega (arith, e, long, low)

  result_below : (r : Option Name) → IfSome r (IsSort items) → is_none r ≡ false → IsLow (result_number items r)
  result_below None h e = absurd (cc)
  result_below (Some n) h e = sort_below n h

  args_at : (ss : List SymbolItem) → AllByRecursion (IsDeclared items) ss → (k : ℕ) → AllByRecursion IsLow (slice_index_or (map (symbol_in items) ss) k no_symbol).args
  args_at [] h k = tt
  args_at (s ∷ ss) h zero = each_of (IsSort items) IsLow (sort_number items) s.args sort_below h.0.args
  args_at (s ∷ ss) h (suc k) = args_at ss h.1 k

  result_at : (ss : List SymbolItem) → AllByRecursion (IsDeclared items) ss → (k : ℕ) → (slice_index_or (map (symbol_in items) ss) k no_symbol).relation ≡ false → IsLow (slice_index_or (map (symbol_in items) ss) k no_symbol).result
  result_at [] h k e = absurd (cc)
  result_at (s ∷ ss) h zero e = result_below s.result h.0.result e
  result_at (s ∷ ss) h (suc k) e = result_at ss h.1 k e

  sorts_are : SortsAre (names_in items) (sig_in items) IsLow
  sorts_are = record {
    args = args_at (symbols items) d.symbols_declared;
    result = result_at (symbols items) d.symbols_declared;
    told = λ w s e. let long = length-map (sorts items) (λ (n : Name). n.word) in let low = number_below (words (sorts items)) w s e in omega (arith, long, low);
  }

  known : (w : List ℕ) (k : ℕ) → number (names_in items).symbols w ≡ Some k → k < length (sig_in items).symbols
  known w k e =
      let low = number_below (words (symbol_names items)) w k e in
      let one = length-map (symbol_names items) (λ (n : Name). n.word) in
      let two = length-map (symbols items) (λ (s : SymbolItem). s.name) in
      let three = length-map (symbols items) (symbol_in items) in
      omega (arith, low, one, two, three)

  sig_fits : IsSig (sig_in items)
  sig_fits = record {
    sorts = all_of (IsDeclared items) (HasSorts (length (sorts items))) (symbol_in items) (symbols items)
        (λ s k. record { args = all_of (IsSort items) IsLow (sort_number items) s.args sort_below k.args; result = λ e. result_below s.result k.result e }) d.symbols_declared;
    few = let long = length-map (symbols items) (symbol_in items) in let few = d.few_symbols in omega (arith, long, few);
  }

  claim_fits : (b : Body) (y : Formula) (x : Tree) → b ≡ claim_body x → ClaimMeans (names_in items) (sig_in items) b y → IsFormula (sig_in items) 1 y [] × (binders y ≤ 64)
  claim_fits b y x e h =
      let k = subst (λ (z : Body). ClaimMeans (names_in items) (sig_in items) z y) e h in
      let f = body_fine (names_in items) (sig_in items) known sorts_are (claim_body x) k.0 y refl k.1 in
      (f.0, f.1 64 refl)

  claims_fit : (bs : List Body) (ys : List Formula) → ((b : Body) → Among b bs → (x : Tree) × (b ≡ claim_body x)) → AllZip (ClaimMeans (names_in items) (sig_in items)) bs ys → AreClosed (sig_in items) ys × NestAtMost 64 ys
  claims_fit [] [] c h = (All-nil (λ f. IsFormula (sig_in items) 1 f []), All-nil (λ f. binders f ≤ 64))
  claims_fit [] (y ∷ ys) c h = absurd h
  claims_fit (b ∷ bs) [] c h = absurd h
  claims_fit (b ∷ bs) (y ∷ ys) c h =
      let x = c b (here _ _) in
      let one = claim_fits b y x.0 x.1 h.0 in
      let rest = claims_fit bs ys (λ a m. c a (there _ _ _ m)) h.1 in
      (All-cons (λ f. IsFormula (sig_in items) 1 f []) y ys one.0 rest.0, All-cons (λ f. binders f ≤ 64) y ys one.1 rest.1)

  step_fits : (b : Body) (s : Step) (ps : List Binder) (ms : List Name) (x : Tree) → b ≡ transition_body ps ms x → length b.params ≤ 16 → StepMeans (names_in items) (sig_in items) b s
      → IsStepOf (sig_in items) s × (length s.params + binders s.body ≤ 64)
  step_fits b s ps ms x e few h =
      let t = transition_body ps ms x in
      let k = subst (λ (z : Body). StepMeans (names_in items) (sig_in items) z s) e h in
      let low : length ps ≤ 16 = subst (λ (z : Body). length z.params ≤ 16) e few in
      let m = modifies_none (names_in items) (sig_in items) ms s.modifies k.modifies in
      let f = body_fine (names_in items) (sig_in items) known sorts_are t k.sort_of s.body m k.body in
      let ok = sorts_ok (names_in items) (sig_in items) known sorts_are t k.sort_of s.body m k.body in
      let long = bound_length ps in
      let many : length s.params ≡ length (bound_names ps) = ap length k.params ∙ length-map (bound_names ps) _ in
      let rest : ℕ = 64 - length ps in
      let deep : binders s.body ≤ rest = f.1 rest (omega (arith, low, long)) in (
        record {
          params = subst (λ (z : List ℕ). All IsLow z) (sym k.params) (all_among IsLow (λ (n : Name). k.sort_of n.place) (bound_names ps) (λ n q. ok n.place (among_left _ _ _ (told_bound (names_in items) ps n q))));
          body = subst (λ (z : List ℕ). IsFormula (sig_in items) 2 s.body z) (sym k.params) f.0;
        },
        omega (arith, many, long, low, deep),
      )

  steps_fit : (bs : List Body) (ss : List Step) → ((b : Body) → Among b bs → ((ps : List Binder) × (ms : List Name) × (x : Tree) × (b ≡ transition_body ps ms x)) × (length b.params ≤ 16)) → AllZip (StepMeans (names_in items) (sig_in items)) bs ss
      → All (IsStepOf (sig_in items)) ss × All (λ (s : Step). length s.params + binders s.body ≤ 64) ss
  steps_fit [] [] c h = (All-nil (IsStepOf (sig_in items)), All-nil (λ (s : Step). length s.params + binders s.body ≤ 64))
  steps_fit [] (s ∷ ss) c h = absurd h
  steps_fit (b ∷ bs) [] c h = absurd h
  steps_fit (b ∷ bs) (s ∷ ss) c h =
      let x = c b (here _ _) in
      let one = step_fits b s x.0.0 x.0.1 x.0.2 x.0.3 x.1 h.0 in
      let rest = steps_fit bs ss (λ a m. c a (there _ _ _ m)) h.1 in
      (All-cons (IsStepOf (sig_in items)) s ss one.0 rest.0, All-cons (λ (s : Step). length s.params + binders s.body ≤ 64) s ss one.1 rest.1)

module _ (items : List Item) (sys : System) (names : Names) (h : ItemsMean items sys names) where
  signatures : (P : Sig → Type 0) → P (sig_in items) → P sys.sig
  signatures P p = subst P (sym h.signature) p

  claims_ok : (r : Role) (ys : List Formula) → AllZip (ClaimMeans (names_in items) (sig_in items)) (claims r items) ys → AreClosed (sig_in items) ys × NestAtMost 64 ys
  claims_ok r ys k = claims_fit items h.declared (claims r items) ys (is_claim r items) k

  steps_ok : All (IsStepOf (sig_in items)) sys.steps × All (λ (s : Step). length s.params + binders s.body ≤ 64) sys.steps
  steps_ok = steps_fit items h.declared (steps items) sys.steps (λ b m. (is_transition items b m, each_at (λ (b : Body). length b.params ≤ 16) (steps items) b h.declared.few_params m)) h.transitions

  step_count : length sys.steps ≡ length (transitions items)
  step_count = sym (AllZip-length (StepMeans (names_in items) (sig_in items)) (steps items) sys.steps h.transitions) ∙ steps_length items

  pub names_fit : NamesFit sys.sig (length sys.steps) names
  names_fit = signatures (λ (g : Sig). NamesFit g (length sys.steps) names) (subst (λ (n : Names). NamesFit (sig_in items) (length sys.steps) n) (sym h.named) (subst (λ (c : ℕ). NamesFit (sig_in items) c (names_in items)) (sym step_count) h.declared.fit))

  pub within_depth : IsWithinDepth 64 sys
  within_depth = record {
    axioms = (claims_ok Axiom sys.axioms h.axioms).1;
    inits = (claims_ok Init sys.inits h.inits).1;
    steps = steps_ok.1;
    safeties = (claims_ok Safety sys.safeties h.safeties).1;
    invariants = (claims_ok Invariant sys.invariants h.invariants).1;
  }

  pub well_sorted : length items < 2 ^ 32 → IsSystem sys
  well_sorted few =
      let one = AllZip-length (ClaimMeans (names_in items) (sig_in items)) (claims Safety items) sys.safeties h.safeties in
      let two = AllZip-length (ClaimMeans (names_in items) (sig_in items)) (claims Invariant items) sys.invariants h.invariants in
      let all = properties_length items in
      let count = step_count in
      let low = h.declared.few_transitions in
      record {
        signature = signatures IsSig (sig_fits items h.declared);
        axioms = signatures (λ (g : Sig). AreClosed g sys.axioms) (claims_ok Axiom sys.axioms h.axioms).0;
        inits = signatures (λ (g : Sig). AreClosed g sys.inits) (claims_ok Init sys.inits h.inits).0;
        steps = signatures (λ (g : Sig). All (IsStepOf g) sys.steps) steps_ok.0;
        safeties = signatures (λ (g : Sig). AreClosed g sys.safeties) (claims_ok Safety sys.safeties h.safeties).0;
        invariants = signatures (λ (g : Sig). AreClosed g sys.invariants) (claims_ok Invariant sys.invariants h.invariants).0;
        few_steps = omega (arith, count, low);
        few_properties = omega (arith, one, two, all, few);
      }
