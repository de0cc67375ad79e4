-- What declarations mean, and their first fault: not both, and one meaning.
use Rattle.std.proofs.Common.{◌≡◌, ℕ, ◌≤◌, ◌++◌, List, [], ◌∷◌, length, map, refl, sym, ap, ap₂, ◌∙◌, subst, inl, inr, ◌⊎◌}
use Rattle.std.specs.Prelude.{Option, Some, None}
use Rattle.std.specs.List.{AllZip}
use Rattle.fo_core.specs.declared.names.Names.{Names}
use Rattle.fo_core.specs.declared.signature.Sig.{Sig}
use Rattle.fo_core.specs.declared.system.Step.{Step}
use Rattle.fo_core.specs.declared.system.System.{System}
use Rattle.fo_core.specs.declared.formula.Formula.{Formula}
use Rattle.pyv_meaning.specs.declared.fault.SortFault.{SortFault}
use Rattle.pyv_meaning.specs.Bodies.{params_of, BodyMeans, ClaimMeans, IsMutable, StepMeans, mutable_fault, modifies_fault, body_fault, body_clash, AreSorted, IsFirstOfBodies, modified, body_step}
use Rattle.pyv_meaning.specs.Declaring.{names_in, sig_in}
use Rattle.pyv_meaning.specs.Gets.{Among, here, there}
use Rattle.pyv_meaning.specs.Items.{Item, Body, Role, Axiom, Init, Safety, Invariant, claim_body, is_role, claim_of, claims, steps, bodies}
use Rattle.pyv_meaning.specs.Items as item
use Rattle.pyv_meaning.specs.Meaning.{ItemsMean, IsFirstOfItems}
use Rattle.pyv_meaning.specs.Scope.{number, or_zero}
use Rattle.pyv_meaning.specs.Tree.{Name, Tree}
use Rattle.pyv_meaning.proofs.Basics.{both_fine, then_none, unless_fine, never, true_or_false, first_or}
use Rattle.pyv_meaning.proofs.Declares.{declared_complete}
use Rattle.pyv_meaning.proofs.Top.{body_sound, body_complete, body_same, body_excluded, same_params}

-- ---- lists side by side

pub zip_at : {A B : Type 0} (R : A → B → Type 0) (xs : List A) (ys : List B) (x : A) → AllZip R xs ys → Among x xs → (y : B) × R x y
zip_at {A = A} {B = B} R _ [] x h (here _ xs) = absurd h
zip_at {A = A} {B = B} R _ (y ∷ ys) x h (here _ xs) = (y, h.0)
zip_at {A = A} {B = B} R _ [] x h (there _ z xs m) = absurd h
zip_at {A = A} {B = B} R _ (y ∷ ys) x h (there _ z xs m) = zip_at R xs ys x h.1 m

pub zip_same : {A B : Type 0} (R : A → B → Type 0) (xs : List A) (ys zs : List B) → ((x : A) (y z : B) → Among x xs → R x y → R x z → y ≡ z) → AllZip R xs ys → AllZip R xs zs → ys ≡ zs
zip_same {A = A} {B = B} R [] [] [] f h k = refl
zip_same {A = A} {B = B} R [] [] (z ∷ zs) f h k = absurd k
zip_same {A = A} {B = B} R [] (y ∷ ys) zs f h k = absurd h
zip_same {A = A} {B = B} R (x ∷ xs) [] zs f h k = absurd h
zip_same {A = A} {B = B} R (x ∷ xs) (y ∷ ys) [] f h k = absurd k
zip_same {A = A} {B = B} R (x ∷ xs) (y ∷ ys) (z ∷ zs) f h k = ap₂ (λ (a : B) (b : List B). a ∷ b) (f x y z (here _ _) h.0 k.0) (zip_same R xs ys zs (λ a b c m. f a b c (there _ _ _ m)) h.1 k.1)

some_same : (a b : ℕ) (o : Option ℕ) → o ≡ Some a → o ≡ Some b → a ≡ b
some_same a b o h k = ap or_zero (sym h ∙ k)

-- ---- what is modified

module _ (names : Names) (sig : Sig) where
  pub modifies_none : (ns : List Name) (ks : List ℕ) → AllZip (IsMutable names sig) ns ks → modifies_fault names sig ns ≡ None
  modifies_none [] ks h = refl
  modifies_none (n ∷ ns) [] h = absurd h
  modifies_none (n ∷ ns) (k ∷ ks) h = then_none _ _ (rw (h.0.0, h.0.1) refl) (modifies_none ns ks h.1)

  mutable_found : (n : Name) (o : Option ℕ) → number names.symbols n.word ≡ o → mutable_fault names sig o n.place ≡ None → IsMutable names sig n (or_zero o)
  mutable_found n None e f = absurd (cc)
  mutable_found n (Some k) e f = (e, unless_fine _ _ f)

  modifies_sound : (ns : List Name) → modifies_fault names sig ns ≡ None → AllZip (IsMutable names sig) ns (modified names sig ns)
  modifies_sound [] f = tt
  modifies_sound (n ∷ ns) f = let k = both_fine _ _ f in (mutable_found n (number names.symbols n.word) refl k.0, modifies_sound ns k.1)

  -- Where nothing is at fault, a transition means what is built.
  pub step_sound : (b : Body) (sort_of : ℕ → ℕ) → length b.params ≤ 64 → body_fault names sig b ≡ None → AreSorted names sig b sort_of → body_clash names sig b sort_of ≡ None → StepMeans names sig b (body_step names sig b sort_of)
  step_sound b sort_of le f s c =
      let fine = both_fine _ _ f in
      let rest = both_fine _ _ fine.1 in
      record { sort_of = sort_of; params = refl; modifies = modifies_sound b.modifies rest.0; body = body_sound names sig b sort_of le f s c }

  -- ---- one meaning

  claim_same : (b : Body) (y z : Formula) → modifies_fault names sig b.modifies ≡ None → ClaimMeans names sig b y → ClaimMeans names sig b z → y ≡ z
  claim_same b y z m h k =
      let c = body_complete names sig b h.0 y m h.1 in
      let d = body_complete names sig b k.0 z m k.1 in
      c.3 ∙ (body_same names sig b h.0 k.0 c.0 c.1 d.1).0 ∙ sym d.3

  same_map : (f g : ℕ → ℕ) (ns : List Name) → ((n : Name) → Among n ns → f n.place ≡ g n.place) → map (λ (n : Name). f n.place) ns ≡ map (λ (n : Name). g n.place) ns
  same_map f g [] h = refl
  same_map f g (n ∷ ns) h = ap₂ (λ (a : ℕ) (b : List ℕ). a ∷ b) (h n (here _ _)) (same_map f g ns (λ k m. h k (there _ _ _ m)))

  make_step : List ℕ → List ℕ → Formula → Step
  make_step m p b = record { modifies = m; params = p; body = b }

  steps_equal : (s t : Step) → s.modifies ≡ t.modifies → s.params ≡ t.params → s.body ≡ t.body → s ≡ t
  unfolding make_step
  steps_equal s t m p b = ap₂ (λ (i j : List ℕ). make_step i j s.body) m p ∙ ap (make_step t.modifies t.params) b

  step_same : (b : Body) (s t : Step) → StepMeans names sig b s → StepMeans names sig b t → s ≡ t
  step_same b s t h k =
      let m = modifies_none b.modifies s.modifies h.modifies in
      let c = body_complete names sig b h.sort_of s.body m h.body in
      let d = body_complete names sig b k.sort_of t.body m k.body in
      steps_equal s t
      (zip_same (IsMutable names sig) b.modifies s.modifies t.modifies (λ n x y q r w. some_same x y _ r.0 w.0) h.modifies k.modifies)
      (h.params ∙ same_map h.sort_of k.sort_of (params_of b) (same_params names sig b h.sort_of k.sort_of c.0 c.1 d.1) ∙ sym k.params)
      (c.3 ∙ (body_same names sig b h.sort_of k.sort_of c.0 c.1 d.1).0 ∙ sym d.3)

  -- ---- no fault where there is a meaning

  abbrev IsMeant : Body → Type 0
  IsMeant b = (modifies_fault names sig b.modifies ≡ None) × (sort_of : ℕ → ℕ) × (y : Formula) × BodyMeans names sig b sort_of y

  none_first : (bs : List Body) (f : SortFault) → ((b : Body) → Among b bs → IsMeant b) → IsFirstOfBodies names sig bs f → ⊥
  none_first [] f h k = k
  none_first (b ∷ bs) f h k =
      elim k [
        | inl a ↦ let m = h b (here _ _) in body_excluded names sig b m.1 m.2 f m.0 m.3 a
        | inr a ↦ none_first bs f (λ c q. h c (there _ _ _ q)) a.1
      ]

-- ---- bodies

-- a body of the file is a claim's or a transition's
which : (items : List Item) (b : Body) → Among b (bodies items) → Among b (steps items) ⊎ ((r : Role) × Among b (claims r items))
which [] b m = elim m [ ]
which (item.Sort n ∷ rest) b m = which rest b m
which (item.Symbol s ∷ rest) b m = which rest b m
which (item.Trace ∷ rest) b m = which rest b m
which (item.Transition n ps ms x ∷ rest) b m =
    elim (first_or b _ _ m) [
      | inl e ↦ inl (subst (λ (z : Body). Among z (steps (item.Transition n ps ms x ∷ rest))) (sym e) (here _ _))
      | inr q ↦ elim (which rest b q) [ inl a ↦ inl (there _ _ _ a) | inr a ↦ inr a ]
    ]
which (item.Claim r x ∷ rest) b m =
    elim (first_or b (claim_body x) _ m) [
      | inl e ↦ inr (r, own r x b (claims r rest) e)
      | inr q ↦ elim (which rest b q) [ inl a ↦ inl a | inr a ↦ inr (a.0, behind a.0 r x b (claims a.0 rest) a.1) ]
    ]
  where
    own : (r : Role) (x : Tree) (b : Body) (bs : List Body) → b ≡ claim_body x → Among b (claim_of r (item.Claim r x) ++ bs)
    own Axiom x b bs e = subst (λ (z : Body). Among z (claim_body x ∷ bs)) (sym e) (here _ _)
    own Init x b bs e = subst (λ (z : Body). Among z (claim_body x ∷ bs)) (sym e) (here _ _)
    own Safety x b bs e = subst (λ (z : Body). Among z (claim_body x ∷ bs)) (sym e) (here _ _)
    own Invariant x b bs e = subst (λ (z : Body). Among z (claim_body x ∷ bs)) (sym e) (here _ _)

    behind : (q r : Role) (x : Tree) (b : Body) (bs : List Body) → Among b bs → Among b (claim_of q (item.Claim r x) ++ bs)
    behind q r x b bs m = elim (true_or_false (is_role q r)) [ inl t ↦ rw t (there _ _ _ m) | inr t ↦ rw t m ]

-- a claim is an expression alone
pub is_claim : (r : Role) (items : List Item) (b : Body) → Among b (claims r items) → (x : Tree) × (b ≡ claim_body x)
is_claim r [] b m = elim m [ ]
is_claim r (item.Sort n ∷ rest) b m = is_claim r rest b m
is_claim r (item.Symbol s ∷ rest) b m = is_claim r rest b m
is_claim r (item.Trace ∷ rest) b m = is_claim r rest b m
is_claim r (item.Transition n ps ms x ∷ rest) b m = is_claim r rest b m
is_claim r (item.Claim q x ∷ rest) b m =
    elim (true_or_false (is_role r q)) [
      | inl t ↦ elim (first_or b (claim_body x) (claims r rest) (rw t at m)) [ inl e ↦ (x, e) | inr k ↦ is_claim r rest b k ]
      | inr t ↦ is_claim r rest b (rw t at m)
    ]

module _ (items : List Item) where
  pub claim_modifies : (names : Names) (sig : Sig) (r : Role) (b : Body) → Among b (claims r items) → modifies_fault names sig b.modifies ≡ None
  claim_modifies names sig r b m = let k = is_claim r items b m in subst (λ (z : Body). modifies_fault names sig z.modifies ≡ None) (sym k.1) refl

  claims_of : (sys : System) (names : Names) → ItemsMean items sys names → (r : Role) → (ys : List Formula) × AllZip (ClaimMeans (names_in items) (sig_in items)) (claims r items) ys
  claims_of sys names h Axiom = (sys.axioms, h.axioms)
  claims_of sys names h Init = (sys.inits, h.inits)
  claims_of sys names h Safety = (sys.safeties, h.safeties)
  claims_of sys names h Invariant = (sys.invariants, h.invariants)

  all_meant : (sys : System) (names : Names) → ItemsMean items sys names → (b : Body) → Among b (bodies items) → IsMeant (names_in items) (sig_in items) b
  all_meant sys names h b m =
      elim (which items b m) [
        | inl q ↦
            let s = zip_at (StepMeans (names_in items) (sig_in items)) (steps items) sys.steps b h.transitions q in
            (modifies_none (names_in items) (sig_in items) b.modifies s.0.modifies s.1.modifies, s.1.sort_of, s.0.body, s.1.body)
        | inr q ↦
            let all = claims_of sys names h q.0 in
            let c = zip_at (ClaimMeans (names_in items) (sig_in items)) (claims q.0 items) all.0 b all.1 q.1 in
            (claim_modifies (names_in items) (sig_in items) q.0 b q.1, c.1.0, c.0, c.1.1)
      ]

  -- Declarations that mean a system have no first fault.
  pub excluded : (sys : System) (names : Names) (f : SortFault) → ItemsMean items sys names → IsFirstOfItems items f → ⊥
  excluded sys names f h k =
      elim k [
        | inl a ↦ never _ f (declared_complete items h.declared) a
        | inr a ↦ none_first (names_in items) (sig_in items) (bodies items) f (all_meant sys names h) a.1
      ]

  claims_same : (r : Role) (ys zs : List Formula) → AllZip (ClaimMeans (names_in items) (sig_in items)) (claims r items) ys → AllZip (ClaimMeans (names_in items) (sig_in items)) (claims r items) zs → ys ≡ zs
  claims_same r ys zs h k =
      zip_same (ClaimMeans (names_in items) (sig_in items)) (claims r items) ys zs (λ b y z m p q. claim_same (names_in items) (sig_in items) b y z (claim_modifies (names_in items) (sig_in items) r b m) p q) h k

  make_system : Sig → List Formula → List Formula → List Step → List Formula → List Formula → System
  make_system g a i t s v = record { sig = g; axioms = a; inits = i; steps = t; safeties = s; invariants = v }

  systems_equal : (s t : System) → s.sig ≡ t.sig → s.axioms ≡ t.axioms → s.inits ≡ t.inits → s.steps ≡ t.steps → s.safeties ≡ t.safeties → s.invariants ≡ t.invariants → s ≡ t
  unfolding make_system
  systems_equal s t g a i e f v =
      ap₂ (λ (x : Sig) (y : List Formula). make_system x y s.inits s.steps s.safeties s.invariants) g a
      ∙ ap₂ (λ (x : List Formula) (y : List Step). make_system t.sig t.axioms x y s.safeties s.invariants) i e
      ∙ ap₂ (λ (x y : List Formula). make_system t.sig t.axioms t.inits t.steps x y) f v

  -- Declarations mean one system, with one list of names.
  pub unique : (s t : System) (m n : Names) → ItemsMean items s m → ItemsMean items t n → (s ≡ t) × (m ≡ n)
  unique s t m n h k = (
    systems_equal s t (h.signature ∙ sym k.signature) (claims_same Axiom _ _ h.axioms k.axioms) (claims_same Init _ _ h.inits k.inits)
        (zip_same (StepMeans (names_in items) (sig_in items)) (steps items) s.steps t.steps (λ b x y q p r. step_same (names_in items) (sig_in items) b x y p r) h.transitions k.transitions)
        (claims_same Safety _ _ h.safeties k.safeties) (claims_same Invariant _ _ h.invariants k.invariants),
    h.named ∙ sym k.named,
  )
