-- What is known on the way through the declarations of a file.
use Rattle.std.proofs.Common.{◌≡◌, ℕ, zero, suc, ◌+◌, ◌<◌, ◌++◌, ◌⊎◌, List, [], ◌∷◌, length, get_or, map, take, drop, refl, sym, ap, ◌∙◌, subst, inl, inr, arith, add-one, drop-cons, append-nil}
use Rattle.std.specs.Prelude.{Some, None}
use Rattle.std.specs.List.{AllByRecursion, AllZip}
use Rattle.fo_core.specs.declared.names.Names.{Names}
use Rattle.fo_core.specs.declared.signature.Sig.{Sig}
use Rattle.fo_core.specs.declared.system.Step.{Step}
use Rattle.fo_core.specs.declared.system.System.{System}
use Rattle.fo_core.specs.declared.formula.Formula.{Formula}
use Rattle.pyv_grammar.specs.declared.tree.Model.{Model}
use Rattle.pyv_meaning.specs.declared.fault.SortFault.{SortFault}
use Rattle.pyv_meaning.specs.declared.fault.SortFault.TheVariants.{Memory, UnknownName, TwiceDeclared, WrongArity, SortClash, NoSort, NotATerm, NotAFormula, NewOutsideStep, NewTwice, NotMutable, TooMany}
use Rattle.pyv_meaning.specs.Bodies.{ClaimMeans, StepMeans, body_fault, body_clash, AreSorted, IsBodyFault, IsSound, IsFirstOfBodies, body_formula}
use Rattle.pyv_meaning.specs.Declaring.{names_in, sig_in, item_fault, declared_fault}
use Rattle.pyv_meaning.specs.Front.{Done}
use Rattle.pyv_meaning.specs.Items.{Item, Body, Role, Axiom, Init, Safety, Invariant, claim_body, transition_body, joined_by, claim_of, step_of, body_of, claims, steps, bodies}
use Rattle.pyv_meaning.specs.Items as item
use Rattle.pyv_meaning.specs.Meaning.{ItemsMean, IsFirstFault, IsSortFault}
use Rattle.pyv_meaning.specs.Tree.{Name, Binder, Tree}
use Rattle.pyv_meaning.proofs.Declares.{joined_both, declared_sound}
use Rattle.pyv_meaning.proofs.Top.{body_sound}

-- ---- lists, one element further

pub front_more : {A B : Type 0} (g : A → B) (xs : List A) (i : ℕ) (x d : A) → i < length xs → get_or xs i d ≡ x → map g (take (i + 1) xs) ≡ map g (take i xs) ++ g x ∷ []
front_more {A = A} {B = B} g [] i x d lt e = absurd (omega arith)
front_more {A = A} {B = B} g (y ∷ ys) zero x d lt e = ap (λ (z : A). g z ∷ []) e
front_more {A = A} {B = B} g (y ∷ ys) (suc i) x d lt e = rw (add-one) (ap (λ (t : List B). g y ∷ t) (subst (λ (n : ℕ). map g (take n ys) ≡ map g (take i ys) ++ g x ∷ []) (add-one i) (front_more g ys i x d (omega arith) e)))

pub rest_more : {A B : Type 0} (g : A → B) (xs : List A) (i : ℕ) (x d : A) → i < length xs → get_or xs i d ≡ x → map g (drop i xs) ≡ g x ∷ map g (drop (i + 1) xs)
rest_more {A = A} {B = B} g xs i x d lt e = rw (add-one) (ap (map g) (drop-cons xs i d lt ∙ ap (λ (y : A). y ∷ drop (suc i) xs) e))

-- ---- declarations

module _ (items : List Item) where
  -- what stands behind a declaration without fault
  pub declared_next : (known rest : List Item) (x : Item) → item_fault items known x ≡ None → declared_fault items known (x ∷ rest) ≡ declared_fault items (known ++ x ∷ []) rest
  declared_next known rest x h = rw h refl

  pub declared_fails : (known rest : List Item) (x : Item) (f : SortFault) → item_fault items known x ≡ Some f → declared_fault items known (x ∷ rest) ≡ Some f
  declared_fails known rest x f h = rw h refl

-- ---- bodies

zip_push : {A B : Type 0} (R : A → B → Type 0) (xs : List A) (ys : List B) (x : A) (y : B) → AllZip R xs ys → R x y → AllZip R (xs ++ x ∷ []) (ys ++ y ∷ [])
zip_push {A = A} {B = B} R [] [] x y h k = (k, tt)
zip_push {A = A} {B = B} R [] (z ∷ ys) x y h k = absurd h
zip_push {A = A} {B = B} R (z ∷ xs) [] x y h k = absurd h
zip_push {A = A} {B = B} R (z ∷ xs) (w ∷ ys) x y h k = (h.0, zip_push R xs ys x y h.1 k)

each_push : {A : Type 0} (P : A → Type 0) (xs : List A) (x : A) → AllByRecursion P xs → P x → AllByRecursion P (xs ++ x ∷ [])
each_push {A = A} P [] x h k = (k, tt)
each_push {A = A} P (y ∷ xs) x h k = (h.0, each_push P xs x h.1 k)

-- the list of one kind, one declaration further
one_further : {A : Type 0} (f : Item → List A) (xs : List Item) (x : Item) → joined_by f (xs ++ x ∷ []) ≡ joined_by f xs ++ f x
one_further {A = A} f xs x = joined_both f xs (x ∷ []) ∙ ap (λ (t : List A). joined_by f xs ++ t) (append-nil (f x))

module _ (names : Names) (sig : Sig) where
  -- Where nothing is at fault, a body is sound, and the claim means what is built.
  pub is_sound : (b : Body) (sort_of : ℕ → ℕ) → body_fault names sig b ≡ None → AreSorted names sig b sort_of → body_clash names sig b sort_of ≡ None → IsSound names sig b
  is_sound b sort_of f s c = record { names_fine = f; sort_of = sort_of; sorted = s; no_clash = c }

  pub claim_built : (x : Tree) (sort_of : ℕ → ℕ) → body_fault names sig (claim_body x) ≡ None → AreSorted names sig (claim_body x) sort_of → body_clash names sig (claim_body x) sort_of ≡ None
      → ClaimMeans names sig (claim_body x) (body_formula names sig (claim_body x) sort_of)
  claim_built x sort_of f s c = (sort_of, body_sound names sig (claim_body x) sort_of (omega arith) f s c)

  pub done_none : Done names sig [] [] [] [] [] []
  done_none = record { axioms_mean = tt; inits_mean = tt; steps_mean = tt; safeties_mean = tt; invariants_mean = tt; sound = tt }

  module _ (front : List Item) (a i : List Formula) (t : List Step) (s v : List Formula) (d : Done names sig front a i t s v) where
    -- what a declaration adds to claims of a role and to steps; nothing where it has none
    same_claims : (r : Role) (x : Item) (ys : List Formula) → claim_of r x ≡ [] → AllZip (ClaimMeans names sig) (claims r front) ys → AllZip (ClaimMeans names sig) (claims r (front ++ x ∷ [])) ys
    same_claims r x ys e h =
        subst (λ (bs : List Body). AllZip (ClaimMeans names sig) bs ys) (sym (one_further (claim_of r) front x ∙ ap (λ (z : List Body). claims r front ++ z) e ∙ append-nil (claims r front))) h

    more_claims : (r : Role) (x : Item) (b : Body) (ys : List Formula) (y : Formula) → claim_of r x ≡ b ∷ [] → AllZip (ClaimMeans names sig) (claims r front) ys → ClaimMeans names sig b y
        → AllZip (ClaimMeans names sig) (claims r (front ++ x ∷ [])) (ys ++ y ∷ [])
    more_claims r x b ys y e h m =
        subst (λ (bs : List Body). AllZip (ClaimMeans names sig) bs (ys ++ y ∷ [])) (sym (one_further (claim_of r) front x ∙ ap (λ (z : List Body). claims r front ++ z) e)) (zip_push (ClaimMeans names sig) (claims r front) ys b y h m)

    same_steps : (x : Item) → step_of x ≡ [] → AllZip (StepMeans names sig) (steps (front ++ x ∷ [])) t
    same_steps x e = subst (λ (bs : List Body). AllZip (StepMeans names sig) bs t) (sym (one_further step_of front x ∙ ap (λ (z : List Body). steps front ++ z) e ∙ append-nil (steps front))) d.steps_mean

    same_bodies : (x : Item) → body_of x ≡ [] → AllByRecursion (IsSound names sig) (bodies (front ++ x ∷ []))
    same_bodies x e = subst (AllByRecursion (IsSound names sig)) (sym (one_further body_of front x ∙ ap (λ (z : List Body). bodies front ++ z) e ∙ append-nil (bodies front))) d.sound

    more_bodies : (x : Item) (b : Body) → body_of x ≡ b ∷ [] → IsSound names sig b → AllByRecursion (IsSound names sig) (bodies (front ++ x ∷ []))
    more_bodies x b e h = subst (AllByRecursion (IsSound names sig)) (sym (one_further body_of front x ∙ ap (λ (z : List Body). bodies front ++ z) e)) (each_push (IsSound names sig) (bodies front) b d.sound h)

    module _ (x : Tree) (y : Formula) (ok : IsSound names sig (claim_body x)) (m : ClaimMeans names sig (claim_body x) y) where
      pub done_axiom : Done names sig (front ++ item.Claim Axiom x ∷ []) (a ++ y ∷ []) i t s v
      done_axiom = record {
        axioms_mean = more_claims Axiom (item.Claim Axiom x) (claim_body x) a y refl d.axioms_mean m;
        inits_mean = same_claims Init (item.Claim Axiom x) i refl d.inits_mean;
        steps_mean = same_steps (item.Claim Axiom x) refl;
        safeties_mean = same_claims Safety (item.Claim Axiom x) s refl d.safeties_mean;
        invariants_mean = same_claims Invariant (item.Claim Axiom x) v refl d.invariants_mean;
        sound = more_bodies (item.Claim Axiom x) (claim_body x) refl ok;
      }

      pub done_init : Done names sig (front ++ item.Claim Init x ∷ []) a (i ++ y ∷ []) t s v
      done_init = record {
        axioms_mean = same_claims Axiom (item.Claim Init x) a refl d.axioms_mean;
        inits_mean = more_claims Init (item.Claim Init x) (claim_body x) i y refl d.inits_mean m;
        steps_mean = same_steps (item.Claim Init x) refl;
        safeties_mean = same_claims Safety (item.Claim Init x) s refl d.safeties_mean;
        invariants_mean = same_claims Invariant (item.Claim Init x) v refl d.invariants_mean;
        sound = more_bodies (item.Claim Init x) (claim_body x) refl ok;
      }

      pub done_safety : Done names sig (front ++ item.Claim Safety x ∷ []) a i t (s ++ y ∷ []) v
      done_safety = record {
        axioms_mean = same_claims Axiom (item.Claim Safety x) a refl d.axioms_mean;
        inits_mean = same_claims Init (item.Claim Safety x) i refl d.inits_mean;
        steps_mean = same_steps (item.Claim Safety x) refl;
        safeties_mean = more_claims Safety (item.Claim Safety x) (claim_body x) s y refl d.safeties_mean m;
        invariants_mean = same_claims Invariant (item.Claim Safety x) v refl d.invariants_mean;
        sound = more_bodies (item.Claim Safety x) (claim_body x) refl ok;
      }

      pub done_invariant : Done names sig (front ++ item.Claim Invariant x ∷ []) a i t s (v ++ y ∷ [])
      done_invariant = record {
        axioms_mean = same_claims Axiom (item.Claim Invariant x) a refl d.axioms_mean;
        inits_mean = same_claims Init (item.Claim Invariant x) i refl d.inits_mean;
        steps_mean = same_steps (item.Claim Invariant x) refl;
        safeties_mean = same_claims Safety (item.Claim Invariant x) s refl d.safeties_mean;
        invariants_mean = more_claims Invariant (item.Claim Invariant x) (claim_body x) v y refl d.invariants_mean m;
        sound = more_bodies (item.Claim Invariant x) (claim_body x) refl ok;
      }

    pub done_transition : (n : Name) (ps : List Binder) (ms : List Name) (x : Tree) (step : Step) → IsSound names sig (transition_body ps ms x) → StepMeans names sig (transition_body ps ms x) step
        → Done names sig (front ++ item.Transition n ps ms x ∷ []) a i (t ++ step ∷ []) s v
    done_transition n ps ms x step ok m = record {
      axioms_mean = same_claims Axiom (item.Transition n ps ms x) a refl d.axioms_mean;
      inits_mean = same_claims Init (item.Transition n ps ms x) i refl d.inits_mean;
      steps_mean = subst (λ (bs : List Body). AllZip (StepMeans names sig) bs (t ++ step ∷ [])) (sym (one_further step_of front (item.Transition n ps ms x)))
          (zip_push (StepMeans names sig) (steps front) t (transition_body ps ms x) step d.steps_mean m);
      safeties_mean = same_claims Safety (item.Transition n ps ms x) s refl d.safeties_mean;
      invariants_mean = same_claims Invariant (item.Transition n ps ms x) v refl d.invariants_mean;
      sound = more_bodies (item.Transition n ps ms x) (transition_body ps ms x) refl ok;
    }

    -- a declaration that has no body
    pub done_other : (x : Item) → body_of x ≡ [] → Done names sig (front ++ x ∷ []) a i t s v
    done_other (item.Sort n) e = record {
      axioms_mean = same_claims Axiom (item.Sort n) a refl d.axioms_mean;
      inits_mean = same_claims Init (item.Sort n) i refl d.inits_mean;
      steps_mean = same_steps (item.Sort n) refl;
      safeties_mean = same_claims Safety (item.Sort n) s refl d.safeties_mean;
      invariants_mean = same_claims Invariant (item.Sort n) v refl d.invariants_mean;
      sound = same_bodies (item.Sort n) refl;
    }
    done_other (item.Symbol k) e = record {
      axioms_mean = same_claims Axiom (item.Symbol k) a refl d.axioms_mean;
      inits_mean = same_claims Init (item.Symbol k) i refl d.inits_mean;
      steps_mean = same_steps (item.Symbol k) refl;
      safeties_mean = same_claims Safety (item.Symbol k) s refl d.safeties_mean;
      invariants_mean = same_claims Invariant (item.Symbol k) v refl d.invariants_mean;
      sound = same_bodies (item.Symbol k) refl;
    }
    done_other item.Trace e = record {
      axioms_mean = same_claims Axiom item.Trace a refl d.axioms_mean;
      inits_mean = same_claims Init item.Trace i refl d.inits_mean;
      steps_mean = same_steps item.Trace refl;
      safeties_mean = same_claims Safety item.Trace s refl d.safeties_mean;
      invariants_mean = same_claims Invariant item.Trace v refl d.invariants_mean;
      sound = same_bodies item.Trace refl;
    }
    done_other (item.Claim r x) e = absurd (cc)
    done_other (item.Transition n ps ms x) e = absurd (cc)

  first_of : (front rest : List Body) (b : Body) (f : SortFault) → AllByRecursion (IsSound names sig) front → IsBodyFault names sig b f → IsFirstOfBodies names sig (front ++ b ∷ rest) f
  first_of [] rest b f h k = inl k
  first_of (c ∷ front) rest b f h k = inr (h.0, first_of front rest b f h.1 k)

  -- the first body that is at fault has the first fault
  pub first_fails : (items front rest : List Item) (x : Item) (b : Body) (f : SortFault) → items ≡ front ++ x ∷ rest → body_of x ≡ b ∷ [] → AllByRecursion (IsSound names sig) (bodies front) → IsBodyFault names sig b f → IsFirstOfBodies names sig (bodies items) f
  first_fails items front rest x b f e g h k =
      let same : bodies items ≡ bodies front ++ (b ∷ bodies rest) = ap bodies e ∙ joined_both body_of front (x ∷ rest) ∙ ap (λ (z : List Body). bodies front ++ (z ++ bodies rest)) g in
      subst (λ (bs : List Body). IsFirstOfBodies names sig bs f) (sym same) (first_of (bodies front) (bodies rest) b f h k)

-- ---- the whole

-- Declarations without fault whose bodies are done mean the system of what is built.
pub done_all : (items : List Item) (sys : System) (names : Names) → declared_fault items [] items ≡ None → names ≡ names_in items → sys.sig ≡ sig_in items
    → Done (names_in items) (sig_in items) items sys.axioms sys.inits sys.steps sys.safeties sys.invariants → ItemsMean items sys names
done_all items sys names f n g d = record {
  declared = declared_sound items f;
  named = n;
  signature = g;
  axioms = d.axioms_mean;
  inits = d.inits_mean;
  transitions = d.steps_mean;
  safeties = d.safeties_mean;
  invariants = d.invariants_mean;
}

-- The first fault is told.
pub told : (bytes : List ℕ) (m : Model) (f : SortFault) → IsFirstFault bytes m f → IsSortFault bytes m f
told bytes m Memory h = tt
told bytes m (UnknownName p) h = h
told bytes m (TwiceDeclared p) h = h
told bytes m (WrongArity p) h = h
told bytes m (SortClash p) h = h
told bytes m (NoSort p) h = h
told bytes m (NotATerm p) h = h
told bytes m (NotAFormula p) h = h
told bytes m (NewOutsideStep p) h = h
told bytes m (NewTwice p) h = h
told bytes m (NotMutable p) h = h
told bytes m (TooMany p) h = h

-- What is told is the first fault, but for want of memory.
pub tells : (bytes : List ℕ) (m : Model) (f : SortFault) → IsSortFault bytes m f → (f ≡ Memory) ⊎ IsFirstFault bytes m f
tells bytes m Memory h = inl refl
tells bytes m (UnknownName p) h = inr h
tells bytes m (TwiceDeclared p) h = inr h
tells bytes m (WrongArity p) h = inr h
tells bytes m (SortClash p) h = inr h
tells bytes m (NoSort p) h = inr h
tells bytes m (NotATerm p) h = inr h
tells bytes m (NotAFormula p) h = inr h
tells bytes m (NewOutsideStep p) h = inr h
tells bytes m (NewTwice p) h = inr h
tells bytes m (NotMutable p) h = inr h
tells bytes m (TooMany p) h = inr h
