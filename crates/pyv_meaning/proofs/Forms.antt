-- Forms of well-sorted parts are well-sorted, and bind as many variables as they close over.
use Rattle.std.proofs.Common.{◌≡◌, ℕ, ◌+◌, ◌<◌, ◌≤◌, ◌++◌, Bool, true, false, List, [], ◌∷◌, length, map, refl, sym, ap, subst, arith, append_assoc, append-nil}
use Rattle.std.specs.List.{All}
use Rattle.std.proofs.lemmas.List.Elements.{All-nil, All-cons, All-head, All-tail}
use Rattle.fo_core.specs.declared.signature.Sig.{Sig}
use Rattle.fo_core.specs.declared.term.Term.{Term}
use Rattle.fo_core.specs.declared.formula.Formula.{Formula}
use Rattle.fo_core.specs.declared.formula.Formula.TheVariants as F
use Rattle.fo_core.specs.Sorted.{IsTerm, IsFormula, binders}
use Rattle.fo_core.proofs.Rows.{sorted-Not, sorted-All, sorted-Ex, And-sorted, Or-sorted, binders-Not, binders-All, binders-Ex, And-binders, Or-binders}
use Rattle.pyv_meaning.specs.Builds.{truth, joined, connected, conditional, compared, differ, quantified, closed_over}
use Rattle.pyv_meaning.specs.Gets.{Among, here, there}
use Rattle.pyv_meaning.specs.Tree.{Name, Junction, Conjunction, Disjunction, Connective, Implication, Equivalence, Quantifier, Universal, Existential}

pub all_both : {A : Type 0} (P : A → Type 0) (xs ys : List A) → All P xs → All P ys → All P (xs ++ ys)
all_both {A = A} P [] ys h k = k
all_both {A = A} P (x ∷ xs) ys h k = All-cons P x (xs ++ ys) (All-head P x xs h) (all_both P xs ys (All-tail P x xs h) k)

all_two : {A : Type 0} (P : A → Type 0) (x y : A) → P x → P y → All P (x ∷ y ∷ [])
all_two {A = A} P x y h k = All-cons P x (y ∷ []) h (All-cons P y [] k (All-nil P))

all_map : {A B : Type 0} (P : A → Type 0) (Q : B → Type 0) (f : A → B) (xs : List A) → ((x : A) → P x → Q (f x)) → All P xs → All Q (map f xs)
all_map {A = A} {B = B} P Q f [] g h = All-nil Q
all_map {A = A} {B = B} P Q f (x ∷ xs) g h = All-cons Q (f x) (map f xs) (g x (All-head P x xs h)) (all_map P Q f xs g (All-tail P x xs h))

-- the sorts of the variables in scope
abbrev pub sorts_in : (ℕ → ℕ) → List Name → List ℕ
sorts_in sort_of scope = map (λ (n : Name). sort_of n.place) scope

pub sorts_both : (sort_of : ℕ → ℕ) (a b : List Name) → sorts_in sort_of (a ++ b) ≡ sorts_in sort_of a ++ sorts_in sort_of b
sorts_both sort_of [] b = refl
sorts_both sort_of (n ∷ a) b = ap (λ (t : List ℕ). sort_of n.place ∷ t) (sorts_both sort_of a b)

module _ (sig : Sig) (copies : ℕ) where
  module _ (ss : List ℕ) where
    abbrev Fits : Formula → Type 0
    Fits f = IsFormula sig copies f ss

    pub truth_fits : (b : Bool) → Fits (truth b)
    truth_fits true = tt
    truth_fits false = tt

    pub not_fits : (f : Formula) → Fits f → Fits (F.Not f)
    not_fits f h = subst (λ (A : Type 0). A) (sym (sorted-Not sig copies f ss)) h

    or_fits : (f g : Formula) → Fits f → Fits g → Fits (F.Or (f ∷ g ∷ []))
    or_fits f g h k = Or-sorted sig copies (f ∷ g ∷ []) ss (all_two Fits f g h k)

    and_fits : (f g : Formula) → Fits f → Fits g → Fits (F.And (f ∷ g ∷ []))
    and_fits f g h k = And-sorted sig copies (f ∷ g ∷ []) ss (all_two Fits f g h k)

    pub joined_fits : (j : Junction) (fs : List Formula) → All Fits fs → Fits (joined j fs)
    joined_fits Conjunction fs h = And-sorted sig copies fs ss h
    joined_fits Disjunction fs h = Or-sorted sig copies fs ss h

    pub connected_fits : (c : Connective) (f g : Formula) → Fits f → Fits g → Fits (connected c f g)
    connected_fits Implication f g h k = or_fits (F.Not f) g (not_fits f h) k
    connected_fits Equivalence f g h k = and_fits (F.Or (F.Not f ∷ g ∷ [])) (F.Or (f ∷ F.Not g ∷ [])) (or_fits (F.Not f) g (not_fits f h) k) (or_fits f (F.Not g) h (not_fits g k))

    pub conditional_fits : (f g i : Formula) → Fits f → Fits g → Fits i → Fits (conditional f g i)
    conditional_fits f g i h k l = and_fits (F.Or (F.Not f ∷ g ∷ [])) (F.Or (f ∷ i ∷ [])) (or_fits (F.Not f) g (not_fits f h) k) (or_fits f i h l)

    pub compared_fits : (e : Bool) (s : ℕ) (t u : Term) → IsTerm sig copies t ss s → IsTerm sig copies u ss s → Fits (compared e t u)
    compared_fits true s t u h k = (s, h, k)
    compared_fits false s t u h k = not_fits (F.Eq t u) (s, h, k)

    pub differ_fits : (s : ℕ) (ts : List Term) → All (λ t. IsTerm sig copies t ss s) ts → All Fits (differ ts)
    differ_fits s [] h = All-nil Fits
    differ_fits s (t ∷ ts) h =
        let rest = All-tail (λ t. IsTerm sig copies t ss s) t ts h in
        all_both Fits (map (λ u. compared false t u) ts) (differ ts)
        (all_map (λ t. IsTerm sig copies t ss s) Fits (λ u. compared false t u) ts (λ u k. compared_fits false s t u (All-head (λ t. IsTerm sig copies t ss s) t ts h) k) rest)
        (differ_fits s ts rest)

  quantified_fits : (q : Quantifier) (s : ℕ) (f : Formula) (ss : List ℕ) → s < sig.sorts → IsFormula sig copies f (ss ++ s ∷ []) → IsFormula sig copies (quantified q s f) ss
  quantified_fits Universal s f ss lt h = subst (λ (A : Type 0). A) (sym (sorted-All sig copies s f ss)) (lt, h)
  quantified_fits Existential s f ss lt h = subst (λ (A : Type 0). A) (sym (sorted-Ex sig copies s f ss)) (lt, h)

  pub closed_fits : (sort_of : ℕ → ℕ) (q : Quantifier) (ns : List Name) (f : Formula) (ss : List ℕ) → ((n : Name) → Among n ns → sort_of n.place < sig.sorts) → IsFormula sig copies f (ss ++ sorts_in sort_of ns) → IsFormula sig copies (closed_over sort_of q ns f) ss
  closed_fits sort_of q [] f ss ok h = subst (IsFormula sig copies f) (append-nil ss) h
  closed_fits sort_of q (n ∷ ns) f ss ok h =
      quantified_fits q (sort_of n.place) (closed_over sort_of q ns f) ss (ok n (here _ _))
      (closed_fits sort_of q ns f (ss ++ sort_of n.place ∷ []) (λ k m. ok k (there _ _ _ m)) (subst (IsFormula sig copies f) (sym (append_assoc ss (sort_of n.place ∷ []) (sorts_in sort_of ns))) h))

-- ---- how deep they bind

module _ (m : ℕ) where
  abbrev IsLow : Formula → Type 0
  IsLow f = binders f ≤ m

  pub truth_low : (b : Bool) → IsLow (truth b)
  truth_low true = omega arith
  truth_low false = omega arith

  pub not_low : (f : Formula) → IsLow f → IsLow (F.Not f)
  not_low f h = omega (arith, binders-Not f, h)

  or_low : (f g : Formula) → IsLow f → IsLow g → IsLow (F.Or (f ∷ g ∷ []))
  or_low f g h k = Or-binders (f ∷ g ∷ []) m (all_two IsLow f g h k)

  and_low : (f g : Formula) → IsLow f → IsLow g → IsLow (F.And (f ∷ g ∷ []))
  and_low f g h k = And-binders (f ∷ g ∷ []) m (all_two IsLow f g h k)

  pub joined_low : (j : Junction) (fs : List Formula) → All IsLow fs → IsLow (joined j fs)
  joined_low Conjunction fs h = And-binders fs m h
  joined_low Disjunction fs h = Or-binders fs m h

  pub connected_low : (c : Connective) (f g : Formula) → IsLow f → IsLow g → IsLow (connected c f g)
  connected_low Implication f g h k = or_low (F.Not f) g (not_low f h) k
  connected_low Equivalence f g h k = and_low (F.Or (F.Not f ∷ g ∷ [])) (F.Or (f ∷ F.Not g ∷ [])) (or_low (F.Not f) g (not_low f h) k) (or_low f (F.Not g) h (not_low g k))

  pub conditional_low : (f g i : Formula) → IsLow f → IsLow g → IsLow i → IsLow (conditional f g i)
  conditional_low f g i h k l = and_low (F.Or (F.Not f ∷ g ∷ [])) (F.Or (f ∷ i ∷ [])) (or_low (F.Not f) g (not_low f h) k) (or_low f i h l)

  pub compared_low : (e : Bool) (t u : Term) → IsLow (compared e t u)
  compared_low true t u = omega arith
  compared_low false t u = not_low (F.Eq t u) (omega arith)

  pub differ_low : (ts : List Term) → All IsLow (differ ts)
  differ_low [] = All-nil IsLow
  differ_low (t ∷ ts) = all_both IsLow (map (λ u. compared false t u) ts) (differ ts) (each t ts) (differ_low ts)
    where
      each : (t : Term) (ts : List Term) → All IsLow (map (λ u. compared false t u) ts)
      each t [] = All-nil IsLow
      each t (u ∷ us) = All-cons IsLow (compared false t u) (map (λ u. compared false t u) us) (compared_low false t u) (each t us)

quantified_binders : (q : Quantifier) (s : ℕ) (f : Formula) → binders (quantified q s f) ≡ binders f + 1
quantified_binders Universal s f = binders-All s f
quantified_binders Existential s f = binders-Ex s f

pub closed_binders : (sort_of : ℕ → ℕ) (q : Quantifier) (ns : List Name) (f : Formula) → binders (closed_over sort_of q ns f) ≡ binders f + length ns
closed_binders sort_of q [] f = omega arith
closed_binders sort_of q (n ∷ ns) f = let k = closed_binders sort_of q ns f in let e = quantified_binders q (sort_of n.place) (closed_over sort_of q ns f) in omega (arith, k, e)
