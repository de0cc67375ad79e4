-- Bodies without quantifiers of their own make no edge of the sort graph, whatever closes them.
use Rattle.std.proofs.Common.{◌≡◌, ℕ, zero, suc, ◌&&◌, ◌⊎◌, Bool, true, false, true≢false, not, List, [], ◌∷◌, length, map, refl, ap, sym, subst, ◌∙◌, inl, inr}
use Rattle.std.specs.List.{AllByRecursion, Any, list_all}
use Rattle.fo_core.specs.declared.formula.Formula.{Formula}
use Rattle.fo_core.specs.declared.formula.Formula.TheVariants as F
use Rattle.fo_core.specs.declared.names.Names.{Names}
use Rattle.fo_core.specs.declared.order.Purpose.TheVariants.{Infer}
use Rattle.fo_core.specs.declared.signature.Sig.{Sig}
use Rattle.fo_core.specs.declared.signature.Symbol.{Symbol}
use Rattle.fo_core.specs.declared.system.Step.{Step}
use Rattle.fo_core.specs.declared.system.System.{System}
use Rattle.fo_core.specs.declared.term.Term.{Term}
use Rattle.fo_core.specs.SortGraph.{FormulaEdge, HasExistential, InferEdge, IsStratified, Leads}
use Rattle.fo_core.proofs.EdgeRows.{edge-All, edge-And, edge-Not, edge-Or, existential-All, existential-And, existential-Not, existential-Or}
use Rattle.fo_core.proofs.ListFacts.{any_cases, any_none}
use Rattle.pyv_meaning.specs.declared.variable.Meaning.{Meaning}
use Rattle.pyv_meaning.specs.declared.variable.Meaning.TheVariants.{Variable, Symbol as Known, Unknown}
use Rattle.pyv_meaning.specs.Bodies.{body_formula, closure_in, part_formula, scope_in}
use Rattle.pyv_meaning.specs.Builds.{closed_over, compared, connected, copy_of, formula_of, formulas_of, joined, named_formula, term_of, terms_of, truth}
use Rattle.pyv_meaning.specs.Closing.{parts, whole}
use Rattle.pyv_meaning.specs.Items.{Body}
use Rattle.pyv_meaning.specs.Scope.{resolve}
use Rattle.pyv_meaning.specs.Tree.{Name, Tree, Trees, Truth, Named, New, Distinct, Not, Joined, Connected, Compared, Quantified, If, none, more, Conjunction, Disjunction, Implication, Equivalence, Universal, list_of}
use Rattle.pyv_meaning.proofs.Basics.{and_left, and_right}

-- ---- formulas without quantifiers

-- no existential stands there, in either sign, and so no edge
pub record IsPlain (f : Formula) : Type 0 where
  pub none_there : (b : ℕ) (sign : Bool) → HasExistential b f sign → ⊥
  pub no_edge : (a b : ℕ) (sign : Bool) → FormulaEdge a b f sign → ⊥

-- the formula makes no edge, in either sign
abbrev pub MakesNone : Formula → Type 0
MakesNone f = (a b : ℕ) (sign : Bool) → FormulaEdge a b f sign → ⊥

-- nothing holds of an element where it holds of none
none_of_all : {A : Type 0} (P : A → Type 0) (xs : List A) → AllByRecursion (λ x. P x → ⊥) xs → Any P xs → ⊥
none_of_all P [] all any = any_none P any
none_of_all P (x ∷ xs) all any = of (none_of_all P xs all.1) (any_cases P x xs any)
  where
    of : (Any P xs → ⊥) → P x ⊎ Any P xs → ⊥
    of later (inl p) = all.0 p
    of later (inr a) = later a

each : {A : Type 0} (P Q : A → Type 0) → ((x : A) → P x → Q x) → (xs : List A) → AllByRecursion P xs → AllByRecursion Q xs
each P Q so [] all = tt
each P Q so (x ∷ xs) all = (so x all.0, each P Q so xs all.1)

plain_truth : (v : Bool) → IsPlain (truth v)
plain_truth true = record { none_there = λ b sign h. h; no_edge = λ a b sign h. h }
plain_truth false = record { none_there = λ b sign h. h; no_edge = λ a b sign h. h }

plain_rel : (k c : ℕ) (ts : List Term) → IsPlain (F.Rel k c ts)
plain_rel k c ts = record { none_there = λ b sign h. h; no_edge = λ a b sign h. h }

plain_eq : (t u : Term) → IsPlain (F.Eq t u)
plain_eq t u = record { none_there = λ b sign h. h; no_edge = λ a b sign h. h }

plain_not : (f : Formula) → IsPlain f → IsPlain (F.Not f)
plain_not f p = record {
  none_there = λ b sign h. p.none_there b (not sign) (subst (λ (A : Type 0). A) (existential-Not b f sign) h);
  no_edge = λ a b sign h. p.no_edge a b (not sign) (subst (λ (A : Type 0). A) (edge-Not a b f sign) h);
}

plain_and : (fs : List Formula) → AllByRecursion IsPlain fs → IsPlain (F.And fs)
plain_and fs all = record {
  none_there = λ b sign h. none_of_all (λ f. HasExistential b f sign) fs (each IsPlain (λ f. HasExistential b f sign → ⊥) (λ f p. p.none_there b sign) fs all) ((existential-And b fs sign).0 h);
  no_edge = λ a b sign h. none_of_all (λ f. FormulaEdge a b f sign) fs (each IsPlain (λ f. FormulaEdge a b f sign → ⊥) (λ f p. p.no_edge a b sign) fs all) ((edge-And a b fs sign).0 h);
}

plain_or : (fs : List Formula) → AllByRecursion IsPlain fs → IsPlain (F.Or fs)
plain_or fs all = record {
  none_there = λ b sign h. none_of_all (λ f. HasExistential b f sign) fs (each IsPlain (λ f. HasExistential b f sign → ⊥) (λ f p. p.none_there b sign) fs all) ((existential-Or b fs sign).0 h);
  no_edge = λ a b sign h. none_of_all (λ f. FormulaEdge a b f sign) fs (each IsPlain (λ f. FormulaEdge a b f sign → ⊥) (λ f p. p.no_edge a b sign) fs all) ((edge-Or a b fs sign).0 h);
}

-- ---- expressions without quantifiers

abbrev mutual
  pub is_plain : Tree → Bool
  is_plain (Truth p v) = true
  is_plain (Named n b xs) = true
  is_plain (New p x) = is_plain x
  is_plain (Distinct p xs) = false
  is_plain (Not p x) = is_plain x
  is_plain (Joined p j xs) = are_plain xs
  is_plain (Connected p c x y) = is_plain x && is_plain y
  is_plain (Compared p e x y) = true
  is_plain (Quantified p q bs x) = false
  is_plain (If p x y z) = false

  pub are_plain : Trees → Bool
  are_plain none = true
  are_plain (more x xs) = is_plain x && are_plain xs

module _ (names : Names) (sig : Sig) (sort_of : ℕ → ℕ) where
  plain_named : (m : Meaning) (ahead : Bool) (ts : List Term) → IsPlain (named_formula names sig m ahead ts)
  plain_named (Variable binder level) ahead ts = plain_truth true
  plain_named Unknown ahead ts = plain_truth true
  plain_named (Known k) ahead ts = plain_rel k (copy_of sig ahead k) ts

  plain_compared : (e : Bool) (t u : Term) → IsPlain (compared e t u)
  plain_compared true t u = plain_eq t u
  plain_compared false t u = plain_not (F.Eq t u) (plain_eq t u)

  plain_joined : (j : _) (fs : List Formula) → AllByRecursion IsPlain fs → IsPlain (joined j fs)
  plain_joined Conjunction fs all = plain_and fs all
  plain_joined Disjunction fs all = plain_or fs all

  plain_connected : (c : _) (f g : Formula) → IsPlain f → IsPlain g → IsPlain (connected c f g)
  plain_connected Implication f g p q = plain_or (F.Not f ∷ g ∷ []) (plain_not f p, (q, tt))
  plain_connected Equivalence f g p q =
      plain_and (F.Or (F.Not f ∷ g ∷ []) ∷ F.Or (f ∷ F.Not g ∷ []) ∷ [])
      (plain_or (F.Not f ∷ g ∷ []) (plain_not f p, (q, tt)), (plain_or (f ∷ F.Not g ∷ []) (p, (plain_not g q, tt)), tt))

  mutual
    plain : (t : Tree) (ahead : Bool) (scope : List Name) → is_plain t ≡ true → IsPlain (formula_of names sig sort_of t ahead scope)
    plain (Truth p v) ahead scope h = plain_truth v
    plain (Named n b xs) ahead scope h = plain_named (resolve names scope n.word) ahead (terms_of names sig xs ahead scope)
    plain (New p x) ahead scope h = plain x true scope h
    plain (Distinct p xs) ahead scope h = absurd cc
    plain (Not p x) ahead scope h = plain_not (formula_of names sig sort_of x ahead scope) (plain x ahead scope h)
    plain (Joined p j xs) ahead scope h = plain_joined j (formulas_of names sig sort_of xs ahead scope) (all_plain xs ahead scope h)
    plain (Connected p c x y) ahead scope h =
        plain_connected c (formula_of names sig sort_of x ahead scope) (formula_of names sig sort_of y ahead scope)
        (plain x ahead scope (and_left (is_plain x) (is_plain y) h)) (plain y ahead scope (and_right (is_plain x) (is_plain y) h))
    plain (Compared p e x y) ahead scope h = plain_compared e (term_of names sig x ahead scope) (term_of names sig y ahead scope)
    plain (Quantified p q bs x) ahead scope h = absurd cc
    plain (If p x y z) ahead scope h = absurd cc

    all_plain : (xs : Trees) (ahead : Bool) (scope : List Name) → are_plain xs ≡ true → AllByRecursion IsPlain (formulas_of names sig sort_of xs ahead scope)
    all_plain none ahead scope h = tt
    all_plain (more x xs) ahead scope h = (plain x ahead scope (and_left (is_plain x) (are_plain xs) h), all_plain xs ahead scope (and_right (is_plain x) (are_plain xs) h))

  -- ---- under universals

  none_below : (ns : List Name) (f : Formula) → IsPlain f → (b : ℕ) → HasExistential b (closed_over sort_of Universal ns f) true → ⊥
  none_below [] f p b h = p.none_there b true h
  none_below (n ∷ ns) f p b h = of (none_below ns f p b) (subst (λ (A : Type 0). A) (existential-All b (sort_of n.place) (closed_over sort_of Universal ns f) true) h)
    where
      of : (HasExistential b (closed_over sort_of Universal ns f) true → ⊥) → ((true ≡ false) × (sort_of n.place ≡ b)) ⊎ HasExistential b (closed_over sort_of Universal ns f) true → ⊥
      of later (inl k) = true≢false k.0
      of later (inr k) = later k

  no_edge_below : (ns : List Name) (f : Formula) → IsPlain f → (a b : ℕ) (sign : Bool) → FormulaEdge a b (closed_over sort_of Universal ns f) sign → ⊥
  no_edge_below [] f p a b sign h = p.no_edge a b sign h
  no_edge_below (n ∷ ns) f p a b sign h = of (no_edge_below ns f p a b sign) (subst (λ (A : Type 0). A) (edge-All a b (sort_of n.place) (closed_over sort_of Universal ns f) sign) h)
    where
      of : (FormulaEdge a b (closed_over sort_of Universal ns f) sign → ⊥) → ((sign ≡ true) × (sort_of n.place ≡ a) × HasExistential b (closed_over sort_of Universal ns f) sign) ⊎ FormulaEdge a b (closed_over sort_of Universal ns f) sign → ⊥
      of later (inl k) = none_below ns f p b (subst (HasExistential b (closed_over sort_of Universal ns f)) k.0 k.2)
      of later (inr k) = later k

  -- ---- a body

  none_of_and : (fs : List Formula) → AllByRecursion MakesNone fs → MakesNone (F.And fs)
  none_of_and fs all a b sign h = none_of_all (λ f. FormulaEdge a b f sign) fs (each MakesNone (λ f. FormulaEdge a b f sign → ⊥) (λ f p. p a b sign) fs all) ((edge-And a b fs sign).0 h)

  module _ (body : Body) where
    part_none : (x : Tree) → is_plain x ≡ true → MakesNone (part_formula names sig body sort_of x)
    part_none x h = no_edge_below (closure_in names body x) (formula_of names sig sort_of x false (scope_in names body x)) (plain x false (scope_in names body x) h)

    parts_none : (xs : Trees) → are_plain xs ≡ true → AllByRecursion MakesNone (map (part_formula names sig body sort_of) (list_of xs))
    parts_none none h = tt
    parts_none (more x xs) h = (part_none x (and_left (is_plain x) (are_plain xs) h), parts_none xs (and_right (is_plain x) (are_plain xs) h))

    abbrev WholeIs : Tree → Type 0
    WholeIs t = MakesNone (whole t (map (part_formula names sig body sort_of) (parts t)))

    whole_none : (t : Tree) → is_plain t ≡ true → WholeIs t
    whole_none (Joined p Conjunction xs) h = none_of_and (map (part_formula names sig body sort_of) (list_of xs)) (parts_none xs h)
    whole_none (Joined p Disjunction xs) h = part_none (Joined p Disjunction xs) h
    whole_none (Truth p v) h = part_none (Truth p v) h
    whole_none (Named n b xs) h = part_none (Named n b xs) h
    whole_none (New p x) h = part_none (New p x) h
    whole_none (Distinct p xs) h = part_none (Distinct p xs) h
    whole_none (Not p x) h = part_none (Not p x) h
    whole_none (Connected p c x y) h = part_none (Connected p c x y) h
    whole_none (Compared p e x y) h = part_none (Compared p e x y) h
    whole_none (Quantified p q bs x) h = part_none (Quantified p q bs x) h
    whole_none (If p x y z) h = part_none (If p x y z) h

  pub body_none : (body : Body) → is_plain body.tree ≡ true → MakesNone (body_formula names sig body sort_of)
  body_none body h = whole_none body body.tree h

-- ---- all of a system

-- no edge is made by any of these formulas
none_made : {A : Type 0} (formula : A → Formula) (xs : List A) → AllByRecursion (λ x. MakesNone (formula x)) xs → (a b : ℕ) (sign : Bool) → Any (λ x. FormulaEdge a b (formula x) sign) xs → ⊥
none_made formula xs all a b sign h = none_of_all (λ x. FormulaEdge a b (formula x) sign) xs (each (λ x. MakesNone (formula x)) (λ x. FormulaEdge a b (formula x) sign → ⊥) (λ x p. p a b sign) xs all) h

relations_lead : (symbols : List Symbol) → list_all (λ (s : Symbol). s.relation) symbols ≡ true → (a b : ℕ) → AllByRecursion (λ s. Leads a b s → ⊥) symbols
relations_lead [] h a b = tt
relations_lead (s ∷ ss) h a b = (λ l. true≢false (sym (and_left s.relation (list_all (λ (t : Symbol). t.relation) ss) h) ∙ l.function), relations_lead ss (and_right s.relation (list_all (λ (t : Symbol). t.relation) ss) h) a b)

abbrev zeros : ℕ → List ℕ
zeros zero = []
zeros (suc n) = 0 ∷ zeros n

zeros_are : (n : ℕ) → length (zeros n) ≡ n
zeros_are zero = refl
zeros_are (suc n) = ap (λ (k : ℕ). suc k) (zeros_are n)

-- a system of relations whose formulas make no edge is stratified
pub edgeless : (sys : System) → list_all (λ (s : Symbol). s.relation) sys.sig.symbols ≡ true → AllByRecursion MakesNone sys.axioms → AllByRecursion MakesNone sys.inits → AllByRecursion (λ (step : Step). MakesNone step.body) sys.steps → AllByRecursion MakesNone sys.safeties → IsStratified sys Infer
edgeless sys relations axioms inits steps safeties = (zeros sys.sig.sorts, record { one_each = zeros_are sys.sig.sorts; rising = λ a b edge. absurd (never a b edge) })
  where
    never : (a b : ℕ) → InferEdge sys a b → ⊥
    never a b (inl k) = none_of_all (Leads a b) sys.sig.symbols (relations_lead sys.sig.symbols relations a b) k
    never a b (inr (inl k)) = none_made (λ (f : Formula). f) sys.axioms axioms a b true k
    never a b (inr (inr (inl k))) = none_made (λ (f : Formula). f) sys.inits inits a b true k
    never a b (inr (inr (inr (inl k)))) = none_made (λ (step : Step). step.body) sys.steps steps a b true k
    never a b (inr (inr (inr (inr k)))) = none_made (λ (f : Formula). f) sys.safeties safeties a b false k
