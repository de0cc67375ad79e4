-- The terms and formulas that expressions without a fault stand for.
use Rattle.std.specs.Prelude.{ℕ, ◌++◌, ◌&&◌, Bool, true, false, cond, List, [], ◌∷◌, map}
use Rattle.fo_core.specs.declared.names.Names.{Names}
use Rattle.fo_core.specs.declared.signature.Sig.{Sig}
use Rattle.fo_core.specs.declared.term.Term.{Term}
use Rattle.fo_core.specs.declared.term.Term.TheVariants as T
use Rattle.fo_core.specs.declared.formula.Formula.{Formula}
use Rattle.fo_core.specs.declared.formula.Formula.TheVariants as F
use Rattle.fo_core.specs.Tables.{symbol_at}
use Rattle.pyv_meaning.specs.declared.variable.Meaning.{Meaning}
use Rattle.pyv_meaning.specs.declared.variable.Meaning.TheVariants.{Variable, Symbol, Unknown}
use Rattle.pyv_meaning.specs.Scope.{resolve}
use Rattle.pyv_meaning.specs.Tree.{Name, Tree, Trees, Truth, Named, New, Distinct, Not, Joined, Connected, Compared, Quantified, If, none, more, bound_names, Junction, Conjunction, Disjunction, Connective, Implication, Equivalence, Quantifier, Universal, Existential}

-- ---- forms

abbrev pub truth : Bool → Formula
truth true = F.True
truth false = F.False

abbrev pub joined : Junction → List Formula → Formula
joined Conjunction fs = F.And fs
joined Disjunction fs = F.Or fs

-- f -> g is the Or of Not f and g, and f <-> g the And of the Ors of Not f and g, and of f and Not g
abbrev pub connected : Connective → Formula → Formula → Formula
connected Implication f g = F.Or (F.Not f ∷ g ∷ [])
connected Equivalence f g = F.And (F.Or (F.Not f ∷ g ∷ []) ∷ F.Or (f ∷ F.Not g ∷ []) ∷ [])

-- what holds with the condition, and what holds without it
abbrev pub conditional : Formula → Formula → Formula → Formula
conditional f g h = F.And (F.Or (F.Not f ∷ g ∷ []) ∷ F.Or (f ∷ h ∷ []) ∷ [])

abbrev pub compared : Bool → Term → Term → Formula
compared true t u = F.Eq t u
compared false t u = F.Not (F.Eq t u)

-- the first of each two, with the second, in order
abbrev pub differ : List Term → List Formula
differ [] = []
differ (t ∷ ts) = map (λ u. compared false t u) ts ++ differ ts

abbrev pub quantified : Quantifier → ℕ → Formula → Formula
quantified Universal s f = F.All s f
quantified Existential s f = F.Ex s f

-- quantified over variables, each known by the place where it is bound, which have these sorts
abbrev pub closed_over : (ℕ → ℕ) → Quantifier → List Name → Formula → Formula
closed_over sort_of q [] f = f
closed_over sort_of q (n ∷ ns) f = quantified q (sort_of n.place) (closed_over sort_of q ns f)

-- an immutable symbol speaks of copy 0, and a mutable one of copy 1 inside `new`
abbrev pub copy_of : Sig → Bool → ℕ → ℕ
copy_of sig ahead k = cond (ahead && (symbol_at sig k).mutable) 1 0

-- ---- expressions

module _ (names : Names) (sig : Sig) where
  abbrev pub named_term : Meaning → Bool → List Term → Term
  named_term (Variable binder level) ahead ts = T.Var level
  named_term (Symbol k) ahead ts = T.App k (copy_of sig ahead k) ts
  named_term Unknown ahead ts = T.Var 0

  abbrev pub named_formula : Meaning → Bool → List Term → Formula
  named_formula (Symbol k) ahead ts = F.Rel k (copy_of sig ahead k) ts
  named_formula (Variable binder level) ahead ts = F.True
  named_formula Unknown ahead ts = F.True

  abbrev mutual
    -- the term, inside `new` or not; what is no term gives variable 0
    pub term_of : Tree → Bool → List Name → Term
    term_of (Named n b xs) ahead scope = named_term (resolve names scope n.word) ahead (terms_of xs ahead scope)
    term_of (New p x) ahead scope = term_of x true scope
    term_of _ ahead scope = T.Var 0

    pub terms_of : Trees → Bool → List Name → List Term
    terms_of none ahead scope = []
    terms_of (more x xs) ahead scope = term_of x ahead scope ∷ terms_of xs ahead scope

  -- where each variable, known by the place where it is bound, has a sort
  module _ (sort_of : ℕ → ℕ) where
    abbrev mutual
      -- the formula, inside `new` or not; what is no formula gives True
      pub formula_of : Tree → Bool → List Name → Formula
      formula_of (Truth p b) ahead scope = truth b
      formula_of (Named n b xs) ahead scope = named_formula (resolve names scope n.word) ahead (terms_of xs ahead scope)
      formula_of (New p x) ahead scope = formula_of x true scope
      formula_of (Distinct p xs) ahead scope = F.And (differ (terms_of xs ahead scope))
      formula_of (Not p x) ahead scope = F.Not (formula_of x ahead scope)
      formula_of (Joined p j xs) ahead scope = joined j (formulas_of xs ahead scope)
      formula_of (Connected p c x y) ahead scope = connected c (formula_of x ahead scope) (formula_of y ahead scope)
      formula_of (Compared p e x y) ahead scope = compared e (term_of x ahead scope) (term_of y ahead scope)
      formula_of (Quantified p q bs x) ahead scope = closed_over sort_of q (bound_names bs) (formula_of x ahead (scope ++ bound_names bs))
      formula_of (If p x y z) ahead scope = conditional (formula_of x ahead scope) (formula_of y ahead scope) (formula_of z ahead scope)

      pub formulas_of : Trees → Bool → List Name → List Formula
      formulas_of none ahead scope = []
      formulas_of (more x xs) ahead scope = formula_of x ahead scope ∷ formulas_of xs ahead scope
