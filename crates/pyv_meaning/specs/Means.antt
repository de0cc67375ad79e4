-- What an expression means.
use Rattle.std.specs.Prelude.{◌≡◌, ℕ, ◌+◌, ◌≤◌, ◌++◌, Bool, true, false, List, [], ◌∷◌, length, Some, IfSome}
use Rattle.std.specs.List.{AllByRecursion}
use Rattle.fo_core.specs.declared.names.Names.{Names}
use Rattle.fo_core.specs.declared.signature.Sig.{Sig}
use Rattle.fo_core.specs.declared.term.Term.{Term}
use Rattle.fo_core.specs.declared.term.Term.TheVariants as T
use Rattle.fo_core.specs.declared.formula.Formula.{Formula}
use Rattle.fo_core.specs.declared.formula.Formula.TheVariants as F
use Rattle.fo_core.specs.Tables.{symbol_at}
use Rattle.pyv_meaning.specs.declared.variable.Meaning.{Meaning}
use Rattle.pyv_meaning.specs.declared.variable.Meaning.TheVariants.{Variable, Symbol, Unknown}
use Rattle.pyv_meaning.specs.Builds.{truth, joined, connected, conditional, compared, differ, closed_over, copy_of}
use Rattle.pyv_meaning.specs.Scope.{number, resolve}
use Rattle.pyv_meaning.specs.Tree.{Name, Binder, Tree, Trees, Truth, Named, New, Distinct, Not, Joined, Connected, Compared, Quantified, If, none, more, count, is_alone, bound_names}

-- the same sort for each of the expressions
abbrev pub one_sort : Trees → ℕ → List ℕ
one_sort none s = []
one_sort (more x xs) s = s ∷ one_sort xs s

-- each variable has the sort that is told where it is bound, if one is
abbrev pub HaveSorts : Names → (ℕ → ℕ) → List Binder → Type 0
HaveSorts names sort_of = AllByRecursion (λ (b : Binder). IfSome b.sort (λ (n : Name). number names.sorts n.word ≡ Some (sort_of b.name.place)))

-- of the names and the signature, whether `new` may stand in the body, and a sort for each variable, which is known by
-- the place where it is bound
module _ (names : Names) (sig : Sig) (step : Bool) (sort_of : ℕ → ℕ) where
  -- What a name means as a term of sort s, where Arguments says which terms its arguments mean at these sorts. A
  -- variable stands alone.
  abbrev pub NameMeansTerm : Meaning → Bool → ℕ → (List ℕ → List Term → Type 0) → Bool → ℕ → Term → Type 0
  NameMeansTerm (Variable binder level) brackets n Arguments ahead s t = (is_alone brackets n ≡ true) × (sort_of binder ≡ s) × (t ≡ T.Var level)
  NameMeansTerm (Symbol k) brackets n Arguments ahead s t =
      ((symbol_at sig k).relation ≡ false) × ((symbol_at sig k).result ≡ s) × (ts : List Term) × Arguments (symbol_at sig k).args ts × (t ≡ T.App k (copy_of sig ahead k) ts)
  NameMeansTerm Unknown brackets n Arguments ahead s t = ⊥

  -- what it means as a formula
  abbrev pub NameMeans : Meaning → (List ℕ → List Term → Type 0) → Bool → Formula → Type 0
  NameMeans (Symbol k) Arguments ahead f = ((symbol_at sig k).relation ≡ true) × (ts : List Term) × Arguments (symbol_at sig k).args ts × (f ≡ F.Rel k (copy_of sig ahead k) ts)
  NameMeans (Variable binder level) Arguments ahead f = ⊥
  NameMeans Unknown Arguments ahead f = ⊥

  abbrev mutual
    -- the expression, inside `new` or not, means the term t of sort s
    pub MeansTerm : Tree → Bool → List Name → ℕ → Term → Type 0
    MeansTerm (Named n b xs) ahead scope s t = NameMeansTerm (resolve names scope n.word) b (count xs) (λ ss ts. MeanTerms xs ahead scope ss ts) ahead s t
    MeansTerm (New p x) ahead scope s t = (step ≡ true) × (ahead ≡ false) × MeansTerm x true scope s t
    MeansTerm _ ahead scope s t = ⊥

    -- each means a term, of the sort at its place
    pub MeanTerms : Trees → Bool → List Name → List ℕ → List Term → Type 0
    MeanTerms none ahead scope [] [] = Unit {0}
    MeanTerms (more x xs) ahead scope (s ∷ ss) (t ∷ ts) = MeansTerm x ahead scope s t × MeanTerms xs ahead scope ss ts
    MeanTerms _ ahead scope _ _ = ⊥

  -- A variable may stand under at most 63 binders besides its own, and `distinct` holds at most 16 terms.
  abbrev mutual
    pub Means : Tree → Bool → List Name → Formula → Type 0
    Means (Truth p b) ahead scope f = f ≡ truth b
    Means (Named n b xs) ahead scope f = NameMeans (resolve names scope n.word) (λ ss ts. MeanTerms xs ahead scope ss ts) ahead f
    Means (New p x) ahead scope f = (step ≡ true) × (ahead ≡ false) × Means x true scope f
    Means (Distinct p xs) ahead scope f = (count xs ≤ 16) × (s : ℕ) × (ts : List Term) × MeanTerms xs ahead scope (one_sort xs s) ts × (f ≡ F.And (differ ts))
    Means (Not p x) ahead scope f = (g : Formula) × Means x ahead scope g × (f ≡ F.Not g)
    Means (Joined p j xs) ahead scope f = (fs : List Formula) × EachMeans xs ahead scope fs × (f ≡ joined j fs)
    Means (Connected p c x y) ahead scope f = (g h : Formula) × Means x ahead scope g × Means y ahead scope h × (f ≡ connected c g h)
    Means (Compared p e x y) ahead scope f = (s : ℕ) × (t u : Term) × MeansTerm x ahead scope s t × MeansTerm y ahead scope s u × (f ≡ compared e t u)
    Means (Quantified p q bs x) ahead scope f =
        (length scope + length bs ≤ 64) × HaveSorts names sort_of bs × (g : Formula) × Means x ahead (scope ++ bound_names bs) g × (f ≡ closed_over sort_of q (bound_names bs) g)
    Means (If p x y z) ahead scope f = (g h i : Formula) × Means x ahead scope g × Means y ahead scope h × Means z ahead scope i × (f ≡ conditional g h i)

    pub EachMeans : Trees → Bool → List Name → List Formula → Type 0
    EachMeans none ahead scope [] = Unit {0}
    EachMeans (more x xs) ahead scope (f ∷ fs) = Means x ahead scope f × EachMeans xs ahead scope fs
    EachMeans _ ahead scope _ = ⊥
