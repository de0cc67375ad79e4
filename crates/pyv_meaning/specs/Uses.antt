-- What an expression tells of the sorts of its variables.
use Rattle.std.specs.Prelude.{ℕ, ◌==◌, ◌++◌, cond, List, [], ◌∷◌, Option, Some, None}
use Rattle.fo_core.specs.declared.names.Names.{Names}
use Rattle.fo_core.specs.declared.signature.Sig.{Sig}
use Rattle.fo_core.specs.Tables.{symbol_at}
use Rattle.pyv_meaning.specs.declared.variable.Meaning.{Meaning}
use Rattle.pyv_meaning.specs.declared.variable.Meaning.TheVariants.{Variable, Symbol, Unknown}
use Rattle.pyv_meaning.specs.declared.variable.Side.{Side}
use Rattle.pyv_meaning.specs.declared.variable.Side.TheVariants.{OfVariable, OfSort, Neither}
use Rattle.pyv_meaning.specs.declared.variable.Use.{Use}
use Rattle.pyv_meaning.specs.declared.variable.Use.TheVariants.{Binder as Binds, Is, Alike}
use Rattle.pyv_meaning.specs.Scope.{number, resolve}
use Rattle.pyv_meaning.specs.Tree.{Name, Binder, Tree, Trees, Truth, Named, New, Distinct, Not, Joined, Connected, Compared, Quantified, If, none, more, bound_names}

-- a variable has the sort of the place where it stands
abbrev pub stands : Side → ℕ → List Use
stands (OfVariable v) s = Is v s ∷ []
stands (OfSort r) s = []
stands Neither s = []

-- two sides have one sort
abbrev pub equated : Side → Side → List Use
equated (OfVariable v) (OfVariable w) = Alike v w ∷ []
equated (OfVariable v) (OfSort s) = Is v s ∷ []
equated (OfVariable v) Neither = []
equated (OfSort s) (OfVariable v) = Is v s ∷ []
equated (OfSort s) (OfSort r) = []
equated (OfSort s) Neither = []
equated Neither y = []

abbrev pub equated_with : Side → List Side → List Use
equated_with x [] = []
equated_with x (y ∷ ys) = equated x y ++ equated_with x ys

-- each two of them have one sort
abbrev pub all_equated : List Side → List Use
all_equated [] = []
all_equated (x ∷ xs) = equated_with x xs ++ all_equated xs

-- a free variable is bound where it first occurs
abbrev pub first_occurs : Meaning → ℕ → List Use
first_occurs (Variable binder level) p = cond (binder == p) (Binds binder ∷ []) []
first_occurs (Symbol k) p = []
first_occurs Unknown p = []

abbrev pub has_sort : ℕ → Option ℕ → List Use
has_sort v None = []
has_sort v (Some s) = Is v s ∷ []

module _ (names : Names) where
  -- the sort that is told where a variable is bound
  abbrev pub declared_as : ℕ → Option Name → List Use
  declared_as v None = []
  declared_as v (Some n) = has_sort v (number names.sorts n.word)

  abbrev pub binder_uses : List Binder → List Use
  binder_uses [] = []
  binder_uses (b ∷ bs) = Binds b.name.place ∷ (declared_as b.name.place b.sort ++ binder_uses bs)

module _ (names : Names) (sig : Sig) where
  abbrev pub side_of : Meaning → Side
  side_of (Variable binder level) = OfVariable binder
  side_of (Symbol k) = OfSort (symbol_at sig k).result
  side_of Unknown = Neither

  abbrev pub side : Tree → List Name → Side
  side (Named n b xs) scope = side_of (resolve names scope n.word)
  side (New p x) scope = side x scope
  side _ scope = Neither

  abbrev pub sides : Trees → List Name → List Side
  sides none scope = []
  sides (more x xs) scope = side x scope ∷ sides xs scope

  -- the sorts of the arguments that the name asks for
  abbrev pub places : Meaning → List ℕ
  places (Symbol k) = (symbol_at sig k).args
  places (Variable binder level) = []
  places Unknown = []

  abbrev mutual
    -- from left to right
    pub uses : Tree → List Name → List Use
    uses (Truth p b) scope = []
    uses (Named n b xs) scope = first_occurs (resolve names scope n.word) n.place ++ argument_uses xs (places (resolve names scope n.word)) scope
    uses (New p x) scope = uses x scope
    uses (Distinct p xs) scope = all_equated (sides xs scope) ++ each_uses xs scope
    uses (Not p x) scope = uses x scope
    uses (Joined p j xs) scope = each_uses xs scope
    uses (Connected p c x y) scope = uses x scope ++ uses y scope
    uses (Compared p e x y) scope = equated (side x scope) (side y scope) ++ (uses x scope ++ uses y scope)
    uses (Quantified p q bs x) scope = binder_uses names bs ++ uses x (scope ++ bound_names bs)
    uses (If p x y z) scope = uses x scope ++ (uses y scope ++ uses z scope)

    pub each_uses : Trees → List Name → List Use
    each_uses none scope = []
    each_uses (more x xs) scope = uses x scope ++ each_uses xs scope

    pub argument_uses : Trees → List ℕ → List Name → List Use
    argument_uses none ss scope = []
    argument_uses (more x xs) [] scope = []
    argument_uses (more x xs) (s ∷ ss) scope = stands (side x scope) s ++ (uses x scope ++ argument_uses xs ss scope)
