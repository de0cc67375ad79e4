-- The free variables of a body, and the parts of it that are closed by themselves.
use Rattle.std.specs.Prelude.{ℕ, ◌++◌, ◌&&◌, Bool, false, nat_lt, cond, List, [], ◌∷◌, slice_index_or}
use Rattle.std.specs.List.{filter, list_any}
use Rattle.std.specs.Str.{bytes_eq}
use Rattle.fo_core.specs.declared.names.Names.{Names}
use Rattle.fo_core.specs.declared.formula.Formula.{Formula}
use Rattle.fo_core.specs.declared.formula.Formula.TheVariants as F
use Rattle.pyv_meaning.specs.declared.variable.Meaning.{Meaning}
use Rattle.pyv_meaning.specs.declared.variable.Meaning.TheVariants.{Variable, Symbol, Unknown}
use Rattle.pyv_meaning.specs.Scope.{resolve}
use Rattle.pyv_meaning.specs.Tree.{Name, Tree, Trees, Truth, Named, New, Distinct, Not, Joined, Connected, Compared, Quantified, If, none, more, Conjunction, list_of, bound_names}

-- the word begins with a letter from A to Z
abbrev pub is_capital : List ℕ → Bool
is_capital [] = false
is_capital (b ∷ bs) = nat_lt 64 b && nat_lt b 91

-- a name that nothing has, and that begins with a capital letter, is a free variable
abbrev pub if_free : Meaning → Name → List Name
if_free Unknown n = cond (is_capital n.word) (n ∷ []) []
if_free (Variable binder level) n = []
if_free (Symbol k) n = []

module _ (names : Names) where
  abbrev mutual
    -- the names of free variables where they stand, from left to right
    pub frees : Tree → List Name → List Name
    frees (Truth p b) scope = []
    frees (Named n b xs) scope = if_free (resolve names scope n.word) n ++ each_free xs scope
    frees (New p x) scope = frees x scope
    frees (Distinct p xs) scope = each_free xs scope
    frees (Not p x) scope = frees x scope
    frees (Joined p j xs) scope = each_free xs scope
    frees (Connected p c x y) scope = frees x scope ++ frees y scope
    frees (Compared p e x y) scope = frees x scope ++ frees y scope
    frees (Quantified p q bs x) scope = frees x (scope ++ bound_names bs)
    frees (If p x y z) scope = frees x scope ++ (frees y scope ++ frees z scope)

    pub each_free : Trees → List Name → List Name
    each_free none scope = []
    each_free (more x xs) scope = frees x scope ++ each_free xs scope

-- one of the names has this word
abbrev pub names_word : List Name → List ℕ → Bool
names_word ns w = list_any (λ (n : Name). bytes_eq n.word w) ns

-- of each word the first name, where the known ones stand before
abbrev pub firsts : List Name → List Name → List Name
firsts known [] = known
firsts known (n ∷ ns) = firsts (cond (names_word known n.word) known (known ++ n ∷ [])) ns

-- of a body inside these parameters
module _ (names : Names) (params : List Name) where
  -- its free variables in order of first occurrence, each by that occurrence
  abbrev pub free_of : Tree → List Name
  free_of body = firsts [] (frees names body params)

  -- the free variables of the body that a part of it names
  abbrev pub closure_of : Tree → Tree → List Name
  closure_of body part = filter (λ (n : Name). names_word (frees names part params) n.word) (free_of body)

  -- what is in scope at the part, once it is closed over them inside the parameters
  abbrev pub scope_of : Tree → Tree → List Name
  scope_of body part = params ++ closure_of body part

-- the parts of a body that are closed by themselves: the members of a list of `&`, else the whole
abbrev pub parts : Tree → List Tree
parts (Joined p Conjunction xs) = list_of xs
parts x = x ∷ []

-- the body's formula, from those of its parts
abbrev pub whole : Tree → List Formula → Formula
whole (Joined p Conjunction xs) fs = F.And fs
whole x fs = slice_index_or fs 0 F.True
