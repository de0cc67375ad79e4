-- The first fault of the names of an expression, in order of tokens.
use Rattle.std.specs.Prelude.{ℕ, ◌+◌, ◌==◌, ◌++◌, Bool, true, false, not, nat_lt, cond, List, [], ◌∷◌, length, Option, Some, None}
use Rattle.fo_core.specs.declared.names.Names.{Names}
use Rattle.fo_core.specs.declared.signature.Sig.{Sig}
use Rattle.fo_core.specs.Tables.{symbol_at}
use Rattle.pyv_meaning.specs.declared.fault.SortFault.{SortFault}
use Rattle.pyv_meaning.specs.declared.fault.SortFault.TheVariants.{UnknownName, NewOutsideStep, NewTwice, NotATerm, NotAFormula, WrongArity, TooMany}
use Rattle.pyv_meaning.specs.declared.stand.Stand.{Stand}
use Rattle.pyv_meaning.specs.declared.variable.Meaning.{Meaning}
use Rattle.pyv_meaning.specs.declared.variable.Meaning.TheVariants.{Variable, Symbol, Unknown}
use Rattle.pyv_meaning.specs.Scope.{number, resolve}
use Rattle.pyv_meaning.specs.Tree.{Name, Binder, Tree, Trees, Truth, Named, New, Distinct, Not, Joined, Connected, Compared, Quantified, If, none, more, count, is_alone, bound_names}

-- the first of two faults, where there is one
infixr 5 ◌then◌
abbrev pub ◌then◌ : Option SortFault → Option SortFault → Option SortFault
None then f = f
(Some e) then f = Some e

abbrev pub unless : Bool → SortFault → Option SortFault
unless true f = None
unless false f = Some f

-- a formula, or a term, is asked of what stands in the same place
abbrev pub formula_at : Stand → Stand
formula_at a = record { step = a.step; ahead = a.ahead; formula = true; over = false }

abbrev pub term_at : Stand → Bool → Stand
term_at a over = record { step = a.step; ahead = a.ahead; formula = false; over = over }

-- what is asked of `new` is asked of what it holds
abbrev pub inside_new : Stand → Stand
inside_new a = record { step = a.step; ahead = true; formula = a.formula; over = false }

-- a formula stands here
abbrev pub is_formula : Stand → ℕ → Option SortFault
is_formula a p = unless a.formula (NotATerm p)

-- a term or a formula stands here, as the symbol is a function or a relation
abbrev pub is_kind : Bool → Bool → ℕ → Option SortFault
is_kind true relation p = unless relation (NotAFormula p)
is_kind false relation p = cond relation (Some (NotATerm p)) None

abbrev pub new_fault : Stand → ℕ → Option SortFault
new_fault a p = unless a.step (NewOutsideStep p) then unless (not a.ahead) (NewTwice p) then unless (not a.over) (TooMany p)

-- the sort of this name is declared
abbrev pub is_declared : Option ℕ → ℕ → Option SortFault
is_declared None p = Some (UnknownName p)
is_declared (Some s) p = None

module _ (names : Names) where
  abbrev pub sort_fault : Option Name → Option SortFault
  sort_fault None = None
  sort_fault (Some n) = is_declared (number names.sorts n.word) n.place

  -- at most 64 binders stand above one another, and each sort is declared; so many stand above already
  abbrev pub binder_faults : List Binder → ℕ → Option SortFault
  binder_faults [] above = None
  binder_faults (b ∷ bs) above = unless (nat_lt above 64) (TooMany b.name.place) then sort_fault b.sort then binder_faults bs (above + 1)

module _ (names : Names) (sig : Sig) where
  -- the faults of a name with so many arguments, in the order in which they are looked for
  abbrev pub name_fault : Stand → Meaning → ℕ → Bool → ℕ → Option SortFault
  name_fault a Unknown p brackets n = Some (UnknownName p)
  name_fault a (Variable binder level) p brackets n =
      is_kind a.formula false p then unless (is_alone brackets n) (WrongArity p) then unless (nat_lt level 64) (TooMany p) then unless (not a.over) (TooMany p)
  name_fault a (Symbol k) p brackets n =
      is_kind a.formula (symbol_at sig k).relation p then unless (n == length (symbol_at sig k).args) (WrongArity p) then unless (not a.over) (TooMany p)

  abbrev mutual
    pub fault : Tree → Stand → List Name → Option SortFault
    fault (Truth p b) a scope = is_formula a p
    fault (Named n b xs) a scope = name_fault a (resolve names scope n.word) n.place b (count xs) then faults xs (term_at a false) scope
    fault (New p x) a scope = new_fault a p then fault x (inside_new a) scope
    fault (Distinct p xs) a scope = is_formula a p then distinct_faults xs a 0 scope
    fault (Not p x) a scope = is_formula a p then fault x (formula_at a) scope
    fault (Joined p j xs) a scope = list_fault xs a p scope
    fault (Connected p c x y) a scope = fault x (formula_at a) scope then is_formula a p then fault y (formula_at a) scope
    fault (Compared p e x y) a scope = fault x (term_at a false) scope then is_formula a p then fault y (term_at a false) scope
    fault (Quantified p q bs x) a scope = is_formula a p then binder_faults names bs (length scope) then fault x (formula_at a) (scope ++ bound_names bs)
    fault (If p x y z) a scope = is_formula a p then fault x (formula_at a) scope then fault y (formula_at a) scope then fault z (formula_at a) scope

    -- the token of a list stands behind its first member
    pub list_fault : Trees → Stand → ℕ → List Name → Option SortFault
    list_fault none a p scope = is_formula a p
    list_fault (more x xs) a p scope = fault x (formula_at a) scope then is_formula a p then faults xs (formula_at a) scope

    pub faults : Trees → Stand → List Name → Option SortFault
    faults none a scope = None
    faults (more x xs) a scope = fault x a scope then faults xs a scope

    -- the terms of a `distinct`, where so many stand before; sixteen may stand there
    pub distinct_faults : Trees → Stand → ℕ → List Name → Option SortFault
    distinct_faults none a i scope = None
    distinct_faults (more x xs) a i scope = fault x (term_at a (not (nat_lt i 16))) scope then distinct_faults xs a (i + 1) scope
