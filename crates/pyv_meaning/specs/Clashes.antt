-- The first application or variable of another sort than its place, from left to right.
use Rattle.std.specs.Prelude.{ℕ, ◌==◌, ◌++◌, Bool, true, List, [], ◌∷◌, Option, Some, None}
use Rattle.fo_core.specs.declared.names.Names.{Names}
use Rattle.fo_core.specs.declared.signature.Sig.{Sig}
use Rattle.fo_core.specs.Tables.{symbol_at}
use Rattle.pyv_meaning.specs.declared.fault.SortFault.{SortFault}
use Rattle.pyv_meaning.specs.declared.fault.SortFault.TheVariants.{SortClash}
use Rattle.pyv_meaning.specs.declared.variable.Meaning.{Meaning}
use Rattle.pyv_meaning.specs.declared.variable.Meaning.TheVariants.{Variable, Symbol, Unknown}
use Rattle.pyv_meaning.specs.NameFaults.{◌then◌, unless}
use Rattle.pyv_meaning.specs.Scope.{resolve}
use Rattle.pyv_meaning.specs.Uses.{places}
use Rattle.pyv_meaning.specs.Tree.{Name, Tree, Trees, Truth, Named, New, Distinct, Not, Joined, Connected, Compared, Quantified, If, none, more, bound_names}

-- a term of sort s may stand where this sort is asked, if any is
abbrev pub suits : Option ℕ → ℕ → Bool
suits None s = true
suits (Some r) s = r == s

-- where each variable, known by the place where it is bound, has a sort
module _ (names : Names) (sig : Sig) (sort_of : ℕ → ℕ) where
  abbrev pub meaning_sort : Meaning → ℕ
  meaning_sort (Variable binder level) = sort_of binder
  meaning_sort (Symbol k) = (symbol_at sig k).result
  meaning_sort Unknown = 0

  -- the sort of a term
  abbrev pub term_sort : Tree → List Name → ℕ
  term_sort (Named n b xs) scope = meaning_sort (resolve names scope n.word)
  term_sort (New p x) scope = term_sort x scope
  term_sort _ scope = 0

  abbrev mutual
    -- where a sort is asked of a term, it is the first argument
    pub clash : Tree → Option ℕ → List Name → Option SortFault
    clash (Truth p b) want scope = None
    clash (Named n b xs) want scope =
        unless (suits want (meaning_sort (resolve names scope n.word))) (SortClash n.place) then argument_clash xs (places names sig (resolve names scope n.word)) scope
    clash (New p x) want scope = clash x want scope
    clash (Distinct p xs) want scope = distinct_clash xs scope
    clash (Not p x) want scope = clash x None scope
    clash (Joined p j xs) want scope = each_clash xs None scope
    clash (Connected p c x y) want scope = clash x None scope then clash y None scope
    clash (Compared p e x y) want scope = clash x None scope then clash y (Some (term_sort x scope)) scope
    clash (Quantified p q bs x) want scope = clash x None (scope ++ bound_names bs)
    clash (If p x y z) want scope = clash x None scope then clash y None scope then clash z None scope

    pub each_clash : Trees → Option ℕ → List Name → Option SortFault
    each_clash none want scope = None
    each_clash (more x xs) want scope = clash x want scope then each_clash xs want scope

    -- all have the sort of the first
    pub distinct_clash : Trees → List Name → Option SortFault
    distinct_clash none scope = None
    distinct_clash (more x xs) scope = clash x None scope then each_clash xs (Some (term_sort x scope)) scope

    pub argument_clash : Trees → List ℕ → List Name → Option SortFault
    argument_clash none ss scope = None
    argument_clash (more x xs) [] scope = None
    argument_clash (more x xs) (s ∷ ss) scope = clash x (Some s) scope then argument_clash xs ss scope
