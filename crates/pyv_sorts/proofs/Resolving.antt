-- What a name stands for, by what was found.
use Rattle.std.proofs.Common.{◌≡◌, ℕ, List, refl, Option, Some, None}
use Rattle.fo_core.specs.declared.names.Names.{Names}
use Rattle.pyv_meaning.specs.declared.variable.Meaning.{Meaning}
use Rattle.pyv_meaning.specs.declared.variable.Meaning.TheVariants.{Variable, Symbol, Unknown}
use Rattle.pyv_meaning.specs.Scope.{lookup, number, resolve, variable_or, symbol_or_unknown}
use Rattle.pyv_meaning.specs.Tree.{Name}

module _ (names : Names) (scope : List Name) (w : List ℕ) where
  pub to_variable : (v l : ℕ) → lookup None 0 scope w ≡ Some (v, l) → resolve names scope w ≡ Variable v l
  unfolding resolve
  to_variable v l e = rw e refl

  pub to_symbol : (k : ℕ) → lookup None 0 scope w ≡ None → number names.symbols w ≡ Some k → resolve names scope w ≡ Symbol k
  unfolding resolve
  to_symbol k e f = rw (e, f) refl

  pub to_unknown : lookup None 0 scope w ≡ None → number names.symbols w ≡ None → resolve names scope w ≡ Unknown
  unfolding resolve
  to_unknown e f = rw (e, f) refl
