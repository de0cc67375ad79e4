-- Orders of sorts that rise along functions.
use Rattle.std.proofs.Common.{◌≡◌, ℕ, ◌<◌, false, List, length, get_or, refl, sym, subst}
use Rattle.std.specs.List.{All}
use Rattle.std.specs.Prelude.{slice_index}
use Rattle.std.proofs.lemmas.List.{get_or_read, get_or_default}
use Rattle.std.proofs.lemmas.List.Elements.{All-contains, Contains-get_or}
use Rattle.fo_core.specs.declared.signature.Sig.{Sig}
use Rattle.fo_core.specs.declared.signature.Symbol.{Symbol}
use Rattle.fo_core.specs.SortGraph.{FunctionEdge, Leads, Rises}
use Rattle.fo_core.specs.Tables.{no_symbol, symbol_at}

module _ (sig : Sig) (numbers : List ℕ) where
  -- the numbers of a function's arguments are below that of its values
  abbrev pub RisesTo : Symbol → Type 0
  RisesTo s = All (λ a. slice_index numbers a < slice_index numbers s.result) s.args

  pub rises-from : length numbers ≡ sig.sorts → ((k : ℕ) → k < length sig.symbols → (symbol_at sig k).relation ≡ false → RisesTo (symbol_at sig k)) → Rises (FunctionEdge sig) sig.sorts numbers
  rises-from one_each each = record { one_each = one_each; rising = λ a b edge. along a b edge.0 edge.1 edge.2 (sym edge.3) edge.4 }
    where
      along : (a b k : ℕ) (s : Symbol) → k < length sig.symbols → s ≡ get_or sig.symbols k s → Leads a b s → slice_index numbers a < slice_index numbers b
      along a b k s lt is leads =
          let here = get_or_read sig.symbols k s lt is no_symbol in
          let risen : RisesTo s = subst RisesTo (sym here) (each k lt (subst (λ (x : Symbol). x.relation ≡ false) here leads.function)) in
          subst (λ r. slice_index numbers a < slice_index numbers r) leads.result (All-contains (λ x. slice_index numbers x < slice_index numbers s.result) s.args a risen leads.argument)

  pub rises-at : Rises (FunctionEdge sig) sig.sorts numbers → (k : ℕ) → k < length sig.symbols → (symbol_at sig k).relation ≡ false → RisesTo (symbol_at sig k)
  rises-at rises k lt function = λ i d less.
      rises.rising (get_or (symbol_at sig k).args i d) (symbol_at sig k).result
      (k, symbol_at sig k, lt, sym (at_itself k lt), record { function = function; argument = Contains-get_or (symbol_at sig k).args i d less; result = refl })
    where
      at_itself : (k : ℕ) → k < length sig.symbols → symbol_at sig k ≡ get_or sig.symbols k (symbol_at sig k)
      at_itself k lt = get_or_default sig.symbols k no_symbol (symbol_at sig k) lt
