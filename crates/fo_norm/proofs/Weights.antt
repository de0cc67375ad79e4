-- The nodes of a formula are those of its Skolem form and one for each Skolem symbol.
use Rattle.std.proofs.Common.{◌≡◌, ℕ, Bool, true, false, not, ◌+◌, List, [], ◌∷◌, ◌++◌, length, map, refl, sym, ap, ◌∙◌, arith}
use denote.Hole.Carrier.{hidden}
use Rattle.fo_core.specs.declared.signature.Symbol.{Symbol}
use Rattle.fo_core.specs.declared.formula.Formula.{Formula, True, False, Rel, Eq, Not', And', Or', All', Ex', Row_of-Formula, end_of-Formula, more_of-Formula, items-the_row-Formula, items_hidden-the_row-Formula-1}
use Rattle.fo_core.specs.declared.formula.Formula.TheBlock.{shape-the_row-Formula-0, hidden-the_row-Formula-0}
use Rattle.fo_core.specs.declared.formula.Formula.TheVariants as F
use Rattle.fo_core.proofs.Rows.{row_of}
use Rattle.fo_norm.specs.declared.scope.Slot.{Slot}
use Rattle.fo_norm.specs.declared.scope.Slot.TheVariants.{Level, Skolem}
use Rattle.fo_core.specs.Skolems.{skolem_symbols, skolem_symbols_row, skolem_symbols_list}
use Rattle.fo_norm.specs.Skolem.{filled, literal, joined, formed, formed_row, formed_list}
use Rattle.fo_core.specs.Weights.{added, power, nodes, nodes_row, claim_nodes, skolem_nodes}

module _ (U : List ℕ) where
  nodes-Not : (g : Formula) (us : List ℕ) → nodes U true (F.Not g) us ≡ nodes U false g us
  unfolding shape-the_row-Formula-0 hidden-the_row-Formula-0 hidden
  nodes-Not g us = refl

  nodes-All : (s : ℕ) (g : Formula) (us : List ℕ) → nodes U true (F.All s g) us ≡ power U us + nodes U true g (us ++ s ∷ [])
  unfolding shape-the_row-Formula-0 hidden-the_row-Formula-0 hidden
  nodes-All s g us = refl

  row_nodes : (us : List ℕ) (n : _) (row : Row_of-Formula n) → nodes_row U true row us ≡ added (λ g. nodes U true g us) (items-the_row-Formula n row)
  row_nodes us n end_of-Formula = refl
  row_nodes us n (more_of-Formula f rest) = ap (λ m. nodes U true f us + m) (row_nodes us _ rest)

  nodes-joined : (b : Bool) (gs : List Formula) (us : List ℕ) → nodes U true (joined b gs) us ≡ power U us + added (λ g. nodes U true g us) gs
  nodes-joined true gs us = let row = row_of (F.And gs) in ap (λ m. power U us + m) (row_nodes us row.0 row.1 ∙ ap (added (λ g. nodes U true g us)) (items_hidden-the_row-Formula-1 gs))
  nodes-joined false gs us = let row = row_of (F.Or gs) in ap (λ m. power U us + m) (row_nodes us row.0 row.1 ∙ ap (added (λ g. nodes U true g us)) (items_hidden-the_row-Formula-1 gs))

  sum-join : (ps qs : List Symbol) → skolem_nodes U (ps ++ qs) ≡ skolem_nodes U ps + skolem_nodes U qs
  sum-join [] qs = omega arith
  sum-join (p ∷ ps) qs = omega (arith, sum-join ps qs)

  plain : (p n : ℕ) → n ≡ p → p ≡ n + 0
  plain p n e = omega arith

  atom : (b : Bool) (g : Formula) (us : List ℕ) → nodes U true g us ≡ power U us → nodes U false g us ≡ power U us → nodes U true (literal b g) us ≡ power U us
  atom true g us e f = e
  atom false g us e f = nodes-Not g us ∙ f

  binder : (p n m k s : ℕ) → n ≡ m + s → p + m ≡ k → p + n ≡ k + s
  binder p n m k s e f = omega arith

  chosen : (p n m s : ℕ) → n ≡ m + s → p + n ≡ m + (p + s)
  chosen p n m s e = omega arith

  both : (a a' s b b' t u : ℕ) → a ≡ a' + s → b ≡ b' + t → u ≡ s + t → a + b ≡ a' + b' + u
  both a a' s b b' t u p q r = omega arith

  mutual
    pub nodes-formed : (b : Bool) (f : Formula) (slots : List Slot) (us : List ℕ) (next : ℕ) → nodes U b f us ≡ nodes U true (formed b f slots us next) us + skolem_nodes U (skolem_symbols b f us)
    nodes-formed true True slots us next = omega arith
    nodes-formed false True slots us next = omega arith
    nodes-formed true False slots us next = omega arith
    nodes-formed false False slots us next = omega arith
    nodes-formed b (Rel r d args) slots us next = plain (power U us) _ (atom b (Rel r d (map (filled slots) args)) us refl refl)
    nodes-formed b (Eq x y) slots us next = plain (power U us) _ (atom b (Eq (filled slots x) (filled slots y)) us refl refl)
    nodes-formed b (Not' _ (more_of-Formula f _)) slots us next = nodes-formed (not b) f slots us next
    nodes-formed b (And' _ row) slots us next = binder (power U us) _ _ _ _ (row-formed b row slots us next) (sym (nodes-joined b (formed_row b row slots us next) us))
    nodes-formed b (Or' _ row) slots us next = binder (power U us) _ _ _ _ (row-formed b row slots us next) (sym (nodes-joined (not b) (formed_row b row slots us next) us))
    nodes-formed true (All' s _ (more_of-Formula f _)) slots us next =
        binder (power U us) _ _ _ _ (nodes-formed true f (slots ++ Level (length us) ∷ []) (us ++ s ∷ []) next) (sym (nodes-All s (formed true f (slots ++ Level (length us) ∷ []) (us ++ s ∷ []) next) us))
    nodes-formed false (All' s _ (more_of-Formula f _)) slots us next = chosen (power U us) _ _ _ (nodes-formed false f (slots ++ Skolem next (length us) ∷ []) us (next + 1))
    nodes-formed true (Ex' s _ (more_of-Formula f _)) slots us next = chosen (power U us) _ _ _ (nodes-formed true f (slots ++ Skolem next (length us) ∷ []) us (next + 1))
    nodes-formed false (Ex' s _ (more_of-Formula f _)) slots us next =
        binder (power U us) _ _ _ _ (nodes-formed false f (slots ++ Level (length us) ∷ []) (us ++ s ∷ []) next) (sym (nodes-All s (formed false f (slots ++ Level (length us) ∷ []) (us ++ s ∷ []) next) us))

    row-formed : {n : _} (b : Bool) (row : Row_of-Formula n) (slots : List Slot) (us : List ℕ) (next : ℕ) → nodes_row U b row us ≡ added (λ g. nodes U true g us) (formed_row b row slots us next) + skolem_nodes U (skolem_symbols_row b row us)
    row-formed b end_of-Formula slots us next = omega arith
    row-formed b (more_of-Formula f rest) slots us next =
        both (nodes U b f us) (nodes U true (formed b f slots us next) us) (skolem_nodes U (skolem_symbols b f us)) _ _ _ _
        (nodes-formed b f slots us next) (row-formed b rest slots us (next + length (skolem_symbols b f us))) (sum-join (skolem_symbols b f us) (skolem_symbols_row b rest us))

  -- of the claims of a query
  pub claims-formed : (fs : List Formula) (next : ℕ) → claim_nodes U fs ≡ claim_nodes U (formed_list true fs [] [] next) + skolem_nodes U (skolem_symbols_list true fs [])
  claims-formed [] next = refl
  claims-formed (f ∷ fs) next =
      both (nodes U true f []) (nodes U true (formed true f [] [] next) []) (skolem_nodes U (skolem_symbols true f [])) _ _ _ _
      (nodes-formed true f [] [] next) (claims-formed fs (next + length (skolem_symbols true f []))) (sum-join (skolem_symbols true f []) (skolem_symbols_list true fs []))
