-- A symbol has equal tables in two neighbouring copies exactly where the formula that says so is true.
use Rattle.std.proofs.Common.{◌≡◌, ℕ, zero, suc, Bool, true, false, cond, ◌+◌, ◌<◌, ◌↔◌, ◌⊎◌, inl, inr, List, [], ◌∷◌, ◌++◌, length, get_or, map, refl, sym, ap, subst, ◌∙◌, arith}
use Rattle.std.specs.List.{All, Any}
use Rattle.std.specs.Prelude.{slice_index}
use Rattle.std.proofs.lemmas.List.Elements.{All-nil, All-cons, All-head, All-tail}
use Rattle.fo_core.specs.declared.signature.Sig.{Sig}
use Rattle.fo_core.specs.declared.signature.Symbol.{Symbol}
use Rattle.fo_core.specs.declared.term.Term.{Term}
use Rattle.fo_core.specs.declared.term.Term.TheVariants as T
use Rattle.fo_core.specs.declared.formula.Formula.{Formula, Rel}
use Rattle.fo_core.specs.declared.formula.Formula.TheVariants as F
use Rattle.fo_core.specs.declared.world.Table.{Table}
use Rattle.fo_core.specs.declared.world.World.{World}
use Rattle.fo_core.specs.Tables.{symbol_at, table_of, entry, place, arg_sizes, Fits, IsTable}
use Rattle.fo_core.specs.Truth.{value, Truth}
use Rattle.fo_core.specs.Runs.{AreElements}
use Rattle.fo_core.specs.Sorted.{IsSymbol, IsTerm, IsFormula}
use Rattle.fo_core.specs.SortGraph.{HasExistential, FormulaEdge}
use Rattle.fo_core.proofs.Decided.{tell}
use Rattle.fo_core.proofs.PlaceLemmas.{elements-below}
use Rattle.fo_core.proofs.Rows.{truth-Not, truth-And, truth-Or, value-App, sorted-Not, And-sorted, Or-sorted, App-sorted}
use Rattle.fo_core.proofs.EdgeRows.{existential-Not, existential-And, existential-Or, edge-Not, edge-And, edge-Or}
use Rattle.fo_core.proofs.TableLemmas.{table_is, place-lt}
use Rattle.fo_core.proofs.Zips.{AllZip-length}
use Rattle.up_claims.specs.Transitions.{same, keeps}
use Rattle.fo_core.proofs.Binders.{all_over-from, all_over-to, variables-values, variables-sorted, all_over-sorted, all_over-edge}
use Rattle.fo_core.proofs.ListFacts.{cast, back, any_cases, any_first, any_later, any_one}
use Rattle.up_claims.proofs.Places.{same-tables}
use Rattle.fo_core.specs.Over.{variables}

-- two truth values, of which one is 1 exactly where the other is
equal_bits : (x y : ℕ) → x < 2 → y < 2 → (x ≡ 1 → y ≡ 1) → (y ≡ 1 → x ≡ 1) → x ≡ y
equal_bits zero zero a b there here = refl
equal_bits zero (suc zero) a b there here = here refl
equal_bits (suc zero) zero a b there here = sym (there refl)
equal_bits (suc zero) (suc zero) a b there here = refl
equal_bits (suc (suc x)) y a b there here = absurd (omega arith)
equal_bits zero (suc (suc y)) a b there here = absurd (omega arith)
equal_bits (suc zero) (suc (suc y)) a b there here = absurd (omega arith)

module _ (sig : Sig) (w : World) (c : ℕ) where
  -- the one implies the other where the disjunction says so
  module _ (f g : Formula) (vs : List ℕ) where
    implied : Truth sig w c (F.Or (F.Not f ∷ g ∷ [])) vs → Truth sig w c f vs → Truth sig w c g vs
    implied h t = by_case (any_cases (λ f. Truth sig w c f vs) (F.Not f) (g ∷ []) ((truth-Or sig w c (F.Not f ∷ g ∷ []) vs).0 h))
      where
        by_case : Truth sig w c (F.Not f) vs ⊎ Any (λ f. Truth sig w c f vs) (g ∷ []) → Truth sig w c g vs
        by_case (inl fails) = absurd (cast (truth-Not sig w c f vs) fails t)
        by_case (inr a) = any_one (λ f. Truth sig w c f vs) g a

    implies : (Truth sig w c f vs → Truth sig w c g vs) → Truth sig w c (F.Or (F.Not f ∷ g ∷ [])) vs
    implies h = (truth-Or sig w c (F.Not f ∷ g ∷ []) vs).1 (by_case (tell sig w c f vs))
      where
        by_case : Truth sig w c f vs ⊎ (¬ Truth sig w c f vs) → Any (λ f. Truth sig w c f vs) (F.Not f ∷ g ∷ [])
        by_case (inl t) = any_later (λ f. Truth sig w c f vs) (F.Not f) (g ∷ []) (any_first (λ f. Truth sig w c f vs) g [] (h t))
        by_case (inr fails) = any_first (λ f. Truth sig w c f vs) (F.Not f) (g ∷ []) (back (truth-Not sig w c f vs) fails)

    implied_back : Truth sig w c (F.Or (f ∷ F.Not g ∷ [])) vs → Truth sig w c g vs → Truth sig w c f vs
    implied_back h t = by_case (any_cases (λ f. Truth sig w c f vs) f (F.Not g ∷ []) ((truth-Or sig w c (f ∷ F.Not g ∷ []) vs).0 h))
      where
        by_case : Truth sig w c f vs ⊎ Any (λ f. Truth sig w c f vs) (F.Not g ∷ []) → Truth sig w c f vs
        by_case (inl met) = met
        by_case (inr a) = absurd (cast (truth-Not sig w c g vs) (any_one (λ f. Truth sig w c f vs) (F.Not g) a) t)

    implies_back : (Truth sig w c g vs → Truth sig w c f vs) → Truth sig w c (F.Or (f ∷ F.Not g ∷ [])) vs
    implies_back h = (truth-Or sig w c (f ∷ F.Not g ∷ []) vs).1 (by_case (tell sig w c g vs))
      where
        by_case : Truth sig w c g vs ⊎ (¬ Truth sig w c g vs) → Any (λ f. Truth sig w c f vs) (f ∷ F.Not g ∷ [])
        by_case (inl t) = any_first (λ f. Truth sig w c f vs) f (F.Not g ∷ []) (h t)
        by_case (inr fails) = any_later (λ f. Truth sig w c f vs) f (F.Not g ∷ []) (any_first (λ f. Truth sig w c f vs) (F.Not g) [] (back (truth-Not sig w c g vs) fails))

    twice-from : Truth sig w c (F.And (F.Or (F.Not f ∷ g ∷ []) ∷ F.Or (f ∷ F.Not g ∷ []) ∷ [])) vs → Truth sig w c f vs ↔ Truth sig w c g vs
    twice-from h =
        let both = (truth-And sig w c (F.Or (F.Not f ∷ g ∷ []) ∷ F.Or (f ∷ F.Not g ∷ []) ∷ []) vs).0 h in
        let there = All-head (λ f. Truth sig w c f vs) (F.Or (F.Not f ∷ g ∷ [])) (F.Or (f ∷ F.Not g ∷ []) ∷ []) both in
        let rest = All-tail (λ f. Truth sig w c f vs) (F.Or (F.Not f ∷ g ∷ [])) (F.Or (f ∷ F.Not g ∷ []) ∷ []) both in
        (implied there, implied_back (All-head (λ f. Truth sig w c f vs) (F.Or (f ∷ F.Not g ∷ [])) [] rest))

    twice-to : Truth sig w c f vs ↔ Truth sig w c g vs → Truth sig w c (F.And (F.Or (F.Not f ∷ g ∷ []) ∷ F.Or (f ∷ F.Not g ∷ []) ∷ [])) vs
    twice-to h =
        (truth-And sig w c (F.Or (F.Not f ∷ g ∷ []) ∷ F.Or (f ∷ F.Not g ∷ []) ∷ []) vs).1
        (All-cons (λ f. Truth sig w c f vs) (F.Or (F.Not f ∷ g ∷ [])) (F.Or (f ∷ F.Not g ∷ []) ∷ []) (implies h.0)
        (All-cons (λ f. Truth sig w c f vs) (F.Or (f ∷ F.Not g ∷ [])) [] (implies_back h.1) (All-nil (λ f. Truth sig w c f vs))))

module _ (sig : Sig) (w : World) (c k : ℕ) (xs ys : List ℕ) (same_count : length (symbol_at sig k).args ≡ length ys) where
  abbrev vars : List Term
  vars = variables (length xs) (length (symbol_at sig k).args)

  named : map (λ t. value sig w c t (xs ++ ys)) vars ≡ ys
  named = variables-values sig w c xs ys (length (symbol_at sig k).args) same_count

  rel-reads : (d : ℕ) → Truth sig w c (Rel k d vars) (xs ++ ys) ≡ (entry sig w (c + d) k ys ≡ 1)
  rel-reads d = ap (λ us. entry sig w (c + d) k us ≡ 1) named

  app-reads : (d : ℕ) → value sig w c (T.App k d vars) (xs ++ ys) ≡ entry sig w (c + d) k ys
  app-reads d = value-App sig w c k d vars (xs ++ ys) ∙ ap (entry sig w (c + d) k) named

  -- for these arguments: the formula says that the entries are equal
  module _ (bits : (symbol_at sig k).relation ≡ true → (d : ℕ) → d < 2 → entry sig w (c + d) k ys < 2) where
    same-from : (b : Bool) → (symbol_at sig k).relation ≡ b → Truth sig w c (same b k vars) (xs ++ ys) → entry sig w (c + 1) k ys ≡ entry sig w (c + 0) k ys
    same-from true is h =
        let r = twice-from sig w c (Rel k 1 vars) (Rel k 0 vars) (xs ++ ys) h in
        equal_bits _ _ (bits is 1 (omega arith)) (bits is 0 (omega arith))
        (λ e. cast (rel-reads 0) (r.0 (back (rel-reads 1) e)))
        (λ e. cast (rel-reads 1) (r.1 (back (rel-reads 0) e)))
    same-from false is h = sym (app-reads 1) ∙ h ∙ app-reads 0

  same-to : (b : Bool) → entry sig w (c + 1) k ys ≡ entry sig w (c + 0) k ys → Truth sig w c (same b k vars) (xs ++ ys)
  same-to true e =
      twice-to sig w c (Rel k 1 vars) (Rel k 0 vars) (xs ++ ys)
      (λ h. back (rel-reads 0) (sym e ∙ cast (rel-reads 1) h), λ h. back (rel-reads 1) (e ∙ cast (rel-reads 0) h))
  same-to false e = app-reads 1 ∙ e ∙ sym (app-reads 0)

module _ (sig : Sig) (w : World) (c : ℕ) (fits : Fits sig w) (more : c + 1 < length w.copies) (k : ℕ) (known : k < length sig.symbols) where
  table_there : (d : ℕ) → d < 2 → IsTable w.sizes (symbol_at sig k) (table_of sig w (c + d) k)
  table_there d lt = table_is sig w (c + d) k fits known (λ is. omega arith)

  bits_there : (ys : List ℕ) → AreElements w.sizes ys (symbol_at sig k).args → (symbol_at sig k).relation ≡ true → (d : ℕ) → d < 2 → entry sig w (c + d) k ys < 2
  bits_there ys e is d lt =
      let t = table_there d lt in
      let below = subst (λ n. place (arg_sizes w.sizes (symbol_at sig k)) ys < n) (sym t.total) (place-lt (arg_sizes w.sizes (symbol_at sig k)) ys (elements-below w.sizes ys (symbol_at sig k).args e)) in
      subst (λ b. entry sig w (c + d) k ys < cond b 2 (slice_index w.sizes (symbol_at sig k).result)) is (t.in_range (place (arg_sizes w.sizes (symbol_at sig k)) ys) 0 below)

  count_of : (ys : List ℕ) → AreElements w.sizes ys (symbol_at sig k).args → length (symbol_at sig k).args ≡ length ys
  count_of ys e = sym (AllZip-length (λ x s. x < slice_index w.sizes s) ys (symbol_at sig k).args e)

  pub keeps-from : (xs : List ℕ) → Truth sig w c (keeps (length xs) k (symbol_at sig k)) xs → table_of sig w c k ≡ table_of sig w (c + 1) k
  keeps-from xs h = subst (λ n. table_of sig w n k ≡ table_of sig w (c + 1) k) (omega arith) (same-tables w.sizes (symbol_at sig k) (table_of sig w (c + 0) k) (table_of sig w (c + 1) k) (table_there 0 (omega arith)) (table_there 1 (omega arith)) each)
    where
      each : (ys : List ℕ) → AreElements w.sizes ys (symbol_at sig k).args → entry sig w (c + 0) k ys ≡ entry sig w (c + 1) k ys
      each ys e =
          sym (same-from sig w c k xs ys (count_of ys e) (bits_there ys e) (symbol_at sig k).relation refl
          (all_over-from sig w c (symbol_at sig k).args (same (symbol_at sig k).relation k (variables (length xs) (length (symbol_at sig k).args))) xs h ys e))

  pub keeps-to : (xs : List ℕ) → table_of sig w c k ≡ table_of sig w (c + 1) k → Truth sig w c (keeps (length xs) k (symbol_at sig k)) xs
  keeps-to xs e = all_over-to sig w c (symbol_at sig k).args (same (symbol_at sig k).relation k (variables (length xs) (length (symbol_at sig k).args))) xs each
    where
      tables : table_of sig w (c + 1) k ≡ table_of sig w (c + 0) k
      tables = subst (λ n. table_of sig w (c + 1) k ≡ table_of sig w n k) (omega arith) (sym e)

      each : (ys : List ℕ) → AreElements w.sizes ys (symbol_at sig k).args → Truth sig w c (same (symbol_at sig k).relation k (variables (length xs) (length (symbol_at sig k).args))) (xs ++ ys)
      each ys is =
          same-to sig w c k xs ys (count_of ys is) (symbol_at sig k).relation
          (ap (λ (t : Table). get_or t.values (place (arg_sizes w.sizes (symbol_at sig k)) ys) 0) tables)

-- the formula is well-sorted, and adds no edge
module _ (sig : Sig) (k : ℕ) (known : k < length sig.symbols) (mutable : (symbol_at sig k).mutable ≡ true) (ps : List ℕ) where
  abbrev kept_vars : List Term
  kept_vars = variables (length ps) (length (symbol_at sig k).args)

  symbol_in : (d : ℕ) → d < 2 → (b : Bool) → (symbol_at sig k).relation ≡ b → IsSymbol sig 2 b k d
  symbol_in d lt b is = record { within = known; kind = is; copy = subst (λ m. d < cond m 2 1) (sym mutable) lt }

  rel-sorted : (d : ℕ) → d < 2 → (symbol_at sig k).relation ≡ true → IsFormula sig 2 (Rel k d kept_vars) (ps ++ (symbol_at sig k).args)
  rel-sorted d lt is = (symbol_in d lt true is, variables-sorted sig 2 ps (symbol_at sig k).args)

  app-sorted : (d : ℕ) → d < 2 → (symbol_at sig k).relation ≡ false → IsTerm sig 2 (T.App k d kept_vars) (ps ++ (symbol_at sig k).args) (symbol_at sig k).result
  app-sorted d lt is = App-sorted sig 2 k d kept_vars (ps ++ (symbol_at sig k).args) (symbol_at sig k).result (symbol_in d lt false is) refl (variables-sorted sig 2 ps (symbol_at sig k).args)

  not-sorted : (f : Formula) (ss : List ℕ) → IsFormula sig 2 f ss → IsFormula sig 2 (F.Not f) ss
  not-sorted f ss h = back (sorted-Not sig 2 f ss) h

  pair-sorted : (f g : Formula) (ss : List ℕ) → IsFormula sig 2 f ss → IsFormula sig 2 g ss → All (λ f. IsFormula sig 2 f ss) (f ∷ g ∷ [])
  pair-sorted f g ss a b = All-cons (λ f. IsFormula sig 2 f ss) f (g ∷ []) a (All-cons (λ f. IsFormula sig 2 f ss) g [] b (All-nil (λ f. IsFormula sig 2 f ss)))

  same-sorted : (b : Bool) → (symbol_at sig k).relation ≡ b → IsFormula sig 2 (same b k kept_vars) (ps ++ (symbol_at sig k).args)
  same-sorted true is =
      let ss = ps ++ (symbol_at sig k).args in
      let after = rel-sorted 1 (omega arith) is in
      let before = rel-sorted 0 (omega arith) is in
      let left = Or-sorted sig 2 _ ss (pair-sorted _ _ ss (not-sorted _ ss after) before) in
      let right = Or-sorted sig 2 _ ss (pair-sorted _ _ ss after (not-sorted _ ss before)) in
      And-sorted sig 2 _ ss (pair-sorted _ _ ss left right)
  same-sorted false is = ((symbol_at sig k).result, app-sorted 1 (omega arith) is, app-sorted 0 (omega arith) is)

  pub keeps-sorted : All (λ s. s < sig.sorts) (symbol_at sig k).args → IsFormula sig 2 (keeps (length ps) k (symbol_at sig k)) ps
  keeps-sorted sorts =
      all_over-sorted sig 2 (symbol_at sig k).args (same (symbol_at sig k).relation k kept_vars) ps sorts (same-sorted (symbol_at sig k).relation refl)

module _ (a b k : ℕ) (ts : List Term) where
  -- neither in the pair has an existential, or an edge
  pair-none : (P : Formula → Type 0) (f g : Formula) → ¬ P f → ¬ P g → ¬ Any P (f ∷ g ∷ [])
  pair-none P f g no_f no_g h = by_case (any_cases P f (g ∷ []) h)
    where
      by_case : P f ⊎ Any P (g ∷ []) → ⊥
      by_case (inl p) = no_f p
      by_case (inr a) = no_g (any_one P g a)

  no_existential : (r : Bool) → ¬ HasExistential b (same r k ts) true
  no_existential true h = pair-none (λ f. HasExistential b f true) _ _ left right ((existential-And b _ true).0 h)
    where
      after : ¬ HasExistential b (F.Not (Rel k 1 ts)) true
      after h = cast (existential-Not b (Rel k 1 ts) true) h

      before : ¬ HasExistential b (F.Not (Rel k 0 ts)) true
      before h = cast (existential-Not b (Rel k 0 ts) true) h

      left : ¬ HasExistential b (F.Or (F.Not (Rel k 1 ts) ∷ Rel k 0 ts ∷ [])) true
      left h = pair-none (λ f. HasExistential b f true) (F.Not (Rel k 1 ts)) (Rel k 0 ts) after (λ e. e) ((existential-Or b _ true).0 h)

      right : ¬ HasExistential b (F.Or (Rel k 1 ts ∷ F.Not (Rel k 0 ts) ∷ [])) true
      right h = pair-none (λ f. HasExistential b f true) (Rel k 1 ts) (F.Not (Rel k 0 ts)) (λ e. e) before ((existential-Or b _ true).0 h)
  no_existential false h = h

  no_edge : (r : Bool) → ¬ FormulaEdge a b (same r k ts) true
  no_edge true h = pair-none (λ f. FormulaEdge a b f true) _ _ left right ((edge-And a b _ true).0 h)
    where
      after : ¬ FormulaEdge a b (F.Not (Rel k 1 ts)) true
      after h = cast (edge-Not a b (Rel k 1 ts) true) h

      before : ¬ FormulaEdge a b (F.Not (Rel k 0 ts)) true
      before h = cast (edge-Not a b (Rel k 0 ts) true) h

      left : ¬ FormulaEdge a b (F.Or (F.Not (Rel k 1 ts) ∷ Rel k 0 ts ∷ [])) true
      left h = pair-none (λ f. FormulaEdge a b f true) (F.Not (Rel k 1 ts)) (Rel k 0 ts) after (λ e. e) ((edge-Or a b _ true).0 h)

      right : ¬ FormulaEdge a b (F.Or (Rel k 1 ts ∷ F.Not (Rel k 0 ts) ∷ [])) true
      right h = pair-none (λ f. FormulaEdge a b f true) (Rel k 1 ts) (F.Not (Rel k 0 ts)) (λ e. e) before ((edge-Or a b _ true).0 h)
  no_edge false h = h

pub keeps-edge : (a b n k : ℕ) (s : Symbol) → ¬ FormulaEdge a b (keeps n k s) true
keeps-edge a b n k s h =
    let ts = variables n (length s.args) in
    no_edge a b k ts s.relation (all_over-edge a b s.args (same s.relation k ts) (no_existential a b k ts s.relation) h)
