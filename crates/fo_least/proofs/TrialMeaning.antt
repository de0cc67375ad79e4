-- What a trial is: which worlds meet it, that it is a query, and that its sort graph has no more edges than
-- that of the query.
use Rattle.std.proofs.Common.{◌≡◌, ℕ, true, false, ◌+◌, ◌<◌, ◌↔◌, ◌⊎◌, inl, inr, List, [], ◌∷◌, ◌++◌, length, take, refl, sym, subst, arith, sum}
use Rattle.std.specs.Prelude.{slice_index, slice_index_or}
use Rattle.std.specs.List.{All, Any, range_with_len}
use Rattle.std.proofs.lemmas.List.Elements.{All-head, All-append, All-push}
use Rattle.fo_core.specs.declared.query.Query.{Query}
use Rattle.fo_core.specs.declared.signature.Sig.{Sig}
use Rattle.fo_core.specs.declared.signature.Symbol.{Symbol}
use Rattle.fo_core.specs.declared.formula.Formula.{Formula}
use Rattle.fo_core.specs.declared.formula.Formula.TheVariants as F
use Rattle.fo_core.specs.declared.world.World.{World}
use Rattle.fo_core.specs.Queries.{IsQuery, MeetsQuery}
use Rattle.fo_core.specs.Runs.{AreElements}
use Rattle.fo_core.specs.Sorted.{IsFormula, HasSorts, IsSig}
use Rattle.fo_core.specs.SortGraph.{FormulaEdge, FormulasEdge, ClaimsEdge, Rises}
use Rattle.fo_core.specs.Tables.{no_symbol, symbol_at, Fits}
use Rattle.fo_core.specs.Truth.{Truth}
use Rattle.fo_core.proofs.Rows.{truth-And, And-sorted}
use Rattle.fo_core.specs.declared.cell.Cell.{Cell}
use Rattle.fo_core.specs.Asked.{no_cell}
use Rattle.fo_core.specs.Cells.{cells}
use Rattle.fo_core.specs.Trials.{element_sorts, cover, covers, has_value, have_values, claim_of, trial}
use Rattle.fo_least.proofs.CellLemmas.{IsCell, cells-at}
use Rattle.fo_core.proofs.ElementLemmas.{sorts-known, name_list, names-at, names-elements, value-within, values-count}
use Rattle.fo_core.proofs.Binders.{some_over-from, some_over-to, some_over-sorted}
use Rattle.fo_core.proofs.ListFacts.{any_append, any_one, all_left, all_right, all_map, all_mapped, all_range, range_all}
use Rattle.fo_least.proofs.Naming.{IsNaming, IsEntry, HasValues, CanTry, MeetsTrial}
use Rattle.fo_least.proofs.TrialEdges.{claim-none}
use Rattle.fo_least.proofs.TrialSorted.{covers-sorted, has_value-sorted}
use Rattle.fo_least.proofs.TrialTruth.{AreNames, cover-from, cover-to, has_value-means, have_values-length, have_values-at}

module _ (sig : Sig) (q : Query) (sizes values : List ℕ) (is_sig : IsSig sig) (can : CanTry sig q.copies sizes values) where
  -- the table entry of this number
  abbrev cell_at : ℕ → Cell
  cell_at k = slice_index_or (cells sig sizes q.copies) k no_cell

  abbrev symbol_of : ℕ → Symbol
  symbol_of k = symbol_at sig (cell_at k).symbol

  -- where it has a value, the sorts of its symbol have sizes
  module _ (k : ℕ) (lt : k < length values) where
    cell-is : IsCell sig sizes q.copies (cell_at k)
    cell-is = cells-at sig sizes q.copies k (omega (arith, can.entries))

    sorts-are : HasSorts sig.sorts (symbol_of k)
    sorts-are = is_sig.sorts (cell_at k).symbol no_symbol cell-is.within

    args-known : All (λ s. s < length sizes) (symbol_of k).args
    args-known = subst (λ n. All (λ s. s < n) (symbol_of k).args) (sym (can.all_sorts k lt)) sorts-are.args

    result-known : (symbol_of k).relation ≡ false → (symbol_of k).result < length sizes
    result-known kind = omega (arith, sorts-are.result kind, can.all_sorts k lt)

  abbrev said : List Formula
  said = have_values sizes sig (cells sig sizes q.copies) values

  abbrev body : Formula
  body = F.And (covers sizes ++ said)

  -- the claim is well-sorted
  said-sorted : All (λ f. IsFormula sig q.copies f (element_sorts sizes)) said
  said-sorted k d in_ =
      let lt : k < length values = omega (arith, have_values-length sizes sig (cells sig sizes q.copies) values can.entries) in
      subst (λ f. IsFormula sig q.copies f (element_sorts sizes)) (sym (have_values-at sizes sig (cells sig sizes q.copies) values k d can.entries lt))
      (has_value-sorted sig q.copies sizes (cell_at k) (slice_index values k) (cell-is k lt) (args-known k lt) (result-known k lt) (can.in_range k lt))

  claim-sorted : IsFormula sig q.copies (claim_of sig q.copies sizes values) []
  claim-sorted =
      some_over-sorted sig q.copies (element_sorts sizes) body [] (sorts-known sizes sig.sorts can.sorts)
      (And-sorted sig q.copies (covers sizes ++ said) (element_sorts sizes)
      (All-append (λ f. IsFormula sig q.copies f (element_sorts sizes)) (covers sizes) said (covers-sorted sig q.copies sizes can.sorts) said-sorted))

  -- when it is true
  module _ (w : World) (fits : Fits sig w) (copies : length w.copies ≡ q.copies) (vs : List ℕ) (name : ℕ → ℕ → ℕ) (elements : AreElements w.sizes vs (element_sorts sizes)) (names : AreNames sizes vs name) where
    value-means : IsNaming w sizes name → (k : ℕ) → k < length values → Truth sig w 0 (has_value sizes sig (cell_at k) (slice_index values k)) vs ↔ IsEntry sig w name (cell_at k) (slice_index values k)
    value-means naming k lt =
        has_value-means sig w sizes vs name names fits naming (cell_at k) (slice_index values k)
        (subst (λ n. IsCell sig sizes n (cell_at k)) (sym copies) (cell-is k lt)) (args-known k lt) (result-known k lt) (can.in_range k lt)

    covers-from : All (λ f. Truth sig w 0 f vs) (covers sizes) → IsNaming w sizes name
    covers-from h = record {
      within = λ s x known lt. subst (λ y. y < slice_index w.sizes s) (names s x known lt) (value-within sizes w vs elements s x known lt);
      covers = λ s y known lt. cover-from sig w sizes vs name names s known (values-count sizes w vs elements) (each s known) y lt;
    }
      where
        each : (s : ℕ) → s < length sizes → Truth sig w 0 (cover sizes s) vs
        each = range_all (λ s. Truth sig w 0 (cover sizes s) vs) (length sizes) (all_map (λ f. Truth sig w 0 f vs) (cover sizes) (range_with_len 0 (length sizes)) h)

    covers-to : IsNaming w sizes name → All (λ f. Truth sig w 0 f vs) (covers sizes)
    covers-to naming =
        all_mapped (λ f. Truth sig w 0 f vs) (cover sizes) (range_with_len 0 (length sizes))
        (all_range (λ s. Truth sig w 0 (cover sizes s) vs) (length sizes) (λ s known. cover-to sig w sizes vs name names s known (values-count sizes w vs elements) (λ y lt. naming.covers s y known lt)))

    said-from : IsNaming w sizes name → All (λ f. Truth sig w 0 f vs) said → HasValues sig w q.copies sizes name values
    said-from naming h k lt =
        (value-means naming k lt).0
        (subst (λ f. Truth sig w 0 f vs) (have_values-at sizes sig (cells sig sizes q.copies) values k F.True can.entries lt)
        (h k F.True (omega (arith, have_values-length sizes sig (cells sig sizes q.copies) values can.entries))))

    said-to : IsNaming w sizes name → HasValues sig w q.copies sizes name values → All (λ f. Truth sig w 0 f vs) said
    said-to naming h k d in_ =
        let lt : k < length values = omega (arith, have_values-length sizes sig (cells sig sizes q.copies) values can.entries) in
        subst (λ f. Truth sig w 0 f vs) (sym (have_values-at sizes sig (cells sig sizes q.copies) values k d can.entries lt)) ((value-means naming k lt).1 (h k lt))

    body-to : IsNaming w sizes name → HasValues sig w q.copies sizes name values → Truth sig w 0 body vs
    body-to naming h = (truth-And sig w 0 (covers sizes ++ said) vs).1 (All-append (λ f. Truth sig w 0 f vs) (covers sizes) said (covers-to naming) (said-to naming h))

  claim-from : (w : World) → MeetsQuery sig q w → Truth sig w 0 (claim_of sig q.copies sizes values) [] → MeetsTrial sig q sizes values w
  claim-from w meets h =
      let found = some_over-from sig w 0 (element_sorts sizes) body [] h in
      at found.0 found.1 ((truth-And sig w 0 (covers sizes ++ said) found.0).0 found.2)
    where
      at : (vs : List ℕ) → AreElements w.sizes vs (element_sorts sizes) → All (λ f. Truth sig w 0 f vs) (covers sizes ++ said) → MeetsTrial sig q sizes values w
      at vs elements all =
          let name = λ (s : ℕ) (x : ℕ). slice_index vs (sum (take s sizes) + x) in
          let naming : IsNaming w sizes name = covers-from w meets.fits meets.copies vs name elements (λ s x known lt. refl) (all_left (λ f. Truth sig w 0 f vs) (covers sizes) said all) in
          record {
            meets = meets;
            name = name;
            naming = naming;
            entries = said-from w meets.fits meets.copies vs name elements (λ s x known lt. refl) naming (all_right (λ f. Truth sig w 0 f vs) (covers sizes) said all);
          }

  claim-to : (w : World) → MeetsTrial sig q sizes values w → Truth sig w 0 (claim_of sig q.copies sizes values) []
  claim-to w m =
      let vs = name_list sizes m.name in
      let elements = names-elements sizes w m.name m.naming.within in
      some_over-to sig w 0 (element_sorts sizes) body [] vs elements
      (body-to w m.meets.fits m.meets.copies vs m.name elements (names-at sizes w m.name) m.naming m.entries)

-- the worlds that meet the trial are those of the query in which elements and entries are as tried
pub trial_means : (sig : Sig) (q : Query) (sizes values : List ℕ) → IsSig sig → IsQuery sig q → CanTry sig q.copies sizes values → (w : World) → MeetsQuery sig (trial sig q sizes values) w ↔ MeetsTrial sig q sizes values w
trial_means sig q sizes values is_sig is can w = (there, here)
  where
    there : MeetsQuery sig (trial sig q sizes values) w → MeetsTrial sig q sizes values w
    there h =
        claim-from sig q sizes values is_sig can w
        (record { fits = h.fits; copies = h.copies; claims = all_left (λ f. Truth sig w 0 f []) q.claims (claim_of sig q.copies sizes values ∷ []) h.claims })
        (All-head (λ f. Truth sig w 0 f []) (claim_of sig q.copies sizes values) [] (all_right (λ f. Truth sig w 0 f []) q.claims (claim_of sig q.copies sizes values ∷ []) h.claims))

    here : MeetsTrial sig q sizes values w → MeetsQuery sig (trial sig q sizes values) w
    here m = record {
      fits = m.meets.fits;
      copies = m.meets.copies;
      claims = All-push (λ f. Truth sig w 0 f []) q.claims (claim_of sig q.copies sizes values) m.meets.claims (claim-to sig q sizes values is_sig can w m);
    }

-- it is a query of the signature
pub trial_is_query : (sig : Sig) (q : Query) (sizes values : List ℕ) → IsSig sig → IsQuery sig q → CanTry sig q.copies sizes values → IsQuery sig (trial sig q sizes values)
trial_is_query sig q sizes values is_sig is can = record {
  copies = is.copies;
  claims = All-push (λ f. IsFormula sig q.copies f []) q.claims (claim_of sig q.copies sizes values) is.claims (claim-sorted sig q sizes values is_sig can);
}

-- and numbers that rise along the edges of the query rise along its edges
pub trial_rises : (sig : Sig) (q : Query) (sizes values numbers : List ℕ) → Rises (ClaimsEdge sig q.claims) sig.sorts numbers → Rises (ClaimsEdge sig (trial sig q sizes values).claims) sig.sorts numbers
trial_rises sig q sizes values numbers h = record { one_each = h.one_each; rising = λ a b e. h.rising a b (edge a b e) }
  where
    edge : (a b : ℕ) → ClaimsEdge sig (trial sig q sizes values).claims a b → ClaimsEdge sig q.claims a b
    edge a b (inl e) = inl e
    edge a b (inr e) = inr (by_case (any_append (λ f. FormulaEdge a b f true) q.claims (claim_of sig q.copies sizes values ∷ []) e))
      where
        by_case : Any (λ f. FormulaEdge a b f true) q.claims ⊎ Any (λ f. FormulaEdge a b f true) (claim_of sig q.copies sizes values ∷ []) → FormulasEdge q.claims true a b
        by_case (inl e) = e
        by_case (inr e) = absurd (claim-none a b sig q.copies sizes values (any_one (λ f. FormulaEdge a b f true) (claim_of sig q.copies sizes values) e))
