-- A formula is true in both of two worlds whose elements and entries correspond, or in neither.
use Rattle.std.proofs.Common.{◌≡◌, ℕ, zero, suc, Bool, true, false, cond, ◌↔◌, ◌⊎◌, inl, inr, ◌+◌, ◌<◌, ◌≤◌, List, [], ◌∷◌, ◌++◌, length, get_or, map, refl, sym, ap, subst, ◌∙◌, arith}
use Rattle.std.specs.Prelude.{slice_index, slice_index_or}
use Rattle.std.specs.List.{AllZip, Contains}
use Rattle.std.proofs.lemmas.Bool.{cases_lt}
use Rattle.std.proofs.lemmas.List.{get_or_past, get_or_default}
use Rattle.fo_core.specs.declared.query.Query.{Query}
use Rattle.fo_core.specs.declared.signature.Sig.{Sig}
use Rattle.fo_core.specs.declared.term.Term.{Term, Var, App', Row_of-Term, end_of-Term, more_of-Term}
use Rattle.fo_core.specs.declared.formula.Formula.{Formula, True, False, Rel, Eq, Not', And', Or', All', Ex', Row_of-Formula, end_of-Formula, more_of-Formula}
use Rattle.fo_core.specs.declared.world.World.{World}
use Rattle.fo_core.specs.Queries.{IsQuery, MeetsQuery}
use Rattle.fo_core.specs.Runs.{AreElements}
use Rattle.fo_core.specs.Sorted.{IsSymbol, IsTerm, AreTerms, IsFormula, AreFormulas}
use Rattle.fo_core.specs.Tables.{symbol_at, range_of, entry, Fits}
use Rattle.fo_core.specs.Truth.{value_in, values_in, TruthIn, EachTrueIn, SomeTrueIn, reading}
use Rattle.fo_core.proofs.PlaceLemmas.{elements-below}
use Rattle.fo_core.specs.declared.cell.Cell.{Cell}
use Rattle.fo_core.specs.Asked.{no_cell}
use Rattle.fo_core.specs.Cells.{cells}
use Rattle.fo_core.specs.Least.{world_values}
use Rattle.fo_least.proofs.CellLemmas.{IsCell}
use Rattle.fo_least.proofs.CellValues.{entry_at, value-at, values-length, cell-found, entry-below}
use Rattle.fo_least.proofs.Naming.{IsNaming, named, named_value, IsEntry, MeetsTrial}
use Rattle.fo_core.proofs.ElementLemmas.{sort_known}

-- one more element after some
pub elements-push : (sizes xs ss : List ℕ) (x s : ℕ) → AreElements sizes xs ss → x < slice_index sizes s → AreElements sizes (xs ++ x ∷ []) (ss ++ s ∷ [])
elements-push sizes [] [] x s h lt = (lt, tt)
elements-push sizes [] (r ∷ ss) x s h lt = absurd h
elements-push sizes (y ∷ xs) [] x s h lt = absurd h
elements-push sizes (y ∷ xs) (r ∷ ss) x s h lt = (h.0, elements-push sizes xs ss x s h.1 lt)

pub named-push : (name : ℕ → ℕ → ℕ) (sizes xs ss : List ℕ) (x s : ℕ) → AreElements sizes xs ss → named name (ss ++ s ∷ []) (xs ++ x ∷ []) ≡ named name ss xs ++ name s x ∷ []
named-push name sizes [] [] x s h = refl
named-push name sizes [] (r ∷ ss) x s h = absurd h
named-push name sizes (y ∷ xs) [] x s h = absurd h
named-push name sizes (y ∷ xs) (r ∷ ss) x s h = ap (λ ys. name r y ∷ ys) (named-push name sizes xs ss x s h.1)

pub named-at : (name : ℕ → ℕ → ℕ) (sizes xs ss : List ℕ) (i : ℕ) → AreElements sizes xs ss → i < length ss →
    (slice_index xs i < slice_index sizes (slice_index ss i)) × (slice_index (named name ss xs) i ≡ name (slice_index ss i) (slice_index xs i))
named-at name sizes xs [] i h lt = absurd (omega arith)
named-at name sizes [] (r ∷ ss) i h lt = absurd h
named-at name sizes (y ∷ xs) (r ∷ ss) zero h lt = (h.0, refl)
named-at name sizes (y ∷ xs) (r ∷ ss) (suc i) h lt = named-at name sizes xs ss i h.1 (omega arith)

-- The elements below `sizes` correspond to those below `others`, each to one, and the two readings of the symbols
-- to each other.
pub record Corresponds (sig : Sig) (copies : ℕ) (sizes others : List ℕ) (reads at : ℕ → ℕ → List ℕ → ℕ) (name : ℕ → ℕ → ℕ) : Type 0 where
  pub within : (s x : ℕ) → x < slice_index sizes s → name s x < slice_index others s
  pub covers : (s y : ℕ) → s < sig.sorts → y < slice_index others s → (x : ℕ) × (x < slice_index sizes s) × (name s x ≡ y)
  pub apart : (s x y : ℕ) → x < slice_index sizes s → y < slice_index sizes s → name s x ≡ name s y → x ≡ y
  pub bounded : (r : Bool) (k d : ℕ) (xs : List ℕ) → IsSymbol sig copies r k d → AreElements sizes xs (symbol_at sig k).args → reads d k xs < range_of sizes (symbol_at sig k)
  pub same : (r : Bool) (k d : ℕ) (xs : List ℕ) → IsSymbol sig copies r k d → AreElements sizes xs (symbol_at sig k).args → at d k (named name (symbol_at sig k).args xs) ≡ named_value name (symbol_at sig k) (reads d k xs)

module _ (sig : Sig) (copies : ℕ) (sizes others : List ℕ) (reads at : ℕ → ℕ → List ℕ → ℕ) (name : ℕ → ℕ → ℕ) (is : Corresponds sig copies sizes others reads at name) where
  mutual
    value-named : (t : Term) (ss xs : List ℕ) (s : ℕ) → IsTerm sig copies t ss s → AreElements sizes xs ss →
        (value_in reads t xs < slice_index sizes s) × (value_in at t (named name ss xs) ≡ name s (value_in reads t xs))
    value-named (Var i) ss xs s h elements =
        let r = named-at name sizes xs ss i elements h.0 in
        (subst (λ s. get_or xs i 0 < slice_index sizes s) h.1 r.0, r.1 ∙ ap (λ s. name s (get_or xs i 0)) h.1)
    value-named (App' f d _ args) ss xs s h elements =
        let inner = values-named args ss xs (symbol_at sig f).args h.2 elements in
        let range : range_of sizes (symbol_at sig f) ≡ slice_index sizes s = ap (λ b. cond b 2 (slice_index sizes (symbol_at sig f).result)) h.0.kind ∙ ap (slice_index sizes) h.1 in
        let v = reads d f (values_in reads args xs) in
        let its_name : named_value name (symbol_at sig f) v ≡ name s v = ap (λ b. cond b v (name (symbol_at sig f).result v)) h.0.kind ∙ ap (λ s. name s v) h.1 in
        (subst (λ n. v < n) range (is.bounded false f d (values_in reads args xs) h.0 inner.0), ap (at d f) inner.1 ∙ is.same false f d (values_in reads args xs) h.0 inner.0 ∙ its_name)

    values-named : {n : _} (row : Row_of-Term n) (ss xs rs : List ℕ) → AreTerms sig copies row ss rs → AreElements sizes xs ss →
        AreElements sizes (values_in reads row xs) rs × (values_in at row (named name ss xs) ≡ named name rs (values_in reads row xs))
    values-named end_of-Term ss xs [] h elements = (tt, refl)
    values-named end_of-Term ss xs (s ∷ rs) h elements = absurd h
    values-named (more_of-Term t rest) ss xs [] h elements = absurd h
    values-named (more_of-Term t rest) ss xs (s ∷ rs) h elements =
        let first = value-named t ss xs s h.0 elements in
        let later = values-named rest ss xs rs h.1 elements in
        ((first.0, later.0), ap (λ y. y ∷ values_in at rest (named name ss xs)) first.1 ∙ ap (λ ys. name s (value_in reads t xs) ∷ ys) later.1)

  list-named : (ts : List Term) (ss xs rs : List ℕ) → AllZip (λ t s. IsTerm sig copies t ss s) ts rs → AreElements sizes xs ss →
      AreElements sizes (map (λ t. value_in reads t xs) ts) rs × (map (λ t. value_in at t (named name ss xs)) ts ≡ named name rs (map (λ t. value_in reads t xs) ts))
  list-named [] ss xs [] h elements = (tt, refl)
  list-named [] ss xs (s ∷ rs) h elements = absurd h
  list-named (t ∷ ts) ss xs [] h elements = absurd h
  list-named (t ∷ ts) ss xs (s ∷ rs) h elements =
      let first = value-named t ss xs s h.0 elements in
      let later = list-named ts ss xs rs h.1 elements in
      ((first.0, later.0), ap (λ y. y ∷ map (λ t. value_in at t (named name ss xs)) ts) first.1 ∙ ap (λ ys. name s (value_in reads t xs) ∷ ys) later.1)

  both : {P Q R S : Type 0} → P ↔ Q → R ↔ S → (P × R) ↔ (Q × S)
  both p r = (λ h. (p.0 h.0, r.0 h.1), λ h. (p.1 h.0, r.1 h.1))

  either_way : {P Q R S : Type 0} → (P → Q) → (R → S) → P ⊎ R → Q ⊎ S
  either_way p r (inl h) = inl (p h)
  either_way p r (inr h) = inr (r h)

  -- a formula of one more variable, where its value is named
  module _ (f : Formula) (ss xs : List ℕ) (s : ℕ) (elements : AreElements sizes xs ss) where
    there : (x : ℕ) → x < slice_index sizes s → (TruthIn sizes reads f (xs ++ x ∷ []) ↔ TruthIn others at f (named name (ss ++ s ∷ []) (xs ++ x ∷ []))) → TruthIn sizes reads f (xs ++ x ∷ []) → TruthIn others at f (named name ss xs ++ name s x ∷ [])
    there x lt h t = subst (TruthIn others at f) (named-push name sizes xs ss x s elements) (h.0 t)

    back : (x : ℕ) → x < slice_index sizes s → (TruthIn sizes reads f (xs ++ x ∷ []) ↔ TruthIn others at f (named name (ss ++ s ∷ []) (xs ++ x ∷ []))) → TruthIn others at f (named name ss xs ++ name s x ∷ []) → TruthIn sizes reads f (xs ++ x ∷ [])
    back x lt h t = h.1 (subst (TruthIn others at f) (sym (named-push name sizes xs ss x s elements)) t)

  mutual
    pub truth-named : (f : Formula) (ss xs : List ℕ) → IsFormula sig copies f ss → AreElements sizes xs ss → TruthIn sizes reads f xs ↔ TruthIn others at f (named name ss xs)
    truth-named True ss xs h elements = (λ t. t, λ t. t)
    truth-named False ss xs h elements = (λ t. t, λ t. t)
    truth-named (Rel r d args) ss xs h elements =
        let inner = list-named args ss xs (symbol_at sig r).args h.1 elements in
        let v = reads d r (map (λ t. value_in reads t xs) args) in
        let itself : named_value name (symbol_at sig r) v ≡ v = ap (λ b. cond b v (name (symbol_at sig r).result v)) h.0.kind in
        let e = ap (at d r) inner.1 ∙ is.same true r d (map (λ t. value_in reads t xs) args) h.0 inner.0 ∙ itself in
        (λ t. e ∙ t, λ t. sym e ∙ t)
    truth-named (Eq a b) ss xs h elements =
        let left = value-named a ss xs h.0 h.1 elements in
        let right = value-named b ss xs h.0 h.2 elements in
        (λ t. left.1 ∙ ap (name h.0) t ∙ sym right.1, λ t. is.apart h.0 (value_in reads a xs) (value_in reads b xs) left.0 right.0 (sym left.1 ∙ t ∙ right.1))
    truth-named (Not' _ (more_of-Formula f _)) ss xs h elements =
        let r = truth-named f ss xs h elements in (λ fails t. fails (r.1 t), λ fails t. fails (r.0 t))
    truth-named (And' _ fs) ss xs h elements = each-named fs ss xs h elements
    truth-named (Or' _ fs) ss xs h elements = some-named fs ss xs h elements
    truth-named (All' s _ (more_of-Formula f _)) ss xs h elements = (
      λ all y lt.
          let c = is.covers s y h.0 lt in
          subst (λ y. TruthIn others at f (named name ss xs ++ y ∷ [])) c.2 (there f ss xs s elements c.0 c.1 (truth-named f (ss ++ s ∷ []) (xs ++ c.0 ∷ []) h.1 (elements-push sizes xs ss c.0 s elements c.1)) (all c.0 c.1)),
      λ all x lt. back f ss xs s elements x lt (truth-named f (ss ++ s ∷ []) (xs ++ x ∷ []) h.1 (elements-push sizes xs ss x s elements lt)) (all (name s x) (is.within s x lt)),
    )
    truth-named (Ex' s _ (more_of-Formula f _)) ss xs h elements = (
      λ some. (name s some.0, is.within s some.0 some.1, there f ss xs s elements some.0 some.1 (truth-named f (ss ++ s ∷ []) (xs ++ some.0 ∷ []) h.1 (elements-push sizes xs ss some.0 s elements some.1)) some.2),
      λ some.
          let c = is.covers s some.0 h.0 some.1 in
          (c.0, c.1, back f ss xs s elements c.0 c.1 (truth-named f (ss ++ s ∷ []) (xs ++ c.0 ∷ []) h.1 (elements-push sizes xs ss c.0 s elements c.1)) (subst (λ y. TruthIn others at f (named name ss xs ++ y ∷ [])) (sym c.2) some.2)),
    )

    each-named : {n : _} (row : Row_of-Formula n) (ss xs : List ℕ) → AreFormulas sig copies row ss → AreElements sizes xs ss → EachTrueIn sizes reads row xs ↔ EachTrueIn others at row (named name ss xs)
    each-named end_of-Formula ss xs h elements = (λ t. t, λ t. t)
    each-named (more_of-Formula f rest) ss xs h elements = both (truth-named f ss xs h.0 elements) (each-named rest ss xs h.1 elements)

    some-named : {n : _} (row : Row_of-Formula n) (ss xs : List ℕ) → AreFormulas sig copies row ss → AreElements sizes xs ss → SomeTrueIn sizes reads row xs ↔ SomeTrueIn others at row (named name ss xs)
    some-named end_of-Formula ss xs h elements = (λ t. t, λ t. t)
    some-named (more_of-Formula f rest) ss xs h elements =
        let p = truth-named f ss xs h.0 elements in
        let r = some-named rest ss xs h.1 elements in
        (either_way p.0 r.0, either_way p.1 r.1)

-- different numbers name different elements
abbrev pub IsApart : List ℕ → (ℕ → ℕ → ℕ) → Type 0
IsApart sizes name = (s x y : ℕ) → x < slice_index sizes s → y < slice_index sizes s → name s x ≡ name s y → x ≡ y

-- the entry of the one world is that of the other, place by place
abbrev pub SameEntries : Sig → ℕ → List ℕ → World → World → (ℕ → ℕ → ℕ) → Type 0
SameEntries sig copies sizes m w name = (c : Cell) → IsCell sig sizes copies c → IsEntry sig w name c (entry_at sig m c)

-- so the world with these sizes and entries meets the query where the other does
module _ (sig : Sig) (q : Query) (sorted : IsQuery sig q) (m w : World) (name : ℕ → ℕ → ℕ) (fits : Fits sig m) (copies : length m.copies ≡ q.copies) (meets : MeetsQuery sig q w) (naming : IsNaming w m.sizes name) (apart : IsApart m.sizes name) (same : SameEntries sig q.copies m.sizes m w name) where
  cell-of : (r : Bool) (k d : ℕ) (xs : List ℕ) → IsSymbol sig q.copies r k d → AreElements m.sizes xs (symbol_at sig k).args → IsCell sig m.sizes q.copies (record { symbol = k; copy = d; args = xs })
  cell-of r k d xs is elements = record { within = is.within; copy = is.copy; args = elements-below m.sizes xs (symbol_at sig k).args elements }

  at-first : (d : ℕ) → 0 + d ≡ d
  at-first d = omega arith

  corresponds : Corresponds sig q.copies m.sizes w.sizes (reading sig m 0) (reading sig w 0) name
  corresponds = record {
    within = λ s x lt. naming.within s x (sort_known m.sizes s x lt) lt;
    covers = λ s y known lt. naming.covers s y (let e = fits.sorts in omega arith) lt;
    apart = apart;
    bounded = λ r k d xs is elements.
        subst (λ e. entry sig m e k xs < range_of m.sizes (symbol_at sig k)) (sym (at-first d))
        (entry-below sig m fits (record { symbol = k; copy = d; args = xs }) (subst (λ n. IsCell sig m.sizes n (record { symbol = k; copy = d; args = xs })) (sym copies) (cell-of r k d xs is elements)));
    same = λ r k d xs is elements.
        subst (λ e. entry sig w e k (named name (symbol_at sig k).args xs) ≡ named_value name (symbol_at sig k) (entry sig m e k xs)) (sym (at-first d))
        (same (record { symbol = k; copy = d; args = xs }) (cell-of r k d xs is elements));
  }

  pub meets-renamed : MeetsQuery sig q m
  meets-renamed = record {
    fits = fits;
    copies = copies;
    claims = λ k d lt. (truth-named sig q.copies m.sizes w.sizes (reading sig m 0) (reading sig w 0) name corresponds (get_or q.claims k d) [] [] (sorted.claims k d lt) tt).1 (meets.claims k d lt);
  }

-- a world that a whole trial describes meets the query
pub meets-described : (sig : Sig) (q : Query) (sizes values : List ℕ) (m w : World) → IsQuery sig q → (t : MeetsTrial sig q sizes values w) → IsApart sizes t.name →
    Fits sig m → m.sizes ≡ sizes → world_values m ≡ values → length m.copies ≡ q.copies → MeetsQuery sig q m
meets-described sig q sizes values m w sorted t apart fits has_sizes has_values copies =
    meets-renamed sig q sorted m w t.name fits copies t.meets
    (subst (λ ns. IsNaming w ns t.name) (sym has_sizes) t.naming)
    (subst (λ ns. IsApart ns t.name) (sym has_sizes) apart)
    same
  where
    same : SameEntries sig q.copies m.sizes m w t.name
    same c is = at (cell-found sig m.sizes q.copies c is)
      where
        at : Contains (cells sig m.sizes q.copies) c → IsEntry sig w t.name c (entry_at sig m c)
        at (k, lt, e) =
            let lt_m : k < length (cells sig m.sizes (length m.copies)) = subst (λ n. k < length (cells sig m.sizes n)) (sym copies) lt in
            let its_value : slice_index values k ≡ entry_at sig m c =
            ap (λ vs. get_or vs k 0) (sym has_values) ∙ value-at sig m fits k lt_m
            ∙ ap (λ n. entry_at sig m (get_or (cells sig m.sizes n) k no_cell)) copies
            ∙ ap (entry_at sig m) (get_or_default (cells sig m.sizes q.copies) k no_cell c lt ∙ e) in
            let below : k < length values = subst (λ vs. k < length vs) has_values (subst (λ n. k < n) (sym (values-length sig m fits)) lt_m) in
            let its_cell : slice_index_or (cells sig sizes q.copies) k no_cell ≡ c =
            ap (λ ns. get_or (cells sig ns q.copies) k no_cell) (sym has_sizes) ∙ get_or_default (cells sig m.sizes q.copies) k no_cell c lt ∙ e in
            subst (λ c. IsEntry sig w t.name c (entry_at sig m c)) its_cell
            (subst (λ v. IsEntry sig w t.name (slice_index_or (cells sig sizes q.copies) k no_cell) v) (its_value ∙ ap (entry_at sig m) (sym its_cell)) (t.entries k below))
