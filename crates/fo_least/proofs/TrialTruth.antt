-- When the parts of a trial's claim are true.
use Rattle.std.proofs.Common.{◌≡◌, ℕ, zero, suc, Bool, true, false, cond, ◌+◌, ◌-◌, ◌<◌, ◌≤◌, ◌↔◌, List, [], ◌∷◌, ◌++◌, length, get_or, map, take, refl, sym, ap, subst, ◌∙◌, arith, sum}
use Rattle.std.specs.Prelude.{slice_index, slice_index_or, ◌==◌}
use Rattle.std.specs.List.{All, AllZip, range_with_len}
use Rattle.std.proofs.lemmas.List.{get_or_append_left, get_or_push}
use Rattle.std.proofs.lemmas.List.Elements.{All-head, All-tail}
use Rattle.fo_core.specs.declared.signature.Sig.{Sig}
use Rattle.fo_core.specs.declared.signature.Symbol.{Symbol}
use Rattle.fo_core.specs.declared.term.Term.{Term, Var}
use Rattle.fo_core.specs.declared.term.Term.TheVariants as T
use Rattle.fo_core.specs.declared.formula.Formula.{Formula, Rel, Eq}
use Rattle.fo_core.specs.declared.formula.Formula.TheVariants as F
use Rattle.fo_core.specs.declared.world.World.{World}
use Rattle.fo_core.specs.Tables.{symbol_at, entry, range_of, Fits}
use Rattle.fo_core.specs.Truth.{value, Truth}
use Rattle.fo_core.specs.Sorted.{IsSymbol}
use Rattle.fo_core.proofs.Rows.{truth-Not, truth-All, truth-Or, value-App}
use Rattle.fo_core.proofs.ValueLemmas.{entry-lt}
use Rattle.fo_core.specs.declared.cell.Cell.{Cell}
use Rattle.fo_core.specs.Asked.{no_cell}
use Rattle.fo_core.specs.Trials.{element, cover, elements, has_value, have_values}
use Rattle.fo_least.proofs.CellLemmas.{IsCell, cell-symbol}
use Rattle.fo_core.proofs.ElementLemmas.{place-below}
use Rattle.fo_core.proofs.ListFacts.{cast, back, any_map, any_mapped, any_range, range_any}
use Rattle.fo_least.proofs.Naming.{IsNaming, named, IsEntry}

-- these values of the variables are the names
abbrev pub AreNames : List ℕ → List ℕ → (ℕ → ℕ → ℕ) → Type 0
AreNames sizes vs name = (s x : ℕ) → s < length sizes → x < slice_index sizes s → slice_index vs (sum (take s sizes) + x) ≡ name s x

-- elements of these sorts below their sizes
abbrev AreBelow : List ℕ → List ℕ → List ℕ → Type 0
AreBelow sizes xs ss = AllZip (λ x n. x < n) xs (map (slice_index sizes) ss)

module _ (sig : Sig) (w : World) (sizes vs : List ℕ) (name : ℕ → ℕ → ℕ) (names : AreNames sizes vs name) where
  -- the named elements of a sort are all that it has
  module _ (s : ℕ) (known : s < length sizes) (count : length vs ≡ sum sizes) where
    abbrev IsNamed : ℕ → ℕ → Type 0
    IsNamed y x = Truth sig w 0 (Eq (Var (sum sizes)) (element sizes s x)) (vs ++ y ∷ [])

    last-is : (y : ℕ) → slice_index (vs ++ y ∷ []) (sum sizes) ≡ y
    last-is y = get_or_push vs y 0 (sum sizes) count

    name-is : (y x : ℕ) → x < slice_index sizes s → slice_index (vs ++ y ∷ []) (sum (take s sizes) + x) ≡ name s x
    name-is y x lt = get_or_append_left vs (y ∷ []) 0 (sum (take s sizes) + x) (omega (arith, place-below sizes s x known lt)) ∙ names s x known lt

    pub cover-from : Truth sig w 0 (cover sizes s) vs → (y : ℕ) → y < slice_index w.sizes s → (x : ℕ) × (x < slice_index sizes s) × (name s x ≡ y)
    cover-from h y lt =
        let some = (truth-Or sig w 0 (map (λ x. Eq (Var (sum sizes)) (element sizes s x)) (range_with_len 0 (slice_index sizes s))) (vs ++ y ∷ [])).0 (cast (truth-All sig w 0 s (F.Or (map (λ x. Eq (Var (sum sizes)) (element sizes s x)) (range_with_len 0 (slice_index sizes s)))) vs) h y lt) in
        let at = any_range (IsNamed y) (slice_index sizes s) (any_map (λ f. Truth sig w 0 f (vs ++ y ∷ [])) (λ x. Eq (Var (sum sizes)) (element sizes s x)) (range_with_len 0 (slice_index sizes s)) some) in
        (at.0, at.1, sym (name-is y at.0 at.1) ∙ sym at.2 ∙ last-is y)

    pub cover-to : ((y : ℕ) → y < slice_index w.sizes s → (x : ℕ) × (x < slice_index sizes s) × (name s x ≡ y)) → Truth sig w 0 (cover sizes s) vs
    cover-to h = back (truth-All sig w 0 s (F.Or (map (λ x. Eq (Var (sum sizes)) (element sizes s x)) (range_with_len 0 (slice_index sizes s)))) vs) each
      where
        each : (y : ℕ) → y < slice_index w.sizes s → Truth sig w 0 (F.Or (map (λ x. Eq (Var (sum sizes)) (element sizes s x)) (range_with_len 0 (slice_index sizes s)))) (vs ++ y ∷ [])
        each y lt =
            let at = h y lt in
            let is : IsNamed y at.0 = last-is y ∙ sym at.2 ∙ sym (name-is y at.0 at.1) in
            (truth-Or sig w 0 (map (λ x. Eq (Var (sum sizes)) (element sizes s x)) (range_with_len 0 (slice_index sizes s))) (vs ++ y ∷ [])).1
            (any_mapped (λ f. Truth sig w 0 f (vs ++ y ∷ [])) (λ x. Eq (Var (sum sizes)) (element sizes s x)) (range_with_len 0 (slice_index sizes s)) (range_any (IsNamed y) (slice_index sizes s) at.0 at.1 is))

  -- the terms of arguments have the named elements as their values
  pub elements-values : (ss xs : List ℕ) → All (λ s. s < length sizes) ss → AreBelow sizes xs ss → map (λ t. value sig w 0 t vs) (elements sizes ss xs) ≡ named name ss xs
  elements-values [] xs known below = refl
  elements-values (s ∷ ss) [] known below = refl
  elements-values (s ∷ ss) (x ∷ xs) known below =
      ap (λ y. y ∷ map (λ t. value sig w 0 t vs) (elements sizes ss xs)) (names s x (All-head (λ s. s < length sizes) s ss known) below.0)
      ∙ ap (λ ys. name s x ∷ ys) (elements-values ss xs (All-tail (λ s. s < length sizes) s ss known) below.1)

-- they are elements of the world
pub named-below : (w : World) (sizes : List ℕ) (name : ℕ → ℕ → ℕ) → IsNaming w sizes name → (ss xs : List ℕ) → All (λ s. s < length sizes) ss → AreBelow sizes xs ss → AreBelow w.sizes (named name ss xs) ss
named-below w sizes name naming [] [] known below = tt
named-below w sizes name naming [] (x ∷ xs) known below = absurd below
named-below w sizes name naming (s ∷ ss) [] known below = absurd below
named-below w sizes name naming (s ∷ ss) (x ∷ xs) known below =
    (naming.within s x (All-head (λ s. s < length sizes) s ss known) below.0, named-below w sizes name naming ss xs (All-tail (λ s. s < length sizes) s ss known) below.1)

-- a truth value that is not 1 is 0, and the other way round
not-one : (n : ℕ) → n < 2 → ¬ (n ≡ 1) → n ≡ 0
not-one n lt none = omega arith

module _ (sig : Sig) (w : World) (sizes vs : List ℕ) (name : ℕ → ℕ → ℕ) (names : AreNames sizes vs name) (fits : Fits sig w) (naming : IsNaming w sizes name) where
  module _ (c : Cell) (v : ℕ) (is : IsCell sig sizes (length w.copies) c) (args_known : All (λ s. s < length sizes) (symbol_at sig c.symbol).args) where
    abbrev s : Symbol
    s = symbol_at sig c.symbol

    abbrev ts : List Term
    ts = elements sizes s.args c.args

    abbrev ys : List ℕ
    ys = named name s.args c.args

    -- the atom, or the term, is about the entry
    rel-reads : Truth sig w 0 (Rel c.symbol c.copy ts) vs ≡ (entry sig w c.copy c.symbol ys ≡ 1)
    rel-reads =
        let e : 0 + c.copy ≡ c.copy = omega arith in
        ap (λ us. entry sig w (0 + c.copy) c.symbol us ≡ 1) (elements-values sig w sizes vs name names s.args c.args args_known is.args)
        ∙ ap (λ d. entry sig w d c.symbol ys ≡ 1) e

    app-reads : value sig w 0 (T.App c.symbol c.copy ts) vs ≡ entry sig w c.copy c.symbol ys
    app-reads =
        let e : 0 + c.copy ≡ c.copy = omega arith in
        value-App sig w 0 c.symbol c.copy ts vs
        ∙ ap (entry sig w (0 + c.copy) c.symbol) (elements-values sig w sizes vs name names s.args c.args args_known is.args)
        ∙ ap (λ d. entry sig w d c.symbol ys) e

    bit : s.relation ≡ true → entry sig w c.copy c.symbol ys < 2
    bit kind =
        let symbol : IsSymbol sig (length w.copies - 0) true c.symbol c.copy = subst (λ n. IsSymbol sig n true c.symbol c.copy) (let e : length w.copies ≡ length w.copies - 0 = omega arith in e) (cell-symbol sig sizes (length w.copies) true c is kind) in
        let lt = (entry-lt sig w 0 true c.symbol c.copy ys fits symbol (named-below w sizes name naming s.args c.args args_known is.args)).1 in
        let there : entry sig w (0 + c.copy) c.symbol ys < 2 = subst (λ b. entry sig w (0 + c.copy) c.symbol ys < cond b 2 (slice_index w.sizes s.result)) kind lt in
        let e : 0 + c.copy ≡ c.copy = omega arith in
        subst (λ d. entry sig w d c.symbol ys < 2) e there

    -- the formula that stands where the symbol is a relation, or a function
    abbrev claimed : Bool → Formula
    claimed b = cond b
        (cond (v == 0) (F.Not (Rel c.symbol c.copy ts)) (Rel c.symbol c.copy ts))
        (Eq (T.App c.symbol c.copy ts) (element sizes s.result v))

    truth-reads : (u : ℕ) → u < 2 → s.relation ≡ true → Truth sig w 0 (cond (u == 0) (F.Not (Rel c.symbol c.copy ts)) (Rel c.symbol c.copy ts)) vs ↔ (entry sig w c.copy c.symbol ys ≡ u)
    truth-reads zero lt kind = (
      λ h. not-one _ (bit kind) (λ e. cast (truth-Not sig w 0 (Rel c.symbol c.copy ts) vs) h (back rel-reads e)),
      λ e. back (truth-Not sig w 0 (Rel c.symbol c.copy ts) vs) (λ h. let one = cast rel-reads h in absurd (omega (arith, e, one))),
    )
    truth-reads (suc zero) lt kind = (λ h. cast rel-reads h, λ e. back rel-reads e)
    truth-reads (suc (suc u)) lt kind = absurd (omega arith)

    by_kind : (b : Bool) → s.relation ≡ b → (b ≡ false → s.result < length sizes) → v < cond b 2 (slice_index sizes s.result) →
        Truth sig w 0 (claimed b) vs ↔ (entry sig w c.copy c.symbol ys ≡ cond b v (name s.result v))
    by_kind true kind known lt = truth-reads v lt kind
    by_kind false kind known lt =
        let is_name = names s.result v (known refl) lt in
        (λ h. sym app-reads ∙ h ∙ is_name, λ e. app-reads ∙ e ∙ sym is_name)

    pub has_value-means : (s.relation ≡ false → s.result < length sizes) → v < range_of sizes s → Truth sig w 0 (has_value sizes sig c v) vs ↔ IsEntry sig w name c v
    has_value-means known lt = by_kind s.relation refl known lt

-- the claims about entries, place by place
pub have_values-length : (sizes : List ℕ) (sig : Sig) (cs : List Cell) (us : List ℕ) → length us ≤ length cs → length (have_values sizes sig cs us) ≡ length us
have_values-length sizes sig [] [] le = refl
have_values-length sizes sig [] (u ∷ us) le = absurd (omega arith)
have_values-length sizes sig (c ∷ cs) [] le = refl
have_values-length sizes sig (c ∷ cs) (u ∷ us) le = ap suc (have_values-length sizes sig cs us (omega arith))

pub have_values-at : (sizes : List ℕ) (sig : Sig) (cs : List Cell) (us : List ℕ) (k : ℕ) (d : Formula) → length us ≤ length cs → k < length us → get_or (have_values sizes sig cs us) k d ≡ has_value sizes sig (slice_index_or cs k no_cell) (slice_index us k)
have_values-at sizes sig [] us k d le lt = absurd (omega arith)
have_values-at sizes sig (c ∷ cs) [] k d le lt = absurd (omega arith)
have_values-at sizes sig (c ∷ cs) (u ∷ us) zero d le lt = refl
have_values-at sizes sig (c ∷ cs) (u ∷ us) (suc k) d le lt = have_values-at sizes sig cs us k d (omega arith) (omega arith)
