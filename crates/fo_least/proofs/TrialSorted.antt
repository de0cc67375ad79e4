-- A trial's claim is well-sorted.
use Rattle.std.proofs.Common.{◌≡◌, ℕ, Bool, true, false, cond, ◌+◌, ◌<◌, ◌≤◌, List, [], ◌∷◌, ◌++◌, length, map, take, refl, ◌∙◌, arith, sum, length-append}
use Rattle.std.specs.Prelude.{slice_index, ◌==◌}
use Rattle.std.specs.List.{All, AllZip, range_with_len}
use Rattle.std.proofs.lemmas.List.{get_or_append_left, get_or_push}
use Rattle.std.proofs.lemmas.List.Elements.{All-head, All-tail}
use Rattle.fo_core.specs.declared.signature.Sig.{Sig}
use Rattle.fo_core.specs.declared.signature.Symbol.{Symbol}
use Rattle.fo_core.specs.declared.term.Term.{Term, Var}
use Rattle.fo_core.specs.declared.term.Term.TheVariants as T
use Rattle.fo_core.specs.declared.formula.Formula.{Rel, Eq}
use Rattle.fo_core.specs.declared.formula.Formula.TheVariants as F
use Rattle.fo_core.specs.Sorted.{IsTerm, IsFormula}
use Rattle.fo_core.specs.Tables.{symbol_at, range_of}
use Rattle.fo_core.proofs.Rows.{sorted-Not, sorted-All, Or-sorted, App-sorted}
use Rattle.fo_core.specs.declared.cell.Cell.{Cell}
use Rattle.fo_core.specs.Trials.{element_sorts, element, cover, covers, elements, has_value}
use Rattle.fo_least.proofs.CellLemmas.{IsCell, cell-symbol}
use Rattle.fo_core.proofs.ElementLemmas.{place-below, sorts-length, sorts-at}
use Rattle.fo_core.proofs.ListFacts.{back, all_mapped, all_range}

module _ (sig : Sig) (n : ℕ) (sizes : List ℕ) where
  -- the variable of an element is a term of its sort, also under one more variable
  pub element-sorted : (s x : ℕ) → s < length sizes → x < slice_index sizes s → IsTerm sig n (element sizes s x) (element_sorts sizes) s
  element-sorted s x known lt = (omega (arith, sorts-length sizes, place-below sizes s x known lt), sorts-at sizes s x known lt)

  more-sorted : (s x r : ℕ) → s < length sizes → x < slice_index sizes s → IsTerm sig n (element sizes s x) (element_sorts sizes ++ r ∷ []) s
  more-sorted s x r known lt =
      let below = place-below sizes s x known lt in (
        omega (arith, sorts-length sizes, below, length-append (element_sorts sizes) (r ∷ [])),
        get_or_append_left (element_sorts sizes) (r ∷ []) 0 (sum (take s sizes) + x) (omega (arith, sorts-length sizes, below)) ∙ sorts-at sizes s x known lt,
      )

  last-sorted : (s : ℕ) → IsTerm sig n (Var (sum sizes)) (element_sorts sizes ++ s ∷ []) s
  last-sorted s = (omega (arith, sorts-length sizes, length-append (element_sorts sizes) (s ∷ [])), get_or_push (element_sorts sizes) s 0 (sum sizes) (sorts-length sizes))

  cover-sorted : (s : ℕ) → s < length sizes → s < sig.sorts → IsFormula sig n (cover sizes s) (element_sorts sizes)
  cover-sorted s known below =
      let ss = element_sorts sizes ++ s ∷ [] in
      let equal = λ (x : ℕ). Eq (Var (sum sizes)) (element sizes s x) in
      back (sorted-All sig n s (F.Or (map equal (range_with_len 0 (slice_index sizes s)))) (element_sorts sizes)) (
        below,
        Or-sorted sig n (map equal (range_with_len 0 (slice_index sizes s))) ss
            (all_mapped (λ f. IsFormula sig n f ss) equal (range_with_len 0 (slice_index sizes s))
            (all_range (λ x. IsFormula sig n (equal x) ss) (slice_index sizes s) (λ x lt. (s, last-sorted s, more-sorted s x s known lt)))),
      )

  pub covers-sorted : length sizes ≤ sig.sorts → All (λ f. IsFormula sig n f (element_sorts sizes)) (covers sizes)
  covers-sorted le =
      all_mapped (λ f. IsFormula sig n f (element_sorts sizes)) (cover sizes) (range_with_len 0 (length sizes))
      (all_range (λ s. IsFormula sig n (cover sizes s) (element_sorts sizes)) (length sizes) (λ s lt. cover-sorted s lt (omega arith)))

  elements-sorted : (ss xs : List ℕ) → All (λ s. s < length sizes) ss → AllZip (λ x n. x < n) xs (map (slice_index sizes) ss) → AllZip (λ t s. IsTerm sig n t (element_sorts sizes) s) (elements sizes ss xs) ss
  elements-sorted [] [] known below = tt
  elements-sorted [] (x ∷ xs) known below = absurd below
  elements-sorted (s ∷ ss) [] known below = absurd below
  elements-sorted (s ∷ ss) (x ∷ xs) known below =
      (element-sorted s x (All-head (λ s. s < length sizes) s ss known) below.0, elements-sorted ss xs (All-tail (λ s. s < length sizes) s ss known) below.1)

  module _ (c : Cell) (v : ℕ) (is : IsCell sig sizes n c) (args_known : All (λ s. s < length sizes) (symbol_at sig c.symbol).args) where
    abbrev s : Symbol
    s = symbol_at sig c.symbol

    abbrev ts : List Term
    ts = elements sizes s.args c.args

    args-sorted : AllZip (λ t s. IsTerm sig n t (element_sorts sizes) s) ts s.args
    args-sorted = elements-sorted s.args c.args args_known is.args

    by_truth : (b : Bool) → s.relation ≡ true → IsFormula sig n (cond b (F.Not (Rel c.symbol c.copy ts)) (Rel c.symbol c.copy ts)) (element_sorts sizes)
    by_truth true kind = back (sorted-Not sig n (Rel c.symbol c.copy ts) (element_sorts sizes)) (cell-symbol sig sizes n true c is kind, args-sorted)
    by_truth false kind = (cell-symbol sig sizes n true c is kind, args-sorted)

    by_kind : (b : Bool) → s.relation ≡ b → (b ≡ false → s.result < length sizes) → v < cond b 2 (slice_index sizes s.result) →
        IsFormula sig n (cond b (cond (v == 0) (F.Not (Rel c.symbol c.copy ts)) (Rel c.symbol c.copy ts)) (Eq (T.App c.symbol c.copy ts) (element sizes s.result v))) (element_sorts sizes)
    by_kind true kind known lt = by_truth (v == 0) kind
    by_kind false kind known lt = (
      s.result,
      App-sorted sig n c.symbol c.copy ts (element_sorts sizes) s.result (cell-symbol sig sizes n false c is kind) refl args-sorted,
      element-sorted s.result v (known refl) lt,
    )

    pub has_value-sorted : (s.relation ≡ false → s.result < length sizes) → v < range_of sizes s → IsFormula sig n (has_value sizes sig c v) (element_sorts sizes)
    has_value-sorted known lt = by_kind s.relation refl known lt
