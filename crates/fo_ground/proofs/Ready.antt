-- A universe as it is arranged, with its numbering, is ready to be looked up in.
use Rattle.std.proofs.Common.{◌≡◌, ℕ, Bool, true, false, cond, ◌+◌, ◌-◌, ◌*◌, ◌<◌, ◌≤◌, ◌^◌, ◌⊎◌, inl, inr, List, length, map, sym, ap, subst, ◌∙◌, arith}
use Rattle.std.specs.Prelude.{slice_index}
use Rattle.std.proofs.lemmas.Bool.{cases_lt}
use Rattle.std.proofs.lemmas.List.FromFn.{length-map-range_with_len}
use Rattle.fo_core.specs.declared.signature.Sig.{Sig}
use Rattle.fo_core.specs.Tables.{symbol_at, tuples, place}
use Rattle.fo_core.specs.Sorted.{IsSymbol}
use Rattle.fo_terms.specs.declared.terms.Universe.{Universe}
use Rattle.fo_terms.specs.Arranged.{earlier_applications, IsArranged}
use Rattle.fo_terms.specs.Arranged.{place_of as placed_at}
use Rattle.fo_core.specs.TermCounts.{term_counts}
use Rattle.fo_terms.specs.Universe.{IsOf, AreOf, IsTermOf, IsUniverse}
use Rattle.fo_ground.specs.declared.layout.Layout.{Layout}
use Rattle.fo_ground.specs.Layout.{slot, same_var, locals, IsLaidOut}
use Rattle.fo_ground.specs.Numbers.{count_of, first_at, fact_start, term_start, symbol_start, row_start, atoms_of, layout_of}
use Rattle.fo_ground.proofs.Numbering.{in_block, same-at, start-is, fact-at}
use Rattle.fo_ground.proofs.FactLemmas.{same_var-sym}

regroup : (first earlier rest : ℕ) → first + (earlier + rest) ≡ (first + earlier) + rest
regroup first earlier rest = omega arith

last_in : (p first count : ℕ) → first ≤ p → p < first + count → (first ≤ first + count - 1) × (first + count - 1 < first + count) × ((first + count - 1) + 1 ≡ first + count)
last_in p first count ge lt = (omega arith, omega arith, omega arith)

module _ (sig : Sig) (copies : ℕ) (u : Universe) (is : IsUniverse sig copies u.terms) (arranged : IsArranged sig copies u) (few_terms : length u.terms < 2 ^ 32) (sizes : length (term_counts sig copies) ≡ sig.sorts) where
  abbrev lay : Layout
  lay = layout_of sig copies u

  -- a function's slot is the place of its ground term
  pub place-is : (f c : ℕ) (args : List ℕ) → IsSymbol sig copies false f c → AreOf u.terms args (symbol_at sig f).args → IsTermOf sig copies u.terms f c args (slot u lay f c args)
  place-is f c args s of =
      let lies : slice_index lay.starts f ≡ term_start sig copies u f = start-is sig copies u is arranged f s.within ∙ ap (λ b. cond b (fact_start sig copies u f) (term_start sig copies u f)) s.kind in
      let ns = map (count_of sig copies u) (symbol_at sig f).args in
      let rest = c * tuples ns + place ns (locals u lay (symbol_at sig f).args args) in
      let e : placed_at sig copies u.firsts f c args ≡ slot u lay f c args =
      regroup (first_at sig copies u (symbol_at sig f).result) (earlier_applications sig copies f) rest ∙ ap (λ x. x + rest) (sym lies) in
      subst (IsTermOf sig copies u.terms f c args) e (arranged.placed f c args s of)

  pub same-lt : (s p q : ℕ) → IsOf u.terms s p → IsOf u.terms s q → same_var u lay p q < length (atoms_of sig copies u)
  same-lt s p q a b = by_order (cases_lt q p)
    where
      by_order : (q < p) ⊎ (p ≤ q) → same_var u lay p q < length (atoms_of sig copies u)
      by_order (inr le) = (same-at sig copies u is arranged s p q a b le).0
      by_order (inl lt) = subst (λ x. x < length (atoms_of sig copies u)) (same_var-sym u lay q p) (same-at sig copies u is arranged s q p b a (omega arith)).0

  pub ends-are : (s : ℕ) → s < sig.sorts → first_at sig copies u s + count_of sig copies u s ≤ length u.terms
  ends-are s lt =
      let some = is.nonempty s lt in
      let b = in_block sig copies u is arranged s some.0 some.1 in
      let last = last_in some.0 (first_at sig copies u s) (count_of sig copies u s) b.0 b.1 in
      let of = (arranged.blocks s (first_at sig copies u s + count_of sig copies u s - 1) lt).1 (last.0, last.1) in
      subst (λ n. n ≤ length u.terms) last.2 (omega (arith, of.0))

  pub ready : length (atoms_of sig copies u) < 2 ^ 32 → IsLaidOut u (layout_of sig copies u)
  ready few = record {
    places = place-is;
    sorts = is.sorts;
    few_terms = few_terms;
    firsts = arranged.firsts;
    sizes = sizes;
    blocks = arranged.blocks;
    ends = ends-are;
    rows = length-map-range_with_len (row_start sig copies u) 0 (length u.terms);
    starts = length-map-range_with_len (symbol_start sig copies u) 0 (length sig.symbols);
    same = same-lt;
    slots = λ r k c ps s of. slot-below r k c ps s of;
    facts = λ k c ps s of. (fact-at sig copies u is arranged k c ps s of).0;
    few = few;
  }
    where
      slot-below : (r : Bool) (k c : ℕ) (ps : List ℕ) → IsSymbol sig copies r k c → AreOf u.terms ps (symbol_at sig k).args → slot u lay k c ps < 2 ^ 32
      slot-below true k c ps s of = omega (arith, (fact-at sig copies u is arranged k c ps s of).0, few)
      slot-below false k c ps s of = omega (arith, (place-is k c ps s of).0, few_terms)
