-- What tables that are read off the classes are made of.
use Rattle.std.proofs.Common.{◌≡◌, ℕ, suc, Bool, true, false, cond, ◌+◌, ◌<◌, ◌≤◌, List, [], ◌∷◌, length, get_or, drop, drop-cons, map, refl, sym, ap, subst, ◌∙◌, arith, add-one, true≢false}
use Rattle.std.specs.Bool.{beq}
use Rattle.std.specs.List.{All, AllZip}
use Rattle.std.specs.Prelude.{slice_index, slice_index_or}
use Rattle.std.proofs.lemmas.List.Elements.{All-head, All-tail}
use Rattle.std.proofs.lemmas.List.FromFn.{get_or-map-range_with_len, length-map-range_with_len}
use Rattle.fo_core.specs.declared.signature.Symbol.{Symbol}
use Rattle.fo_core.specs.Tables.{no_symbol, is_like}
use Rattle.fo_terms.specs.declared.terms.Universe.{Universe}
use Rattle.fo_terms.specs.Universe.{AreOf}
use Rattle.fo_ground.specs.declared.classes.Classes.{Classes}
use Rattle.fo_ground.specs.declared.layout.Layout.{Layout}
use Rattle.fo_ground.specs.Classes.{heads_at}
use Rattle.fo_ground.specs.Layout.{slot, same_by, fact_by}
use Rattle.fo_ground.specs.Reading.{heads_by, count_by, table_by, tables_by, AreRead, picked}
use Rattle.fo_ground.proofs.HeadSteps.{heads-few, heads-sorted}

pub map-twice : {X Y Z : Type 0} (f : X → Y) (g : Y → Z) (xs : List X) → map g (map f xs) ≡ map (λ x. g (f x)) xs
map-twice f g [] = refl
map-twice f g (x ∷ xs) = ap (λ ys. g (f x) ∷ ys) (map-twice f g xs)

pub beq-same : (a b : Bool) → a ≡ b → beq a b ≡ true
beq-same true true e = refl
beq-same false false e = refl
beq-same true false e = absurd (true≢false e)
beq-same false true e = absurd (true≢false (sym e))

pub beq-other : (a b : Bool) → (a ≡ b → ⊥) → beq a b ≡ false
beq-other true true n = absurd (n refl)
beq-other false false n = absurd (n refl)
beq-other true false n = refl
beq-other false true n = refl

module _ (u : Universe) (lay : Layout) (v : ℕ → Bool) where
  -- no more first terms than terms
  pub heads_by-few : (s : ℕ) → length (heads_by u lay v s) ≤ length u.terms
  heads_by-few s = heads-few u.terms (slot u lay) (same_by u lay v) (fact_by u lay v) s (length u.terms)

  -- the first terms of classes with these numbers are terms of the sorts
  pub heads_at-sorted : (ss xs : List ℕ) → AllZip (λ x n. x < n) xs (map (count_by u lay v) ss) → AreOf u.terms (heads_at u.terms (slot u lay) (same_by u lay v) (fact_by u lay v) ss xs) ss
  heads_at-sorted [] [] h = tt
  heads_at-sorted [] (x ∷ xs) h = absurd h
  heads_at-sorted (s ∷ ss) [] h = absurd h
  heads_at-sorted (s ∷ ss) (x ∷ xs) h = (
    heads-sorted u.terms (slot u lay) (same_by u lay v) (fact_by u lay v) s (length u.terms) (omega arith) x 0 h.0,
    heads_at-sorted ss xs h.1,
  )

  module _ (c : Classes) (r : AreRead u lay v c) where
    pub heads-length : length c.heads ≡ lay.sig.sorts
    heads-length = ap length r.heads ∙ length-map-range_with_len (heads_by u lay v) 0 lay.sig.sorts

    pub sizes-length : length c.sizes ≡ lay.sig.sorts
    sizes-length = ap length r.sizes ∙ length-map-range_with_len (count_by u lay v) 0 lay.sig.sorts

    pub heads-at : (s : ℕ) → s < lay.sig.sorts → slice_index_or c.heads s [] ≡ heads_by u lay v s
    heads-at s lt = ap (λ (hs : List (List ℕ)). get_or hs s []) r.heads ∙ get_or-map-range_with_len (heads_by u lay v) 0 lay.sig.sorts s s [] lt (omega arith)

    pub size-at : (s : ℕ) → s < lay.sig.sorts → slice_index c.sizes s ≡ count_by u lay v s
    size-at s lt = ap (λ (ns : List ℕ). get_or ns s 0) r.sizes ∙ get_or-map-range_with_len (count_by u lay v) 0 lay.sig.sorts s s 0 lt (omega arith)

    pub one-size : (s : ℕ) → s < length c.sizes → length (slice_index_or c.heads s []) ≡ slice_index c.sizes s
    one-size s lt = let lt' : s < lay.sig.sorts = subst (λ n. s < n) sizes-length lt in ap length (heads-at s lt') ∙ sym (size-at s lt')

    pub sizes-are : (ss : List ℕ) → All (λ s. s < lay.sig.sorts) ss → map (slice_index c.sizes) ss ≡ map (count_by u lay v) ss
    sizes-are [] h = refl
    sizes-are (s ∷ ss) h =
        ap (λ n. n ∷ map (slice_index c.sizes) ss) (size-at s (All-head (λ s. s < lay.sig.sorts) s ss h)) ∙ ap (λ ns. count_by u lay v s ∷ ns) (sizes-are ss (All-tail (λ s. s < lay.sig.sorts) s ss h))

    pub picked-are : (ss xs : List ℕ) → All (λ s. s < lay.sig.sorts) ss → picked c.heads ss xs ≡ heads_at u.terms (slot u lay) (same_by u lay v) (fact_by u lay v) ss xs
    picked-are [] xs h = refl
    picked-are (s ∷ ss) [] h = refl
    picked-are (s ∷ ss) (x ∷ xs) h =
        ap (λ (hs : List ℕ). slice_index hs x ∷ picked c.heads ss xs) (heads-at s (All-head (λ s. s < lay.sig.sorts) s ss h))
        ∙ ap (λ ps. slice_index (heads_by u lay v s) x ∷ ps) (picked-are ss xs (All-tail (λ s. s < lay.sig.sorts) s ss h))

  module _ (b : Bool) (c k : ℕ) (ss : List Symbol) (lt : k < length ss) where
    split : drop k ss ≡ get_or ss k no_symbol ∷ drop (k + 1) ss
    split = rw add-one (drop-cons ss k no_symbol lt)

    later : tables_by u lay v b c (suc k) (drop (k + 1) ss) ≡ tables_by u lay v b c (k + 1) (drop (k + 1) ss)
    later = ap (λ n. tables_by u lay v b c n (drop (k + 1) ss)) (sym (add-one k))

    -- the table of the next symbol stands first, where it is of the kind
    pub tables-like : is_like b (get_or ss k no_symbol) ≡ true → tables_by u lay v b c k (drop k ss) ≡ table_by u lay v c k (get_or ss k no_symbol) ∷ tables_by u lay v b c (k + 1) (drop (k + 1) ss)
    tables-like e =
        let s = get_or ss k no_symbol in
        let rest = tables_by u lay v b c (suc k) (drop (k + 1) ss) in
        ap (tables_by u lay v b c k) split ∙ ap (λ x. cond x (table_by u lay v c k s ∷ rest) rest) e ∙ ap (λ ys. table_by u lay v c k s ∷ ys) later

    -- else there is none of it
    pub tables-other : is_like b (get_or ss k no_symbol) ≡ false → tables_by u lay v b c k (drop k ss) ≡ tables_by u lay v b c (k + 1) (drop (k + 1) ss)
    tables-other e =
        let s = get_or ss k no_symbol in
        let rest = tables_by u lay v b c (suc k) (drop (k + 1) ss) in
        ap (tables_by u lay v b c k) split ∙ ap (λ x. cond x (table_by u lay v c k s ∷ rest) rest) e ∙ later
