-- What agreeing tables say of all tuples of elements with images, and when maps that are given in full
-- are an embedding.
use Rattle.std.proofs.Common.{◌≡◌, ℕ, false, cond, ◌↔◌, ◌+◌, ◌*◌, ◌<◌, ◌≤◌, List, [], ◌∷◌, length, sym, ap, subst, ◌∙◌, arith, inl, inr, ◌⊎◌}
use Rattle.std.specs.List.{All}
use Rattle.std.specs.Prelude.{slice_index}
use Rattle.std.proofs.lemmas.Bool.{cases_lt}
use Rattle.std.proofs.lemmas.List.{get_or_past}
use Rattle.fo_core.specs.declared.signature.Sig.{Sig}
use Rattle.fo_core.specs.declared.world.World.{World}
use Rattle.fo_core.specs.Runs.{AreElements}
use Rattle.fo_core.specs.Tables.{no_symbol, symbol_at, tuples, place, table_of, entry, arg_sizes}
use Rattle.fo_core.specs.Embedding.{images, AreInjections, IsEmbedding}
use Rattle.fo_core.proofs.TableLemmas.{table_is, place-lt}
use Rattle.fo_core.proofs.PlaceLemmas.{elements-below}
use Rattle.fo_embed.specs.Compared.{CanCompare}
use Rattle.fo_embed.specs.Placing.{images_of, placed, IsPart, IsKept, Agrees, AllAgree}
use Rattle.fo_embed.specs.Asked.{CanWalk, IsBlock, AgreeFrom, sizes_at, place_from}
use Rattle.fo_embed.proofs.Placed.{placed-at, sort-of}
use Rattle.fo_embed.proofs.Walking.{whole-block}

module _ (sig : Sig) (v : World) (c : ℕ) (w : World) (d : ℕ) (h : CanCompare sig v c w d) where
  module _ (k : ℕ) (lt : k < length sig.symbols) where
    pub walk-symbol : (maps : List (List ℕ)) → IsPart v.sizes w.sizes maps → CanWalk v w maps (symbol_at sig k) (symbol_at sig k).args
    walk-symbol maps part =
        let has = h.signature.sorts k no_symbol lt in
        record {
          nonempty = h.from.nonempty;
          nonempty_to = h.to.nonempty;
          same_sorts = h.to.sorts ∙ sym h.from.sorts;
          part = part;
          known = subst (λ n. All (λ s. s < n) (symbol_at sig k).args) (sym h.from.sorts) has.args;
          result = λ is. subst (λ n. (symbol_at sig k).result < n) (sym (part.one_each ∙ h.from.sorts)) (has.result is);
        }

    pub block-here : IsBlock v.sizes (symbol_at sig k).args 0 (table_of sig v c k).values
    block-here = whole-block v.sizes (symbol_at sig k).args (table_of sig v c k).values (table_is sig v c k h.from lt (λ _. h.from_copy)).total

    pub block-there : IsBlock w.sizes (symbol_at sig k).args 0 (table_of sig w d k).values
    block-there = whole-block w.sizes (symbol_at sig k).args (table_of sig w d k).values (table_is sig w d k h.to lt (λ _. h.to_copy)).total

    -- the value of a function for elements is an element of its sort
    pub value-below : (xs : List ℕ) → (symbol_at sig k).relation ≡ false → AreElements v.sizes xs (symbol_at sig k).args → entry sig v c k xs < slice_index v.sizes (symbol_at sig k).result
    value-below xs is elements =
        let table = table_is sig v c k h.from lt (λ _. h.from_copy) in
        let within = subst (λ n. place (arg_sizes v.sizes (symbol_at sig k)) xs < n) (sym table.total) (place-lt _ xs (elements-below v.sizes xs (symbol_at sig k).args elements)) in
        subst (λ b. entry sig v c k xs < cond b 2 (slice_index v.sizes (symbol_at sig k).result)) is (table.in_range (place (arg_sizes v.sizes (symbol_at sig k)) xs) 0 within)

  zero-place : (sizes sorts xs : List ℕ) → place_from sizes sorts 0 xs ≡ place (sizes_at sizes sorts) xs
  zero-place sizes sorts xs = let e : 0 * tuples (sizes_at sizes sorts) ≡ 0 = omega arith in ap (λ n. n + place (sizes_at sizes sorts) xs) e ∙ (let z : 0 + place (sizes_at sizes sorts) xs ≡ place (sizes_at sizes sorts) xs = omega arith in z)

  -- agreeing from the first place on
  pub agrees-as : (maps : List (List ℕ)) (k : ℕ) → let s = symbol_at sig k in AgreeFrom v.sizes w.sizes maps s (table_of sig v c k).values (table_of sig w d k).values s.args 0 0 ↔ Agrees sig v c w d maps k
  agrees-as maps k =
      let s = symbol_at sig k in
      let here = (table_of sig v c k).values in
      let there = (table_of sig w d k).values in (
        λ a xs e. subst (λ i. IsKept s maps (slice_index here i) (entry sig w d k (images maps s.args xs))) (zero-place v.sizes s.args xs)
            (subst (λ i. IsKept s maps (slice_index here (place_from v.sizes s.args 0 xs)) (slice_index there i)) (zero-place w.sizes s.args (images maps s.args xs)) (a xs e)),
        λ a xs e. subst (λ i. IsKept s maps (slice_index here i) (slice_index there (place_from w.sizes s.args 0 (images maps s.args xs)))) (sym (zero-place v.sizes s.args xs))
            (subst (λ i. IsKept s maps (entry sig v c k xs) (slice_index there i)) (sym (zero-place w.sizes s.args (images maps s.args xs))) (a xs e)),
      )

  -- injective maps of all elements
  module _ (maps : List (List ℕ)) where
    no-images : (sizes : List ℕ) (s : ℕ) → length maps ≡ length sizes → length sizes ≤ s → length (images_of maps s) ≡ 0
    no-images sizes s e le = ap length (get_or_past maps s [] (omega (arith, e, le)))

    pub part-of : (i : AreInjections v.sizes w.sizes maps) → IsPart v.sizes w.sizes maps
    part-of i = record {
      one_each = i.one_each;
      some = some;
      in_range = λ s x lt. let in_ = within s x lt in i.in_range s x in_ (subst (λ n. x < n) (i.total s in_) lt);
      injective = λ s x y lt lt' e. let in_ = within s x lt in i.injective s x y in_ (subst (λ n. x < n) (i.total s in_) lt) (subst (λ n. y < n) (i.total s in_) lt') e;
    }
      where
        within : (s x : ℕ) → x < length (images_of maps s) → s < length v.sizes
        within s x lt = omega (arith, sort-of maps s x lt, i.one_each)

        some : (s : ℕ) → length (images_of maps s) ≤ slice_index v.sizes s
        some s = by_cases (cases_lt s (length v.sizes))
          where
            by_cases : (s < length v.sizes) ⊎ (length v.sizes ≤ s) → length (images_of maps s) ≤ slice_index v.sizes s
            by_cases (inl in_) = omega (arith, i.total s in_)
            by_cases (inr le) = omega (arith, no-images v.sizes s i.one_each le)

    -- all elements have images
    abbrev pub IsFull : Type 0
    IsFull = (s : ℕ) → s < length v.sizes → length (images_of maps s) ≡ slice_index v.sizes s

    pub injections-of : IsPart v.sizes w.sizes maps → IsFull → AreInjections v.sizes w.sizes maps
    injections-of p full = record {
      one_each = p.one_each;
      total = full;
      in_range = λ s x in_ lt. p.in_range s x (subst (λ n. x < n) (sym (full s in_)) lt);
      injective = λ s x y in_ lt lt' e. p.injective s x y (subst (λ n. x < n) (sym (full s in_)) lt) (subst (λ n. y < n) (sym (full s in_)) lt') e;
    }

    full-size : length maps ≡ length v.sizes → IsFull → (s : ℕ) → slice_index (placed maps) s ≡ slice_index v.sizes s
    full-size e full s = by_cases (cases_lt s (length v.sizes))
      where
        by_cases : (s < length v.sizes) ⊎ (length v.sizes ≤ s) → slice_index (placed maps) s ≡ slice_index v.sizes s
        by_cases (inl in_) = placed-at maps s ∙ full s in_
        by_cases (inr le) = placed-at maps s ∙ no-images v.sizes s e le ∙ sym (get_or_past v.sizes s 0 le)

    elements-as : (sizes others : List ℕ) → ((s : ℕ) → slice_index sizes s ≡ slice_index others s) → (xs ss : List ℕ) → AreElements sizes xs ss → AreElements others xs ss
    elements-as sizes others same [] [] a = a
    elements-as sizes others same [] (s ∷ ss) a = absurd a
    elements-as sizes others same (x ∷ xs) [] a = absurd a
    elements-as sizes others same (x ∷ xs) (s ∷ ss) a = (subst (λ n. x < n) (same s) a.0, elements-as sizes others same xs ss a.1)

    -- injective maps whose tables agree are an embedding, and the other way round
    pub embedding-of : (i : AreInjections v.sizes w.sizes maps) → AllAgree sig v c w d maps → IsEmbedding sig v c w d maps
    embedding-of i agree = record {
      injections = i;
      relations = λ k xs lt is e. (agree k lt xs (from xs (symbol_at sig k).args e)).relation is;
      functions = λ k xs lt is e. (agree k lt xs (from xs (symbol_at sig k).args e)).function is (has k xs lt is e);
    }
      where
        same : (s : ℕ) → slice_index v.sizes s ≡ slice_index (placed maps) s
        same s = sym (full-size i.one_each i.total s)

        from : (xs ss : List ℕ) → AreElements v.sizes xs ss → AreElements (placed maps) xs ss
        from = elements-as v.sizes (placed maps) same

        has : (k : ℕ) (xs : List ℕ) → k < length sig.symbols → (symbol_at sig k).relation ≡ false → AreElements v.sizes xs (symbol_at sig k).args → entry sig v c k xs < length (images_of maps (symbol_at sig k).result)
        has k xs lt is e = subst (λ n. entry sig v c k xs < n) (same (symbol_at sig k).result ∙ placed-at maps (symbol_at sig k).result) (value-below k lt xs is e)

    pub agree-of : IsEmbedding sig v c w d maps → AllAgree sig v c w d maps
    agree-of m k lt xs e =
        let elements = elements-as (placed maps) v.sizes (full-size m.injections.one_each m.injections.total) xs (symbol_at sig k).args e in
        record {
          relation = λ is. m.relations k xs lt is elements;
          function = λ is _. m.functions k xs lt is elements;
        }
