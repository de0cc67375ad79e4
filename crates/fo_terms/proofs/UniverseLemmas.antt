-- The blocks of the sorts, one behind the other, are a universe.
use Rattle.std.proofs.Common.{◌≡◌, ℕ, zero, suc, Bool, true, false, cond, ◌+◌, ◌-◌, ◌*◌, ◌<◌, ◌≤◌, ◌⊎◌, inl, inr, List, length, get_or, map, take, sum, refl, sym, ap, subst, ◌∙◌, arith}
use Rattle.std.specs.List.{All, flat_map}
use Rattle.std.specs.Prelude.{slice_index}
use Rattle.std.proofs.lemmas.Bool.{cases_lt}
use Rattle.std.proofs.lemmas.List.{take_all, take-take}
use Rattle.std.proofs.lemmas.List.Elements.{All-map, All-take, All-weaker}
use Rattle.fo_core.specs.declared.signature.Sig.{Sig}
use Rattle.fo_core.specs.SortGraph.{FunctionEdge, Rises}
use Rattle.fo_core.specs.Sorted.{HasSorts, IsSymbol}
use Rattle.fo_core.specs.Tables.{no_symbol, symbol_at, place}
use Rattle.fo_core.specs.Weights.{added, power}
use Rattle.fo_core.proofs.TableLemmas.{place-lt, tuples-positive}
use Rattle.fo_terms.specs.declared.terms.Ground.{Ground}
use Rattle.fo_terms.specs.Arranged.{IsArranged, offsets, place_of}
use Rattle.fo_terms.specs.Blocks.{AreFirsts, IsRanking, application, sort_block, spare_of, function_numbers}
use Rattle.fo_core.specs.TermCounts.{copies_of, applications, term_counts, AreCounts}
use Rattle.fo_terms.specs.Universe.{IsApplied, IsOf, AreOf, IsSpare, IsTermOf, IsUniverse, no_ground, sort_at, spare, term_at}
use Rattle.fo_terms.proofs.BlockLemmas.{IsAlone, IsEntry, at-block, block-cases, block-length, cover, earlier, flat-at}
use Rattle.fo_terms.proofs.CountLemmas.{before, counts-solve}
use Rattle.fo_terms.proofs.Functions.{count-none, count-some, leads_to-is, numbers-are}
use Rattle.fo_terms.proofs.RankLemmas.{ranked-at, ranked-total, ranked-within}
use Rattle.fo_terms.proofs.Sums.{added-at, added-more, added-same, added-take, length-flat_map}
use Rattle.fo_core.proofs.TupleLemmas.{tuple-below}
use Rattle.fo_terms.proofs.TupleLemmas.{InBlock, arguments-before, arguments-place, offsets-below, place-arguments, raised-are}
use Rattle.fo_core.specs.Tuples.{tuple_at}

module _ (sig : Sig) (n : ℕ) (numbers ranked firsts : List ℕ) (some_copy : 1 ≤ n) (few : length sig.symbols < spare) (sorted : All (HasSorts sig.sorts) sig.symbols)
    (rises : Rises (FunctionEdge sig) sig.sorts numbers) (ranking : IsRanking numbers ranked) (at_first : AreFirsts ranked (term_counts sig n) firsts) where
  abbrev U : List ℕ
  U = term_counts sig n

  abbrev first : ℕ → ℕ
  first s = slice_index firsts s

  abbrev size : ℕ → ℕ
  size s = slice_index U s

  abbrev block : ℕ → List Ground
  block t = sort_block firsts U sig n t

  abbrev ts : List Ground
  ts = flat_map block ranked

  solved : AreCounts sig n U
  solved = counts-solve sig n numbers rises sorted

  size-block : (t : ℕ) → t < sig.sorts → length (block t) ≡ size t
  size-block t lt = block-length sig n firsts U t ∙ sym (solved.each t lt)

  ranked-sort : (i : ℕ) → i < length ranked → get_or ranked i 0 < sig.sorts
  ranked-sort i lt = omega (arith, rises.one_each, ranked-within numbers ranked ranking i 0 lt)

  sizes-sum : (i : ℕ) → added (λ t. length (block t)) (take i ranked) ≡ added size (take i ranked)
  sizes-sum i = added-same (λ t. length (block t)) size (take i ranked) (All-take (λ t. length (block t) ≡ size t) i ranked (λ j d lt. size-block (get_or ranked j d) (omega (arith, rises.one_each, ranked-within numbers ranked ranking j d lt))))

  -- a sort's block begins at its first place
  begins : (i : ℕ) → i < length ranked → length (flat_map block (take i ranked)) ≡ first (get_or ranked i 0)
  begins i lt = length-flat_map block (take i ranked) ∙ sizes-sum i ∙ sym (at_first.each i lt)

  located : (t j : ℕ) → t < sig.sorts → j < size t → (first t + j < length ts) × (term_at ts (first t + j) ≡ get_or (block t) j no_ground)
  located t j lt below =
      let r = ranked-at numbers ranked ranking t (omega (arith, rises.one_each)) in
      flat-at block ranked r.0 j 0 no_ground t (first t) r.1 r.2 (omega (arith, size-block t lt)) (begins r.0 r.1 ∙ ap first r.2)

  -- each place is one of a sort's block
  pub record At (p : ℕ) : Type 0 where
    pub t : ℕ
    pub sort : t < sig.sorts
    pub j : ℕ
    pub below : j < size t
    pub is : p ≡ first t + j
    pub item : term_at ts p ≡ get_or (block t) j no_ground

  find : (p : ℕ) → p < length ts → At p
  find p lt =
      let r = cover block ranked 0 no_ground p lt in
      let known = ranked-sort r.i r.within in
      record { t = get_or ranked r.i 0; sort = known; j = r.j; below = omega (arith, r.below, size-block (get_or ranked r.i 0) known); is = omega (arith, r.is, begins r.i r.within); item = r.item }

  -- the terms of a block are of its sort
  sort-of : (t j : ℕ) → t < sig.sorts → j < size t → (get_or (block t) j no_ground).sort ≡ t
  sort-of t j lt below = by_case (block-cases sig n firsts U t j (omega (arith, size-block t lt)))
    where
      by_case : IsAlone sig n firsts U t j (get_or (block t) j no_ground) ⊎ IsEntry sig n firsts U t j (get_or (block t) j no_ground) → (get_or (block t) j no_ground).sort ≡ t
      by_case (inl a) = ap (λ (g : Ground). g.sort) a.term
      by_case (inr e) = ap (λ (g : Ground). g.sort) e.term ∙ e.result

  at-sort : (p : ℕ) (a : At p) → sort_at ts p ≡ a.t
  at-sort p a = ap (λ (g : Ground). g.sort) a.item ∙ sort-of a.t a.j a.sort a.below

  in-block : (s : ℕ) → s < sig.sorts → InBlock ts firsts U s
  in-block s lt p = (λ of. here of.1 (find p of.0), λ b. there b.0 b.1)
    where
      here : sort_at ts p ≡ s → At p → (first s ≤ p) × (p < first s + size s)
      here e a = let same : a.t ≡ s = sym (at-sort p a) ∙ e in subst (λ s. (first s ≤ p) × (p < first s + size s)) same (omega (arith, a.is), omega (arith, a.is, a.below))

      there : first s ≤ p → p < first s + size s → IsOf ts s p
      there le less =
          let j = p - first s in
          let below : j < size s = omega arith in
          let e : first s + j ≡ p = omega arith in
          let r = located s j lt below in
          (subst (λ p. p < length ts) e r.0, ap (λ q. sort_at ts q) (sym e) ∙ ap (λ (g : Ground). g.sort) r.1 ∙ sort-of s j lt below)

  in-blocks : (k : ℕ) → k < length sig.symbols → All (InBlock ts firsts U) (symbol_at sig k).args
  in-blocks k lt = All-weaker (λ s. s < sig.sorts) (InBlock ts firsts U) (λ s below. in-block s below) (symbol_at sig k).args (sorted k no_symbol lt).args

  -- the block of an earlier sort ends before a later one's begins
  ends-before : (i j : ℕ) → i < length ranked → j < i → first (get_or ranked j 0) + size (get_or ranked j 0) ≤ first (get_or ranked i 0)
  ends-before i j lt less =
      let within : j < length ranked = omega arith in
      let le = added-le (j + 1) i (omega arith) in
      omega (arith, le, at_first.each i lt, at_first.each j within, added-more size ranked j 0 within)
    where
      added-le : (a b : ℕ) → a ≤ b → added size (take a ranked) ≤ added size (take b ranked)
      added-le a b le = omega (arith, added-take size a (take b ranked), ap (added size) (take-take a b ranked le))

  arguments-end : (k t : ℕ) → k < length sig.symbols → (symbol_at sig k).relation ≡ false → (symbol_at sig k).result ≡ t → t < sig.sorts → All (λ s. first s + size s ≤ first t) (symbol_at sig k).args
  arguments-end k t within function result lt = λ e d below.
      let r = ranked-at numbers ranked ranking t (omega (arith, rises.one_each)) in
      let leads = leads_to-is (get_or ranked r.0 0) (symbol_at sig k) function (result ∙ sym r.2) in
      let b = before sig n numbers rises sorted ranked ranking r.0 k r.1 within leads e d below in
      let le = ends-before r.0 b.0 r.1 b.1 in
      omega (arith, le, ap first r.2, ap first b.2, ap size b.2)

  -- the term at a place
  applied : (p : ℕ) (a : At p) → IsEntry sig n firsts U a.t a.j (get_or (block a.t) a.j no_ground) → IsApplied sig n ts p
  applied p a e =
      let term = a.item ∙ e.term in
      let s = symbol_at sig e.k in
      let xs = tuple_at (map (slice_index U) s.args) e.x in
      let below = tuple-below (map (slice_index U) s.args) e.x e.below in
      let g = application firsts U e.k s e.c e.x in
      let ends = arguments-end e.k a.t e.within e.function e.result a.sort in
      record {
        symbol = subst (λ (g : Ground). IsSymbol sig n false g.symbol g.copy) (sym term) (record { within = e.within; kind = e.function; copy = e.copy });
        args = subst (λ (g : Ground). AreOf ts g.args (symbol_at sig g.symbol).args) (sym term) (raised-are ts firsts U s.args xs (in-blocks e.k e.within) below);
        sort = subst (λ (g : Ground). g.sort ≡ (symbol_at sig g.symbol).result) (sym term) refl;
        earlier = subst (λ (g : Ground). All (λ q. q < p) g.args) (sym term)
            (All-weaker (λ q. q < first a.t) (λ q. q < p) (λ q lt. omega (arith, a.is)) g.args (arguments-before firsts U s.args xs (first a.t) ends below));
      }

  is-spare : (p t : ℕ) → term_at ts p ≡ spare_of t → IsSpare (term_at ts p)
  is-spare p t e = subst IsSpare (sym e) (refl, refl, refl)

  grounded : (p : ℕ) → p < length ts → IsSpare (term_at ts p) ⊎ IsApplied sig n ts p
  grounded p lt = with_at (find p lt)
    where
      with_at : At p → IsSpare (term_at ts p) ⊎ IsApplied sig n ts p
      with_at a = by_case (block-cases sig n firsts U a.t a.j (omega (arith, size-block a.t a.sort, a.below)))
        where
          by_case : IsAlone sig n firsts U a.t a.j (get_or (block a.t) a.j no_ground) ⊎ IsEntry sig n firsts U a.t a.j (get_or (block a.t) a.j no_ground) → IsSpare (term_at ts p) ⊎ IsApplied sig n ts p
          by_case (inl o) = inl (is-spare p a.t (a.item ∙ o.term))
          by_case (inr e) = inr (applied p a e)

  -- a term stands at the place that is reckoned for it
  place-is : (p : ℕ) → p < length ts → ((IsSpare (term_at ts p)) × (size (sort_at ts p) ≡ 1) × (p ≡ first (sort_at ts p))) ⊎ ((term_at ts p).symbol < length sig.symbols × (p ≡ place_of sig n firsts (term_at ts p).symbol (term_at ts p).copy (term_at ts p).args))
  place-is p lt = with_at (find p lt)
    where
      with_at : At p → ((IsSpare (term_at ts p)) × (size (sort_at ts p) ≡ 1) × (p ≡ first (sort_at ts p))) ⊎ ((term_at ts p).symbol < length sig.symbols × (p ≡ place_of sig n firsts (term_at ts p).symbol (term_at ts p).copy (term_at ts p).args))
      with_at a = by_case (block-cases sig n firsts U a.t a.j (omega (arith, size-block a.t a.sort, a.below)))
        where
          by_case : IsAlone sig n firsts U a.t a.j (get_or (block a.t) a.j no_ground) ⊎ IsEntry sig n firsts U a.t a.j (get_or (block a.t) a.j no_ground) →
              ((IsSpare (term_at ts p)) × (size (sort_at ts p) ≡ 1) × (p ≡ first (sort_at ts p))) ⊎ ((term_at ts p).symbol < length sig.symbols × (p ≡ place_of sig n firsts (term_at ts p).symbol (term_at ts p).copy (term_at ts p).args))
          by_case (inl o) =
              let at = at-sort p a in
              inl (is-spare p a.t (a.item ∙ o.term), ap size at ∙ solved.each a.t a.sort ∙ count-none sig n U a.t o.none, omega (arith, a.is, o.place, ap first at))
          by_case (inr e) =
              let s = symbol_at sig e.k in
              let number = place-arguments firsts U s.args e.x e.below in
              inr (subst (λ (g : Ground). (g.symbol < length sig.symbols) × (p ≡ place_of sig n firsts g.symbol g.copy g.args)) (sym (a.item ∙ e.term))
              (e.within, omega (arith, a.is, e.place, ap first e.result, number)))

  placed : (f c : ℕ) (args : List ℕ) → IsSymbol sig n false f c → AreOf ts args (symbol_at sig f).args → IsTermOf sig n ts f c args (place_of sig n firsts f c args)
  placed f c args is are =
      let s = symbol_at sig f in
      let ns = map (slice_index U) s.args in
      let blocks = in-blocks f is.within in
      let x = place ns (offsets firsts s.args args) in
      let below : x < power U s.args = place-lt ns (offsets firsts s.args args) (offsets-below ts firsts U s.args args blocks are) in
      let known : s.result < sig.sorts = (sorted f no_symbol is.within).result is.kind in
      let b = at-block sig n firsts U s.result f is.within is.kind refl c x is.copy below in
      let r = located s.result (earlier sig n firsts U f + (c * power U s.args + x)) known (omega (arith, b.0, size-block s.result known)) in
      (r.0, r.1 ∙ b.1 ∙ ap (λ (qs : List ℕ). record { symbol = f; copy = c; args = qs; sort = s.result }) (arguments-place ts firsts U s.args args blocks are))

  -- each sort has a term
  positive-here : (i : ℕ) → i < length ranked → ((j : ℕ) → j < i → 1 ≤ size (get_or ranked j 0)) → 1 ≤ size (get_or ranked i 0)
  positive-here i lt before_it = by_length (length (function_numbers sig (get_or ranked i 0))) refl
    where
      copies : (b : Bool) → 1 ≤ cond b n 1
      copies true = some_copy
      copies false = omega arith

      product : (a b : ℕ) → 1 ≤ a → 1 ≤ b → 1 ≤ a * b
      product (suc a) b h k = omega (arith, k)
      product zero b h k = absurd (omega arith)

      by_length : (m : ℕ) → length (function_numbers sig (get_or ranked i 0)) ≡ m → 1 ≤ size (get_or ranked i 0)
      by_length zero e = omega (arith, solved.each (get_or ranked i 0) (ranked-sort i lt), count-none sig n U (get_or ranked i 0) e)
      by_length (suc m) e =
          let t = get_or ranked i 0 in
          let ks = function_numbers sig t in
          let k = get_or ks 0 0 in
          let s = symbol_at sig k in
          let are = numbers-are sig t 0 0 (omega arith) in
          let args : All (λ a. 1 ≤ size a) s.args =
          λ e d below. let b = before sig n numbers rises sorted ranked ranking i k lt are.0 (leads_to-is t s are.1 are.2) e d below in omega (arith, before_it b.0 b.1, ap size b.2) in
          let some = product (copies_of n s) (power U s.args) (copies s.mutable) (tuples-positive (map (slice_index U) s.args) (All-map (λ m. 1 ≤ m) (slice_index U) s.args args)) in
          omega (arith, solved.each t (ranked-sort i lt), count-some sig n U t (omega arith), added-at (λ k. applications n U (symbol_at sig k)) ks 0 0 (omega arith), some)

  positive-below : (i : ℕ) → i ≤ length ranked → (j : ℕ) → j < i → 1 ≤ size (get_or ranked j 0)
  positive-below zero le j lt = absurd (omega arith)
  positive-below (suc i) le j lt = by_place (cases_lt j i) (λ k less. positive-below i (omega arith) k less)
    where
      by_place : (j < i) ⊎ (i ≤ j) → ((k : ℕ) → k < i → 1 ≤ size (get_or ranked k 0)) → 1 ≤ size (get_or ranked j 0)
      by_place (inl less) before_it = before_it j less
      by_place (inr same) before_it = let e : i ≡ j = omega arith in subst (λ j. 1 ≤ size (get_or ranked j 0)) e (positive-here i (omega arith) before_it)

  pub positive : (s : ℕ) → s < sig.sorts → 1 ≤ size s
  positive s lt = let r = ranked-at numbers ranked ranking s (omega (arith, rises.one_each)) in omega (arith, positive-below (length ranked) (omega arith) r.0 r.1, ap size r.2)

  spares : (p q : ℕ) → p < length ts → q < length ts → IsSpare (term_at ts p) → sort_at ts p ≡ sort_at ts q → p ≡ q
  spares p q lp lq alone same = by_case (place-is p lp)
    where
      by_case : ((IsSpare (term_at ts p)) × (size (sort_at ts p) ≡ 1) × (p ≡ first (sort_at ts p))) ⊎ ((term_at ts p).symbol < length sig.symbols × (p ≡ place_of sig n firsts (term_at ts p).symbol (term_at ts p).copy (term_at ts p).args)) → p ≡ q
      by_case (inl h) =
          let a = find p lp in
          let known : sort_at ts p < sig.sorts = omega (arith, at-sort p a, a.sort) in
          let b = (in-block (sort_at ts p) known q).0 (lq, sym same) in
          omega (arith, h.1, h.2, b.0, b.1)
      by_case (inr h) = absurd (omega (arith, h.0, alone.0, few))

  once : (p q : ℕ) → p < length ts → q < length ts → term_at ts p ≡ term_at ts q → p ≡ q
  once p q lp lq same = by_case (place-is p lp) (place-is q lq)
    where
      by_case : ((IsSpare (term_at ts p)) × (size (sort_at ts p) ≡ 1) × (p ≡ first (sort_at ts p))) ⊎ ((term_at ts p).symbol < length sig.symbols × (p ≡ place_of sig n firsts (term_at ts p).symbol (term_at ts p).copy (term_at ts p).args)) →
          ((IsSpare (term_at ts q)) × (size (sort_at ts q) ≡ 1) × (q ≡ first (sort_at ts q))) ⊎ ((term_at ts q).symbol < length sig.symbols × (q ≡ place_of sig n firsts (term_at ts q).symbol (term_at ts q).copy (term_at ts q).args)) → p ≡ q
      by_case (inl h) (inl k) = h.2 ∙ ap (λ (g : Ground). first g.sort) same ∙ sym k.2
      by_case (inl h) (inr k) = absurd (omega (arith, h.0.0, k.0, ap (λ (g : Ground). g.symbol) same, few))
      by_case (inr h) (inl k) = absurd (omega (arith, h.0, k.0.0, ap (λ (g : Ground). g.symbol) same, few))
      by_case (inr h) (inr k) = h.1 ∙ ap (λ (g : Ground). place_of sig n firsts g.symbol g.copy g.args) same ∙ sym k.1

  sizes-total : added size ranked ≡ sum U
  sizes-total = ranked-total numbers ranked ranking U (solved.one_each ∙ sym rises.one_each)

  -- all blocks end within all terms
  pub ends-within : (s : ℕ) → s < sig.sorts → first s + size s ≤ sum U
  ends-within s lt =
      let r = ranked-at numbers ranked ranking s (omega (arith, rises.one_each)) in
      omega (arith, at_first.each r.0 r.1, added-more size ranked r.0 0 r.1, added-take size (r.0 + 1) ranked, sizes-total, ap first r.2, ap size r.2)

  -- a function has no more tuples of arguments than its values have terms
  pub tuples-within : (k : ℕ) → k < length sig.symbols → (symbol_at sig k).relation ≡ false → power U (symbol_at sig k).args ≤ size (symbol_at sig k).result
  tuples-within k within function = by_power (power U (symbol_at sig k).args) refl
    where
      copies : (b : Bool) → 0 < cond b n 1
      copies true = some_copy
      copies false = omega arith

      by_power : (m : ℕ) → power U (symbol_at sig k).args ≡ m → m ≤ size (symbol_at sig k).result
      by_power zero e = omega arith
      by_power (suc x) e =
          let known = (sorted k no_symbol within).result function in
          let b = at-block sig n firsts U (symbol_at sig k).result k within function refl 0 x (copies (symbol_at sig k).mutable) (omega arith) in
          omega (arith, b.0, size-block (symbol_at sig k).result known)

  pub is-universe : IsUniverse sig n ts
  is-universe = record {
    grounded = grounded;
    whole = λ f c args is are. (place_of sig n firsts f c args, placed f c args is are);
    sorts = λ p lt. let a = find p lt in omega (arith, at-sort p a, a.sort);
    nonempty = λ s lt. (first s, (in-block s lt (first s)).1 (omega arith, omega (arith, positive s lt)));
    spares = spares;
    once = once;
  }

  pub is-arranged : IsArranged sig n (record { terms = ts; firsts = firsts })
  is-arranged = record {
    counts = solved;
    firsts = at_first.one_each ∙ solved.one_each;
    terms = length-flat_map block ranked ∙ ap (added (λ t. length (block t))) (sym (take_all (length ranked) ranked (omega arith))) ∙ sizes-sum (length ranked) ∙ ap (added size) (take_all (length ranked) ranked (omega arith)) ∙ sizes-total;
    blocks = λ s p lt. in-block s lt p;
    placed = placed;
  }
