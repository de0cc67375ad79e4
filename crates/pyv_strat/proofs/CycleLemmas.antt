-- The first of the shortest cycles.
use Rattle.std.proofs.Common.{◌≡◌, ℕ, zero, suc, ◌+◌, ◌<◌, ◌≤◌, ◌⊎◌, inl, inr, List, [], ◌∷◌, ◌++◌, length, length-append, get_or, refl, sym, subst, ◌∙◌, arith}
use Rattle.std.proofs.lemmas.Bool.{cases_lt}
use Rattle.std.proofs.lemmas.List.{get_or_default}
use Rattle.fo_core.specs.SortGraph.{IsWalk, IsCycle, BeginsLeast, ComesFirst, IsFirstCycle}
use Rattle.pyv_strat.specs.declared.edges.Edge.{Edge}
use Rattle.pyv_strat.specs.declared.cycle.Start.{Start}
use Rattle.pyv_strat.specs.Edges.{Among, AreWithin}
use Rattle.pyv_strat.specs.Walks.{Marks, Reaches, IsLayer, Returns, NoneReturns, IsStart}
use Rattle.pyv_strat.proofs.WalkLemmas.{walk-to, walk-push, turned, equal_or_not}
use Rattle.pyv_strat.proofs.NumberLemmas.{ends_within}

module _ (edges : List Edge) where
  -- a walk that is begun goes on with the least sort from which it can end in time, so no walk to
  -- the goal with as many edges comes before it
  first-more : (walk other : List ℕ) (a at c g j : ℕ) → IsWalk (Among edges) a walk at → IsWalk (Among edges) a other g → length other ≡ length walk + suc j → ((b : ℕ) → Among edges at b → Reaches (Among edges) (λ x. x ≡ g) j b → c ≤ b) → ComesFirst walk other → ComesFirst (walk ++ c ∷ []) other
  first-more [] [] a at c g j begun whole long least first = absurd (omega arith)
  first-more [] (b ∷ other) a at c g j begun whole long least first = by_order (cases_lt c b)
    where
      next : Reaches (Among edges) (λ x. x ≡ g) j b
      next = let many : length other ≡ j = omega arith in subst (λ n. Reaches (Among edges) (λ x. x ≡ g) n b) many (walk-to (Among edges) other b g whole.1)

      by_order : (c < b) ⊎ (b ≤ c) → (c < b) ⊎ ((c ≡ b) × ComesFirst [] other)
      by_order (inl lt) = inl lt
      by_order (inr le) = inr (omega (arith, least b (subst (λ x. Among edges x b) begun whole.0) next), tt)
  first-more (d ∷ walk) [] a at c g j begun whole long least first = absurd first
  first-more (d ∷ walk) (b ∷ other) a at c g j begun whole long least (inl lt) = inl lt
  first-more (d ∷ walk) (b ∷ other) a at c g j begun whole long least (inr first) =
      inr (first.0, first-more walk other d at c g j begun.1 (subst (λ x. IsWalk (Among edges) x other g) (sym first.0) whole.1) (omega arith) least first.1)

  -- the beginning of the printed cycle, when so many of its edges are chosen
  pub record IsBegun (start : Start) (count done at : ℕ) (cycle : List ℕ) : Type 0 where
    pub walk : List ℕ
    pub items : cycle ≡ start.sort ∷ walk
    pub long : length walk ≡ done
    pub begun : IsWalk (Among edges) start.sort walk at
    pub back : (m : ℕ) → m + done ≡ count → Reaches (Among edges) (λ b. b ≡ start.sort) m at
    pub first : (other : List ℕ) → length other ≡ count → IsWalk (Among edges) start.sort other start.sort → ComesFirst walk other

  pub begun-none : (start : Start) → Returns edges start.between start.sort → (count : ℕ) → count ≡ start.between + 1 → IsBegun start count 0 start.sort (start.sort ∷ [])
  begun-none start returns count is = record {
    walk = [];
    items = refl;
    long = refl;
    begun = refl;
    back = λ m all. let same : suc start.between ≡ m = omega arith in subst (λ n. Reaches (Among edges) (λ b. b ≡ start.sort) n start.sort) same returns;
    first = λ other long whole. tt;
  }

  pub begun-more : (start : Start) (count done at c m : ℕ) (cycle : List ℕ) → IsBegun start count done at cycle → suc m + done ≡ count → Among edges at c → Reaches (Among edges) (λ b. b ≡ start.sort) m c → ((b : ℕ) → Among edges at b → Reaches (Among edges) (λ x. x ≡ start.sort) m b → c ≤ b) → IsBegun start count (done + 1) c (cycle ++ c ∷ [])
  begun-more start count done at c m cycle begun all edge goes least = record {
    walk = begun.walk ++ c ∷ [];
    items = subst (λ xs. xs ++ c ∷ [] ≡ start.sort ∷ (begun.walk ++ c ∷ [])) (sym begun.items) refl;
    long = length-append begun.walk (c ∷ []) ∙ more;
    begun = walk-push (Among edges) begun.walk start.sort at c begun.begun edge;
    back = λ k whole. let same : m ≡ k = omega arith in subst (λ n. Reaches (Among edges) (λ b. b ≡ start.sort) n c) same goes;
    first = λ other long whole. first-more begun.walk other start.sort at c start.sort m begun.begun whole (omega (arith, begun.long)) least (begun.first other long whole);
  }
    where
      more : length begun.walk + 1 ≡ done + 1
      more = omega (arith, begun.long)

  module _ (sorts : ℕ) (start : Start) (is : IsStart edges sorts start) (within : (a b : ℕ) → Among edges a b → (a < sorts) × (b < sorts)) where
    -- a cycle has no fewer edges, and where it has as many, it doesn't begin before the start
    no_fewer : (b : ℕ) (rest : List ℕ) → 1 ≤ length rest → IsWalk (Among edges) b rest b → start.between < length rest
    no_fewer b [] some h = absurd (omega arith)
    no_fewer b (c ∷ rest) some h = by_order (cases_lt (length rest) start.between)
      where
        by_order : (length rest < start.between) ⊎ (start.between ≤ length rest) → start.between < length (c ∷ rest)
        by_order (inl lt) = absurd (is.fewest b (within b c h.0).0 (length rest) lt (walk-to (Among edges) (c ∷ rest) b b h))
        by_order (inr le) = omega arith

    not_before : (b : ℕ) → Returns edges start.between b → start.sort ≤ b
    not_before b h = by_order (cases_lt b start.sort)
      where
        by_order : (b < start.sort) ⊎ (start.sort ≤ b) → start.sort ≤ b
        by_order (inl lt) = absurd (is.least b lt h)
        by_order (inr le) = le

    pub first-cycle : (count at : ℕ) (cycle : List ℕ) → count ≡ start.between + 1 → IsBegun start count count at cycle → IsFirstCycle (Among edges) cycle
    first-cycle count at cycle is_count begun = subst (IsFirstCycle (Among edges)) (sym begun.items) record {
      closed = (omega (arith, begun.long), closed);
      fewest = fewest;
      begun = least;
      first = first;
    }
      where
        ended : at ≡ start.sort
        ended = begun.back 0 (omega arith)

        closed : IsWalk (Among edges) start.sort begun.walk start.sort
        closed = subst (λ x. IsWalk (Among edges) start.sort begun.walk x) ended begun.begun

        fewest : (other : List ℕ) → IsCycle (Among edges) other → length (start.sort ∷ begun.walk) ≤ length other
        fewest [] h = absurd h
        fewest (b ∷ rest) h = omega (arith, no_fewer b rest h.0 h.1, begun.long)

        least : (i d : ℕ) → i < length begun.walk → start.sort ≤ get_or begun.walk i d
        least i d lt =
            let many : length begun.walk ≡ suc start.between = omega (arith, begun.long) in
            let b = get_or begun.walk i 0 in
            let le = not_before b (subst (λ n. Reaches (Among edges) (λ x. x ≡ b) n b) many (turned (Among edges) begun.walk i start.sort lt closed)) in
            subst (λ x. start.sort ≤ x) (get_or_default begun.walk i 0 d lt) le

        first : (other : List ℕ) → IsCycle (Among edges) other → BeginsLeast other → length other ≡ length (start.sort ∷ begun.walk) → ComesFirst (start.sort ∷ begun.walk) other
        first [] h begins long = absurd h
        first (b ∷ rest) h begins long = by_place (equal_or_not start.sort b)
          where
            many : length rest ≡ suc start.between
            many = omega (arith, begun.long)

            le : start.sort ≤ b
            le = not_before b (subst (λ n. Reaches (Among edges) (λ x. x ≡ b) n b) many (walk-to (Among edges) rest b b h.1))

            by_place : (start.sort ≡ b) ⊎ (¬ (start.sort ≡ b)) → (start.sort < b) ⊎ ((start.sort ≡ b) × ComesFirst begun.walk rest)
            by_place (inl same) = inr (same, begun.first rest (omega arith) (subst (λ x. IsWalk (Among edges) x rest x) (sym same) h.1))
            by_place (inr other) = by_order (cases_lt start.sort b)
              where
                by_order : (start.sort < b) ⊎ (b ≤ start.sort) → (start.sort < b) ⊎ ((start.sort ≡ b) × ComesFirst begun.walk rest)
                by_order (inl lt) = inl lt
                by_order (inr ge) = absurd (other (omega (arith, le)))
