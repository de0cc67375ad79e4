-- Where the printed cycle begins.
use Rattle.std.proofs.Common.{◌≡◌, ℕ, ◌+◌, ◌<◌, ◌≤◌, ◌⊎◌, inl, inr, List, Option, Some, None, IfSome, IfNone, MatchOption, refl, sym, subst, arith}
use Rattle.std.proofs.lemmas.Bool.{cases_lt}
use Rattle.pyv_strat.specs.declared.edges.Edge.{Edge}
use Rattle.pyv_strat.specs.declared.cycle.Start.{Start}
use Rattle.pyv_strat.specs.Walks.{Returns, NoneReturns, IsStart}

module _ (edges : List Edge) where
  -- the least of the sorts before `end` from which a walk leads back through so few sorts
  pub record IsBest (sorts limit end : ℕ) (start : Start) : Type 0 where
    pub within : start.sort < end
    pub few : start.between < sorts
    pub limit_is : start.between ≡ limit
    pub returns : Returns edges start.between start.sort
    pub least : (a : ℕ) → a < start.sort → ¬ Returns edges start.between a

  -- what holds of the sorts before one, and of it
  pub none-more : (limit sort : ℕ) → ((a : ℕ) → a < sort → NoneReturns edges limit a) → NoneReturns edges limit sort → (a : ℕ) → a < sort + 1 → NoneReturns edges limit a
  none-more limit sort before here a lt = by_place (cases_lt a sort)
    where
      by_place : (a < sort) ⊎ (sort ≤ a) → NoneReturns edges limit a
      by_place (inl less) = before a less
      by_place (inr le) = let same : sort ≡ a = omega arith in subst (NoneReturns edges limit) same here

  -- fewer sorts still
  pub none-fewer : (limit less : ℕ) → less ≤ limit → (a : ℕ) → NoneReturns edges limit a → NoneReturns edges less a
  none-fewer limit less le a none j lt = none j (omega arith)

  pub better : (sorts limit sort between : ℕ) → limit ≤ sorts → between < limit → Returns edges between sort → ((a : ℕ) → a < sort → NoneReturns edges limit a) → IsBest sorts between (sort + 1) (record { sort = sort; between = between })
  better sorts limit sort between few lt returns before = record { within = omega arith; few = omega arith; limit_is = refl; returns = returns; least = λ a less. before a less between lt }

  pub best-more : (sorts limit end : ℕ) (start : Start) → IsBest sorts limit end start → IsBest sorts limit (end + 1) start
  best-more sorts limit end start best = record { within = omega (arith, best.within); few = best.few; limit_is = best.limit_is; returns = best.returns; least = best.least }

  pub best-start : (sorts limit end : ℕ) (start : Start) → sorts ≤ end → end ≤ sorts → ((a : ℕ) → a < end → NoneReturns edges limit a) → IsBest sorts limit end start → IsStart edges sorts start
  best-start sorts limit end start le ge fewest best = record {
    within = omega (arith, best.within);
    few = best.few;
    returns = best.returns;
    fewest = λ a lt. subst (λ n. NoneReturns edges n a) (sym best.limit_is) (fewest a (omega arith));
    least = best.least;
  }

  pub best-kept : (sorts limit end : ℕ) (best : Option Start) → IfSome best (IsBest sorts limit end) → IfSome best (IsBest sorts limit (end + 1))
  best-kept sorts limit end None h = tt
  best-kept sorts limit end (Some start) h = best-more sorts limit end start h

  pub answer : (sorts limit end : ℕ) (best : Option Start) → sorts ≤ end → end ≤ sorts → ((a : ℕ) → a < end → NoneReturns edges limit a) → IfNone best (limit ≡ sorts) → IfSome best (IsBest sorts limit end) → MatchOption best ((a : ℕ) → a < sorts → NoneReturns edges sorts a) (IsStart edges sorts)
  answer sorts limit end None le ge fewest none some = λ a lt. subst (λ n. NoneReturns edges n a) none (fewest a (omega arith))
  answer sorts limit end (Some start) le ge fewest none some = best-start sorts limit end start le ge fewest some
