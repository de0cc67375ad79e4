-- The first query above the limit, of a search for a violating run.
use Rattle.std.proofs.Common.{◌≡◌, ℕ, ◌<◌, ◌≤◌, List, ◌++◌, refl, sym, subst}
use Rattle.std.specs.List.{All}
use Rattle.std.proofs.lemmas.List.Elements.{All-append}
use Rattle.fo_core.specs.declared.query.Query.{Query}
use Rattle.fo_core.specs.declared.system.System.{System}
use Rattle.fo_core.specs.Asked.{IsAsked}
use Rattle.fo_core.specs.Finds.{IsLight}
use Rattle.fo_core.proofs.ListFacts.{all_left, all_right}
use Rattle.fo_min.specs.declared.found.Excess.{Excess}
use Rattle.up_claims.specs.declared.kind.Kind.{Kind}
use Rattle.up_claims.specs.declared.kind.Kind.TheVariants.{Unroll}
use Rattle.up_claims.specs.InferAsked.{IsUnrollAsked, for_run, IsFirstAbove}
use Rattle.up_claims.specs.RunQueries.{run_query, run_queries, HasNoRunOf}
use Rattle.up_unroll.specs.Unrolling.{IsUnrollExcess}

module _ (sys : System) (limit steps : ℕ) where
  abbrev Light : Query → Type 0
  Light = IsLight sys.sig limit

  -- the query is asked for runs of some length, after light ones
  record IsAskedFor (q : Query) : Type 0 where
    length : ℕ
    within : length ≤ steps
    shorter : (j : ℕ) → j < length → HasNoRunOf sys j
    shorter_light : All Light (run_queries sys length)
    before : List Query
    asked : IsAsked sys.sig (run_query sys length) before q
    light : All Light before

  asked_for : (before : List Query) (what : Kind) (q : Query) → IsUnrollAsked sys steps before what q → All Light before → IsAskedFor q
  asked_for _ _ _ (for_run k before q within shorter asked) light = record {
    length = k;
    within = within;
    shorter = shorter;
    shorter_light = all_left Light (run_queries sys k) before light;
    before = before;
    asked = asked;
    light = all_right Light (run_queries sys k) before light;
  }

  kind_of : (before : List Query) (what : Kind) (q : Query) → IsUnrollAsked sys steps before what q → what ≡ Unroll
  kind_of _ _ _ (for_run k before q within shorter asked) = refl

  pub kind-of : (what : Kind) (x : Excess) → IsFirstAbove sys.sig (IsUnrollAsked sys steps) limit what x.query x.weight → what ≡ Unroll
  kind-of what x e = kind_of e.before what x.query e.asked

  pub excess-of : (what : Kind) (x : Excess) → IsFirstAbove sys.sig (IsUnrollAsked sys steps) limit what x.query x.weight → IsUnrollExcess sys limit steps x
  excess-of what x e =
      let a = asked_for e.before what x.query e.asked e.light in
      record {
        length = a.length;
        within = a.within;
        shorter = a.shorter;
        light = a.shorter_light;
        excess = record { before = a.before; asked = a.asked; light = a.light; weight = e.weighs; above = e.above };
      }

  above-of : (x : Excess) → IsUnrollExcess sys limit steps x → IsFirstAbove sys.sig (IsUnrollAsked sys steps) limit Unroll x.query x.weight
  above-of x e = record {
    before = run_queries sys e.length ++ e.excess.before;
    asked = for_run e.length e.excess.before x.query e.within e.shorter e.excess.asked;
    light = All-append Light (run_queries sys e.length) e.excess.before e.light e.excess.light;
    weighs = e.excess.weight;
    above = e.excess.above;
  }

  pub first-above : (what : Kind) (x : Excess) → what ≡ Unroll → IsUnrollExcess sys limit steps x → IsFirstAbove sys.sig (IsUnrollAsked sys steps) limit what x.query x.weight
  first-above what x same e =
      subst (λ (k : Kind). IsFirstAbove sys.sig (IsUnrollAsked sys steps) limit k x.query x.weight) (sym same) (above-of x e)
