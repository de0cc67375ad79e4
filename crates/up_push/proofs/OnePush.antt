-- What the answers to a push say, and that it has one.
use Rattle.std.proofs.Common.{◌≡◌, ℕ, List, Some, refl, sym, ap, ◌∙◌}
use Rattle.std.specs.List.{All}
use Rattle.fo_core.specs.declared.query.Query.{Query}
use Rattle.fo_core.specs.declared.system.System.{System}
use Rattle.fo_core.specs.declared.world.World.{World}
use Rattle.fo_core.specs.Asked.{IsAsked}
use Rattle.fo_core.specs.Queries.{IsQuery}
use Rattle.fo_core.specs.Sorted.{IsSystem}
use Rattle.fo_least.proofs.OneLeast.{one_least}
use Rattle.fo_min.specs.declared.found.Excess.{Excess}
use Rattle.fo_min.specs.Found.{IsExcess}
use Rattle.fo_min.proofs.OneAnswer.{one-excess, excess-none, excess-least}
use Rattle.up_claims.specs.declared.kind.Kind.{Kind}
use Rattle.up_claims.specs.declared.kind.Kind.TheVariants.{Push}
use Rattle.up_claims.specs.InferAsked.{IsPushAsked, for_push, IsFirstAbove}
use Rattle.up_claims.specs.InferQueries.{before_query}
use Rattle.up_claims.proofs.InferLemmas.{asks-before}
use Rattle.up_diagram.specs.declared.cube.Cube.{Cube}
use Rattle.up_diagram.specs.Cubes.{IsCube}
use Rattle.up_push.specs.declared.pushing.Pushing.{Pushing}
use Rattle.up_push.specs.declared.pushing.Pushing.TheVariants.{Holds, Fails, Over}
use Rattle.up_push.specs.Pushing.{IsPushing}

module _ (sys : System) (limit : ℕ) (frame : List Cube) (cube : Cube) where
  abbrev step : Query
  step = before_query sys (Some frame) cube

  pub push-excess : (x : Excess) → IsExcess sys.sig step limit x → IsPushing sys limit frame cube (Over Push x)
  push-excess x e = record {
    before = e.before;
    asked = for_push e.before x.query e.asked;
    light = e.light;
    weighs = e.weight;
    above = e.above;
  }

  asked_for : (before : List Query) (what : Kind) (q : Query) → IsPushAsked sys frame cube before what q → (what ≡ Push) × IsAsked sys.sig step before q
  asked_for _ _ _ (for_push before q is) = (refl, is)

  kind-of : (what : Kind) (x : Excess) → IsPushing sys limit frame cube (Over what x) → what ≡ Push
  kind-of what x e = (asked_for e.before what x.query e.asked).0

  excess-of : (what : Kind) (x : Excess) → IsPushing sys limit frame cube (Over what x) → IsExcess sys.sig step limit x
  excess-of what x e = record {
    before = e.before;
    asked = (asked_for e.before what x.query e.asked).1;
    light = e.light;
    weight = e.weighs;
    above = e.above;
  }

  module _ (is : IsSystem sys) (framed : All (IsCube sys.sig) frame) (known : IsCube sys.sig cube) where
    sorted : IsQuery sys.sig step
    sorted = (asks-before sys (Some frame) cube is framed known).sorted

    -- where there is a least step, no query is above the limit
    no_excess : (v : World) (what : Kind) (x : Excess) → IsPushing sys limit frame cube (Fails v) → ¬ IsPushing sys limit frame cube (Over what x)
    no_excess v what x h g = excess-least sys.sig step limit is.signature sorted x (excess-of what x g) v h.least h.light

    pub one-answer : (a b : Pushing) → IsPushing sys limit frame cube a → IsPushing sys limit frame cube b → a ≡ b
    one-answer Holds Holds h g = refl
    one-answer Holds (Fails w) h g = absurd (h.none w g.least.meets)
    one-answer Holds (Over what y) h g = absurd (excess-none sys.sig step limit y (excess-of what y g) h.none h.light)
    one-answer (Fails v) Holds h g = absurd (g.none v h.least.meets)
    one-answer (Fails v) (Fails w) h g = ap Fails (one_least sys.sig step v w h.least g.least)
    one-answer (Fails v) (Over what y) h g = absurd (no_excess v what y h g)
    one-answer (Over what x) Holds h g = absurd (excess-none sys.sig step limit x (excess-of what x h) g.none g.light)
    one-answer (Over what x) (Fails w) h g = absurd (no_excess w what x g h)
    one-answer (Over what x) (Over other y) h g =
        ap (λ (k : Kind). Over k x) (kind-of what x h ∙ sym (kind-of other y g))
        ∙ ap (Over other) (one-excess sys.sig step limit x y (excess-of what x h) (excess-of other y g))
