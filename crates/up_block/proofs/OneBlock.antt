-- A block of a cube has one answer.
use Rattle.std.proofs.Common.{◌≡◌, ℕ, ◌⊎◌, inl, inr, ◌<◌, ◌≤◌, List, [], ◌∷◌, ◌++◌, Option, refl, sym, ap, subst, ◌∙◌, arith}
use Rattle.std.specs.List.{All}
use Rattle.std.proofs.lemmas.List.Elements.{All-head, All-tail}
use Rattle.fo_core.specs.declared.query.Query.{Query}
use Rattle.fo_core.specs.declared.system.System.{System}
use Rattle.fo_core.specs.declared.world.World.{World}
use Rattle.fo_core.specs.Asked.{IsAsked}
use Rattle.fo_core.specs.Finds.{HasNoWorld, IsLight}
use Rattle.fo_core.specs.Queries.{IsQuery}
use Rattle.fo_core.specs.QueryWeight.{query_weight}
use Rattle.fo_core.specs.Sorted.{IsSystem}
use Rattle.fo_core.proofs.ListFacts.{all_left}
use Rattle.fo_least.proofs.OneLeast.{one_least}
use Rattle.fo_min.specs.declared.found.Excess.{Excess}
use Rattle.fo_min.specs.Found.{IsExcess}
use Rattle.fo_min.proofs.OneAnswer.{one-excess, excess-none, excess-least}
use Rattle.up_claims.specs.declared.kind.Kind.{Kind}
use Rattle.up_claims.specs.declared.kind.Kind.TheVariants.{Root, Before}
use Rattle.up_claims.specs.Blocked.{IsBlocked}
use Rattle.up_claims.specs.Frames.{IsFrame}
use Rattle.up_claims.specs.InferAsked.{HasTried, at_first, drops, keeps_for_root, keeps_for_step, IsBlockAsked, for_root, for_step, for_root_without, for_step_without, IsFirstAbove}
use Rattle.up_claims.specs.InferQueries.{root_query, before_query}
use Rattle.up_claims.proofs.BlockedLemmas.{blocked-by-queries}
use Rattle.up_claims.proofs.InferLemmas.{asks-root, asks-before}
use Rattle.up_claims.proofs.PassLemmas.{one-pass}
use Rattle.up_claims.proofs.PassWeights.{pass-light}
use Rattle.up_diagram.specs.declared.cube.Cube.{Cube}
use Rattle.up_diagram.specs.Cubes.{IsCube}
use Rattle.up_block.specs.declared.blocking.Blocking.{Blocking}
use Rattle.up_block.specs.declared.blocking.Blocking.TheVariants.{Blocked, Initial, Step, Over}
use Rattle.up_block.specs.Blocking.{IsBlocking}

module _ (sys : System) (limit : ℕ) (frame : Option (List Cube)) (cube : Cube) where
  abbrev root : Query
  root = root_query sys cube

  abbrev step : Query
  step = before_query sys frame cube

  abbrev Light : Query → Type 0
  Light = IsLight sys.sig limit

  -- both queries of the cube have no world and were asked in vain, where a pass goes on
  record IsPassed : Type 0 where
    no_root : HasNoWorld sys.sig root
    no_step : HasNoWorld sys.sig step
    root_light : Light root
    step_light : Light step

  passed : (asked : List Query) (k : ℕ) (rest : Cube) → HasTried sys frame cube asked k rest → All Light asked → IsPassed
  passed _ _ _ (at_first no_root no_step) light = record {
    no_root = no_root;
    no_step = no_step;
    root_light = All-head Light root (step ∷ []) light;
    step_light = All-head Light step [] (All-tail Light root (step ∷ []) light);
  }
  passed _ _ _ (drops asked k rest tried _ _ _) light = passed asked k rest tried (all_left Light asked _ light)
  passed _ _ _ (keeps_for_root asked k rest tried _ _) light = passed asked k rest tried (all_left Light asked _ light)
  passed _ _ _ (keeps_for_step asked k rest tried _ _ _) light = passed asked k rest tried (all_left Light asked _ light)

  -- a query that is above the limit is one of a search for the least world of one of the cube's two queries
  record IsRootExcess (what : Kind) (x : Excess) : Type 0 where
    kind : what ≡ Root
    excess : IsExcess sys.sig root limit x

  record IsStepExcess (what : Kind) (x : Excess) : Type 0 where
    kind : what ≡ Before
    no_root : HasNoWorld sys.sig root
    root_light : Light root
    excess : IsExcess sys.sig step limit x

  light_all : (p : IsPassed) (asked : List Query) (what : Kind) (q : Query) → IsBlockAsked sys frame cube asked what q → Light q
  light_all p = pass-light sys limit frame cube p.no_root p.no_step p.root_light p.step_light

  excess-of : (what : Kind) (x : Excess) → IsBlocking sys limit frame cube (Over what x) → IsRootExcess what x ⊎ IsStepExcess what x
  excess-of what x e = from e.before what x.query e.asked e.light e.weighs
    where
      from : (asked : List Query) (kind : Kind) (q : Query) → IsBlockAsked sys frame cube asked kind q → All Light asked → x.weight ≡ query_weight sys.sig q →
          IsRootExcess kind (record { weight = x.weight; query = q }) ⊎ IsStepExcess kind (record { weight = x.weight; query = q })
      from _ _ _ (for_root asked q is) light weight = inl (record {
        kind = refl;
        excess = record { before = asked; asked = is; light = light; weight = weight; above = e.above };
      })
      from _ _ _ (for_step asked q no_root is) light weight = inr (record {
        kind = refl;
        no_root = no_root;
        root_light = All-head Light root asked light;
        excess = record { before = asked; asked = is; light = All-tail Light root asked light; weight = weight; above = e.above };
      })
      from before kind q (for_root_without asked k rest tried lt) light weight =
          let here : Light q = light_all (passed asked k rest tried light) before kind q (for_root_without asked k rest tried lt) in
          absurd (omega (arith, here, weight, e.above))
      from before kind q (for_step_without asked k rest tried lt none) light weight =
          let here : Light q = light_all (passed asked k rest tried (all_left Light asked _ light)) before kind q (for_step_without asked k rest tried lt none) in
          absurd (omega (arith, here, weight, e.above))

  module _ (is : IsSystem sys) (framed : IsFrame sys.sig frame) (known : IsCube sys.sig cube) where
    no-worlds : IsBlocked sys frame cube → HasNoWorld sys.sig root × HasNoWorld sys.sig step
    no-worlds b = (blocked-by-queries sys is frame cube framed known).0 b

    -- where there is an answer, no query of it is above the limit
    none_of_blocked : (rest : Cube) (what : Kind) (x : Excess) → IsBlocking sys limit frame cube (Blocked rest) → ¬ IsBlocking sys limit frame cube (Over what x)
    none_of_blocked rest what x h e =
        let here : Light x.query = h.light e.before what x.query e.asked in
        omega (arith, here, e.weighs, e.above)

    none_of_initial : (w : World) (what : Kind) (x : Excess) → IsBlocking sys limit frame cube (Initial w) → ¬ IsBlocking sys limit frame cube (Over what x)
    none_of_initial w what x h e = by_case (excess-of what x e)
      where
        by_case : IsRootExcess what x ⊎ IsStepExcess what x → ⊥
        by_case (inl r) = excess-least sys.sig root limit is.signature (asks-root sys cube is known).sorted x r.excess w h.least h.light
        by_case (inr r) = r.no_root w h.least.meets

    none_of_step : (w : World) (what : Kind) (x : Excess) → IsBlocking sys limit frame cube (Step w) → ¬ IsBlocking sys limit frame cube (Over what x)
    none_of_step w what x h e = by_case (excess-of what x e)
      where
        by_case : IsRootExcess what x ⊎ IsStepExcess what x → ⊥
        by_case (inl r) = excess-none sys.sig root limit x r.excess h.no_root h.root_light
        by_case (inr r) = excess-least sys.sig step limit is.signature (asks-before sys frame cube is framed known).sorted x r.excess w h.least h.light

    one_over : (what other : Kind) (x y : Excess) → IsBlocking sys limit frame cube (Over what x) → IsBlocking sys limit frame cube (Over other y) → Over what x ≡ Over other y
    one_over what other x y h g = by_cases (excess-of what x h) (excess-of other y g)
      where
        same : what ≡ other → x ≡ y → Over what x ≡ Over other y
        same k e = ap (λ (k : Kind). Over k x) k ∙ ap (Over other) e

        by_cases : IsRootExcess what x ⊎ IsStepExcess what x → IsRootExcess other y ⊎ IsStepExcess other y → Over what x ≡ Over other y
        by_cases (inl a) (inl b) = same (a.kind ∙ sym b.kind) (one-excess sys.sig root limit x y a.excess b.excess)
        by_cases (inl a) (inr b) = absurd (excess-none sys.sig root limit x a.excess b.no_root b.root_light)
        by_cases (inr a) (inl b) = absurd (excess-none sys.sig root limit y b.excess a.no_root a.root_light)
        by_cases (inr a) (inr b) = same (a.kind ∙ sym b.kind) (one-excess sys.sig step limit x y a.excess b.excess)

    pub one-answer : (a b : Blocking) → IsBlocking sys limit frame cube a → IsBlocking sys limit frame cube b → a ≡ b
    one-answer (Blocked rest) (Blocked other) h g = ap Blocked (one-pass (IsBlocked sys frame) cube rest other h.pass g.pass)
    one-answer (Blocked rest) (Initial w) h g = absurd ((no-worlds h.blocked).0 w g.least.meets)
    one-answer (Blocked rest) (Step w) h g = absurd ((no-worlds h.blocked).1 w g.least.meets)
    one-answer (Blocked rest) (Over what x) h g = absurd (none_of_blocked rest what x h g)
    one-answer (Initial w) (Blocked rest) h g = absurd ((no-worlds g.blocked).0 w h.least.meets)
    one-answer (Initial v) (Initial w) h g = ap Initial (one_least sys.sig root v w h.least g.least)
    one-answer (Initial v) (Step w) h g = absurd (g.no_root v h.least.meets)
    one-answer (Initial v) (Over what x) h g = absurd (none_of_initial v what x h g)
    one-answer (Step w) (Blocked rest) h g = absurd ((no-worlds g.blocked).1 w h.least.meets)
    one-answer (Step v) (Initial w) h g = absurd (h.no_root w g.least.meets)
    one-answer (Step v) (Step w) h g = ap Step (one_least sys.sig step v w h.least g.least)
    one-answer (Step v) (Over what x) h g = absurd (none_of_step v what x h g)
    one-answer (Over what x) (Blocked rest) h g = absurd (none_of_blocked rest what x g h)
    one-answer (Over what x) (Initial w) h g = absurd (none_of_initial w what x g h)
    one-answer (Over what x) (Step w) h g = absurd (none_of_step w what x g h)
    one-answer (Over what x) (Over other y) h g = one_over what other x y h g
