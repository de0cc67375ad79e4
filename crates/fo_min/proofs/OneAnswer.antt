-- A search for the least world has one answer.
use Rattle.std.proofs.Common.{◌≡◌, ℕ, inl, inr, ◌≤◌, List, [], ◌∷◌, ◌++◌, refl, sym, ap, subst, ◌∙◌, arith}
use Rattle.std.specs.List.{All}
use Rattle.std.proofs.lemmas.List.Elements.{All-head, All-tail}
use Rattle.fo_core.specs.declared.query.Query.{Query}
use Rattle.fo_core.specs.declared.signature.Sig.{Sig}
use Rattle.fo_core.specs.declared.world.World.{World}
use Rattle.fo_core.specs.Finds.{IsLight, HasNoWorld}
use Rattle.fo_core.specs.Queries.{IsQuery}
use Rattle.fo_core.specs.QueryWeight.{query_weight}
use Rattle.fo_core.specs.Sorted.{IsSig}
use Rattle.fo_core.specs.Asked.{IsAsked, at_first, for_size, for_value, least_queries}
use Rattle.fo_core.specs.Least.{IsLeast}
use Rattle.fo_least.proofs.AskedInTurn.{InTurn, in-turn}
use Rattle.fo_least.proofs.Beginnings.{Leads}
use Rattle.fo_least.proofs.Determined.{asked_leads}
use Rattle.fo_least.proofs.OneLeast.{one_least}
use Rattle.fo_min.specs.declared.found.Excess.{Excess}
use Rattle.fo_min.specs.declared.found.Least.{Least}
use Rattle.fo_min.specs.declared.found.Least.TheVariants.{Model, Nothing, Over}
use Rattle.fo_min.specs.Found.{IsExcess, IsFoundLeast}

all-middle : {X : Type 0} (P : X → Type 0) (before : List X) (x : X) (after : List X) → All P (before ++ x ∷ after) → P x
all-middle P [] x after h = All-head P x after h
all-middle P (y ∷ before) x after h = all-middle P before x after (All-tail P y (before ++ x ∷ after) h)

module _ (sig : Sig) (q : Query) (limit : ℕ) where
  -- a query above the limit isn't among light ones
  not-among : (x : Excess) (before queries : List Query) → IsExcess sig q limit x → Leads before x.query queries → ¬ All (IsLight sig limit) queries
  not-among x before queries e leads light =
      let here : query_weight sig x.query ≤ limit = all-middle (IsLight sig limit) before x.query leads.0 (subst (All (IsLight sig limit)) (sym leads.1) light) in
      omega (arith, here, e.above, e.weight)

  pub one-excess : (x y : Excess) → IsExcess sig q limit x → IsExcess sig q limit y → x ≡ y
  one-excess x y a b = by_turn (in-turn sig q a.before b.before x.query y.query a.asked b.asked)
    where
      by_turn : InTurn a.before x.query b.before y.query → x ≡ y
      by_turn (inl (_, same)) =
          let weights : x.weight ≡ y.weight = a.weight ∙ ap (query_weight sig) same ∙ sym b.weight in
          let of_weight : ℕ → Excess = λ n. record { weight = n; query = x.query } in
          let of_query : Query → Excess = λ p. record { weight = y.weight; query = p } in
          ap of_weight weights ∙ ap of_query same
      by_turn (inr (inl leads)) = absurd (not-among x a.before b.before a leads b.light)
      by_turn (inr (inr leads)) = absurd (not-among y b.before a.before b leads a.light)

  -- where no world meets the query, it is the only one that is asked
  asked-alone : (before : List Query) (p : Query) → IsAsked sig q before p → HasNoWorld sig q → p ≡ q
  asked-alone _ _ at_first none = refl
  asked-alone _ _ (for_size sizes n has _ _ _) none = absurd (none has.0 has.1)
  asked-alone _ _ (for_value sizes values v has _ _ _ _ _ _) none = absurd (none has.0 has.1)

  -- so none is above the limit, if it isn't
  pub excess-none : (x : Excess) → IsExcess sig q limit x → HasNoWorld sig q → IsLight sig limit q → ⊥
  excess-none x e none light =
      let here : query_weight sig x.query ≤ limit = subst (IsLight sig limit) (sym (asked-alone e.before x.query e.asked none)) light in
      omega (arith, here, e.above, e.weight)

  -- nor is one of a search that ends with the least world, where those of this world aren't
  pub excess-least : IsSig sig → IsQuery sig q → (x : Excess) → IsExcess sig q limit x → (w : World) → IsLeast sig q w → All (IsLight sig limit) (least_queries sig q w) → ⊥
  excess-least is sorted x e w least light = not-among x e.before (least_queries sig q w) e (asked_leads sig q e.before x.query w is sorted e.asked least) light

  pub one-answer : IsSig sig → IsQuery sig q → (a b : Least) → IsFoundLeast sig q limit a → IsFoundLeast sig q limit b → a ≡ b
  one-answer is sorted (Model v) (Model w) h g = ap Model (one_least sig q v w h.0 g.0)
  one-answer is sorted (Model v) Nothing h g = absurd (g.0 v h.0.meets)
  one-answer is sorted (Model v) (Over y) h g = absurd (excess-least is sorted y g v h.0 h.1)
  one-answer is sorted Nothing (Model w) h g = absurd (h.0 w g.0.meets)
  one-answer is sorted Nothing Nothing h g = refl
  one-answer is sorted Nothing (Over y) h g = absurd (excess-none y g h.0 h.1)
  one-answer is sorted (Over x) (Model w) h g = absurd (excess-least is sorted x h w g.0 g.1)
  one-answer is sorted (Over x) Nothing h g = absurd (excess-none x h g.0 g.1)
  one-answer is sorted (Over x) (Over y) h g = ap Over (one-excess x y h g)
