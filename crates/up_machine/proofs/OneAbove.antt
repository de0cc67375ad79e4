-- Of the queries of a job at most one is the first that is above the limit.
use Rattle.std.proofs.Common.{◌≡◌, ℕ, ◌⊎◌, inl, inr, ◌<◌, List, [], ◌∷◌, Option, Some, refl, sym, subst, ◌∙◌, arith}
use Rattle.std.specs.List.{All, range_with_len}
use Rattle.std.proofs.lemmas.Bool.{cases_order}
use Rattle.std.proofs.lemmas.List.Elements.{All-head, All-tail}
use Rattle.fo_core.specs.declared.query.Query.{Query}
use Rattle.fo_core.specs.declared.system.System.{System}
use Rattle.fo_core.specs.Finds.{HasNoWorld, IsLight}
use Rattle.fo_core.specs.QueryWeight.{query_weight}
use Rattle.fo_core.proofs.ListFacts.{all_left, all_right, all_map, range_all}
use Rattle.fo_min.specs.declared.found.Excess.{Excess}
use Rattle.fo_min.specs.Found.{IsExcess}
use Rattle.fo_min.proofs.OneAnswer.{one-excess, excess-none}
use Rattle.up_diagram.specs.declared.cube.Cube.{Cube}
use Rattle.up_claims.specs.declared.kind.Kind.{Kind}
use Rattle.up_claims.specs.declared.kind.Kind.TheVariants.{Seed, Root, Before, Push, Unroll}
use Rattle.up_claims.specs.InferAsked.{Asking, IsLookAsked, for_seed, HasTried, at_first, drops, keeps_for_root, keeps_for_step, IsBlockAsked, for_root, for_step, for_root_without, for_step_without, IsPushAsked, for_push, IsUnrollAsked, for_run, IsFirstAbove}
use Rattle.up_claims.specs.InferQueries.{seed_query, root_query, before_query}
use Rattle.up_claims.specs.RunQueries.{run_query, run_queries, HasNoRunOf}
use Rattle.up_claims.proofs.PassWeights.{pass-light}
use Rattle.up_claims.proofs.UnrollLemmas.{meaning-unroll}
use Rattle.up_machine.specs.Machine.{Given, Work, Look, Trace}
use Rattle.up_machine.specs.Machine.{Push as PushOf}
use Rattle.up_machine.specs.Finding.{state_cube, state_cubes, asked_by}

module _ (sys : System) (limit : ℕ) where
  abbrev Light : Query → Type 0
  Light = IsLight sys.sig limit

  -- a search for the least world of this query, for this, has a first query that is above the limit
  pub record IsSearchExcess (of : Query) (wanted what : Kind) (x : Excess) : Type 0 where
    pub kind : what ≡ wanted
    pub excess : IsExcess sys.sig of limit x

  search_one : (of : Query) (wanted what other : Kind) (x y : Excess) → IsSearchExcess of wanted what x → IsSearchExcess of wanted other y → (what ≡ other) × (x ≡ y)
  search_one of wanted what other x y a b = (a.kind ∙ sym b.kind, one-excess sys.sig of limit x y a.excess b.excess)

  abbrev Above : Asking → Kind → Excess → Type 0
  Above Asked what x = IsFirstAbove sys.sig Asked limit what x.query x.weight

  -- of a look
  look_above : (cubes avoid : List Cube) (what : Kind) (x : Excess) → Above (IsLookAsked sys cubes avoid) what x → IsSearchExcess (seed_query sys cubes avoid) Seed what x
  look_above cubes avoid what x e = from e.before what x.query e.asked e.light e.weighs
    where
      from : (asked : List Query) (kind : Kind) (q : Query) → IsLookAsked sys cubes avoid asked kind q → All Light asked → x.weight ≡ query_weight sys.sig q →
          IsSearchExcess (seed_query sys cubes avoid) Seed kind (record { weight = x.weight; query = q })
      from _ _ _ (for_seed asked q is) light weight = record {
        kind = refl;
        excess = record { before = asked; asked = is; light = light; weight = weight; above = e.above };
      }

  -- of a push
  push_above : (cubes : List Cube) (cube : Cube) (what : Kind) (x : Excess) → Above (IsPushAsked sys cubes cube) what x → IsSearchExcess (before_query sys (Some cubes) cube) Push what x
  push_above cubes cube what x e = from e.before what x.query e.asked e.light e.weighs
    where
      from : (asked : List Query) (kind : Kind) (q : Query) → IsPushAsked sys cubes cube asked kind q → All Light asked → x.weight ≡ query_weight sys.sig q →
          IsSearchExcess (before_query sys (Some cubes) cube) Push kind (record { weight = x.weight; query = q })
      from _ _ _ (for_push asked q is) light weight = record {
        kind = refl;
        excess = record { before = asked; asked = is; light = light; weight = weight; above = e.above };
      }

  -- of a trace: in the search for a run of this length, none being shorter
  pub record IsRunExcess (what : Kind) (x : Excess) : Type 0 where
    pub length : ℕ
    pub shorter : (j : ℕ) → j < length → HasNoRunOf sys j
    pub light : All Light (run_queries sys length)
    pub search : IsSearchExcess (run_query sys length) Unroll what x

  run_above : (steps : ℕ) (what : Kind) (x : Excess) → Above (IsUnrollAsked sys steps) what x → IsRunExcess what x
  run_above steps what x e = from e.before what x.query e.asked e.light e.weighs
    where
      from : (asked : List Query) (kind : Kind) (q : Query) → IsUnrollAsked sys steps asked kind q → All Light asked → x.weight ≡ query_weight sys.sig q →
          IsRunExcess kind (record { weight = x.weight; query = q })
      from _ _ _ (for_run k asked q le shorter is) light weight = record {
        length = k;
        shorter = shorter;
        light = all_left Light (run_queries sys k) asked light;
        search = record {
          kind = refl;
          excess = record { before = asked; asked = is; light = all_right Light (run_queries sys k) asked light; weight = weight; above = e.above };
        };
      }

  light_at : (k j : ℕ) → j < k → All Light (run_queries sys k) → Light (run_query sys j)
  light_at k j lt all = range_all (λ n. Light (run_query sys n)) k (all_map Light (run_query sys) (range_with_len 0 k) all) j lt

  no_world : (k : ℕ) → HasNoRunOf sys k → HasNoWorld sys.sig (run_query sys k)
  no_world k none w meets = none w ((meaning-unroll sys k (run_query sys k) refl refl w).0 meets)

  -- a query without a world that is light has no excess, so no later one is looked for in its search
  run_one : (what other : Kind) (x y : Excess) → IsRunExcess what x → IsRunExcess other y → (what ≡ other) × (x ≡ y)
  run_one what other x y a b = by_order (cases_order a.length b.length)
    where
      clash : (u v : Excess) (k l : Kind) (p : IsRunExcess k u) (q : IsRunExcess l v) → p.length < q.length → ⊥
      clash u v k l p q lt = excess-none sys.sig (run_query sys p.length) limit u p.search.excess (no_world p.length (q.shorter p.length lt)) (light_at q.length p.length lt q.light)

      by_order : (a.length ≡ b.length) ⊎ ((a.length < b.length) ⊎ (b.length < a.length)) → (what ≡ other) × (x ≡ y)
      by_order (inl same) = search_one (run_query sys b.length) Unroll what other x y (subst (λ n. IsSearchExcess (run_query sys n) Unroll what x) same a.search) b.search
      by_order (inr (inl lt)) = absurd (clash x y what other a b lt)
      by_order (inr (inr lt)) = absurd (clash y x other what b a lt)

  -- of a work
  module _ (below : Option (List Cube)) (cube : Cube) where
    abbrev root : Query
    root = root_query sys cube

    abbrev step : Query
    step = before_query sys below cube

    -- both queries of the cube have no world and are light, where a pass goes on
    record IsPassed : Type 0 where
      no_root : HasNoWorld sys.sig root
      no_step : HasNoWorld sys.sig step
      root_light : Light root
      step_light : Light step

    passed : (asked : List Query) (k : ℕ) (rest : Cube) → HasTried sys below cube asked k rest → All Light asked → IsPassed
    passed _ _ _ (at_first no_root no_step) light = record {
      no_root = no_root;
      no_step = no_step;
      root_light = All-head Light root (step ∷ []) light;
      step_light = All-head Light step [] (All-tail Light root (step ∷ []) light);
    }
    passed _ _ _ (drops asked k rest tried _ _ _) light = passed asked k rest tried (all_left Light asked _ light)
    passed _ _ _ (keeps_for_root asked k rest tried _ _) light = passed asked k rest tried (all_left Light asked _ light)
    passed _ _ _ (keeps_for_step asked k rest tried _ _ _) light = passed asked k rest tried (all_left Light asked _ light)

    pub record IsStepExcess (what : Kind) (x : Excess) : Type 0 where
      pub no_root : HasNoWorld sys.sig root
      pub root_light : Light root
      pub search : IsSearchExcess step Before what x

    light_all : (p : IsPassed) (asked : List Query) (what : Kind) (q : Query) → IsBlockAsked sys below cube asked what q → Light q
    light_all p = pass-light sys limit below cube p.no_root p.no_step p.root_light p.step_light

    block_above : (what : Kind) (x : Excess) → Above (IsBlockAsked sys below cube) what x → IsSearchExcess root Root what x ⊎ IsStepExcess what x
    block_above what x e = from e.before what x.query e.asked e.light e.weighs
      where
        from : (asked : List Query) (kind : Kind) (q : Query) → IsBlockAsked sys below cube asked kind q → All Light asked → x.weight ≡ query_weight sys.sig q →
            IsSearchExcess root Root kind (record { weight = x.weight; query = q }) ⊎ IsStepExcess kind (record { weight = x.weight; query = q })
        from _ _ _ (for_root asked q is) light weight = inl (record {
          kind = refl;
          excess = record { before = asked; asked = is; light = light; weight = weight; above = e.above };
        })
        from _ _ _ (for_step asked q no_root is) light weight = inr (record {
          no_root = no_root;
          root_light = All-head Light root asked light;
          search = record {
            kind = refl;
            excess = record { before = asked; asked = is; light = All-tail Light root asked light; weight = weight; above = e.above };
          };
        })
        from before kind q (for_root_without asked k rest tried lt) light weight =
            let here : Light q = light_all (passed asked k rest tried light) before kind q (for_root_without asked k rest tried lt) in
            absurd (omega (arith, here, weight, e.above))
        from before kind q (for_step_without asked k rest tried lt none) light weight =
            let here : Light q = light_all (passed asked k rest tried (all_left Light asked _ light)) before kind q (for_step_without asked k rest tried lt none) in
            absurd (omega (arith, here, weight, e.above))

    block_one : (what other : Kind) (x y : Excess) → Above (IsBlockAsked sys below cube) what x → Above (IsBlockAsked sys below cube) other y → (what ≡ other) × (x ≡ y)
    block_one what other x y h g = by_cases (block_above what x h) (block_above other y g)
      where
        by_cases : IsSearchExcess root Root what x ⊎ IsStepExcess what x → IsSearchExcess root Root other y ⊎ IsStepExcess other y → (what ≡ other) × (x ≡ y)
        by_cases (inl a) (inl b) = search_one root Root what other x y a b
        by_cases (inl a) (inr b) = absurd (excess-none sys.sig root limit x a.excess b.no_root b.root_light)
        by_cases (inr a) (inl b) = absurd (excess-none sys.sig root limit y b.excess a.no_root a.root_light)
        by_cases (inr a) (inr b) = search_one step Before what other x y a.search b.search

  pub above_one : (given : Given) (what other : Kind) (x y : Excess) → Above (asked_by sys given) what x → Above (asked_by sys given) other y → (what ≡ other) × (x ≡ y)
  above_one (Work k level below world) what other x y h g = block_one below (state_cube sys.sig world) what other x y h g
  above_one (Look level cubes avoid done) what other x y h g =
      let apart = state_cubes sys.sig avoid in
      search_one (seed_query sys cubes apart) Seed what other x y (look_above cubes apart what x h) (look_above cubes apart other y g)
  above_one (PushOf k level cubes cube) what other x y h g = search_one (before_query sys (Some cubes) cube) Push what other x y (push_above cubes cube what x h) (push_above cubes cube other y g)
  above_one (Trace k steps) what other x y h g = run_one what other x y (run_above steps what x h) (run_above steps other y g)
