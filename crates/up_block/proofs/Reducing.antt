-- What the answers to a cube's two queries say of its block, and what a pass leaves where both have no world.
use Rattle.std.proofs.Common.{◌≡◌, ◌↔◌, ℕ, suc, ◌<◌, ◌≤◌, List, [], ◌∷◌, ◌++◌, Option, length, refl, sym, ap, subst, ◌∙◌, arith}
use Rattle.std.specs.List.{All}
use Rattle.std.proofs.lemmas.List.Elements.{All-nil, All-cons}
use Rattle.fo_core.specs.declared.formula.Formula.{Formula}
use Rattle.fo_core.specs.declared.order.Order.{Order}
use Rattle.fo_core.specs.declared.query.Query.{Query}
use Rattle.fo_core.specs.declared.signature.Sig.{Sig}
use Rattle.fo_core.specs.declared.system.System.{System}
use Rattle.fo_core.specs.declared.world.World.{World}
use Rattle.fo_core.specs.Finds.{CanSearch, HasNoWorld, IsLight}
use Rattle.fo_core.specs.Queries.{MeetsQuery}
use Rattle.fo_min.specs.declared.found.Excess.{Excess}
use Rattle.fo_min.specs.declared.found.Least.TheVariants.{Model, Nothing, Over as TooHeavy}
use Rattle.fo_min.specs.Found.{IsFoundLeast}
use Rattle.up_claims.specs.declared.kind.Kind.TheVariants.{Root, Before}
use Rattle.up_claims.specs.Blocked.{IsBlocked, Passes, ends, drops, keeps}
use Rattle.up_claims.specs.Claims.{at_copy, states_below}
use Rattle.up_claims.specs.Frames.{IsFrame}
use Rattle.up_claims.specs.InferAsked.{for_root, for_step}
use Rattle.up_claims.specs.InferQueries.{root_query, before_query}
use Rattle.up_claims.specs.InferSaid.{AsksFor}
use Rattle.up_claims.specs.Inferring.{CanInfer}
use Rattle.up_claims.proofs.BlockedLemmas.{blocked-by-queries}
use Rattle.up_claims.proofs.InferLemmas.{asks-root, asks-before}
use Rattle.up_claims.proofs.PassWeights.{step_base, before-is, pass-light}
use Rattle.up_diagram.specs.declared.cube.Cube.{Cube}
use Rattle.up_diagram.specs.Claims.{claim}
use Rattle.up_diagram.specs.Cubes.{IsCube, without}
use Rattle.up_block.specs.declared.blocking.Blocking.TheVariants.{Blocked, Initial, Step, Over}
use Rattle.up_block.specs.declared.passing.Pass.{Pass}
use Rattle.up_block.specs.declared.question.Question.{Question}
use Rattle.up_block.specs.Blocking.{IsBlocking, IsReduced}
use Rattle.up_block.specs.Passing.{CanAsk, CanPass, HasNone, IsFirstPass}
use Rattle.up_block.specs.Questions.{query_for, IsFirst}
use Rattle.up_block.proofs.WithoutSorted.{without-sorted}

module _ (sys : System) (limit : ℕ) (frame : Option (List Cube)) (cube : Cube) where
  abbrev root : Query
  root = root_query sys cube

  abbrev step : Query
  step = before_query sys frame cube

  pub root-found : (q : Query) (w : World) → q ≡ root → IsFoundLeast sys.sig q limit (Model w) → IsBlocking sys limit frame cube (Initial w)
  root-found q w is found =
      let f = subst (λ p. IsFoundLeast sys.sig p limit (Model w)) is found in
      record { least = f.0; light = f.1 }

  pub root-over : (q : Query) (x : Excess) → q ≡ root → IsFoundLeast sys.sig q limit (TooHeavy x) → IsBlocking sys limit frame cube (Over Root x)
  root-over q x is found =
      let e = subst (λ p. IsFoundLeast sys.sig p limit (TooHeavy x)) is found in
      record { before = e.before; asked = for_root e.before x.query e.asked; light = e.light; weighs = e.weight; above = e.above }

  pub none-found : (p q : Query) → p ≡ q → IsFoundLeast sys.sig p limit Nothing → IsFoundLeast sys.sig q limit Nothing
  none-found p q is found = subst (λ p. IsFoundLeast sys.sig p limit Nothing) is found

  pub step-found : (q : Query) (w : World) → q ≡ step → IsFoundLeast sys.sig root limit Nothing → IsFoundLeast sys.sig q limit (Model w) → IsBlocking sys limit frame cube (Step w)
  step-found q w is none found =
      let f = subst (λ p. IsFoundLeast sys.sig p limit (Model w)) is found in
      record { no_root = none.0; root_light = none.1; least = f.0; light = f.1 }

  pub step-over : (q : Query) (x : Excess) → q ≡ step → IsFoundLeast sys.sig root limit Nothing → IsFoundLeast sys.sig q limit (TooHeavy x) → IsBlocking sys limit frame cube (Over Before x)
  step-over q x is none found =
      let e = subst (λ p. IsFoundLeast sys.sig p limit (TooHeavy x)) is found in
      record {
        before = root ∷ e.before;
        asked = for_step e.before x.query none.0 e.asked;
        light = All-cons (IsLight sys.sig limit) root e.before none.1 e.light;
        weighs = e.weight;
        above = e.above;
      }

-- a first question asks each cube the query that it was made from
first-query : (sig : Sig) (q : Question) (query : Query) (k : ℕ) (base : List Formula) (f : Formula) → IsFirst query k q → query.claims ≡ base ++ f ∷ [] →
    (c : Cube) → query_for sig q c ≡ record { copies = query.copies; claims = base ++ claim sig c k ∷ [] }
first-query sig q query k base f first is c =
    let of_copies : ℕ → Query = λ n. record { copies = n; claims = q.query.claims ++ claim sig c q.copy ∷ [] } in
    let of_claims : List Formula → Query = λ fs. record { copies = query.copies; claims = fs ++ claim sig c q.copy ∷ [] } in
    let of_copy : ℕ → Query = λ n. record { copies = query.copies; claims = base ++ claim sig c n ∷ [] } in
    ap of_copies first.copies ∙ ap of_claims (first.claims base f is) ∙ ap of_copy first.about

-- a pass for one of two properties that agree on well-sorted cubes is one for the other
passes_as : (sig : Sig) (Good Other : Cube → Type 0) → ((c : Cube) → IsCube sig c → Good c ↔ Other c) →
    (k : ℕ) (cube rest : Cube) → IsCube sig cube → Passes Good k cube rest → Passes Other k cube rest
passes_as sig Good Other same k cube rest is (ends _ _ le) = ends k cube le
passes_as sig Good Other same k cube rest is (drops _ _ _ lt good p) =
    drops k cube rest lt ((same (without cube k) (without-sorted sig cube k is)).0 good)
    (passes_as sig Good Other same k (without cube k) rest (without-sorted sig cube k is) p)
passes_as sig Good Other same k cube rest is (keeps _ _ _ lt bad p) =
    keeps k cube rest lt (λ other. bad ((same (without cube k) (without-sorted sig cube k is)).1 other))
    (passes_as sig Good Other same (suc k) cube rest is p)

module _ (limit : ℕ) (frame : Option (List Cube)) (cube : Cube) (first second : Query) where
  -- the two queries of the cube were found to have no world
  pub record AreNone (sys : System) (order : Order) : Type 0 where
    pub infer : CanInfer sys order
    pub framed : IsFrame sys.sig frame
    pub known : IsCube sys.sig cube
    pub is_root : first ≡ root_query sys cube
    pub is_step : second ≡ before_query sys frame cube
    pub root_none : IsFoundLeast sys.sig first limit Nothing
    pub step_none : IsFoundLeast sys.sig second limit Nothing

  module _ (pass : Pass) (none : AreNone pass.sys.now pass.order.now) (made : IsFirstPass pass.sys.now pass.order.now first second cube pass) where
    abbrev sys : System
    sys = pass.sys.now

    abbrev order : Order
    order = pass.order.now

    root_asks : (c : Cube) → query_for sys.sig pass.root c ≡ root_query sys c
    root_asks c =
        first-query sys.sig pass.root first 0 (states_below sys 1 ++ at_copy sys.sig 0 sys.inits) (claim sys.sig cube 0) made.for_root
        (ap (λ (q : Query). q.claims) none.is_root) c
        ∙ (let of_copies : ℕ → Query = λ n. record { copies = n; claims = (root_query sys c).claims } in ap of_copies (ap (λ (q : Query). q.copies) none.is_root))

    step_asks : (c : Cube) → query_for sys.sig pass.before c ≡ before_query sys frame c
    step_asks c =
        first-query sys.sig pass.before second 1 (step_base sys frame) (claim sys.sig cube 1) made.for_step
        (ap (λ (q : Query). q.claims) none.is_step ∙ before-is sys frame cube) c
        ∙ (let of_copies : ℕ → Query = λ n. record { copies = n; claims = step_base sys frame ++ claim sys.sig c 1 ∷ [] } in ap of_copies (ap (λ (q : Query). q.copies) none.is_step))
        ∙ (let of_claims : List Formula → Query = λ fs. record { copies = 2; claims = fs } in ap of_claims (sym (before-is sys frame c)))

    can_search : (q : Query) (Asked : World → Type 0) → AsksFor sys q Asked → CanSearch sys order q
    can_search q Asked asks = record {
      sig = none.infer.system.signature;
      query = asks.sorted;
      rises = asks.rises order.numbers none.infer.rises;
    }

    root_none : IsFoundLeast sys.sig (root_query sys cube) limit Nothing
    root_none = none-found sys limit frame cube first (root_query sys cube) none.is_root none.root_none

    step_none : IsFoundLeast sys.sig (before_query sys frame cube) limit Nothing
    step_none = none-found sys limit frame cube second (before_query sys frame cube) none.is_step none.step_none

    ask_root : CanAsk sys order pass.root
    ask_root = record {
      question = record {
        copy =
            let copies : pass.root.query.copies ≡ 1 = made.for_root.copies ∙ ap (λ (q : Query). q.copies) none.is_root in
            let about : pass.root.copy ≡ 0 = made.for_root.about in
            omega (arith, copies, about);
        found = subst (All (MeetsQuery sys.sig pass.root.query)) (sym made.for_root.none) (All-nil (MeetsQuery sys.sig pass.root.query));
      };
      search = λ c is. subst (CanSearch sys order) (sym (root_asks c)) (can_search (root_query sys c) _ (asks-root sys c none.infer.system is));
    }

    ask_step : CanAsk sys order pass.before
    ask_step = record {
      question = record {
        copy =
            let copies : pass.before.query.copies ≡ 2 = made.for_step.copies ∙ ap (λ (q : Query). q.copies) none.is_step in
            let about : pass.before.copy ≡ 1 = made.for_step.about in
            omega (arith, copies, about);
        found = subst (All (MeetsQuery sys.sig pass.before.query)) (sym made.for_step.none) (All-nil (MeetsQuery sys.sig pass.before.query));
      };
      search = λ c is. subst (CanSearch sys order) (sym (step_asks c)) (can_search (before_query sys frame c) _ (asks-before sys frame c none.infer.system none.framed is));
    }

    pub can-pass : CanPass limit pass cube
    can-pass = record {
      sig = none.infer.system.signature;
      root = ask_root;
      before = ask_step;
      sorted = none.known;
      root_light = subst (IsLight sys.sig limit) (sym (root_asks cube)) root_none.1;
      before_light = subst (IsLight sys.sig limit) (sym (step_asks cube)) step_none.1;
      room = let e = made.room in omega (arith, e);
    }

    none_as_blocked : (c : Cube) → IsCube sys.sig c → HasNone pass c ↔ IsBlocked sys frame c
    none_as_blocked c is =
        let by = blocked-by-queries sys none.infer.system frame c none.framed is in (
          λ h. by.1 (subst (HasNoWorld sys.sig) (root_asks c) h.0, subst (HasNoWorld sys.sig) (step_asks c) h.1),
          λ b. (subst (HasNoWorld sys.sig) (sym (root_asks c)) (by.0 b).0, subst (HasNoWorld sys.sig) (sym (step_asks c)) (by.0 b).1),
        )

    pub reduced : (rest : Cube) → Passes (HasNone pass) 0 cube rest → IsReduced sys limit frame cube rest
    reduced rest passed = record {
      blocked = (blocked-by-queries sys none.infer.system frame cube none.framed none.known).1 (root_none.0, step_none.0);
      pass = passes_as sys.sig (HasNone pass) (IsBlocked sys frame) none_as_blocked 0 cube rest none.known passed;
      light = pass-light sys limit frame cube root_none.0 step_none.0 root_none.1 step_none.1;
    }

  -- the same where the pass keeps the system and the order
  module _ (sys : System) (order : Order) (pass : Pass) (none : AreNone sys order) (made : IsFirstPass sys order first second cube pass) where
    none_kept : AreNone pass.sys.now pass.order.now
    none_kept = subst (λ s. AreNone s pass.order.now) (sym made.same_sys) (subst (λ o. AreNone sys o) (sym made.same_order) none)

    made_kept : IsFirstPass pass.sys.now pass.order.now first second cube pass
    made_kept = record { same_sys = refl; same_order = refl; for_root = made.for_root; for_step = made.for_step; room = made.room }

    pub may-pass : CanPass limit pass cube
    may-pass = can-pass pass none_kept made_kept

    pub is-reduced : (rest : Cube) → Passes (HasNone pass) 0 cube rest → IsBlocking sys limit frame cube (Blocked rest)
    is-reduced rest passed = subst (λ s. IsReduced s limit frame cube rest) made.same_sys (reduced pass none_kept made_kept rest passed)
