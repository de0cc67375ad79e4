-- What is found of spots that have no queries, where they are looked at.
use Rattle.std.proofs.Common.{◌≡◌, ◌↔◌, ℕ, zero, suc, ◌+◌, ◌<◌, List, [], ◌∷◌, ◌++◌, Option, None, Some, length, refl, sym, subst, arith}
use Rattle.std.specs.Prelude.{IsNone, IfSome}
use Rattle.std.specs.List.{All}
use Rattle.std.proofs.lemmas.List.Elements.{All-nil, All-cons, All-append}
use Rattle.fo_core.specs.declared.system.System.{System}
use Rattle.fo_core.specs.declared.world.World.{World}
use Rattle.fo_core.specs.Finds.{IsLight}
use Rattle.fo_core.specs.Runs.{IsState, IsInitial, IsViolatingRun}
use Rattle.up_claims.specs.declared.verdict.Link.{Link}
use Rattle.up_claims.specs.declared.verdict.Verdict.{Verdict}
use Rattle.up_claims.specs.declared.verdict.Verdict.TheVariants as verdict
use Rattle.up_cert.specs.declared.judged.Judged.TheVariants as judged
use Rattle.up_cert.specs.declared.spot.Spot.{Spot}
use Rattle.up_cert.specs.declared.spot.What.{What}
use Rattle.up_cert.specs.declared.spot.What.TheVariants as what
use Rattle.up_cert.specs.Judging.{Clears, IsRefuted, FailsFirst, IsFound}
use Rattle.up_cert.specs.Spots.{FailsFirst as FailsOfRun, IsFirstSpot}
use Rattle.up_cert.specs.Trying.{Looks, look_told}
use Rattle.up_cert.specs.VerdictSpots.{Passes, ChainPasses, queries_at, spots_of, spot, each_below, spots_below, link_spots, origin_what, link_at, last_copy, HasState, Embeds}
use Rattle.up_cert.proofs.FoundLemmas.{wrong-left, found-right, wrong-below, here}
use Rattle.up_cert.proofs.PassLemmas.{passes-back}

module _ (sys : System) (limit : ℕ) (told : Verdict) where
  abbrev C : Spot → Type 0
  C = Clears sys limit told

  clears : (s : Spot) → queries_at sys told s ≡ [] → Passes sys told s → C s
  clears s none pass = record { so = pass; light = subst (All (IsLight sys.sig limit)) (sym none) (All-nil (IsLight sys.sig limit)) }

  fails : (s : Spot) → queries_at sys told s ≡ [] → ¬ Passes sys told s → FailsFirst sys limit told (s ∷ []) s
  fails s none not = record {
    reached = here sys limit told s;
    denied = record { not_so = not; refuted = subst (IsRefuted sys.sig limit) (sym none) tt };
  }

  one-clears : (s : Spot) → queries_at sys told s ≡ [] → Passes sys told s → All C (s ∷ [])
  one-clears s none pass = All-cons C s [] (clears s none pass) (All-nil C)

  -- ---- spots by number

  many-clear : (w : What) (n : ℕ) → ((k : ℕ) → queries_at sys told (spot w k) ≡ []) → ((k : ℕ) → k < n → Passes sys told (spot w k)) → All C (spots_below w n)
  many-clear w zero none pass = All-nil C
  many-clear w (suc n) none pass =
      All-append C (spots_below w n) (spot w n ∷ []) (many-clear w n none (λ k lt. pass k (omega (arith, lt)))) (one-clears (spot w n) (none n) (pass n (omega arith)))

  first-fails : (w : What) (n k : ℕ) → ((j : ℕ) → queries_at sys told (spot w j) ≡ []) → k < n → ((j : ℕ) → j < k → Passes sys told (spot w j)) → ¬ Passes sys told (spot w k) → FailsFirst sys limit told (spots_below w n) (spot w k)
  first-fails w n k none lt before not =
      wrong-below sys limit told (λ j. spot w j ∷ []) n k (spot w k) lt (many-clear w k none before) (fails (spot w k) (none k) not)

  -- ---- three spots

  module _ (a b c : Spot) (none-a : queries_at sys told a ≡ []) (none-b : queries_at sys told b ≡ []) (none-c : queries_at sys told c ≡ []) where
    pub three-pass : Passes sys told a → Passes sys told b → Passes sys told c → All C (a ∷ b ∷ c ∷ [])
    three-pass p q r = All-cons C a (b ∷ c ∷ []) (clears a none-a p) (All-cons C b (c ∷ []) (clears b none-b q) (one-clears c none-c r))

    pub first-of-three : ¬ Passes sys told a → FailsFirst sys limit told (a ∷ b ∷ c ∷ []) a
    first-of-three not = wrong-left sys limit told (a ∷ []) (b ∷ c ∷ []) a (fails a none-a not)

    pub second-of-three : Passes sys told a → ¬ Passes sys told b → FailsFirst sys limit told (a ∷ b ∷ c ∷ []) b
    second-of-three p not =
        found-right sys limit told (a ∷ []) (b ∷ c ∷ []) (judged.Wrong b) (one-clears a none-a p)
        (wrong-left sys limit told (b ∷ []) (c ∷ []) b (fails b none-b not))

    pub third-of-three : Passes sys told a → Passes sys told b → ¬ Passes sys told c → FailsFirst sys limit told (a ∷ b ∷ c ∷ []) c
    third-of-three p q not =
        found-right sys limit told (a ∷ b ∷ []) (c ∷ []) (judged.Wrong c)
        (All-cons C a (b ∷ []) (clears a none-a p) (one-clears b none-b q)) (fails c none-c not)

module _ (sys : System) (told : Verdict) where
  -- ---- loops

  pub looks-none : (spots : ℕ → List Spot) → Looks sys told (each_below spots 0) None
  looks-none spots limit = All-nil (Clears sys limit told)

  pub looks-more : (spots : ℕ → List Spot) (n : ℕ) → Looks sys told (each_below spots n) None → Looks sys told (spots n) None → Looks sys told (each_below spots (n + 1)) None
  looks-more spots n all more limit =
      let e : suc n ≡ n + 1 = omega arith in
      subst (λ (m : ℕ). IsFound sys limit told (each_below spots m) judged.Holds) e
      (All-append (Clears sys limit told) (each_below spots n) (spots n) (all limit) (more limit))

  pub looks-wrong : (spots : ℕ → List Spot) (n k : ℕ) (s : Spot) → k < n → Looks sys told (each_below spots k) None → Looks sys told (spots k) (Some s) → Looks sys told (each_below spots n) (Some s)
  looks-wrong spots n k s lt all wrong limit = wrong-below sys limit told spots n k s lt (all limit) (wrong limit)

  -- ---- one spot

  pub look-passes : (s : Spot) → queries_at sys told s ≡ [] → Passes sys told s → Looks sys told (s ∷ []) None
  look-passes s none pass limit = one-clears sys limit told s none pass

  pub look-fails : (s : Spot) → queries_at sys told s ≡ [] → ¬ Passes sys told s → Looks sys told (s ∷ []) (Some s)
  look-fails s none not limit = fails sys limit told s none not

-- ---- the spots of one link

module _ (sys : System) (links : List Link) where
  abbrev N : Verdict
  N = verdict.NoUniversal links

  origin-none : (k : ℕ) → queries_at sys N (spot (origin_what k) k) ≡ []
  origin-none zero = refl
  origin-none (suc k) = refl

  pub link-passes : (k : ℕ) → HasState sys (link_at links k) → ChainPasses sys links (origin_what k) k → Embeds sys (link_at links k) → Looks sys N (link_spots k) None
  link-passes k p q r limit = three-pass sys limit N (spot what.State k) (spot (origin_what k) k) (spot what.Map k) refl (origin-none k) refl p q r

  pub link-no-state : (k : ℕ) → ¬ HasState sys (link_at links k) → Looks sys N (link_spots k) (Some (spot what.State k))
  link-no-state k not limit = first-of-three sys limit N (spot what.State k) (spot (origin_what k) k) (spot what.Map k) refl (origin-none k) refl not

  pub link-no-origin : (k : ℕ) → HasState sys (link_at links k) → ¬ ChainPasses sys links (origin_what k) k → Looks sys N (link_spots k) (Some (spot (origin_what k) k))
  link-no-origin k p not limit = second-of-three sys limit N (spot what.State k) (spot (origin_what k) k) (spot what.Map k) refl (origin-none k) refl p not

  pub link-no-map : (k : ℕ) → HasState sys (link_at links k) → ChainPasses sys links (origin_what k) k → ¬ Embeds sys (link_at links k) → Looks sys N (link_spots k) (Some (spot what.Map k))
  link-no-map k p q not limit = third-of-three sys limit N (spot what.State k) (spot (origin_what k) k) (spot what.Map k) refl (origin-none k) refl p q not

-- ---- violating runs

module _ (sys : System) (w : World) (limit : ℕ) where
  abbrev U : Verdict
  U = verdict.Unsafe w

  abbrev CU : Spot → Type 0
  CU = Clears sys limit U

  abbrev states : List Spot
  states = spots_below what.State (length w.copies)

  abbrev steps : List Spot
  steps = spots_below what.Step (last_copy w)

  abbrev front : List Spot
  front = states ++ spot what.Init 0 ∷ []

  abbrev behind : List Spot
  behind = steps ++ spot what.Safety 0 ∷ []

  run-found : IsViolatingRun sys w → All CU (spots_of U)
  run-found bad k d lt = record { so = passes-back sys U bad k d lt; light = All-nil (IsLight sys.sig limit) }

  front-clear : ((c : ℕ) → c < length w.copies → IsState sys w c) → IsInitial sys w 0 → All CU front
  front-clear is start =
      All-append CU states (spot what.Init 0 ∷ []) (many-clear sys limit U what.State (length w.copies) (λ k. refl) is)
      (one-clears sys limit U (spot what.Init 0) refl start)

  run-fails : (what' : What) (k : ℕ) → FailsOfRun sys w what' k → FailsFirst sys limit U (spots_of U) (spot what' k)
  run-fails what.State k h =
      wrong-left sys limit U front behind (spot what.State k)
      (wrong-left sys limit U states (spot what.Init 0 ∷ []) (spot what.State k)
      (first-fails sys limit U what.State (length w.copies) k (λ j. refl) h.within h.before h.fails))
  run-fails what.Init k h =
      subst (λ (n : ℕ). FailsFirst sys limit U (spots_of U) (spot what.Init n)) (sym h.number)
      (wrong-left sys limit U front behind (spot what.Init 0)
      (found-right sys limit U states (spot what.Init 0 ∷ []) (judged.Wrong (spot what.Init 0))
      (many-clear sys limit U what.State (length w.copies) (λ j. refl) h.states) (fails sys limit U (spot what.Init 0) refl h.fails)))
  run-fails what.Step k h =
      let within = h.within in
      found-right sys limit U front behind (judged.Wrong (spot what.Step k)) (front-clear h.states h.initial)
      (wrong-left sys limit U steps (spot what.Safety 0 ∷ []) (spot what.Step k)
      (first-fails sys limit U what.Step (last_copy w) k (λ j. refl) (omega (arith, within)) h.before h.fails))
  run-fails what.Safety k h =
      subst (λ (n : ℕ). FailsFirst sys limit U (spots_of U) (spot what.Safety n)) (sym h.number)
      (found-right sys limit U front behind (judged.Wrong (spot what.Safety 0)) (front-clear h.states h.initial)
      (found-right sys limit U steps (spot what.Safety 0 ∷ []) (judged.Wrong (spot what.Safety 0))
      (many-clear sys limit U what.Step (last_copy w) (λ j. refl) (λ j lt. h.steps j (omega (arith, lt))))
      (fails sys limit U (spot what.Safety 0) refl h.fails)))
  run-fails what.Start k h = absurd h
  run-fails what.Map k h = absurd h
  run-fails what.Leave k h = absurd h
  run-fails what.Run k h = absurd h

  pub run-judged : (first : Option Spot) → IsNone first ↔ IsViolatingRun sys w → IfSome first (IsFirstSpot sys w) → IsFound sys limit U (spots_of U) (look_told first)
  run-judged None holds first = run-found (holds.0 refl)
  run-judged (Some s) holds first = run-fails s.what s.number first
