-- The queries of property-directed reachability: what they say, that they are well-sorted, and their edges.
use Rattle.std.proofs.Common.{◌≡◌, ℕ, true, false, ◌+◌, ◌<◌, inl, inr, List, [], ◌∷◌, ◌++◌, Option, Some, None, length, get_or, sym, subst, arith}
use Rattle.std.proofs.lemmas.List.{get_or_default}
use Rattle.std.proofs.lemmas.List.Elements.{All-nil, All-cons, All-head, All-tail, All-append}
use Rattle.std.specs.List.{All}
use Rattle.fo_core.specs.declared.query.Query.{Query}
use Rattle.fo_core.specs.declared.formula.Formula.{Formula}
use Rattle.fo_core.specs.declared.formula.Formula.TheVariants as F
use Rattle.fo_core.specs.declared.system.System.{System}
use Rattle.fo_core.specs.declared.world.World.{World}
use Rattle.fo_core.specs.Queries.{IsQuery, MeetsQuery}
use Rattle.fo_core.specs.Runs.{IsState}
use Rattle.fo_core.specs.SortGraph.{FormulaEdge, FormulasEdge, InferEdge, ClaimsEdge}
use Rattle.fo_core.specs.Sorted.{IsFormula, IsSystem}
use Rattle.fo_core.specs.Truth.{Truth}
use Rattle.fo_core.proofs.EdgeRows.{edge-And}
use Rattle.fo_core.proofs.ListFacts.{all_left, all_right, all_mapped}
use Rattle.fo_core.proofs.Rows.{And-sorted}
use Rattle.up_diagram.specs.declared.cube.Cube.{Cube}
use Rattle.up_diagram.specs.Claims.{claim, clause}
use Rattle.up_diagram.specs.Cubes.{IsCube}
use Rattle.up_diagram.proofs.Sentences.{claim-sorted}
use Rattle.up_claims.specs.Claims.{at_copy, denied}
use Rattle.up_claims.specs.Finding.{IsSeed, IsRoot, IsStepInto}
use Rattle.up_claims.specs.Frames.{IsInFrame, IsFrame}
use Rattle.up_claims.specs.InferQueries.{clauses_of, frame_claims, seed_query, root_query, before_query}
use Rattle.up_claims.specs.InferSaid.{RisesToo, AsksFor}
use Rattle.up_claims.specs.Transitions.{any_transition}
use Rattle.up_claims.proofs.CopyLemmas.{rises-fewer, at-from, at-to, at-sorted, at-edge, denied-from, denied-to, denied-sorted, denied-edge}
use Rattle.up_claims.proofs.CubeClaims.{clauses-from, clauses-to, clauses-sorted, claim-from, claim-to}
use Rattle.up_claims.proofs.CubeEdges.{cube-edge, clause-edge}
use Rattle.up_claims.proofs.EdgesOf.{EdgeOf}
use Rattle.up_claims.proofs.TransitionLemmas.{any-from, any-to, any-sorted, any-edge}
use Rattle.up_claims.proofs.UnrollLemmas.{violates-from, violates-to}

-- a query of other claims that are equal asks for the same
asks-of : (sys : System) (n : ℕ) (fs gs : List Formula) (Asked : World → Type 0) → fs ≡ gs → AsksFor sys (record { copies = n; claims = gs }) Asked → AsksFor sys (record { copies = n; claims = fs }) Asked
asks-of sys n fs gs Asked same asks = subst (λ (hs : List Formula). AsksFor sys (record { copies = n; claims = hs }) Asked) (sym same) asks

module _ (sys : System) where
  -- each edge of the formula is one that inference looks at
  abbrev Known : Formula → Type 0
  Known f = (a b : ℕ) → FormulaEdge a b f true → InferEdge sys a b

  known-list : (fs : List Formula) → ((a b : ℕ) → FormulasEdge fs true a b → InferEdge sys a b) → All Known fs
  known-list fs h k d lt a b e = h a b (k, get_or fs k d, lt, get_or_default fs k (get_or fs k d) d lt, e)

  known-rises : (q : Query) → All Known q.claims → RisesToo sys q
  known-rises q known numbers = rises-fewer (InferEdge sys) (ClaimsEdge sys.sig q.claims) sys.sig.sorts numbers each
    where
      each : (a b : ℕ) → ClaimsEdge sys.sig q.claims a b → InferEdge sys a b
      each a b (inl e) = inl e
      each a b (inr e) = known e.0 e.1 e.2 a b (subst (EdgeOf a b) (sym e.3) e.4)

  known-axioms : (c : ℕ) → All Known (at_copy sys.sig c sys.axioms)
  known-axioms c = known-list (at_copy sys.sig c sys.axioms) (λ a b e. inr (inl (at-edge sys.sig c sys.axioms a b e)))

  known-inits : All Known (at_copy sys.sig 0 sys.inits)
  known-inits = known-list (at_copy sys.sig 0 sys.inits) (λ a b e. inr (inr (inl (at-edge sys.sig 0 sys.inits a b e))))

  known-bad : Known (denied sys.sig 0 (F.And sys.safeties))
  known-bad a b e = inr (inr (inr (inr ((edge-And a b sys.safeties false).0 (denied-edge sys.sig 0 (F.And sys.safeties) a b e)))))

  known-step : Known (any_transition sys)
  known-step a b e = inr (inr (inr (inl (any-edge sys a b e))))

  known-claim : (cube : Cube) (c : ℕ) → Known (claim sys.sig cube c)
  known-claim cube c a b e = absurd (cube-edge sys.sig c a b cube e)

  known-clauses : (cubes : List Cube) → All Known (clauses_of sys.sig cubes)
  known-clauses cubes = all_mapped Known (λ cube. clause sys.sig cube 0) cubes (λ k d lt a b e. absurd (clause-edge sys.sig 0 a b (get_or cubes k d) e))

  known-frame : (frame : Option (List Cube)) → All Known (frame_claims sys frame)
  known-frame None = known-inits
  known-frame (Some cubes) = known-clauses cubes

  -- what the claims of a frame say
  module _ (w : World) where
    abbrev T : Formula → Type 0
    T f = Truth sys.sig w 0 f []

    frame-from : (frame : Option (List Cube)) → IsState sys w 0 → All T (frame_claims sys frame) → IsInFrame sys frame w 0
    frame-from None state h = record { state = state; inits = at-from sys.sig 0 w sys.inits h }
    frame-from (Some cubes) state h = (state, clauses-from sys.sig w cubes h)

    frame-to : (frame : Option (List Cube)) → IsInFrame sys frame w 0 → All T (frame_claims sys frame)
    frame-to None h = at-to sys.sig 0 w sys.inits h.inits
    frame-to (Some cubes) h = clauses-to sys.sig w cubes h.1

  frame-sorted : (frame : Option (List Cube)) → IsSystem sys → IsFrame sys.sig frame → All (λ f. IsFormula sys.sig 2 f []) (frame_claims sys frame)
  frame-sorted None is h = at-sorted sys.sig 0 2 sys.inits is.inits (omega arith)
  frame-sorted (Some cubes) is h = clauses-sorted sys.sig 2 cubes (omega arith) h

  abbrev states : List Formula
  states = at_copy sys.sig 0 sys.axioms

  abbrev inits : List Formula
  inits = at_copy sys.sig 0 sys.inits

  abbrev bad : Formula
  bad = denied sys.sig 0 (F.And sys.safeties)

  -- a seed
  module _ (frame avoid : List Cube) where
    abbrev left : List Formula
    left = states ++ clauses_of sys.sig frame

    abbrev right : List Formula
    right = bad ∷ clauses_of sys.sig avoid

    seed-all : (P : Formula → Type 0) → All P states → All P (clauses_of sys.sig frame) → P bad → All P (clauses_of sys.sig avoid) → All P (left ++ right)
    seed-all P at_state in_frame is_bad avoids =
        All-append P left right (All-append P states (clauses_of sys.sig frame) at_state in_frame) (All-cons P bad (clauses_of sys.sig avoid) is_bad avoids)

    seed-from : (w : World) → MeetsQuery sys.sig (seed_query sys frame avoid) w → IsSeed sys frame avoid w
    seed-from w m =
        let before = all_left (T w) left right m.claims in
        let after = all_right (T w) left right m.claims in
        record {
          fits = m.fits;
          copies = m.copies;
          state = at-from sys.sig 0 w sys.axioms (all_left (T w) states (clauses_of sys.sig frame) before);
          in_frame = clauses-from sys.sig w frame (all_right (T w) states (clauses_of sys.sig frame) before);
          violates = violates-from sys 0 w 0 (denied-from sys.sig 0 (F.And sys.safeties) w (All-head (T w) bad (clauses_of sys.sig avoid) after));
          avoids = clauses-from sys.sig w avoid (All-tail (T w) bad (clauses_of sys.sig avoid) after);
        }

    seed-to : (w : World) → IsSeed sys frame avoid w → MeetsQuery sys.sig (seed_query sys frame avoid) w
    seed-to w s = record {
      fits = s.fits;
      copies = s.copies;
      claims = seed-all (T w) (at-to sys.sig 0 w sys.axioms s.state) (clauses-to sys.sig w frame s.in_frame)
          (denied-to sys.sig 0 (F.And sys.safeties) w (violates-to sys 0 w 0 s.violates)) (clauses-to sys.sig w avoid s.avoids);
    }

    seed-sorted : IsSystem sys → All (IsCube sys.sig) frame → All (IsCube sys.sig) avoid → IsQuery sys.sig (seed_query sys frame avoid)
    seed-sorted is framed avoided = record {
      copies = omega arith;
      claims = seed-all (λ f. IsFormula sys.sig 1 f []) (at-sorted sys.sig 0 1 sys.axioms is.axioms (omega arith)) (clauses-sorted sys.sig 1 frame (omega arith) framed)
          (denied-sorted sys.sig 0 (F.And sys.safeties) 1 1 (And-sorted sys.sig 1 sys.safeties [] is.safeties) (omega arith)) (clauses-sorted sys.sig 1 avoid (omega arith) avoided);
    }

    pub asks-seed : IsSystem sys → All (IsCube sys.sig) frame → All (IsCube sys.sig) avoid → AsksFor sys (seed_query sys frame avoid) (IsSeed sys frame avoid)
    asks-seed is framed avoided = record {
      sorted = seed-sorted is framed avoided;
      meaning = λ w. (seed-from w, seed-to w);
      rises = known-rises (seed_query sys frame avoid) (seed-all Known (known-axioms 0) (known-clauses frame) known-bad (known-clauses avoid));
    }

  -- an initial state
  module _ (cube : Cube) where
    abbrev met : List Formula
    met = claim sys.sig cube 0 ∷ []

    root-all : (P : Formula → Type 0) → All P states → All P inits → P (claim sys.sig cube 0) → All P (states ++ inits ++ met)
    root-all P at_state at_start meets =
        All-append P (states ++ inits) met (All-append P states inits at_state at_start) (All-cons P (claim sys.sig cube 0) [] meets (All-nil P))

    root-from : (w : World) → MeetsQuery sys.sig (root_query sys cube) w → IsRoot sys cube w
    root-from w m =
        let before = all_left (T w) (states ++ inits) met m.claims in
        record {
          fits = m.fits;
          copies = m.copies;
          initial = record {
            state = at-from sys.sig 0 w sys.axioms (all_left (T w) states inits before);
            inits = at-from sys.sig 0 w sys.inits (all_right (T w) states inits before);
          };
          meets = claim-from sys.sig w 0 cube (All-head (T w) (claim sys.sig cube 0) [] (all_right (T w) (states ++ inits) met m.claims));
        }

    root-to : (w : World) → IsRoot sys cube w → MeetsQuery sys.sig (root_query sys cube) w
    root-to w r = record {
      fits = r.fits;
      copies = r.copies;
      claims = root-all (T w) (at-to sys.sig 0 w sys.axioms r.initial.state) (at-to sys.sig 0 w sys.inits r.initial.inits) (claim-to sys.sig w 0 cube r.meets);
    }

    root-sorted : IsSystem sys → IsCube sys.sig cube → IsQuery sys.sig (root_query sys cube)
    root-sorted is known = record {
      copies = omega arith;
      claims = root-all (λ f. IsFormula sys.sig 1 f []) (at-sorted sys.sig 0 1 sys.axioms is.axioms (omega arith)) (at-sorted sys.sig 0 1 sys.inits is.inits (omega arith)) (claim-sorted sys.sig cube 0 known);
    }

    pub asks-root : IsSystem sys → IsCube sys.sig cube → AsksFor sys (root_query sys cube) (IsRoot sys cube)
    asks-root is known = record {
      sorted = root-sorted is known;
      meaning = λ w. (root-from w, root-to w);
      rises = known-rises (root_query sys cube) (root-all Known (known-axioms 0) known-inits (known-claim cube 0));
    }

  -- a step
  module _ (frame : Option (List Cube)) (cube : Cube) where
    abbrev later : List Formula
    later = at_copy sys.sig 1 sys.axioms

    abbrev start : List Formula
    start = states ++ later ++ frame_claims sys frame

    abbrev ending : List Formula
    ending = any_transition sys ∷ claim sys.sig cube 1 ∷ []

    before-all : (P : Formula → Type 0) → All P states → All P later → All P (frame_claims sys frame) → P (any_transition sys) → P (claim sys.sig cube 1) → All P (start ++ ending)
    before-all P at_state at_next in_frame leads meets =
        All-append P start ending (All-append P (states ++ later) (frame_claims sys frame) (All-append P states later at_state at_next) in_frame)
        (All-cons P (any_transition sys) (claim sys.sig cube 1 ∷ []) leads (All-cons P (claim sys.sig cube 1) [] meets (All-nil P)))

    before-from : (w : World) → MeetsQuery sys.sig (before_query sys frame cube) w → IsStepInto sys frame cube w
    before-from w m =
        let begun = all_left (T w) start ending m.claims in
        let ended = all_right (T w) start ending m.claims in
        let both = all_left (T w) (states ++ later) (frame_claims sys frame) begun in
        let state = at-from sys.sig 0 w sys.axioms (all_left (T w) states later both) in
        let more : 0 + 1 < length w.copies = omega (arith, m.copies) in
        record {
          fits = m.fits;
          copies = m.copies;
          in_frame = frame-from w frame state (all_right (T w) (states ++ later) (frame_claims sys frame) begun);
          step = record {
            state = state;
            next_state = at-from sys.sig 1 w sys.axioms (all_right (T w) states later both);
            leads = any-from sys w 0 m.fits more (All-head (T w) (any_transition sys) (claim sys.sig cube 1 ∷ []) ended);
          };
          meets = claim-from sys.sig w 1 cube (All-head (T w) (claim sys.sig cube 1) [] (All-tail (T w) (any_transition sys) (claim sys.sig cube 1 ∷ []) ended));
        }

    before-to : (w : World) → IsStepInto sys frame cube w → MeetsQuery sys.sig (before_query sys frame cube) w
    before-to w s =
        let more : 0 + 1 < length w.copies = omega (arith, s.copies) in
        record {
          fits = s.fits;
          copies = s.copies;
          claims = before-all (T w) (at-to sys.sig 0 w sys.axioms s.step.state) (at-to sys.sig 1 w sys.axioms s.step.next_state) (frame-to w frame s.in_frame)
              (any-to sys w 0 s.fits more s.step.leads) (claim-to sys.sig w 1 cube s.meets);
        }

    before-sorted : IsSystem sys → IsFrame sys.sig frame → IsCube sys.sig cube → IsQuery sys.sig (before_query sys frame cube)
    before-sorted is framed known = record {
      copies = omega arith;
      claims = before-all (λ f. IsFormula sys.sig 2 f []) (at-sorted sys.sig 0 2 sys.axioms is.axioms (omega arith)) (at-sorted sys.sig 1 2 sys.axioms is.axioms (omega arith))
          (frame-sorted frame is framed) (any-sorted sys is) (claim-sorted sys.sig cube 1 known);
    }

    pub asks-before : IsSystem sys → IsFrame sys.sig frame → IsCube sys.sig cube → AsksFor sys (before_query sys frame cube) (IsStepInto sys frame cube)
    asks-before is framed known = record {
      sorted = before-sorted is framed known;
      meaning = λ w. (before-from w, before-to w);
      rises = known-rises (before_query sys frame cube) (before-all Known (known-axioms 0) (known-axioms 1) (known-frame frame) known-step (known-claim cube 1));
    }

-- the queries that the calls make: their claims are those of the definitions
module _ (sys : System) (is : IsSystem sys) (fs : List Formula) where
  pub made-seed : (frame avoid : List Cube) → All (IsCube sys.sig) frame → All (IsCube sys.sig) avoid → fs ≡ (seed_query sys frame avoid).claims →
      AsksFor sys (record { copies = 1; claims = fs }) (IsSeed sys frame avoid)
  made-seed frame avoid framed avoided same = asks-of sys 1 fs (seed_query sys frame avoid).claims (IsSeed sys frame avoid) same (asks-seed sys frame avoid is framed avoided)

  pub made-root : (cube : Cube) → IsCube sys.sig cube → fs ≡ (root_query sys cube).claims → AsksFor sys (record { copies = 1; claims = fs }) (IsRoot sys cube)
  made-root cube known same = asks-of sys 1 fs (root_query sys cube).claims (IsRoot sys cube) same (asks-root sys cube is known)

  pub made-before : (frame : Option (List Cube)) (cube : Cube) → IsFrame sys.sig frame → IsCube sys.sig cube → fs ≡ (before_query sys frame cube).claims →
      AsksFor sys (record { copies = 2; claims = fs }) (IsStepInto sys frame cube)
  made-before frame cube framed known same = asks-of sys 2 fs (before_query sys frame cube).claims (IsStepInto sys frame cube) same (asks-before sys frame cube is framed known)
