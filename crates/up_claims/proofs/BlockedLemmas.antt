-- Cubes are blocked, and seeds wanting, where the queries have no world.
use Rattle.std.proofs.Common.{ℕ, ◌+◌, ◌<◌, ◌↔◌, List, Option, Some, None, length, refl, arith}
use Rattle.std.specs.List.{All}
use Rattle.fo_core.specs.declared.system.System.{System}
use Rattle.fo_core.specs.declared.world.World.{World}
use Rattle.fo_core.specs.Finds.{HasNoWorld}
use Rattle.fo_core.specs.RunLaws.{SameState, KeepsAlone, KeepsPair}
use Rattle.fo_core.specs.Runs.{IsState, IsInitial, IsStep, Violates, alone, pair}
use Rattle.fo_core.specs.Sorted.{IsSystem}
use Rattle.fo_core.specs.Tables.{Fits}
use Rattle.fo_core.proofs.RunLemmas.{keeps-alone, keeps-pair}
use Rattle.up_diagram.specs.declared.cube.Cube.{Cube}
use Rattle.up_diagram.specs.Cubes.{Meets, IsCube}
use Rattle.up_claims.specs.Blocked.{NoInitial, NoStep, NoSeed, IsBlocked}
use Rattle.up_claims.specs.Finding.{IsSeed, IsRoot, IsStepInto}
use Rattle.up_claims.specs.Frames.{Avoids, IsInFrame, IsFrame}
use Rattle.up_claims.specs.InferQueries.{seed_query, root_query, before_query}
use Rattle.up_claims.proofs.CubeClaims.{meets-same, avoids-same}
use Rattle.up_claims.proofs.InferLemmas.{asks-seed, asks-root, asks-before}

-- the same state is in the same frame
in-frame-same : (sys : System) (v : World) (c : ℕ) (w : World) (d : ℕ) → SameState sys v c w d → (frame : Option (List Cube)) → IsFrame sys.sig frame → IsInFrame sys frame v c → IsInFrame sys frame w d
in-frame-same sys v c w d same None are h = same.initial.0 h
in-frame-same sys v c w d same (Some cubes) are h = (same.state.0 h.0, avoids-same sys v c w d same cubes are h.1)

module _ (sys : System) (is : IsSystem sys) where
  module _ (w : World) (c : ℕ) (fits : Fits sys.sig w) where
    kept : KeepsAlone sys w c
    kept = keeps-alone sys is w c

    both : KeepsPair sys w c
    both = keeps-pair sys is w c

    root-of : (cube : Cube) → IsCube sys.sig cube → c < length w.copies → IsInitial sys w c → Meets sys.sig w c cube → IsRoot sys cube (alone w c)
    root-of cube known lt start meets = record {
      fits = kept.fits fits lt;
      copies = refl;
      initial = kept.same.initial.0 start;
      meets = (meets-same sys w c (alone w c) 0 kept.same cube known).0 meets;
    }

    step-of : (frame : Option (List Cube)) (cube : Cube) → IsFrame sys.sig frame → IsCube sys.sig cube → c + 1 < length w.copies → IsInFrame sys frame w c → IsStep sys w c → Meets sys.sig w (c + 1) cube → IsStepInto sys frame cube (pair w c)
    step-of frame cube framed known lt in_frame step meets = record {
      fits = both.fits fits lt;
      copies = refl;
      in_frame = in-frame-same sys w c (pair w c) 0 both.same_first frame framed in_frame;
      step = both.same.step.0 step;
      meets = (meets-same sys w (c + 1) (pair w c) 1 both.same_second cube known).0 meets;
    }

    seed-of : (frame avoid : List Cube) → All (IsCube sys.sig) frame → All (IsCube sys.sig) avoid → c < length w.copies → IsState sys w c → Avoids sys.sig w c frame → Violates sys w c → Avoids sys.sig w c avoid → IsSeed sys frame avoid (alone w c)
    seed-of frame avoid framed avoided lt state in_frame violates avoids = record {
      fits = kept.fits fits lt;
      copies = refl;
      state = kept.same.state.0 state;
      in_frame = avoids-same sys w c (alone w c) 0 kept.same frame framed in_frame;
      violates = kept.same.violates.0 violates;
      avoids = avoids-same sys w c (alone w c) 0 kept.same avoid avoided avoids;
    }

  pub initial-by-query : (cube : Cube) → IsCube sys.sig cube → NoInitial sys cube ↔ HasNoWorld sys.sig (root_query sys cube)
  initial-by-query cube known = (there, here)
    where
      there : NoInitial sys cube → HasNoWorld sys.sig (root_query sys cube)
      there none w m =
          let r = ((asks-root sys cube is known).meaning w).0 m in
          none w 0 r.fits (omega (arith, r.copies)) r.initial r.meets

      here : HasNoWorld sys.sig (root_query sys cube) → NoInitial sys cube
      here none w c fits lt start meets = none (alone w c) (((asks-root sys cube is known).meaning (alone w c)).1 (root-of w c fits cube known lt start meets))

  pub step-by-query : (frame : Option (List Cube)) (cube : Cube) → IsFrame sys.sig frame → IsCube sys.sig cube → NoStep sys frame cube ↔ HasNoWorld sys.sig (before_query sys frame cube)
  step-by-query frame cube framed known = (there, here)
    where
      there : NoStep sys frame cube → HasNoWorld sys.sig (before_query sys frame cube)
      there none w m =
          let s = ((asks-before sys frame cube is framed known).meaning w).0 m in
          none w 0 s.fits (omega (arith, s.copies)) s.in_frame s.step s.meets

      here : HasNoWorld sys.sig (before_query sys frame cube) → NoStep sys frame cube
      here none w c fits lt in_frame step meets =
          none (pair w c) (((asks-before sys frame cube is framed known).meaning (pair w c)).1 (step-of w c fits frame cube framed known lt in_frame step meets))

  pub blocked-by-queries : (frame : Option (List Cube)) (cube : Cube) → IsFrame sys.sig frame → IsCube sys.sig cube →
      IsBlocked sys frame cube ↔ HasNoWorld sys.sig (root_query sys cube) × HasNoWorld sys.sig (before_query sys frame cube)
  blocked-by-queries frame cube framed known = (
    λ b. ((initial-by-query cube known).0 b.no_initial, (step-by-query frame cube framed known).0 b.no_step),
    λ none. record { no_initial = (initial-by-query cube known).1 none.0; no_step = (step-by-query frame cube framed known).1 none.1 },
  )

  pub seed-by-query : (frame avoid : List Cube) → All (IsCube sys.sig) frame → All (IsCube sys.sig) avoid → HasNoWorld sys.sig (seed_query sys frame avoid) ↔ NoSeed sys frame avoid
  seed-by-query frame avoid framed avoided = (there, here)
    where
      there : HasNoWorld sys.sig (seed_query sys frame avoid) → NoSeed sys frame avoid
      there none w c fits lt state in_frame violates avoids =
          none (alone w c) (((asks-seed sys frame avoid is framed avoided).meaning (alone w c)).1 (seed-of w c fits frame avoid framed avoided lt state in_frame violates avoids))

      here : NoSeed sys frame avoid → HasNoWorld sys.sig (seed_query sys frame avoid)
      here none w m =
          let s = ((asks-seed sys frame avoid is framed avoided).meaning w).0 m in
          none w 0 s.fits (omega (arith, s.copies)) s.state s.in_frame s.violates s.avoids
