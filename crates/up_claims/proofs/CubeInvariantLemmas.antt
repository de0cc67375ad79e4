-- The clauses of cubes are a universal invariant exactly where the cubes are avoided.
use Rattle.std.proofs.Common.{◌≡◌, ℕ, ◌+◌, ◌↔◌, List, [], subst, arith}
use Rattle.std.specs.List.{All}
use Rattle.std.proofs.lemmas.List.Elements.{All-nil}
use Rattle.fo_core.specs.declared.formula.Formula.{Formula}
use Rattle.fo_core.specs.declared.system.System.{System}
use Rattle.fo_core.specs.declared.world.World.{World}
use Rattle.fo_core.specs.Truth.{Truth}
use Rattle.fo_core.specs.Universal.{IsUniversalSentence}
use Rattle.fo_core.proofs.ListFacts.{all_as, all_map, all_mapped}
use Rattle.up_diagram.specs.declared.cube.Cube.{Cube}
use Rattle.up_diagram.specs.Claims.{clause}
use Rattle.up_diagram.specs.Cubes.{Meets, IsCube}
use Rattle.up_diagram.proofs.Said.{clause_is}
use Rattle.up_diagram.proofs.Sentences.{clause-universal}
use Rattle.up_claims.specs.CubeInvariants.{AreInvariant}
use Rattle.up_claims.specs.Frames.{Avoids}
use Rattle.up_claims.specs.Inductive.{AreTrue, IsUniversalInvariant}
use Rattle.up_claims.specs.InferQueries.{clauses_of}

module _ (sys : System) (cubes : List Cube) where
  abbrev clauses : List Formula
  clauses = clauses_of sys.sig cubes

  abbrev clause_of : Cube → Formula
  clause_of cube = clause sys.sig cube 0

  -- a clause, read in copy c
  said-here : (w : World) (c : ℕ) (cube : Cube) → Truth sys.sig w c (clause_of cube) [] ↔ (¬ Meets sys.sig w c cube)
  said-here w c cube = let same : c + 0 ≡ c = omega arith in subst (λ n. Truth sys.sig w c (clause_of cube) [] ↔ (¬ Meets sys.sig w n cube)) same (clause_is sys.sig w c 0 cube)

  avoided-from : (w : World) (c : ℕ) → AreTrue sys clauses w c → Avoids sys.sig w c cubes
  avoided-from w c h =
      all_as (λ cube. Truth sys.sig w c (clause_of cube) []) (λ cube. ¬ Meets sys.sig w c cube) cubes (λ cube. (said-here w c cube).0)
      (all_map (λ f. Truth sys.sig w c f []) clause_of cubes h)

  avoided-to : (w : World) (c : ℕ) → Avoids sys.sig w c cubes → AreTrue sys clauses w c
  avoided-to w c h =
      all_mapped (λ f. Truth sys.sig w c f []) clause_of cubes
      (all_as (λ cube. ¬ Meets sys.sig w c cube) (λ cube. Truth sys.sig w c (clause_of cube) []) cubes (λ cube. (said-here w c cube).1) h)

  pub invariant-there : IsUniversalInvariant sys clauses → AreInvariant sys cubes
  invariant-there h = record {
    starts = λ k d within w c fits lt start meets. avoided-from w c (h.invariant.inductive.starts w c fits lt start) k d within meets;
    keeps = λ k d within w c fits lt in_frame step meets.
        avoided-from w (c + 1) (h.invariant.inductive.keeps w c fits lt step (avoided-to w c in_frame.1)) k d within meets;
    safe = λ w c fits lt state avoids violates none. h.invariant.safe w c fits lt state (avoided-to w c avoids) violates;
  }

  pub invariant-back : All (IsCube sys.sig) cubes → AreInvariant sys cubes → IsUniversalInvariant sys clauses
  invariant-back known h = record {
    invariant = record {
      inductive = record {
        closed = λ k d within. (universal k d within).sorted;
        starts = λ w c fits lt start. avoided-to w c (λ k d within. h.starts k d within w c fits lt start);
        keeps = λ w c fits lt step holding. avoided-to w (c + 1) (λ k d within. h.keeps k d within w c fits lt (step.state, avoided-from w c holding) step);
      };
      safe = λ w c fits lt state holding violates. h.safe w c fits lt state (avoided-from w c holding) violates (All-nil (λ cube. ¬ Meets sys.sig w c cube));
    };
    universal = universal;
  }
    where
      universal : All (IsUniversalSentence sys.sig) clauses
      universal = all_mapped (IsUniversalSentence sys.sig) clause_of cubes (all_as (IsCube sys.sig) (λ cube. IsUniversalSentence sys.sig (clause_of cube)) cubes (clause-universal sys.sig) known)
