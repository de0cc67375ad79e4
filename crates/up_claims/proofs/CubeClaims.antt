-- What the sentences of cubes among a query's claims say, and that they are well-sorted.
use Rattle.std.proofs.Common.{◌≡◌, ℕ, ◌+◌, ◌≤◌, ◌↔◌, List, [], get_or, subst, arith}
use Rattle.std.specs.List.{All}
use Rattle.fo_core.specs.declared.signature.Sig.{Sig}
use Rattle.fo_core.specs.declared.formula.Formula.{Formula}
use Rattle.fo_core.specs.declared.system.System.{System}
use Rattle.fo_core.specs.declared.world.World.{World}
use Rattle.fo_core.specs.RunLaws.{SameState}
use Rattle.fo_core.specs.Sorted.{IsFormula}
use Rattle.fo_core.specs.Truth.{Truth}
use Rattle.fo_core.proofs.ListFacts.{all_as, all_map, all_mapped}
use Rattle.fo_core.proofs.MoreCopies.{formula-more}
use Rattle.up_diagram.specs.declared.cube.Cube.{Cube}
use Rattle.up_diagram.specs.Claims.{claim, clause}
use Rattle.up_diagram.specs.Cubes.{Meets, IsCube}
use Rattle.up_diagram.proofs.Said.{claim_is, clause_is}
use Rattle.up_diagram.proofs.Sentences.{claim-sorted, clause-sorted}
use Rattle.up_claims.specs.Frames.{Avoids}
use Rattle.up_claims.specs.InferQueries.{clauses_of}

module _ (sig : Sig) where
  abbrev clause_of : Cube → Formula
  clause_of cube = clause sig cube 0

  pub clauses-from : (w : World) (cubes : List Cube) → All (λ f. Truth sig w 0 f []) (clauses_of sig cubes) → Avoids sig w 0 cubes
  clauses-from w cubes h =
      all_as (λ cube. Truth sig w 0 (clause_of cube) []) (λ cube. ¬ Meets sig w 0 cube) cubes (λ cube t. (clause_is sig w 0 0 cube).0 t)
      (all_map (λ f. Truth sig w 0 f []) clause_of cubes h)

  pub clauses-to : (w : World) (cubes : List Cube) → Avoids sig w 0 cubes → All (λ f. Truth sig w 0 f []) (clauses_of sig cubes)
  clauses-to w cubes h =
      all_mapped (λ f. Truth sig w 0 f []) clause_of cubes
      (all_as (λ cube. ¬ Meets sig w 0 cube) (λ cube. Truth sig w 0 (clause_of cube) []) cubes (λ cube none. (clause_is sig w 0 0 cube).1 none) h)

  pub clauses-sorted : (m : ℕ) (cubes : List Cube) → 1 ≤ m → All (IsCube sig) cubes → All (λ f. IsFormula sig m f []) (clauses_of sig cubes)
  clauses-sorted m cubes le h =
      all_mapped (λ f. IsFormula sig m f []) clause_of cubes
      (all_as (IsCube sig) (λ cube. IsFormula sig m (clause_of cube) []) cubes (λ cube is. formula-more sig 1 m le (clause_of cube) [] (clause-sorted sig cube 0 is)) h)

  pub claim-from : (w : World) (c : ℕ) (cube : Cube) → Truth sig w 0 (claim sig cube c) [] → Meets sig w c cube
  claim-from w c cube t = let same : 0 + c ≡ c = omega arith in subst (λ n. Meets sig w n cube) same ((claim_is sig w 0 c cube).0 t)

  pub claim-to : (w : World) (c : ℕ) (cube : Cube) → Meets sig w c cube → Truth sig w 0 (claim sig cube c) []
  claim-to w c cube m = let same : c ≡ 0 + c = omega arith in (claim_is sig w 0 c cube).1 (subst (λ n. Meets sig w n cube) same m)

  -- the claim about copy 0, read in copy c
  said-here : (w : World) (c : ℕ) (cube : Cube) → Truth sig w c (claim sig cube 0) [] ↔ Meets sig w c cube
  said-here w c cube = let same : c + 0 ≡ c = omega arith in subst (λ n. Truth sig w c (claim sig cube 0) [] ↔ Meets sig w n cube) same (claim_is sig w c 0 cube)

-- the same state meets the same cubes
module _ (sys : System) (v : World) (c : ℕ) (w : World) (d : ℕ) (same : SameState sys v c w d) where
  pub meets-same : (cube : Cube) → IsCube sys.sig cube → Meets sys.sig v c cube ↔ Meets sys.sig w d cube
  meets-same cube is =
      let truth = same.truth (claim sys.sig cube 0) [] [] (claim-sorted sys.sig cube 0 is) in (
        λ m. (said-here sys.sig w d cube).0 (truth.0 ((said-here sys.sig v c cube).1 m)),
        λ m. (said-here sys.sig v c cube).0 (truth.1 ((said-here sys.sig w d cube).1 m)),
      )

  pub avoids-same : (cubes : List Cube) → All (IsCube sys.sig) cubes → Avoids sys.sig v c cubes → Avoids sys.sig w d cubes
  avoids-same cubes are none k e lt m = none k e lt ((meets-same (get_or cubes k e) (are k e lt)).1 m)
