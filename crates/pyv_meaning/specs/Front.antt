-- What the declarations in front of a file mean.
use Rattle.std.specs.List.{AllByRecursion, AllZip}
use Rattle.std.specs.Prelude.{List}
use Rattle.fo_core.specs.declared.names.Names.{Names}
use Rattle.fo_core.specs.declared.signature.Sig.{Sig}
use Rattle.fo_core.specs.declared.system.Step.{Step}
use Rattle.fo_core.specs.declared.formula.Formula.{Formula}
use Rattle.pyv_meaning.specs.Bodies.{ClaimMeans, StepMeans, IsSound}
use Rattle.pyv_meaning.specs.Items.{Item, Axiom, Init, Safety, Invariant, claims, steps, bodies}

-- the declarations in front mean these formulas and steps, and their bodies are sound
pub record Done (names : Names) (sig : Sig) (front : List Item) (axioms inits : List Formula) (transitions : List Step) (safeties invariants : List Formula) : Type 0 where
  pub axioms_mean : AllZip (ClaimMeans names sig) (claims Axiom front) axioms
  pub inits_mean : AllZip (ClaimMeans names sig) (claims Init front) inits
  pub steps_mean : AllZip (StepMeans names sig) (steps front) transitions
  pub safeties_mean : AllZip (ClaimMeans names sig) (claims Safety front) safeties
  pub invariants_mean : AllZip (ClaimMeans names sig) (claims Invariant front) invariants
  pub sound : AllByRecursion (IsSound names sig) (bodies front)
