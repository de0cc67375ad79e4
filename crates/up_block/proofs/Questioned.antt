-- The worlds that meet the query of a cube: those that meet all claims but the last, and whose copy meets
-- the cube.
use Rattle.std.proofs.Common.{◌≡◌, ℕ, ◌<◌, List, [], ◌∷◌, ◌++◌, length, get_or, sym, ap, subst, arith}
use Rattle.std.specs.List.{All}
use Rattle.std.proofs.lemmas.List.Elements.{All-append, All-push}
use Rattle.fo_core.specs.declared.formula.Formula.{Formula}
use Rattle.fo_core.specs.declared.query.Query.{Query}
use Rattle.fo_core.specs.declared.signature.Sig.{Sig}
use Rattle.fo_core.specs.declared.system.System.{System}
use Rattle.fo_core.specs.declared.world.World.{World}
use Rattle.fo_core.specs.Finds.{HasWorld}
use Rattle.fo_core.specs.Queries.{MeetsQuery}
use Rattle.fo_core.specs.Truth.{Truth}
use Rattle.fo_core.proofs.ListFacts.{all_left, all_one}
use Rattle.up_claims.proofs.CubeClaims.{claim-to}
use Rattle.up_diagram.specs.declared.cube.Cube.{Cube}
use Rattle.up_diagram.specs.Claims.{claim}
use Rattle.up_diagram.specs.Cubes.{Meets}
use Rattle.up_block.specs.declared.question.Question.{Question}
use Rattle.up_block.specs.Questions.{query_for, IsQuestion, IsLater}

module _ (sig : Sig) (q : Question) (cube : Cube) (w : World) where
  abbrev IsTrueIn : Formula → Type 0
  IsTrueIn f = Truth sig w 0 f []

  pub meets-for : MeetsQuery sig q.query w → Meets sig w q.copy cube → MeetsQuery sig (query_for sig q cube) w
  meets-for m met = record {
    fits = m.fits;
    copies = m.copies;
    claims =
        All-append IsTrueIn q.query.claims (claim sig cube q.copy ∷ []) m.claims
        ((all_one IsTrueIn (claim sig cube q.copy)).1 (claim-to sig w q.copy cube met));
  }

  pub meets-rest : MeetsQuery sig (query_for sig q cube) w → MeetsQuery sig q.query w
  meets-rest m = record {
    fits = m.fits;
    copies = m.copies;
    claims = all_left IsTrueIn q.query.claims (claim sig cube q.copy ∷ []) m.claims;
  }

-- a world that was found before shows the query of a cube that its copy meets
pub shown-by : (sig : Sig) (q : Question) (cube : Cube) → All (MeetsQuery sig q.query) q.worlds.items →
    (worlds : List World) → worlds ≡ q.worlds.items → (i : ℕ) (w : World) → i < length worlds → w ≡ get_or worlds i w →
    Meets sig w q.copy cube → HasWorld sig (query_for sig q cube)
shown-by sig q cube found worlds same i w lt is met =
    let here : MeetsQuery sig q.query (get_or worlds i w) = subst (All (MeetsQuery sig q.query)) (sym same) found i w lt in
    (w, meets-for sig q cube w (subst (MeetsQuery sig q.query) (sym is) here) met)

-- a found world that meets the query of a cube is one more
pub one-more : (sig : Sig) (q : Question) (cube : Cube) (w : World) → All (MeetsQuery sig q.query) q.worlds.items →
    MeetsQuery sig (query_for sig q cube) w → All (MeetsQuery sig q.query) (q.worlds.items ++ w ∷ [])
one-more sig q cube w found m = All-push (MeetsQuery sig q.query) q.worlds.items w found (meets-rest sig q cube w m)

-- the question with one more world
pub later-more : (sys : System) (old : Question) (cube : Cube) (w : World) (later : Question) → later.query ≡ old.query → later.copy ≡ old.copy →
    later.worlds.items ≡ old.worlds.items ++ w ∷ [] → IsQuestion sys old → MeetsQuery sys.sig (query_for sys.sig old cube) w → IsLater sys old later
later-more sys old cube w later query copy more h m = record {
  query = query;
  copy = copy;
  question = record {
    copy = let copies : later.query.copies ≡ old.query.copies = ap (λ (q : Query). q.copies) query in let lt = h.copy in omega (arith, copies, copy, lt);
    found =
        subst (λ q. All (MeetsQuery sys.sig q) later.worlds.items) (sym query)
        (subst (All (MeetsQuery sys.sig old.query)) (sym more) (one-more sys.sig old cube w h.found m));
  };
}
