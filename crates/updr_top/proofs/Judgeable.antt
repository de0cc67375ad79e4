-- A report that was read may be judged.
use Rattle.std.proofs.Common.{ℕ, ◌+◌, ◌^◌, ◌<◌, ◌≤◌, List, [], ◌∷◌, ◌++◌, length, codes, ap, length-append, arith}
use Rattle.std.specs.List.{All}
use Rattle.std.proofs.lemmas.List.Concat.{flat_map-cons}
use Rattle.std.proofs.lemmas.List.Elements.{All-nil, All-cons}
use Rattle.fo_core.specs.declared.names.Names.{Names}
use Rattle.fo_core.specs.declared.order.Order.{Order}
use Rattle.fo_core.specs.declared.order.Purpose.TheVariants.{Infer}
use Rattle.fo_core.specs.declared.signature.Sig.{Sig}
use Rattle.fo_core.specs.declared.system.System.{System}
use Rattle.fo_core.specs.declared.world.World.{World}
use Rattle.fo_core.specs.SortGraph.{SortEdge, Rises}
use Rattle.fo_core.specs.Tables.{IsReadable}
use Rattle.fo_core.proofs.ListFacts.{all_as, all_mapped}
use Rattle.fo_text.specs.Parts.{number_text}
use Rattle.fo_text.specs.Texts.{HasText}
use Rattle.pyv_sorts.specs.declared.model.Elaborated.{Elaborated}
use Rattle.up_claims.specs.declared.report.Report.{Report}
use Rattle.up_claims.specs.declared.verdict.Kept.{Kept}
use Rattle.up_claims.specs.declared.verdict.Leave.{Leave}
use Rattle.up_claims.specs.declared.verdict.Link.{Link}
use Rattle.up_claims.specs.declared.verdict.Verdict.{Verdict}
use Rattle.up_claims.specs.declared.verdict.Verdict.TheVariants as verdict
use Rattle.up_claims.specs.Verdicts.{cubes_of}
use Rattle.up_diagram.specs.Cubes.{IsCube}
use Rattle.up_cert.specs.Asked.{CanJudgeVerdict, HasLinkWorlds, HasNumbers, IsOrdered, IsVerdict}
use Rattle.up_report.specs.ClauseTexts.{HasClause, clause_text}
use Rattle.up_report.specs.Ranges.{HasLeaves, HasLink, HasLinks, HasVerdict}
use Rattle.up_report.specs.Reports.{IsReport}
use Rattle.up_report.specs.Texts.{clauses_text, leaves_text, numbers_text, report_text, told_text, verdict_word}
use Rattle.updr_model.specs.Texts.{IsModel}
use Rattle.updr_top.specs.Reported.{IsAsked}

-- ---- how many clauses a text holds

in_front : (a b : List ℕ) → length a ≤ length (a ++ b)
in_front a b = omega (arith, length-append a b)

at_end : (a b : List ℕ) → length b ≤ length (a ++ b)
at_end a b = omega (arith, length-append a b)

-- each clause has a line
few_clauses : (names : Names) (clauses : List Kept) → length clauses ≤ length (clauses_text names clauses)
few_clauses names [] = omega arith
few_clauses names (kept ∷ clauses) =
    let line : List ℕ = codes "clause " ++ clause_text names kept in
    let whole = ap length (flat_map-cons (λ (x : Kept). codes "clause " ++ clause_text names x) kept clauses) in
    let both = length-append line (clauses_text names clauses) in
    let word = in_front (codes "clause ") (clause_text names kept) in
    let rest = few_clauses names clauses in
    omega (arith, whole, both, word, rest)

module _ (sig : Sig) (names : Names) where
  told_within : (r : Report) → length (told_text sig names r.verdict) ≤ length (report_text sig names r)
  told_within r =
      let told = told_text sig names r.verdict in
      let one = in_front told (numbers_text r.numbers) in
      let two = at_end (verdict_word r.verdict) (told ++ numbers_text r.numbers) in
      let three = at_end (codes "report 1\nverdict ") (verdict_word r.verdict ++ (told ++ numbers_text r.numbers)) in
      omega (arith, one, two, three)

  has_numbers : (told : Verdict) → HasVerdict sig told → length (told_text sig names told) < 2 ^ 32 → HasNumbers told
  has_numbers (verdict.Safe frame clauses) has short =
      let few = few_clauses names clauses in
      let within = at_end (number_text 10 frame) (clauses_text names clauses) in
      omega (arith, few, within, short)
  has_numbers (verdict.Unsafe w) has short = tt
  has_numbers (verdict.NoUniversal links) has short = let few = has.1 in omega (arith, few)
  has_numbers (verdict.Bounded last clauses leaves) has short =
      let few = few_clauses names clauses in
      let within = in_front (clauses_text names clauses) (leaves_text sig names leaves) in
      let after = at_end (number_text 10 last) (clauses_text names clauses ++ leaves_text sig names leaves) in
      omega (arith, few, within, after, short)
  has_numbers (verdict.Spent steps) has short = tt
  has_numbers (verdict.Over kind weight) has short = tt
  has_numbers (verdict.NoRun k) has short = omega (arith, has)

-- ---- what is over the signature

module _ (sig : Sig) where
  readable : (w : World) → HasText sig w → IsReadable sig w
  readable w has = record { fits = has.fits; few = has.copies }

  cubes_sorted : (least most : ℕ) (clauses : List Kept) → All (HasClause sig least most) clauses → All (IsCube sig) (cubes_of clauses)
  cubes_sorted least most clauses all =
      all_mapped (IsCube sig) (λ (kept : Kept). kept.cube) clauses (all_as (HasClause sig least most) (λ (kept : Kept). IsCube sig kept.cube) clauses (λ kept has. has.cube) all)

  link_worlds : (copies : ℕ) (link : Link) → HasLink sig copies link → HasLinkWorlds sig link
  link_worlds copies link has = record { origin = readable link.origin has.origin.0; state = readable link.state has.state.0 }

  links_worlds : (links : List Link) → HasLinks sig links → All (HasLinkWorlds sig) links
  links_worlds [] has = absurd has
  links_worlds (link ∷ links) has =
      All-cons (HasLinkWorlds sig) link links (link_worlds 1 link has.0) (all_as (HasLink sig 2) (HasLinkWorlds sig) links (link_worlds 2) has.1)

  leaves_worlds : (clauses level : ℕ) (leaves : List Leave) → HasLeaves sig clauses level leaves → All (λ (leave : Leave). IsReadable sig leave.step) leaves
  leaves_worlds clauses level [] has = All-nil (λ (leave : Leave). IsReadable sig leave.step)
  leaves_worlds clauses level (leave ∷ leaves) has =
      All-cons (λ (x : Leave). IsReadable sig x.step) leave leaves (readable leave.step has.0.step.0) (leaves_worlds clauses (level + 1) leaves has.1)

  is_verdict : (told : Verdict) → HasVerdict sig told → IsVerdict sig told
  is_verdict (verdict.Safe frame clauses) has = record { cubes = cubes_sorted (frame + 1) 65 clauses has.1; worlds = tt; leaves = tt }
  is_verdict (verdict.Unsafe w) has = record { cubes = tt; worlds = readable w has.0; leaves = tt }
  is_verdict (verdict.NoUniversal links) has = record { cubes = tt; worlds = links_worlds links has.0; leaves = tt }
  is_verdict (verdict.Bounded last clauses leaves) has = record {
    cubes = cubes_sorted 1 (last + 1) clauses has.clauses_are;
    worlds = leaves_worlds (length clauses) 1 leaves has.leaves_are;
    leaves = has.one_each;
  }
  is_verdict (verdict.Spent steps) has = record { cubes = tt; worlds = tt; leaves = tt }
  is_verdict (verdict.Over kind weight) has = record { cubes = tt; worlds = tt; leaves = tt }
  is_verdict (verdict.NoRun k) has = record { cubes = tt; worlds = tt; leaves = tt }

-- ---- the order

module _ (sys : System) (order : Order) where
  abbrev RisesHere : Type 0
  RisesHere = Rises (SortEdge sys Infer) sys.sig.sorts order.numbers

  is_ordered : (told : Verdict) → (IsAsked told → RisesHere) → IsOrdered sys order told
  is_ordered (verdict.Safe frame clauses) rises = rises tt
  is_ordered (verdict.Unsafe w) rises = tt
  is_ordered (verdict.NoUniversal links) rises = rises tt
  is_ordered (verdict.Bounded last clauses leaves) rises = rises tt
  is_ordered (verdict.Spent steps) rises = tt
  is_ordered (verdict.Over kind weight) rises = tt
  is_ordered (verdict.NoRun k) rises = rises tt

-- ---- the whole

pub can_judge : (e : Elaborated) (bytes : List ℕ) (r : Report) (order : Order) → IsModel e.sys e.names → IsReport e.sys.sig e.names bytes r → length bytes < 2 ^ 32
    → (IsAsked r.verdict → Rises (SortEdge e.sys Infer) e.sys.sig.sorts order.numbers) → CanJudgeVerdict e.sys order r.verdict
can_judge e bytes r order model is short rises =
    let within = told_within e.sys.sig e.names r in
    let whole = ap length is.text in
    record {
      system = model.system;
      shallow = model.shallow;
      fits = is_verdict e.sys.sig r.verdict is.ranged.verdict_is;
      numbers = has_numbers e.sys.sig e.names r.verdict is.ranged.verdict_is (omega (arith, within, whole, short));
      ordered = is_ordered e.sys order r.verdict rises;
    }
