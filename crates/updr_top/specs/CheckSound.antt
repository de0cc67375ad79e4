-- A verdict is judged in one way, so at most one row of `check` comes.
use Rattle.std.proofs.Common.{◌≡◌, ◌∙◌, ℕ, List, [], ◌∷◌, ap₂, refl, subst, sym, arith}
use Rattle.std.specs.List.{All, flat_map}
use Rattle.std.proofs.lemmas.List.Concat.{flat_map-cons}
use Rattle.std.proofs.lemmas.List.Elements.{All-nil, All-cons}
use Rattle.clap.proofs.OnLiterals.{clap_on_literals}
use Rattle.fo_core.specs.declared.system.System.{System}
use Rattle.fo_core.specs.Finds.{IsLight}
use Rattle.fo_core.proofs.ListFacts.{all_flat, all_left, all_right}
use Rattle.up_claims.specs.declared.report.Report.{Report}
use Rattle.up_claims.specs.declared.verdict.Verdict.{Verdict}
use Rattle.up_claims.specs.declared.verdict.Verdict.TheVariants as verdict
use Rattle.up_claims.specs.Judging.{judge_queries}
use Rattle.up_claims.specs.Verdicts.{Holds}
use Rattle.up_cert.specs.declared.judged.Judged.{Judged}
use Rattle.up_cert.specs.declared.judged.Judged.TheVariants as judged
use Rattle.up_cert.specs.declared.spot.Spot.{Spot}
use Rattle.up_cert.specs.Asked.{IsVerdict}
use Rattle.up_cert.specs.Judging.{Clears, IsFound, IsJudged}
use Rattle.up_cert.specs.VerdictSpots.{queries_at, spots_of}
use Rattle.up_cert.proofs.Judgements.{one-judgement, judged-holds, judged-wrong}
use Rattle.up_cert.proofs.PassLemmas.{passes-back}
use Rattle.up_cert.proofs.QueryLemmas.{queries-of-spots}
use Rattle.updr_table.specs.Rows.{AtMostOne}
use Rattle.updr_table.specs.Stages.{IsStage}
use Rattle.updr_table.proofs.Staging.{stage_one}
use Rattle.updr_model.specs.OnModel.{Given, IsSoundOnModel}
use Rattle.updr_top.specs.Check.{Claims, IsConfirmed, IsOverAt, IsWrongAt, check_form, check_limit, check_rows, judge_table}
use Rattle.updr_top.specs.Reported.{IsOrderedReported, MeansReported, Reported, if_ordered, not_ordered, not_read}

-- ---- what a judgement says

flat_all : {X Y : Type 0} (P : Y → Type 0) (f : X → List Y) (xs : List X) → All P (flat_map f xs) → All (λ x. All P (f x)) xs
flat_all P f [] all = All-nil (λ x. All P (f x))
flat_all P f (x ∷ xs) all =
    let parts = subst (All P) (flat_map-cons f x xs) all in
    All-cons (λ x. All P (f x)) x xs (all_left P (f x) (flat_map f xs) parts) (flat_all P f xs (all_right P (f x) (flat_map f xs) parts))

module _ (sys : System) (limit : ℕ) where
  -- a verdict of which something else is told than that nothing is says something
  pub judged_claims : (told : Verdict) (j : Judged) → ¬ (j ≡ judged.Nothing) → IsJudged sys limit told j → Claims told
  judged_claims (verdict.Safe frame clauses) j some is = tt
  judged_claims (verdict.Unsafe w) j some is = tt
  judged_claims (verdict.NoUniversal links) j some is = tt
  judged_claims (verdict.Bounded last clauses leaves) j some is = tt
  judged_claims (verdict.Spent steps) j some is = some is
  judged_claims (verdict.Over kind weight) j some is = some is
  judged_claims (verdict.NoRun k) j some is = tt

  -- of a verdict that says something something is told
  pub judged_nothing : (told : Verdict) → IsJudged sys limit told judged.Nothing → ¬ Claims told
  judged_nothing (verdict.Safe frame clauses) is claims = is
  judged_nothing (verdict.Unsafe w) is claims = is
  judged_nothing (verdict.NoUniversal links) is claims = is
  judged_nothing (verdict.Bounded last clauses leaves) is claims = is
  judged_nothing (verdict.Spent steps) is claims = claims
  judged_nothing (verdict.Over kind weight) is claims = claims
  judged_nothing (verdict.NoRun k) is claims = is

  module _ (told : Verdict) where
    clears_light : All (Clears sys limit told) (spots_of told) → All (IsLight sys.sig limit) (judge_queries sys told)
    clears_light all =
        subst (All (IsLight sys.sig limit)) (queries-of-spots sys told)
        (all_flat (IsLight sys.sig limit) (queries_at sys told) (spots_of told) (λ k d within. (all k d within).light))

    light_clears : Holds sys told → All (IsLight sys.sig limit) (judge_queries sys told) → All (Clears sys limit told) (spots_of told)
    light_clears holds light k d within =
        let passes = passes-back sys told holds in
        let each = flat_all (IsLight sys.sig limit) (queries_at sys told) (spots_of told) (subst (All (IsLight sys.sig limit)) (sym (queries-of-spots sys told)) light) in
        record { so = passes k d within; light = each k d within }

  -- the judgement of a verdict that says something is what is found of its spots
  found_judged : (told : Verdict) (j : Judged) → Claims told → IsFound sys limit told (spots_of told) j → IsJudged sys limit told j
  found_judged (verdict.Safe frame clauses) j claims is = is
  found_judged (verdict.Unsafe w) j claims is = is
  found_judged (verdict.NoUniversal links) j claims is = is
  found_judged (verdict.Bounded last clauses leaves) j claims is = is
  found_judged (verdict.Spent steps) j claims is = absurd claims
  found_judged (verdict.Over kind weight) j claims is = absurd claims
  found_judged (verdict.NoRun k) j claims is = is

  judged_found : (told : Verdict) (j : Judged) → Claims told → IsJudged sys limit told j → IsFound sys limit told (spots_of told) j
  judged_found (verdict.Safe frame clauses) j claims is = is
  judged_found (verdict.Unsafe w) j claims is = is
  judged_found (verdict.NoUniversal links) j claims is = is
  judged_found (verdict.Bounded last clauses leaves) j claims is = is
  judged_found (verdict.Spent steps) j claims is = absurd claims
  judged_found (verdict.Over kind weight) j claims is = absurd claims
  judged_found (verdict.NoRun k) j claims is = is

  -- a verdict is judged to hold exactly where it is confirmed
  confirmed_judged : (told : Verdict) → IsConfirmed sys limit told → IsJudged sys limit told judged.Holds
  confirmed_judged told c = found_judged told judged.Holds c.claims (light_clears told c.holds c.light)

  pub judged_confirmed : (told : Verdict) → IsVerdict sys.sig told → IsJudged sys limit told judged.Holds → IsConfirmed sys limit told
  judged_confirmed told over is =
      let claims = judged_claims told judged.Holds (λ (same : judged.Holds ≡ judged.Nothing). cc) is in
      record { claims = claims; holds = judged-holds sys limit told over is; light = clears_light told (judged_found told judged.Holds claims is) }

  pub judged_wrong_at : (told : Verdict) (spot : Spot) → IsJudged sys limit told (judged.Wrong spot) → IsWrongAt sys limit told spot
  judged_wrong_at told spot is = record { not_so = judged-wrong sys limit told spot is; first = is }

  -- ---- of two rows one comes

  holds_or_over : (told : Verdict) (weight : ℕ) → IsConfirmed sys limit told → IsOverAt sys limit told weight → ⊥
  holds_or_over told weight c o =
      let same : judged.Holds ≡ judged.Over weight = one-judgement sys limit told judged.Holds (judged.Over weight) (confirmed_judged told c) o in
      absurd cc

  wrong_or_over : (told : Verdict) (spot : Spot) (weight : ℕ) → IsWrongAt sys limit told spot → IsOverAt sys limit told weight → ⊥
  wrong_or_over told spot weight w o =
      let same : judged.Wrong spot ≡ judged.Over weight = one-judgement sys limit told (judged.Wrong spot) (judged.Over weight) w.first o in
      absurd cc

  wrong_claims : (told : Verdict) (spot : Spot) → IsWrongAt sys limit told spot → Claims told
  wrong_claims told spot w = judged_claims told (judged.Wrong spot) (λ (same : judged.Wrong spot ≡ judged.Nothing). cc) w.first

  over_claims : (told : Verdict) (weight : ℕ) → IsOverAt sys limit told weight → Claims told
  over_claims told weight o = judged_claims told (judged.Over weight) (λ (same : judged.Over weight ≡ judged.Nothing). cc) o

one_judged : (limit : ℕ) (r : Reported) → AtMostOne (judge_table limit) r
one_judged limit r =
    let sys = r.given.meant.sys in
    let told = r.report.verdict in (
      (λ c. ((λ (spot, w). w.not_so c.holds), ((λ (weight, o). holds_or_over sys limit told weight c o), ((λ none. none c.claims), tt)))),
      (
        (λ (spot, w). ((λ (weight, o). wrong_or_over sys limit told spot weight w o), ((λ none. none (wrong_claims sys limit told spot w)), tt))),
        ((λ (weight, o). ((λ none. none (over_claims sys limit told weight o)), tt)), ((λ _. tt), tt)),
      ),
    )

-- ---- the two stages

one_reported : (g : Given) (a b : Reported) → MeansReported g a → MeansReported g b → a ≡ b
one_reported g a b p q = whole a.given b.given a.report b.report (p.same ∙ sym q.same) (q.only a.report p.is)
  where
    whole : (g h : Given) (r s : Report) → g ≡ h → r ≡ s → ◌≡◌ {A = Reported} (record { given = g; report = r }) (record { given = h; report = s })
    whole g h r s i j = ap₂ (λ (x : Given) (y : Report). record { given = x; report = y }) i j

reads_report : IsStage (not_read ∷ []) MeansReported
reads_report = record {
  one = one_reported;
  exclusive = λ g. ((λ _. tt), tt);
  apart = λ g. ((λ none r means. none r.report means.is), tt);
}

asks_order : IsStage (not_ordered ∷ []) IsOrderedReported
asks_order = record {
  one = λ r a b p q. p.same ∙ sym q.same;
  exclusive = λ r. ((λ _. tt), tt);
  apart = λ r. ((λ (asked, none) a p. none (p.ordered asked)), tt);
}

pub check_sound : IsSoundOnModel check_form check_rows
unfolding clap_on_literals
check_sound = record {
  simple = refl;
  model = omega arith;
  table = λ job. refl;
  exclusive = λ job g model.
      stage_one (not_read ∷ []) MeansReported reads_report (if_ordered (judge_table (check_limit job))) g
      (λ r means. stage_one (not_ordered ∷ []) IsOrderedReported asks_order (judge_table (check_limit job)) r (λ s is. one_judged (check_limit job) s));
}
