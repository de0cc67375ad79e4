-- Where nothing is refused, a command answers.
use Rattle.std.proofs.Common.{◌≡◌, ◌⊎◌, ◌<◌, ◌≤◌, ◌∙◌, ℕ, List, [], ◌∷◌, Option, Some, length, refl, sym, ap, subst, inl, inr, arith}
use Rattle.std.specs.Prelude.{codes, slice_get, slice_index_or, unwrap_or}
use Rattle.fo_core.specs.declared.names.Names.{Names}
use Rattle.fo_core.specs.declared.order.Purpose.{Purpose}
use Rattle.fo_core.specs.declared.order.Purpose.TheVariants as purpose
use Rattle.fo_core.specs.declared.system.System.{System}
use Rattle.fo_core.specs.SortGraph.{IsStratified}
use Rattle.up_core.specs.View.{CoreView}
use Rattle.updr_told.specs.Statuses.{number_of}
use Rattle.updr_told.specs.declared.status.Status.{Status}
use Rattle.up_claims.specs.declared.report.Report.{Report}
use Rattle.up_report.specs.Reports.{IsReport}
use Rattle.std.specs.List.{AllZip}
use Rattle.up_gen.specs.Models.{model_text_of}
use Rattle.up_gen.specs.declared.models.TheConstants.{MOST_RELATIONS}
use Rattle.up_gen_means.specs.Accepted.{IsAccepted}
use Rattle.up_gen_means.proofs.Each.{each}
use Rattle.up_machine.specs.declared.limits.Limits.{Limits}
use Rattle.up_rounds.specs.Courses.{IsRun}
use Rattle.up_machine.proofs.Lists.{some_injective}
use Rattle.clap.specs.Words.{matches_of}
use Rattle.updr_words.specs.Forms.{app_by}
use Rattle.updr_words.specs.Jobs.{GivesFile, Job}
use Rattle.updr_words.proofs.OneJob.{in_range}
use Rattle.updr_table.specs.Rows.{Contents, Row, content_at}
use Rattle.updr_table.specs.Stages.{staged}
use Rattle.updr_table.specs.Table.{AreComplete, Call, IsOneOf, IsShort, NoneRefuses}
use Rattle.updr_model.specs.OneMeaning.{no_fault, one_meaning}
use Rattle.updr_model.specs.OnModel.{Given, MeansGiven, cycle_row, fault_row, if_stratified, over_model}
use Rattle.updr_model.specs.Texts.{MeansText}
use Rattle.updr_top.specs.Bmc.{bmc_command}
use Rattle.updr_top.specs.Check.{check_command}
use Rattle.updr_top.specs.Commands.{commands}
use Rattle.updr_top.specs.Complete.{HasJudgeable, IsComplete}
use Rattle.updr_top.specs.Demo.{demo_form, demo_rows, demo_table, demo_text, relations_of, usual_limits}
use Rattle.updr_top.specs.Infer.{infer_command, limits_of, search_text}
use Rattle.updr_top.specs.Reported.{HasNoReport, IsAsked, IsSecond, MeansReported, Reported, not_ordered}
use Rattle.updr_top.specs.Tellings.{Printing, Running, search_table}
use Rattle.updr_top.specs.Verify.{verify_command}
use Rattle.updr_top.proofs.DemoEnds.{is_number}

-- two names of other lengths aren't both the first word
pub apart : (words : List (List ℕ)) (a b : List ℕ) → ¬ (length a ≡ length b) → slice_get words 0 ≡ Some a → slice_get words 0 ≡ Some b → ⊥
apart words a b differ is other = differ (ap long (sym is ∙ other))
  where
    long : Option (List ℕ) → ℕ
    long o = length (unwrap_or o [])

module _ (contents : Contents) (sys : System) (names : Names) (means : MeansText (content_at contents 0) sys names) where
  -- no fault is told
  whole : (s : Status) → 10 ≤ number_of s → (fault_row {L = CoreView} s).comes contents → ⊥
  whole s high (t, f, is) = no_fault (content_at contents 0) sys names means t f

  -- a stratified system isn't refused
  ordered : (p : Purpose) → IsStratified sys p → ((g : Given) × MeansGiven contents g × (cycle_row {L = CoreView} p).comes g) → ⊥
  ordered p is (g, given, none) =
      let same = one_meaning (content_at contents 0) sys names means g.meant.sys g.meant.names given.text in
      none (subst (λ (s : System). IsStratified s p) same.0 is)

  -- what the second file is over the meaning of the first, it is over each meaning of it
  carried : (s t : System) (m n : Names) (x y : Contents) (r : Report) → s ≡ t → m ≡ n → x ≡ y → IsReport s.sig m (content_at x 1) r → IsReport t.sig n (content_at y 1) r
  carried s t m n x y r f g h i = rw (sym f, sym g, sym h) i

  second : (r : Report) → IsReport sys.sig names (content_at contents 1) r → (g : Given) → MeansGiven contents g → IsSecond g r
  second r is g given =
      let same = one_meaning (content_at contents 0) sys names means g.meant.sys g.meant.names given.text in
      carried sys g.meant.sys names g.meant.names contents g.contents r same.0 same.1 (sym given.same) is

  -- a report isn't refused
  reported : HasJudgeable sys names contents → ((g : Given) × MeansGiven contents g × HasNoReport g) → ⊥
  reported (r, is, fit) (g, given, none) = none r (second r is g given)

  -- nor is the system for want of an order
  ordered_report : HasJudgeable sys names contents → ((g : Given) × MeansGiven contents g × ((h : Reported) × MeansReported g h × not_ordered.comes h)) → ⊥
  ordered_report (r, is, fit) (g, given, (h, read, (asked, none))) =
      let same = one_meaning (content_at contents 0) sys names means g.meant.sys g.meant.names given.text in
      let one : r ≡ h.report = read.only r (second r is g given) in
      let told : IsAsked r.verdict = subst (λ (x : Report). IsAsked x.verdict) (sym one) asked in
      let here : IsStratified g.meant.sys purpose.Infer = subst (λ (s : System). IsStratified s purpose.Infer) same.0 (fit told) in
      none (subst (λ (x : Given). IsStratified x.meant.sys purpose.Infer) (sym read.same) here)

  check_unrefused : (job : Job) → HasJudgeable sys names contents → NoneRefuses (check_command.rows job) contents
  check_unrefused job has = (whole _, (whole _, (whole _, ((λ high. reported has), ((λ high. ordered_report has), ((λ high. absurd (omega (arith, high))), ((λ high. absurd (omega (arith, high))), ((λ high. absurd (omega (arith, high))), ((λ high. absurd (omega (arith, high))), tt)))))))))

  verify_unrefused : (job : Job) → IsStratified sys purpose.Verify → NoneRefuses (verify_command.rows job) contents
  verify_unrefused job is = (whole _, (whole _, (whole _, ((λ high. ordered purpose.Verify is), ((λ high. absurd (omega (arith, high))), ((λ high. absurd (omega (arith, high))), ((λ high. absurd (omega (arith, high))), tt)))))))

  bmc_unrefused : (job : Job) → IsStratified sys purpose.Infer → NoneRefuses (bmc_command.rows job) contents
  bmc_unrefused job is = (whole _, (whole _, (whole _, ((λ high. ordered purpose.Infer is), ((λ high. absurd (omega (arith, high))), ((λ high. absurd (omega (arith, high))), ((λ high. absurd (omega (arith, high))), tt)))))))

  pub search_unrefused : (Ran : Running) (printing : Printing) (limits : Limits) → IsStratified sys purpose.Infer → NoneRefuses (over_model (if_stratified purpose.Infer (search_table Ran printing limits))) contents
  search_unrefused Ran printing limits is = (whole _, (whole _, (whole _, ((λ high. ordered purpose.Infer is), ((λ high. absurd (omega (arith, high))), ((λ high. absurd (omega (arith, high))), ((λ high. absurd (omega (arith, high))), ((λ high. absurd (omega (arith, high))), ((λ high. absurd (omega (arith, high))), ((λ high. absurd (omega (arith, high))), tt))))))))))

-- ---- texts that are made

-- what refuses none of the made contents refuses nothing
made_unrefused : (made : Contents) (rows : List (Row Contents CoreView)) (x : Contents) → NoneRefuses rows made → NoneRefuses (staged (λ (cs : Contents) (m : Contents). m ≡ made) rows) x
made_unrefused made [] x none = tt
made_unrefused made (r ∷ rs) x none = ((λ high (m, is, comes). none.0 high (subst (λ (cs : Contents). r.comes cs) is comes)), made_unrefused made rs x none.1)

-- a text that is accepted means its system
accepted_means : (bytes : List ℕ) (a : IsAccepted bytes) → MeansText bytes a.sys a.names
accepted_means bytes a = record {
  model = a.model;
  tree = record { tokens = a.tokens; has = record { text = a.text; cut = a.cut; few = a.few }; spells = a.spells };
  means = a.means;
}

demo_unrefused : (n : ℕ) → 1 ≤ n → n ≤ MOST_RELATIONS → (x : Contents) → NoneRefuses (demo_rows n) x
demo_unrefused n low high x =
    let a = each n low high in
    made_unrefused (model_text_of n ∷ []) (over_model (if_stratified purpose.Infer (demo_table n))) x
    (search_unrefused (model_text_of n ∷ []) a.sys a.names (accepted_means (model_text_of n) a) IsRun (demo_text n) usual_limits a.stratified)

-- the words name no file
no_files : (P : List ℕ → List ℕ → Type 0) (fs : List (List ℕ)) → AllZip P [] fs → fs ≡ []
no_files P [] h = refl
no_files P (f ∷ fs) h = absurd h

-- ---- the statuses of answers

module _ (contents : Contents) (n : ℕ) where
  check_answers : (job : Job) → (n ≡ 16) ⊎ ((n < 10) × IsOneOf (check_command.rows job) contents n) → (n ≡ 0) ⊎ (n ≡ 5) ⊎ (n ≡ 6) ⊎ (n ≡ 8) ⊎ (n ≡ 16)
  check_answers job (inl is) = inr (inr (inr (inr is)))
  check_answers job (inr (low, inl (_, is))) = absurd (omega (arith, low, is))
  check_answers job (inr (low, inr (inl (_, is)))) = absurd (omega (arith, low, is))
  check_answers job (inr (low, inr (inr (inl (_, is))))) = absurd (omega (arith, low, is))
  check_answers job (inr (low, inr (inr (inr (inl (_, is)))))) = absurd (omega (arith, low, is))
  check_answers job (inr (low, inr (inr (inr (inr (inl (_, is))))))) = absurd (omega (arith, low, is))
  check_answers job (inr (low, inr (inr (inr (inr (inr (inl (_, is)))))))) = inl is
  check_answers job (inr (low, inr (inr (inr (inr (inr (inr (inl (_, is))))))))) = inr (inr (inl is))
  check_answers job (inr (low, inr (inr (inr (inr (inr (inr (inr (inl (_, is)))))))))) = inr (inl is)
  check_answers job (inr (low, inr (inr (inr (inr (inr (inr (inr (inr (inl (_, is))))))))))) = inr (inr (inr (inl is)))
  check_answers job (inr (low, inr (inr (inr (inr (inr (inr (inr (inr (inr none)))))))))) = absurd none

  verify_answers : (job : Job) → (n ≡ 16) ⊎ ((n < 10) × IsOneOf (verify_command.rows job) contents n) → (n ≡ 0) ⊎ (n ≡ 5) ⊎ (n ≡ 7) ⊎ (n ≡ 16)
  verify_answers job (inl is) = inr (inr (inr is))
  verify_answers job (inr (low, inl (_, is))) = absurd (omega (arith, low, is))
  verify_answers job (inr (low, inr (inl (_, is)))) = absurd (omega (arith, low, is))
  verify_answers job (inr (low, inr (inr (inl (_, is))))) = absurd (omega (arith, low, is))
  verify_answers job (inr (low, inr (inr (inr (inl (_, is)))))) = absurd (omega (arith, low, is))
  verify_answers job (inr (low, inr (inr (inr (inr (inl (_, is))))))) = inl is
  verify_answers job (inr (low, inr (inr (inr (inr (inr (inl (_, is)))))))) = inr (inr (inl is))
  verify_answers job (inr (low, inr (inr (inr (inr (inr (inr (inl (_, is))))))))) = inr (inl is)
  verify_answers job (inr (low, inr (inr (inr (inr (inr (inr (inr none)))))))) = absurd none

  bmc_answers : (job : Job) → (n ≡ 16) ⊎ ((n < 10) × IsOneOf (bmc_command.rows job) contents n) → (n ≡ 0) ⊎ (n ≡ 1) ⊎ (n ≡ 5) ⊎ (n ≡ 16)
  bmc_answers job (inl is) = inr (inr (inr is))
  bmc_answers job (inr (low, inl (_, is))) = absurd (omega (arith, low, is))
  bmc_answers job (inr (low, inr (inl (_, is)))) = absurd (omega (arith, low, is))
  bmc_answers job (inr (low, inr (inr (inl (_, is))))) = absurd (omega (arith, low, is))
  bmc_answers job (inr (low, inr (inr (inr (inl (_, is)))))) = absurd (omega (arith, low, is))
  bmc_answers job (inr (low, inr (inr (inr (inr (inl (_, is))))))) = inr (inl is)
  bmc_answers job (inr (low, inr (inr (inr (inr (inr (inl (_, is)))))))) = inl is
  bmc_answers job (inr (low, inr (inr (inr (inr (inr (inr (inl (_, is))))))))) = inr (inr (inl is))
  bmc_answers job (inr (low, inr (inr (inr (inr (inr (inr (inr none)))))))) = absurd none

  -- each status is one of a search, or refuses
  abbrev AreSearched : List (Row Contents CoreView) → Type 0
  AreSearched [] = Unit {0}
  AreSearched (r ∷ rs) = ((number_of r.status ≤ 5) ⊎ (10 ≤ number_of r.status)) × AreSearched rs

  search_answer : (rows : List (Row Contents CoreView)) → AreSearched rows → n < 10 → IsOneOf rows contents n → n ≤ 5
  search_answer [] all low h = absurd h
  search_answer (r ∷ rs) all low (inl (_, is)) = of all.0
    where
      of : (number_of r.status ≤ 5) ⊎ (10 ≤ number_of r.status) → n ≤ 5
      of (inl few) = omega (arith, few, is)
      of (inr high) = absurd (omega (arith, high, is, low))
  search_answer (r ∷ rs) all low (inr h) = search_answer rs all.1 low h

  pub search_answers : (rows : List (Row Contents CoreView)) → AreSearched rows → (n ≡ 16) ⊎ ((n < 10) × IsOneOf rows contents n) → (n ≤ 5) ⊎ (n ≡ 16)
  search_answers rows all (inl is) = inr is
  search_answers rows all (inr (low, h)) = inl (search_answer rows all low h)

  pub searched : (Ran : Running) (printing : Printing) (limits : Limits) → AreSearched (over_model (if_stratified purpose.Infer (search_table Ran printing limits)))
  searched Ran printing limits = (inr (omega arith), (inr (omega arith), (inr (omega arith), (inr (omega arith), (inl (omega arith), (inl (omega arith), (inl (omega arith), (inl (omega arith), (inl (omega arith), (inl (omega arith), tt))))))))))

  demo_searched : (k : ℕ) → AreSearched (demo_rows k)
  demo_searched k = (inr (omega arith), (inr (omega arith), (inr (omega arith), (inr (omega arith), (inl (omega arith), (inl (omega arith), (inl (omega arith), (inl (omega arith), (inl (omega arith), (inl (omega arith), tt))))))))))

-- ---- the clause

-- nor are the words of `updr` those of `demo`
not_demo : (words : List (List ℕ)) → slice_get words 0 ≡ Some (codes "updr") → slice_get words 0 ≡ Some (codes "demo") → ⊥
not_demo words is other = differ (some_injective (codes "updr") (codes "demo") (sym is ∙ other))
  where
    first : List ℕ → ℕ
    first text = slice_index_or text 0 0

    differ : codes "updr" ≡ codes "demo" → ⊥
    differ e = let bytes : first (codes "updr") ≡ first (codes "demo") = ap first e in omega (arith, bytes)

module _ (words : List (List ℕ)) (call : Call CoreView) (all : AreComplete commands words call) where
  pub is_complete : IsComplete words call
  is_complete = record {
    updr = λ h.
        search_answers h.contents call.number (infer_command.rows h.job) (searched h.contents call.number IsRun search_text (limits_of h.job))
        ((((all.1 (λ other. apart words (codes "check") (codes "updr") (λ is. absurd (omega (arith, is))) other h.named)).1 (λ other. apart words (codes "verify") (codes "updr") (λ is. absurd (omega (arith, is))) other h.named)).1 (λ other. apart words (codes "bmc") (codes "updr") (λ is. absurd (omega (arith, is))) other h.named)).0 h.named h.job h.asked h.contents
        (record { good = h.good; out_quiet = h.out_quiet; err_quiet = h.err_quiet; unrefused = search_unrefused h.contents h.sys h.names h.means IsRun search_text (limits_of h.job) h.is }));
    demo = λ h.
        let range = is_number h.job.numbers (in_range demo_form words h.job h.asked) in
        search_answers [] call.number (demo_rows (relations_of h.job)) (demo_searched [] call.number (relations_of h.job))
        (((((all.1 (λ other. apart words (codes "check") (codes "demo") (λ is. absurd (omega (arith, is))) other h.named)).1 (λ other. apart words (codes "verify") (codes "demo") (λ is. absurd (omega (arith, is))) other h.named)).1 (λ other. apart words (codes "bmc") (codes "demo") (λ is. absurd (omega (arith, is))) other h.named)).1 (λ other. not_demo words other h.named)).0 h.named h.job h.asked []
        (record {
          good = record { told = subst (λ (fs : List (List ℕ)). AllZip (IsShort call.files) fs []) (sym (no_files (GivesFile (matches_of (app_by demo_form) words)) h.job.files h.asked.files)) tt; quiet = h.files_quiet };
          out_quiet = h.out_quiet;
          err_quiet = h.err_quiet;
          unrefused = demo_unrefused (relations_of h.job) range.0 range.1 [];
        }));
    check = λ h.
        check_answers h.contents call.number h.job
        (all.0 h.named h.job h.asked h.contents
        (record { good = h.good; out_quiet = h.out_quiet; err_quiet = h.err_quiet; unrefused = check_unrefused h.contents h.sys h.names h.means h.job h.is }));
    verify = λ h.
        verify_answers h.contents call.number h.job
        ((all.1 (λ other. apart words (codes "check") (codes "verify") (λ is. absurd (omega (arith, is))) other h.named)).0 h.named h.job h.asked h.contents
        (record { good = h.good; out_quiet = h.out_quiet; err_quiet = h.err_quiet; unrefused = verify_unrefused h.contents h.sys h.names h.means h.job h.is }));
    bmc = λ h.
        bmc_answers h.contents call.number h.job
        (((all.1 (λ other. apart words (codes "check") (codes "bmc") (λ is. absurd (omega (arith, is))) other h.named)).1 (λ other. apart words (codes "verify") (codes "bmc") (λ is. absurd (omega (arith, is))) other h.named)).0 h.named h.job h.asked h.contents
        (record { good = h.good; out_quiet = h.out_quiet; err_quiet = h.err_quiet; unrefused = bmc_unrefused h.contents h.sys h.names h.means h.job h.is }));
  }
