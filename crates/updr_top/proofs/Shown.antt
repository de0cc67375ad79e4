-- What a call of `updr` has shown follows from how the commands may end, however it runs its machine.
use Rattle.std.proofs.Common.{◌≡◌, ◌⊎◌, ◌∙◌, ◌≤◌, ◌<◌, ℕ, List, [], ◌∷◌, Option, None, Some, length, codes, ap, refl, sym, subst, inl, inr, arith}
use Rattle.std.specs.Prelude.{slice_get}
use Rattle.std.proofs.Math.Seq.{take-length}
use Rattle.fo_core.specs.declared.order.Order.{Order}
use Rattle.fo_core.specs.declared.order.Purpose.TheVariants as purpose
use Rattle.fo_core.specs.declared.system.System.{System}
use Rattle.fo_core.specs.Sorted.{IsSystem}
use Rattle.pv_base.specs.Written.{Appends, AppendsPrefix}
use Rattle.pyv_sorts.specs.declared.model.Elaborated.{Elaborated}
use Rattle.up_claims.specs.declared.verdict.Verdict.{Verdict}
use Rattle.up_machine.specs.declared.event.Event.{Event}
use Rattle.up_machine.specs.declared.limits.Limits.{Limits}
use Rattle.up_machine.specs.Legal.{Legal}
use Rattle.up_machine.specs.Told.{Told}
use Rattle.up_machine.proofs.Lists.{none_is_some, some_injective}
use Rattle.up_machine.proofs.ToldHolds.{told_holds}
use Rattle.up_core.specs.View.{CoreView}
use Rattle.up_gen.specs.Models.{model_text_of}
use Rattle.up_report.specs.Texts.{report_text}
use Rattle.up_rounds.specs.Courses.{IsRun}
use Rattle.up_rounds.proofs.SoundRuns.{run_sound}
use Rattle.updr_told.specs.Ends.{End, out_of_memory, printing}
use Rattle.updr_told.specs.Statuses.{number_of}
use Rattle.updr_told.specs.Telling.{IsAnswer, TakesAll, Tells}
use Rattle.updr_told.specs.declared.status.Status.{Status}
use Rattle.updr_told.specs.declared.status.Status.TheVariants as status
use Rattle.updr_words.specs.Forms.{Form}
use Rattle.updr_words.specs.Jobs.{IsJob, Job}
use Rattle.updr_table.specs.Commands.{IsNamed, MayEnd, MayEndBy}
use Rattle.updr_table.specs.Outside.{AreContents, Outside}
use Rattle.updr_table.specs.Rows.{Contents, Row, content_at}
use Rattle.updr_table.specs.Table.{Call}
use Rattle.updr_model.specs.OneMeaning.{is_model}
use Rattle.updr_model.specs.OnModel.{Given, IsStratifiedGiven, MeansGiven, cycle_row, fault_rows, if_stratified, over_model}
use Rattle.updr_model.specs.Texts.{MeansText}
use Rattle.updr_top.specs.Bmc.{bmc_command, bmc_rows}
use Rattle.updr_top.specs.Check.{check_command, check_limit, check_rows, judge_table}
use Rattle.updr_top.specs.Commands.{commands}
use Rattle.updr_top.specs.Demo.{demo_command, demo_form, demo_table, demo_text, relations_of, usual_limits}
use Rattle.updr_top.specs.Infer.{infer_command, infer_form, limits_of, report_of, search_command, search_text}
use Rattle.updr_top.specs.OneStatus.{status_of}
use Rattle.updr_top.specs.Reported.{IsOrderedReported, MeansReported, if_ordered, not_ordered, not_read}
use Rattle.updr_top.specs.Searched.{HasDemonstrated, HasShown, IsPrinted, IsProved, IsSearch, IsWritten, NamesSearch, line_of}
use Rattle.updr_top.specs.Tellings.{IsFinished, Printing, Reports, Running, search_table, told_row}
use Rattle.updr_top.specs.Verify.{verify_command, verify_rows}
use Rattle.updr_top.proofs.Left.{AllRefuse, Came, IsBare, NoneLeaves, Said, Says, bare, came, decided, none_left, of_stage, unstaged}
use Rattle.updr_top.proofs.Finished.{rounds_finished}
use Rattle.updr_top.proofs.Ranged.{told_spent}

-- ---- ends that leave nothing

fault_refuse : AllRefuse (fault_rows {L = CoreView})
fault_refuse = (omega arith, (omega arith, (omega arith, tt)))

module _ (o : Outside) (words : List (List ℕ)) (e : End CoreView) where
  -- an end that leaves nothing, or of which a row over a system leaves nothing
  of_bare : {A : Type 0} → IsBare e ⊎ A → (A → e.left ≡ None) → e.left ≡ None
  of_bare (inl b) rest = b.nothing
  of_bare (inr a) rest = rest a

  check_leaves : MayEndBy check_command o words e → e.left ≡ None
  check_leaves may = of (came check_command o words e may)
    where
      none : (job : Job) → NoneLeaves (judge_table (check_limit job))
      none job = (
        (λ r bytes left says. says.1),
        ((λ r bytes left says. says.3), ((λ r bytes left says. says.3), ((λ r bytes left says. says.1), tt))),
      )

      of : Came check_command o words e → e.left ≡ None
      of (bare b) = b.nothing
      of (decided job asked contents are h) =
          of_bare (of_stage fault_rows MeansGiven (check_rows job) contents e fault_refuse h)
          (λ (g, means, over). of_bare (of_stage (not_read ∷ []) MeansReported (if_ordered (judge_table (check_limit job))) g e (omega arith, tt) over)
          (λ (r, read, ordered). of_bare (of_stage (not_ordered ∷ []) IsOrderedReported (judge_table (check_limit job)) r e (omega arith, tt) ordered)
          (λ (s, is, judged). none_left (judge_table (check_limit job)) s e (none job) judged)))

  verify_leaves : MayEndBy verify_command o words e → e.left ≡ None
  verify_leaves may = of (came verify_command o words e may)
    where
      none : (job : Job) → NoneLeaves (verify_rows job)
      none job = (
        (λ g bytes left says. says.1),
        ((λ g bytes left says. says.5), ((λ g bytes left says. says.3), tt)),
      )

      of : Came verify_command o words e → e.left ≡ None
      of (bare b) = b.nothing
      of (decided job asked contents are h) =
          of_bare (of_stage fault_rows MeansGiven (if_stratified purpose.Verify (verify_rows job)) contents e fault_refuse h)
          (λ (g, means, over). of_bare (of_stage (cycle_row purpose.Verify ∷ []) (IsStratifiedGiven purpose.Verify) (verify_rows job) g e (omega arith, tt) over)
          (λ (s, is, found). none_left (verify_rows job) s e (none job) found))

  bmc_leaves : MayEndBy bmc_command o words e → e.left ≡ None
  bmc_leaves may = of (came bmc_command o words e may)
    where
      none : (job : Job) → NoneLeaves (bmc_rows job)
      none job = (
        (λ g bytes left says. says.3),
        ((λ g bytes left says. says.1), ((λ g bytes left says. says.3), tt)),
      )

      of : Came bmc_command o words e → e.left ≡ None
      of (bare b) = b.nothing
      of (decided job asked contents are h) =
          of_bare (of_stage fault_rows MeansGiven (if_stratified purpose.Infer (bmc_rows job)) contents e fault_refuse h)
          (λ (g, means, over). of_bare (of_stage (cycle_row purpose.Infer ∷ []) (IsStratifiedGiven purpose.Infer) (bmc_rows job) g e (omega arith, tt) over)
          (λ (s, is, found). none_left (bmc_rows job) s e (none job) found))

-- ---- ends of a search

-- an end that tells what a search in these limits has come to, of a system of which P holds
pub record IsSearchEnd (Ran : Running) (printing_of : Printing) (limits : Limits) (P : Elaborated → Type 0) (e : End CoreView) : Type 0 where
  pub meant : Elaborated
  pub means : P meant
  pub of : Status
  pub text : List ℕ
  pub left : Option CoreView
  pub reports : Reports Ran printing_of limits of meant text left
  pub is : e ≡ printing of text left

module _ (Ran : Running) (printing_of : Printing) (limits : Limits) (P : Elaborated → Type 0) (e : End CoreView) where
  of_row : (g : Given) → P g.meant → (of : Status) → (r : Says (told_row Ran printing_of limits of) g e) → e ≡ printing of r.bytes r.left → IsSearchEnd Ran printing_of limits P e
  of_row g means of r is = record { meant = g.meant; means = means; of = of; text = r.bytes; left = r.left; reports = r.says; is = is }

  of_rows : (g : Given) → P g.meant → Said (search_table Ran printing_of limits) g e → IsSearchEnd Ran printing_of limits P e
  of_rows g means (inl r) = of_row g means status.Holds r r.is
  of_rows g means (inr (inl r)) = of_row g means status.Unsafe r r.is
  of_rows g means (inr (inr (inl r))) = of_row g means status.NoUniversal r r.is
  of_rows g means (inr (inr (inr (inl r)))) = of_row g means status.Bounded r r.is
  of_rows g means (inr (inr (inr (inr (inl r))))) = of_row g means status.Spent r r.is
  of_rows g means (inr (inr (inr (inr (inr (inl r)))))) = of_row g means status.Over r r.is
  of_rows g means (inr (inr (inr (inr (inr (inr none)))))) = absurd none

-- the text of the first content means this system
abbrev MeansFirst : Contents → Elaborated → Type 0
MeansFirst contents meant = MeansText (content_at contents 0) meant.sys meant.names

-- the rows over a model refuse, or tell a search of what its text means
module _ (Ran : Running) (printing_of : Printing) (limits : Limits) (contents : Contents) (e : End CoreView) where
  abbrev rows : List (Row Given CoreView)
  rows = search_table Ran printing_of limits

  of_model : Said (over_model (if_stratified purpose.Infer rows)) contents e → IsBare e ⊎ IsSearchEnd Ran printing_of limits (MeansFirst contents) e
  of_model h = first (of_stage fault_rows MeansGiven (if_stratified purpose.Infer rows) contents e fault_refuse h)
    where
      second : (g : Given) → MeansGiven contents g → IsBare e ⊎ ((s : Given) × IsStratifiedGiven purpose.Infer g s × Said rows s e) → IsBare e ⊎ IsSearchEnd Ran printing_of limits (MeansFirst contents) e
      second g means (inl b) = inl b
      second g means (inr (s, is, told)) = inr (of_rows Ran printing_of limits (MeansFirst contents) e s (subst (λ (x : Given). MeansFirst contents x.meant) (sym is.same) means.text) told)

      first : IsBare e ⊎ ((g : Given) × MeansGiven contents g × Said (if_stratified purpose.Infer rows) g e) → IsBare e ⊎ IsSearchEnd Ran printing_of limits (MeansFirst contents) e
      first (inl b) = inl b
      first (inr (g, means, over)) = second g means (of_stage (cycle_row purpose.Infer ∷ []) (IsStratifiedGiven purpose.Infer) rows g e (omega arith, tt) over)

-- an end of `updr` by words of this form: over the system that contents mean, in the limits of a job
pub record IsInferEnd (Ran : Running) (form : Form) (o : Outside) (words : List (List ℕ)) (e : End CoreView) : Type 0 where
  pub job : Job
  pub asked : IsJob form words job
  pub contents : Contents
  pub are : AreContents o job.files contents
  pub end : IsSearchEnd Ran search_text (limits_of job) (MeansFirst contents) e

-- an end of `demo`: over the system that the text of a model of so many relations means
pub record IsDemoEnd (words : List (List ℕ)) (e : End CoreView) : Type 0 where
  pub job : Job
  pub asked : IsJob demo_form words job
  pub end : IsSearchEnd IsRun (demo_text (relations_of job)) usual_limits (MeansFirst (model_text_of (relations_of job) ∷ [])) e

-- the text that `demo` makes
abbrev text_for : Job → List ℕ
text_for job = model_text_of (relations_of job)

-- a search is refused, or ends by a row of its table
module _ (Ran : Running) (form : Form) (o : Outside) (words : List (List ℕ)) (e : End CoreView) where
  pub infer_end : MayEndBy (search_command form Ran) o words e → IsBare e ⊎ IsInferEnd Ran form o words e
  infer_end may = of (came (search_command form Ran) o words e may)
    where
      ended : (job : Job) → IsJob form words job → (contents : Contents) → AreContents o job.files contents → IsBare e ⊎ IsSearchEnd Ran search_text (limits_of job) (MeansFirst contents) e → IsBare e ⊎ IsInferEnd Ran form o words e
      ended job asked contents are (inl b) = inl b
      ended job asked contents are (inr end) = inr (record { job = job; asked = asked; contents = contents; are = are; end = end })

      of : Came (search_command form Ran) o words e → IsBare e ⊎ IsInferEnd Ran form o words e
      of (bare b) = inl b
      of (decided job asked contents are h) = ended job asked contents are (of_model Ran search_text (limits_of job) contents e h)

module _ (o : Outside) (words : List (List ℕ)) (e : End CoreView) where
  demo_end : MayEndBy demo_command o words e → IsBare e ⊎ IsDemoEnd words e
  demo_end may = of (came demo_command o words e may)
    where
      ended : (job : Job) → IsJob demo_form words job → IsBare e ⊎ IsSearchEnd IsRun (demo_text (relations_of job)) usual_limits (MeansFirst (text_for job ∷ [])) e → IsBare e ⊎ IsDemoEnd words e
      ended job asked (inl b) = inl b
      ended job asked (inr end) = inr (record { job = job; asked = asked; end = end })

      made : (job : Job) (contents : Contents) → contents ≡ text_for job ∷ [] → Said (over_model (if_stratified purpose.Infer (demo_table (relations_of job)))) contents e → IsBare e ⊎ IsSearchEnd IsRun (demo_text (relations_of job)) usual_limits (MeansFirst (text_for job ∷ [])) e
      made job contents is h =
          of_model IsRun (demo_text (relations_of job)) usual_limits (text_for job ∷ []) e
          (subst (λ (cs : Contents). Said (over_model (if_stratified purpose.Infer (demo_table (relations_of job)))) cs e) is h)

      of : Came demo_command o words e → IsBare e ⊎ IsDemoEnd words e
      of (bare b) = inl b
      of (decided job asked contents are h) =
          let over = unstaged (λ (cs : Contents) (made : Contents). made ≡ text_for job ∷ []) (over_model (if_stratified purpose.Infer (demo_table (relations_of job)))) contents e h in
          ended job asked (made job over.0 over.1 over.2)

  -- what an end is, of whatever command: one that leaves nothing, or one of a search
  pub data Ending : Type 0 where
    leaves_nothing : (NamesSearch words → 10 ≤ number_of e.status) → e.left ≡ None → Ending
    of_infer : IsNamed infer_command words → IsInferEnd IsRun infer_form o words e → Ending
    of_demo : IsNamed demo_command words → IsDemoEnd words e → Ending

  -- words that name another command name none that searches
  other : (name : List ℕ) → ¬ (name ≡ codes "updr") → ¬ (name ≡ codes "demo") → slice_get words 0 ≡ Some name → NamesSearch words → 10 ≤ number_of e.status
  other name not_updr not_demo is (inl named) = absurd (not_updr (some_injective name (codes "updr") (sym is ∙ named)))
  other name not_updr not_demo is (inr named) = absurd (not_demo (some_injective name (codes "demo") (sym is ∙ named)))

  ending : MayEnd commands o words e → Ending
  ending (inl (named, may)) = leaves_nothing (other (codes "check") (λ is. cc) (λ is. cc) named) (check_leaves o words e may)
  ending (inr (_, inl (named, may))) = leaves_nothing (other (codes "verify") (λ is. cc) (λ is. cc) named) (verify_leaves o words e may)
  ending (inr (_, inr (_, inl (named, may)))) = leaves_nothing (other (codes "bmc") (λ is. cc) (λ is. cc) named) (bmc_leaves o words e may)
  ending (inr (_, inr (_, inr (_, inl (named, may))))) = of (infer_end IsRun infer_form o words e may)
    where
      of : IsBare e ⊎ IsInferEnd IsRun infer_form o words e → Ending
      of (inl b) = leaves_nothing (λ _. b.high) b.nothing
      of (inr s) = of_infer named s
  ending (inr (_, inr (_, inr (_, inr (_, inl (named, may)))))) = of (demo_end may)
    where
      of : IsBare e ⊎ IsDemoEnd words e → Ending
      of (inl b) = leaves_nothing (λ _. b.high) b.nothing
      of (inr s) = of_demo named s
  ending (inr (_, inr (_, inr (_, inr (_, inr (_, is)))))) = leaves_nothing (λ _. subst (λ (x : End CoreView). 10 ≤ number_of x.status) (sym is) (omega arith)) (ap (λ (x : End CoreView). x.left) is)

-- ---- the run

proved : (sys : System) (limits : Limits) (history : List Event) (told : Verdict) → IsSystem sys → Legal sys limits history → Told sys history told → IsProved sys limits history told
proved sys limits history told good legal tells = record {
  tells = tells;
  holds = told_holds sys limits history told good legal tells;
  spent = told_spent sys limits history legal told tells;
}

-- ---- what is printed

module _ (call : Call CoreView) (of : Status) (text : List ℕ) where
  printed : (left : Option CoreView) → Tells (printing of text left) call.out call.err call.number → IsPrinted call of text
  printed left (inl (is, out, err)) = inl (is, out)
  printed left (inr (is, inl (part, _))) = inr (is, part.appended)
  printed left (inr (is, inr (out, _))) = inr (is, whole out)
    where
      whole : TakesAll call.out text → AppendsPrefix call.out.written text call.out.written_after
      whole all = (length text, subst (λ (x : List ℕ). Appends call.out.written x call.out.written_after) (sym (take-length text)) all.appended)

-- ---- what the machine that is left shows

-- a machine that was run in this way has the system and the limits of its search, and a whole history
abbrev pub Finishes : Running → Type 0
Finishes Ran = (sys : System) (order : Order) (limits : Limits) (c : CoreView) → Ran sys order limits c → IsFinished sys limits c

module _ (Ran : Running) (finishes : Finishes Ran) (call : Call CoreView) (printing_of : Printing) (limits : Limits) (contents : Contents) (e : End CoreView) (s : IsSearchEnd Ran printing_of limits (MeansFirst contents) e) (told : Tells e call.out call.err call.number) (core : CoreView) (same : s.reports.core ≡ core) where
  there : Ran s.meant.sys core.order limits core
  there = subst (λ (c : CoreView). Ran s.meant.sys c.order limits c) same s.reports.ran

  finished : IsFinished s.meant.sys limits core
  finished = finishes s.meant.sys core.order limits core there

  means : MeansText (content_at contents 0) core.sys s.meant.names
  means = subst (λ (x : System). MeansText (content_at contents 0) x s.meant.names) (sym finished.sys_is) s.means

  good : IsSystem core.sys
  good = (is_model (content_at contents 0) core.sys s.meant.names means).system

  ran : Ran core.sys core.order core.limits core
  ran =
      subst (λ (l : Limits). Ran core.sys core.order l core) (sym finished.limits_are)
      (subst (λ (x : System). Ran x core.order limits core) (sym finished.sys_is) there)

  legal : Legal core.sys core.limits core.history
  legal = (finishes core.sys core.order core.limits core ran).whole.legal

  tells : Told core.sys core.history s.reports.verdict
  tells =
      subst (λ (x : System). Told x core.history s.reports.verdict) (sym finished.sys_is)
      (subst (λ (c : CoreView). Told s.meant.sys c.history s.reports.verdict) same s.reports.told)

  holds : IsProved core.sys core.limits core.history s.reports.verdict
  holds = proved core.sys core.limits core.history s.reports.verdict good legal tells

  -- what is printed of it, in whatever way that is said
  prints : (text : List ℕ) → printing_of s.meant core s.reports.verdict ≡ text → IsPrinted call (status_of s.reports.verdict) text
  prints text is =
      subst (λ (a : Status). IsPrinted call a text) (sym s.reports.status_is)
      (subst (IsPrinted call s.of) (s.reports.text_is ∙ ap (λ (c : CoreView). printing_of s.meant c s.reports.verdict) same ∙ is) (printed call s.of s.text s.left (subst (λ (x : End CoreView). Tells x call.out call.err call.number) s.is told)))

-- ---- the clause

-- of a machine that was run in this way a run is so
abbrev pub Runs : Running → (CoreView → Type 0) → Type 0
Runs Ran Run = (c : CoreView) → IsSystem c.sys → Ran c.sys c.order c.limits c → Run c

written : Runs IsRun IsWritten
written c good ran = record { rounds = ran.course.rounds; sound = run_sound c.sys c.order c.limits c good ran }

module _ (words : List (List ℕ)) (call : Call CoreView) where
  module _ (e : End CoreView) (told : Tells e call.out call.err call.number) (core : CoreView) where
    pub has_shown : (Ran : Running) (form : Form) (Run : CoreView → Type 0) → Finishes Ran → Runs Ran Run → slice_get words 0 ≡ Some form.name → (s : IsInferEnd Ran form call.files words e) → s.end.reports.core ≡ core → HasShown form Run words call core
    has_shown Ran form Run finishes runs named s same =
        let done = finished Ran finishes call search_text (limits_of s.job) s.contents e s.end told core same in
        let system = good Ran finishes call search_text (limits_of s.job) s.contents e s.end told core same in record {
          names = s.end.meant.names;
          asked = record {
            named = named;
            job = s.job;
            asked = s.asked;
            limits_are = done.limits_are;
            contents = s.contents;
            were_read = s.are;
            means = means Ran finishes call search_text (limits_of s.job) s.contents e s.end told core same;
          };
          run = runs core system (ran Ran finishes call search_text (limits_of s.job) s.contents e s.end told core same);
          told = s.end.reports.verdict;
          proved = holds Ran finishes call search_text (limits_of s.job) s.contents e s.end told core same;
          printed =
              prints Ran finishes call search_text (limits_of s.job) s.contents e s.end told core same
              (report_text core.sys.sig s.end.meant.names (report_of core s.end.reports.verdict))
              (ap (λ (x : System). report_text x.sig s.end.meant.names (report_of core s.end.reports.verdict)) (sym done.sys_is));
        }

    has_demonstrated : IsNamed demo_command words → (s : IsDemoEnd words e) → s.end.reports.core ≡ core → HasDemonstrated words call core
    has_demonstrated named s same =
        let n = relations_of s.job in
        let made = model_text_of n ∷ [] in
        let done = finished IsRun rounds_finished call (demo_text n) usual_limits made e s.end told core same in
        let system = good IsRun rounds_finished call (demo_text n) usual_limits made e s.end told core same in record {
          relations = n;
          asked = record {
            named = named;
            job = s.job;
            asked = s.asked;
            relations_are = refl;
            limits_are = done.limits_are;
            names = s.end.meant.names;
            means = means IsRun rounds_finished call (demo_text n) usual_limits made e s.end told core same;
          };
          run = written core system (ran IsRun rounds_finished call (demo_text n) usual_limits made e s.end told core same);
          told = s.end.reports.verdict;
          proved = holds IsRun rounds_finished call (demo_text n) usual_limits made e s.end told core same;
          printed = prints IsRun rounds_finished call (demo_text n) usual_limits made e s.end told core same (line_of n (status_of s.end.reports.verdict) core) refl;
        }

  -- an answer's status is that of its end
  pub answered : (e : End CoreView) → Tells e call.out call.err call.number → call.number < 10 → call.number ≡ number_of e.status
  answered e (inl (is, _, _)) low = is
  answered e (inr (is, _)) low = absurd (omega (arith, is, low))

  module _ (a : IsAnswer (MayEnd commands call.files words) call.out call.err call.number call.left) where
    left_by : (Ran : Running) (printing_of : Printing) (limits : Limits) (P : Elaborated → Type 0) (s : IsSearchEnd Ran printing_of limits P a.meant) → call.left ≡ Some s.reports.core
    left_by Ran printing_of limits P s = a.handed_on ∙ ap (λ (x : End CoreView). x.left) s.is ∙ s.reports.left_is

    leaves : NamesSearch words → call.number < 10 → (core : CoreView) × (call.left ≡ Some core)
    leaves named low = of a.comes
      where
        high : 10 ≤ number_of a.meant.status → ⊥
        high h = let is = answered a.meant a.told low in omega (arith, is, low, h)

        by : Ending call.files words a.meant → (core : CoreView) × (call.left ≡ Some core)
        by (leaves_nothing refuses none) = absurd (high (refuses named))
        by (of_infer is s) = (s.end.reports.core, left_by _ _ _ _ s.end)
        by (of_demo is s) = (s.end.reports.core, left_by _ _ _ _ s.end)

        of : MayEnd commands call.files words a.meant ⊎ (a.meant ≡ out_of_memory) → (core : CoreView) × (call.left ≡ Some core)
        of (inl may) = by (ending call.files words a.meant may)
        of (inr none) = absurd (high (subst (λ (x : End CoreView). 10 ≤ number_of x.status) (sym none) (omega arith)))

    shows : (core : CoreView) → call.left ≡ Some core → HasShown infer_form IsWritten words call core ⊎ HasDemonstrated words call core
    shows core left = of a.comes
      where
        one_core : (c : CoreView) → call.left ≡ Some c → c ≡ core
        one_core c is = some_injective c core (sym is ∙ left)

        by : Ending call.files words a.meant → HasShown infer_form IsWritten words call core ⊎ HasDemonstrated words call core
        by (leaves_nothing _ none) = none_is_some core (sym none ∙ sym a.handed_on ∙ left)
        by (of_infer named s) = inl (has_shown a.meant a.told core IsRun infer_form IsWritten rounds_finished written named s (one_core s.end.reports.core (left_by _ _ _ _ s.end)))
        by (of_demo named s) = inr (has_demonstrated a.meant a.told core named s (one_core s.end.reports.core (left_by _ _ _ _ s.end)))

        of : MayEnd commands call.files words a.meant ⊎ (a.meant ≡ out_of_memory) → HasShown infer_form IsWritten words call core ⊎ HasDemonstrated words call core
        of (inl may) = by (ending call.files words a.meant may)
        of (inr none) = none_is_some core (sym (ap (λ (x : End CoreView). x.left) none) ∙ sym a.handed_on ∙ left)

    pub is_search : IsSearch words call
    is_search = record { leaves = leaves; shows = shows }
