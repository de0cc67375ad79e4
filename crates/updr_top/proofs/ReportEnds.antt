-- How the stages of a report end.
use Rattle.std.proofs.Common.{◌<◌, ◌≤◌, ◌^◌, ℕ, List, [], ◌∷◌, Err, length, refl, inl, arith}
use Rattle.std.specs.List.{All}
use Rattle.std.specs.Prelude.{None}
use Rattle.std.proofs.lemmas.List.Elements.{All-head, All-tail}
use Rattle.fo_core.specs.declared.order.Order.{Order}
use Rattle.fo_core.specs.declared.order.Purpose.TheVariants.{Infer}
use Rattle.fo_core.specs.SortGraph.{SortEdge, Rises}
use Rattle.up_claims.specs.declared.report.Report.{Report}
use Rattle.pv_base.specs.Reading.{limit}
use Rattle.up_core.specs.View.{CoreView}
use Rattle.updr_told.specs.Ends.{End}
use Rattle.updr_told.specs.Stops.{IfRefused}
use Rattle.updr_told.specs.declared.stop.Stop.{Stop}
use Rattle.updr_told.specs.declared.stop.Stop.TheVariants.{Refused, Memory}
use Rattle.updr_table.specs.Rows.{Contents, Ends, Row, content_at}
use Rattle.updr_table.proofs.Staging.{meaning_ends, refusal_ends}
use Rattle.updr_model.specs.Cycles.{RefusesSystem, unstratified_words}
use Rattle.updr_model.specs.OnModel.{Given}
use Rattle.updr_top.specs.Reading.{IsTheReport, RefusesReport}
use Rattle.updr_top.specs.Reported.{IsAsked, IsOrderedReported, MeansReported, Reported, if_ordered, not_ordered, not_read, not_read_words, over_report}

-- the second content is short, also where there is none
pub short_second : (xs : Contents) → All (λ (bytes : List ℕ). length bytes ≤ limit) xs → length (content_at xs 1) < 2 ^ 32
short_second [] all = omega arith
short_second (b ∷ []) all = omega arith
short_second (b ∷ c ∷ bs) all =
    let P : List ℕ → Type 0 = λ bytes. length bytes ≤ limit in
    let h : length c ≤ 1048576 = All-head P c bs (All-tail P b (c ∷ bs) all) in
    omega (arith, h)

-- what is said twice of the end of a refusal is said together
pub both_refused : {L : Type 0} (T : Type 0) (s : Stop L) (P Q : End L → Type 0) → IfRefused {L = L} {T = T} (Err s) P → IfRefused {L = L} {T = T} (Err s) Q → IfRefused {L = L} {T = T} (Err s) (λ e. P e × Q e)
both_refused T (Refused told) P Q p q = (p, q)
both_refused T Memory P Q p q = tt

module _ (g : Given) where
  -- a text that is no report is refused by the row for it
  pub unread_ends : (rows : List (Row Reported CoreView)) (e : End CoreView) → RefusesReport g.meant (content_at g.contents 1) e → Ends (over_report rows) g e
  unread_ends rows e h =
      refusal_ends MeansReported g (not_read ∷ []) rows e
      (inl (record { comes = h.stops.none; bytes = not_read_words (content_at g.contents 1) h.place; left = None; says = (h.place, h.stops, refl); is = h.is }))

  module _ (r : Report) where
    abbrev read : Reported
    read = record { given = g; report = r }

    -- a report that is read ends by a row over it
    read_ends : IsTheReport g.meant (content_at g.contents 1) r → (rows : List (Row Reported CoreView)) (e : End CoreView) → Ends rows read e → Ends (over_report rows) g e
    read_ends is rows e h = meaning_ends MeansReported g (not_read ∷ []) read (record { is = is.is; only = is.only; same = refl }) rows e h

    -- a system without an order is refused by the row for it
    pub unordered_ends : IsTheReport g.meant (content_at g.contents 1) r → (rows : List (Row Reported CoreView)) (e : End CoreView) → IsAsked r.verdict → RefusesSystem Infer g.meant.sys g.meant.names e → Ends (over_report (if_ordered rows)) g e
    unordered_ends is rows e asked h =
        read_ends is (if_ordered rows) e
        (refusal_ends IsOrderedReported read (not_ordered ∷ []) rows e
        (inl (record { comes = (asked, h.unstratified.unstratified); bytes = unstratified_words g.meant.names h.cycle; left = None; says = (h.cycle, h.unstratified, refl); is = h.is })))

    -- what is judged ends by a row of the table
    pub judged_ends : IsTheReport g.meant (content_at g.contents 1) r → (order : Order) → (IsAsked r.verdict → Rises (SortEdge g.meant.sys Infer) g.meant.sys.sig.sorts order.numbers)
        → (rows : List (Row Reported CoreView)) (e : End CoreView) → Ends rows read e → Ends (over_report (if_ordered rows)) g e
    judged_ends is order rises rows e h =
        read_ends is (if_ordered rows) e
        (meaning_ends IsOrderedReported read (not_ordered ∷ []) read (record { ordered = λ asked. (order.numbers, rises asked); same = refl }) rows e h)
