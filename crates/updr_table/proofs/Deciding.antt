-- A row's status comes exactly where the row says so.
use Rattle.std.proofs.Common.{◌≡◌, ◌≢◌, ◌∙◌, true, false, List, [], ◌∷◌, ap, sym, subst, inl, inr}
use Rattle.updr_told.specs.Ends.{End}
use Rattle.updr_told.specs.Statuses.{number_of}
use Rattle.updr_told.specs.declared.status.Status.{Status}
use Rattle.updr_table.specs.Rows.{AtMostOne, Contents, Ends, EndsBy, NoneComes, Row, has_status, is_table}
use Rattle.updr_table.specs.Table.{AllDecide, Call, IsOneOf, IsTold}
use Rattle.updr_table.proofs.EndLaws.{both, differ, end_status, is_not, neither}

module _ {L : Type 0} (contents : Contents) (e : End L) where
  ends_status : (r : Row Contents L) → EndsBy r contents e → number_of e.status ≡ number_of r.status
  ends_status r h = ap number_of (ap (λ (x : End L). x.status) h.is ∙ end_status r.status h.bytes h.left)

  -- where no row comes, none ends so
  none_ends : (rows : List (Row Contents L)) → NoneComes rows contents → Ends rows contents e → ⊥
  none_ends [] none h = h
  none_ends (r ∷ rs) none (inl h) = none.0 h.comes
  none_ends (r ∷ rs) none (inr h) = none_ends rs none.1 h

  -- an end of these rows has a status of theirs
  other_status : (rows : List (Row Contents L)) (s : Status) → has_status s rows ≡ false → Ends rows contents e → number_of e.status ≢ number_of s
  other_status [] s free h = absurd h
  other_status (r ∷ rs) s free (inl h) = λ is. differ _ _ (neither _ _ free).0 (sym (ends_status r h) ∙ is)
  other_status (r ∷ rs) s free (inr h) = other_status rs s (neither _ _ free).1 h

  module _ (call : Call L) (same : call.number ≡ number_of e.status) (told : IsTold call e) where
    -- rows of which none comes and none has the call's status
    others : (rows : List (Row Contents L)) (s : Status) → call.number ≡ number_of s → has_status s rows ≡ false → NoneComes rows contents → AllDecide rows contents call
    others [] s is free none = tt
    others (r ∷ rs) s is free none =
        let differs = differ (number_of r.status) (number_of s) (neither _ _ free).0 in (
          record {
            exactly = (λ this. absurd (differs (sym this ∙ is)), λ comes. absurd (none.0 comes));
            told = λ this. absurd (differs (sym this ∙ is));
          },
          others rs s is (neither _ _ free).1 none.1,
        )

    pub decides : (rows : List (Row Contents L)) → is_table rows ≡ true → AtMostOne rows contents → Ends rows contents e → AllDecide rows contents call
    decides [] table one h = tt
    decides (r ∷ rs) table one (inl h) =
        let is : call.number ≡ number_of r.status = same ∙ ends_status r h in (
          record {
            exactly = (λ _. h.comes, λ _. is);
            told = λ _. (h.bytes, h.left, h.says, subst (λ (x : End L). IsTold call x) h.is told);
          },
          others rs r.status is (is_not _ (both _ _ (both _ _ table).1).0) (one.0 h.comes),
        )
    decides (r ∷ rs) table one (inr h) =
        let differs : call.number ≢ number_of r.status = λ is. other_status rs r.status (is_not _ (both _ _ (both _ _ table).1).0) h (sym same ∙ is) in (
          record {
            exactly = (λ this. absurd (differs this), λ comes. absurd (none_ends rs (one.0 comes) h));
            told = λ this. absurd (differs this);
          },
          decides rs (both _ _ (both _ _ table).1).1 one.1 h,
        )

    pub is_one : (rows : List (Row Contents L)) → Ends rows contents e → IsOneOf rows contents call.number
    is_one [] h = h
    is_one (r ∷ rs) (inl h) = inl (h.comes, same ∙ ends_status r h)
    is_one (r ∷ rs) (inr h) = inr (is_one rs h)
