-- How the stages of a model end.
use Rattle.std.proofs.Common.{◌≡◌, ◌⊎◌, ◌<◌, ◌≤◌, ◌^◌, ◌∙◌, ℕ, List, [], ◌∷◌, Some, None, length, sym, ap, inl, inr, refl, arith}
use Rattle.std.specs.List.{All}
use Rattle.std.proofs.lemmas.List.Elements.{All-head}
use Rattle.fo_core.specs.declared.order.Purpose.{Purpose}
use Rattle.pv_base.specs.Reading.{limit}
use Rattle.pyv_parse.specs.declared.fault.ParseFault.{ParseFault}
use Rattle.pyv_parse.specs.declared.fault.ParseFault.TheVariants as parse
use Rattle.updr_told.specs.Ends.{End, refusal}
use Rattle.updr_told.specs.declared.status.Status.{Status}
use Rattle.updr_told.specs.declared.status.Status.TheVariants as status
use Rattle.updr_table.specs.Rows.{Contents, Ends, Row, content_at}
use Rattle.updr_table.proofs.Staging.{meaning_ends, refusal_ends}
use Rattle.updr_model.specs.Cycles.{RefusesSystem, unstratified_words}
use Rattle.updr_model.specs.Faults.{Telling, lex_telling, parse_telling, sort_telling}
use Rattle.updr_model.specs.OneFault.{status_or}
use Rattle.updr_model.specs.OneMeaning.{lex_status, sort_status, told_status}
use Rattle.updr_model.specs.OnModel.{Given, MeansGiven, cycle_row, fault_rows, if_stratified, over_model, over_text, IsStratifiedGiven}
use Rattle.updr_model.specs.Texts.{IsFault, of_tokens, of_tree, of_meaning, RefusesText, words_at}

-- a content is short, also where there is none
pub short_content : (xs : Contents) → All (λ (bytes : List ℕ). length bytes ≤ limit) xs → length (content_at xs 0) < 2 ^ 32
short_content [] all = omega arith
short_content (b ∷ bs) all = let h : length b ≤ 1048576 = All-head (λ (bytes : List ℕ). length bytes ≤ limit) b bs all in omega (arith, h)

-- ---- the statuses of faults

one_of_parse : (bytes : List ℕ) (f : ParseFault) (t : Telling) → parse_telling bytes f ≡ Some t → (t.status ≡ status.NotRead) ⊎ (t.status ≡ status.Unsupported) ⊎ (t.status ≡ status.Sorts)
one_of_parse bytes (parse.Syntax p) t is = inl (sym (ap (status_or status.NotRead) is))
one_of_parse bytes (parse.TooDeep p) t is = inl (sym (ap (status_or status.NotRead) is))
one_of_parse bytes (parse.Unsupported s) t is = inr (inl (sym (ap (status_or status.NotRead) is)))
one_of_parse bytes parse.Memory t is = absurd cc

one_of : (bytes : List ℕ) (t : Telling) → IsFault bytes t → (t.status ≡ status.NotRead) ⊎ (t.status ≡ status.Unsupported) ⊎ (t.status ≡ status.Sorts)
one_of bytes t (of_tokens f _ is) = inl (told_status status.NotRead (lex_telling f) t is (lex_status f))
one_of bytes t (of_tree tokens f _ _ is) = one_of_parse bytes f t is
one_of bytes t (of_meaning m f _ _ is) = inr (inr (told_status status.Sorts (sort_telling f) t is (sort_status f)))

module _ {L : Type 0} where
  -- a refused text ends by the row of its first fault
  fault_ends : (contents : Contents) (e : End L) → RefusesText (content_at contents 0) e → Ends (fault_rows {L = L}) contents e
  fault_ends contents e h = of (one_of (content_at contents 0) h.telling h.fault)
    where
      end_is : (s : Status) → h.telling.status ≡ s → e ≡ refusal s (words_at (content_at contents 0) h.telling)
      end_is s is = h.is ∙ ap (λ (s : Status). refusal {L = L} s (words_at (content_at contents 0) h.telling)) is

      of : (h.telling.status ≡ status.NotRead) ⊎ (h.telling.status ≡ status.Unsupported) ⊎ (h.telling.status ≡ status.Sorts) → Ends (fault_rows {L = L}) contents e
      of (inl is) = inl (record { comes = (h.telling, h.fault, is); bytes = words_at (content_at contents 0) h.telling; left = None; says = (h.telling, h.fault, is, refl); is = end_is status.NotRead is })
      of (inr (inl is)) = inr (inl (record { comes = (h.telling, h.fault, is); bytes = words_at (content_at contents 0) h.telling; left = None; says = (h.telling, h.fault, is, refl); is = end_is status.Unsupported is }))
      of (inr (inr is)) = inr (inr (inl (record { comes = (h.telling, h.fault, is); bytes = words_at (content_at contents 0) h.telling; left = None; says = (h.telling, h.fault, is, refl); is = end_is status.Sorts is })))

  pub text_ends : (contents : Contents) (rows : List (Row Given L)) (e : End L) → RefusesText (content_at contents 0) e → Ends (over_model rows) contents e
  text_ends contents rows e h = refusal_ends MeansGiven contents fault_rows rows e (fault_ends contents e h)

  pub given_ends : (contents : Contents) (g : Given) → MeansGiven contents g → (rows : List (Row Given L)) (e : End L) → Ends rows g e → Ends (over_model rows) contents e
  given_ends contents g means rows e h = meaning_ends MeansGiven contents fault_rows g means rows e h

  -- a text that is made ends as one that was read
  pub made_ends : (text : List ℕ) (contents : Contents) (rows : List (Row Given L)) (e : End L) → Ends (over_model rows) (text ∷ []) e → Ends (over_text text rows) contents e
  made_ends text contents rows e h = meaning_ends (λ (x : Contents) (made : Contents). made ≡ text ∷ []) contents [] (text ∷ []) refl (over_model rows) e h

  -- so does a system that isn't stratified
  pub cycle_ends : (p : Purpose) (g : Given) (rows : List (Row Given L)) (e : End L) → RefusesSystem p g.meant.sys g.meant.names e → Ends (if_stratified p rows) g e
  cycle_ends p g rows e h =
      refusal_ends (IsStratifiedGiven p) g (cycle_row p ∷ []) rows e
      (inl (record { comes = h.unstratified.unstratified; bytes = unstratified_words g.meant.names h.cycle; left = None; says = (h.cycle, h.unstratified, refl); is = h.is }))

  pub order_ends : (p : Purpose) (g : Given) → IsStratifiedGiven p g g → (rows : List (Row Given L)) (e : End L) → Ends rows g e → Ends (if_stratified p rows) g e
  order_ends p g is rows e h = meaning_ends (IsStratifiedGiven p) g (cycle_row p ∷ []) g is rows e h
