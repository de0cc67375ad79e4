-- How a search ends.
use Rattle.std.proofs.Common.{◌≡◌, ◌∙◌, ℕ, List, [], ◌∷◌, Some, length, get_or, inl, inr, refl, sym, subst, arith}
use Rattle.std.specs.Prelude.{slice_index_or}
use Rattle.std.proofs.lemmas.List.{get_or_default}
use Rattle.fo_core.specs.declared.query.TheConstants.{MOST_WEIGHT}
use Rattle.pyv_sorts.specs.declared.model.Elaborated.{Elaborated}
use Rattle.up_claims.specs.declared.verdict.Verdict.{Verdict}
use Rattle.up_claims.specs.declared.verdict.Verdict.TheVariants as V
use Rattle.up_machine.specs.declared.limits.Limits.{Limits}
use Rattle.up_machine.specs.declared.limits.TheConstants.{MOST_WORKERS, MOST_SEATS, MOST_FRAMES, MOST_STEPS}
use Rattle.up_machine.specs.Ranges.{AreInRange, IsFrom1}
use Rattle.up_machine.specs.Told.{Told}
use Rattle.up_core.specs.View.{CoreView}
use Rattle.updr_told.specs.Ends.{End, printing}
use Rattle.updr_told.specs.declared.status.Status.{Status}
use Rattle.updr_told.specs.declared.status.Status.TheVariants as status
use Rattle.updr_words.specs.Jobs.{AreInRange as AreOptionsInRange}
use Rattle.updr_table.specs.Rows.{Contents, Ends, EndsBy, end_of}
use Rattle.updr_model.specs.OnModel.{Given}
use Rattle.updr_top.specs.Infer.{infer_form}
use Rattle.updr_top.specs.OneStatus.{status_of}
use Rattle.updr_top.specs.Tellings.{IsReportOf, Printing, Running, search_table, told_row}

-- the options of words are limits in range
pub in_range : (ns : List ℕ) → AreOptionsInRange infer_form.numbers ns
    → AreInRange (record { workers = slice_index_or ns 0 0; batch = slice_index_or ns 1 0; frames = slice_index_or ns 2 0; steps = slice_index_or ns 3 0; weight = slice_index_or ns 4 0 })
in_range [] h = absurd h
in_range (w ∷ []) h = absurd h.1
in_range (w ∷ b ∷ []) h = absurd h.1.1
in_range (w ∷ b ∷ f ∷ []) h = absurd h.1.1.1
in_range (w ∷ b ∷ f ∷ s ∷ []) h = absurd h.1.1.1.1
in_range (w ∷ b ∷ f ∷ s ∷ x ∷ more) h = record {
  workers = record { low = h.0.0; high = h.0.1 };
  batch = record { low = h.1.0.0; high = h.1.0.1 };
  frames = record { low = h.1.1.0.0; high = h.1.1.0.1 };
  steps = record { low = h.1.1.1.0.0; high = h.1.1.1.0.1 };
  weight = record { low = h.1.1.1.1.0.0; high = h.1.1.1.1.0.1 };
}

-- so are numbers that were read off them
pub read_range : (ns : List ℕ) → length ns ≡ 5 → AreOptionsInRange infer_form.numbers ns → (w b f s x : ℕ) (d e g h i : ℕ)
    → w ≡ get_or ns 0 d → b ≡ get_or ns 1 e → f ≡ get_or ns 2 g → s ≡ get_or ns 3 h → x ≡ get_or ns 4 i
    → AreInRange (record { workers = w; batch = b; frames = f; steps = s; weight = x })
read_range ns five ranges w b f s x d e g h i is_w is_b is_f is_s is_x =
    let r = in_range ns ranges in record {
      workers = subst (IsFrom1 MOST_WORKERS) (sym (is_w ∙ get_or_default ns 0 d 0 (omega (arith, five)))) r.workers;
      batch = subst (IsFrom1 MOST_SEATS) (sym (is_b ∙ get_or_default ns 1 e 0 (omega (arith, five)))) r.batch;
      frames = subst (IsFrom1 MOST_FRAMES) (sym (is_f ∙ get_or_default ns 2 g 0 (omega (arith, five)))) r.frames;
      steps = subst (IsFrom1 MOST_STEPS) (sym (is_s ∙ get_or_default ns 3 h 0 (omega (arith, five)))) r.steps;
      weight = subst (IsFrom1 MOST_WEIGHT) (sym (is_x ∙ get_or_default ns 4 i 0 (omega (arith, five)))) r.weight;
    }

module _ (Ran : Running) (printing_of : Printing) (limits : Limits) (meant : Elaborated) (cs : Contents) (core : CoreView) (ran : Ran meant.sys core.order limits core) (text : List ℕ) (e : End CoreView) where
  abbrev given : Given
  given = record { meant = meant; contents = cs }

  module _ (told : Verdict) (tells : Told meant.sys core.history told) (text_is : text ≡ printing_of meant core told) where
    by_row : (of : Status) → status_of told ≡ of → e ≡ end_of of text (Some core) → EndsBy (told_row Ran printing_of limits of) given e
    by_row of status_is is = record {
      comes = record { core = core; ran = ran; verdict = told; told = tells; status_is = status_is };
      bytes = text;
      left = Some core;
      says = record { core = core; left_is = refl; ran = ran; verdict = told; told = tells; status_is = status_is; text_is = text_is };
      is = is;
    }

  -- what is printed of what is told is an end by a row of the table
  pub search_ends : (told : Verdict) → Told meant.sys core.history told → text ≡ printing_of meant core told → e ≡ printing (status_of told) text (Some core) → Ends (search_table Ran printing_of limits) given e
  search_ends (V.Safe frame clauses) tells text_is is = inl (by_row (V.Safe frame clauses) tells text_is status.Holds refl is)
  search_ends (V.Unsafe run) tells text_is is = inr (inl (by_row (V.Unsafe run) tells text_is status.Unsafe refl is))
  search_ends (V.NoUniversal links) tells text_is is = inr (inr (inl (by_row (V.NoUniversal links) tells text_is status.NoUniversal refl is)))
  search_ends (V.Bounded last clauses leaves) tells text_is is = inr (inr (inr (inl (by_row (V.Bounded last clauses leaves) tells text_is status.Bounded refl is))))
  search_ends (V.Spent steps) tells text_is is = inr (inr (inr (inr (inl (by_row (V.Spent steps) tells text_is status.Spent refl is)))))
  search_ends (V.Over kind weight) tells text_is is = inr (inr (inr (inr (inr (inl (by_row (V.Over kind weight) tells text_is status.Over refl is))))))
  search_ends (V.NoRun steps) tells text_is is = inl (by_row (V.NoRun steps) tells text_is status.Holds refl is)

-- so is a report of a machine that was run in this way
pub report_ends : (Ran : Running) (printing_of : Printing) (limits : Limits) (meant : Elaborated) (cs : Contents) (core : CoreView) → Ran meant.sys core.order limits core → (e : End CoreView) → IsReportOf printing_of meant core e
    → Ends (search_table Ran printing_of limits) (record { meant = meant; contents = cs }) e
report_ends Ran printing_of limits meant cs core ran e r =
    search_ends Ran printing_of limits meant cs core ran (printing_of meant core r.verdict) e r.verdict r.told refl r.is
