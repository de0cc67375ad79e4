-- What the words ask, by what is read of them.
use Rattle.std.proofs.Common.{◌≡◌, ◌∙◌, ℕ, Bool, true, false, List, [], ◌∷◌, Some, length, get_or, ap, sym, subst, arith}
use Rattle.std.specs.Prelude.{slice_get}
use Rattle.up_core.specs.View.{CoreView}
use Rattle.updr_told.specs.Ends.{End}
use Rattle.updr_words.specs.Forms.{Form}
use Rattle.updr_words.specs.Jobs.{IsJob, Job}
use Rattle.updr_words.proofs.OneJob.{one_job}
use Rattle.updr_table.specs.Outside.{Outside, Reading}
use Rattle.updr_top.specs.Free.{AsksFree, EndsFreely, MayEndFreely, free_form}

one_flag : (flags : List Bool) (d given : Bool) → length flags ≡ 1 → given ≡ get_or flags 0 d → flags ≡ given ∷ []
one_flag [] d given one is = absurd (omega (arith, one))
one_flag (flag ∷ []) d given one is = ap (λ (b : Bool). b ∷ []) (sym is)
one_flag (flag ∷ other ∷ flags) d given one is = absurd (omega (arith, one))

module _ (words : List (List ℕ)) (form : Form) (is : form ≡ free_form) where
  asked_free : (job : Job) → IsJob form words job → IsJob free_form words job
  asked_free job asked = subst (λ (f : Form). IsJob f words job) is asked

  has_flag : (job : Job) → IsJob form words job → length job.flags ≡ 1
  has_flag job asked = ap length (asked_free job asked).flags

  -- words that give the option may end as their job is served
  pub may_end : slice_get words 0 ≡ Some form.name → (job : Job) → IsJob form words job → (d : Bool) → true ≡ get_or job.flags 0 d → (o : Outside) (end : End CoreView) → Reading o job.files (EndsFreely job) end → MayEndFreely o words end
  may_end named job asked d given o end h = record {
    asks = record {
      named = named ∙ ap (λ (f : Form). Some f.name) is;
      job = job;
      asked = asked_free job asked;
      given = one_flag job.flags d true (has_flag job asked) given;
    };
    comes = h;
  }

  -- words that name another command don't
  pub not_named : (slice_get words 0 ≡ Some form.name → ⊥) → AsksFree words → ⊥
  not_named other a = other (a.named ∙ ap (λ (f : Form). Some f.name) (sym is))

  -- nor do words that don't give it
  pub not_given : (job : Job) → IsJob form words job → (d : Bool) → false ≡ get_or job.flags 0 d → AsksFree words → ⊥
  not_given job asked d given a =
      let one : a.job ≡ job = one_job free_form words a.job job a.asked (asked_free job asked) in
      let flags : true ∷ [] ≡ false ∷ [] = sym a.given ∙ ap (λ (j : Job). j.flags) one ∙ one_flag job.flags d false (has_flag job asked) given in
      differ true false flags (λ (e : true ≡ false). cc)
    where
      differ : (a b : Bool) → a ∷ [] ≡ b ∷ [] → (a ≡ b → ⊥) → ⊥
      differ a b same other = other (ap (λ (l : List Bool). get_or l 0 a) same)

  -- nor words that aren't read
  pub not_read : ((job : Job) → IsJob form words job → ⊥) → AsksFree words → ⊥
  not_read none a = none a.job (subst (λ (f : Form). IsJob f words a.job) (sym is) a.asked)
