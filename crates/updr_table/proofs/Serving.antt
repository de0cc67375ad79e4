-- What a command may end as, by how far its call came.
use Rattle.std.proofs.Common.{◌≡◌, ◌⊎◌, ◌≤◌, ◌∙◌, ℕ, suc, List, [], ◌∷◌, Result, Ok, Err, length, sym, subst, ap, refl, inl, inr}
use Rattle.updr_told.specs.Ends.{End, out_of_memory, usage}
use Rattle.updr_words.specs.Forms.{Form}
use Rattle.updr_words.specs.Jobs.{IsJob, Job}
use Rattle.std.proofs.lemmas.List.{length-map}
use Rattle.std.proofs.lemmas.List.Elements.{All-nil, All-cons}
use Rattle.std.specs.List.{All, AllZip}
use Rattle.pv_base.specs.Reading.{limit}
use Rattle.updr_words.proofs.OneJob.{in_range}
use Rattle.updr_table.specs.Commands.{Command, MayEndBy, Suits}
use Rattle.updr_table.specs.Outside.{AreContents, Outside, RefusesFirst}
use Rattle.updr_table.specs.Rows.{Ends}
use Rattle.updr_told.specs.Stops.{ComesAs, IfRefused, end_of_call}
use Rattle.updr_told.specs.declared.stop.Stop.{Stop}
use Rattle.updr_told.specs.declared.stop.Stop.TheVariants.{Refused, Memory}

-- ends of one kind are ends of a wider kind
pub wider_ends : {L : Type 0} (P Q : End L → Type 0) → ((end : End L) → P end → Q end) → (r : Result (End L) (Stop L)) → ComesAs P r → ComesAs Q r
wider_ends P Q so (Ok told) h = so told h
wider_ends P Q so (Err (Refused told)) h = so told h
wider_ends P Q so (Err Memory) h = tt

-- what a stage refuses is an end of the whole
pub refused_ends : {L : Type 0} (T : Type 0) (P Q : End L → Type 0) → ((end : End L) → P end → Q end) → (s : Stop L) → IfRefused {L = L} {T = T} (Err s) P → ComesAs Q (Err s)
refused_ends T P Q so (Refused told) h = so told h
refused_ends T P Q so Memory h = tt

-- the end that is to be told is of the kind that the call comes to, or is want of memory
pub told_end : {L : Type 0} (P : End L → Type 0) (r : Result (End L) (Stop L)) → ComesAs P r → P (end_of_call r) ⊎ (end_of_call r ≡ out_of_memory)
told_end P (Ok told) h = inl h
told_end P (Err (Refused told)) h = inl h
told_end P (Err Memory) h = inr refl

pub same_length : {A B : Type 0} (R : A → B → Type 0) (xs : List A) (ys : List B) → AllZip R xs ys → length xs ≡ length ys
same_length R [] [] p = refl
same_length R [] (y ∷ ys) p = absurd p
same_length R (x ∷ xs) [] p = absurd p
same_length R (x ∷ xs) (y ∷ ys) p = ap (λ (n : ℕ). suc n) (same_length R xs ys p.1)

-- no content that was read is longer than a file may be
all_short : (o : Outside) (names contents : List (List ℕ)) → AreContents o names contents → All (λ (bytes : List ℕ). length bytes ≤ limit) contents
all_short o [] [] are = All-nil (λ (bytes : List ℕ). length bytes ≤ limit)
all_short o [] (b ∷ bs) are = absurd are
all_short o (n ∷ ns) [] are = absurd are
all_short o (n ∷ ns) (b ∷ bs) are = All-cons (λ (bytes : List ℕ). length bytes ≤ limit) b bs are.0.within (all_short o ns bs are.1)

-- a job of a form, and the contents of its files, suit the form
pub suits : (form : Form) (words : List (List ℕ)) (job : Job) → IsJob form words job → (o : Outside) (contents : List (List ℕ)) → AreContents o job.files contents → Suits form job contents
suits form words job asked o contents are = record {
  names = sym (same_length _ form.files job.files asked.files);
  given = sym (same_length _ form.numbers job.numbers asked.numbers);
  ranges = in_range form words job asked;
  flagged = ap length asked.flags ∙ length-map form.flags _;
  all_read = sym (same_length _ job.files contents are) ∙ sym (same_length _ form.files job.files asked.files);
  short = all_short o job.files contents are;
}

module _ {L : Type 0} (c : Command L) (o : Outside) (words : List (List ℕ)) (form : Form) (is : form ≡ c.form) where
  pub refused_first : (job : Job) → IsJob form words job → (end : End L) → RefusesFirst o job.files end → MayEndBy c o words end
  refused_first job asked end h = inr (job, subst (λ (f : Form). IsJob f words job) is asked, inl h)

  pub ran : (job : Job) → IsJob form words job → (contents : List (List ℕ)) → AreContents o job.files contents → (end : End L) → Ends (c.rows job) contents end → MayEndBy c o words end
  ran job asked contents are end h = inr (job, subst (λ (f : Form). IsJob f words job) is asked, inr (contents, are, h))

  pub asks_nothing : ((job : Job) → IsJob form words job → ⊥) → (end : End L) → end ≡ usage → MayEndBy c o words end
  asks_nothing none end h = inl (λ job asked. none job (subst (λ (f : Form). IsJob f words job) (sym is) asked), h)
