-- What the commands answer follows from how they may end.
use Rattle.std.proofs.Common.{◌≡◌, ◌⊎◌, ◌∙◌, ◌<◌, ◌≤◌, ℕ, List, [], ◌∷◌, None, ap, sym, subst, inl, inr, refl, arith}
use Rattle.std.proofs.lemmas.Bool.{cases_lt}
use Rattle.pv_base.specs.Counts.{Rose}
use Rattle.updr_told.specs.Ends.{End, is_longer, out_of_memory}
use Rattle.updr_told.specs.Statuses.{number_of}
use Rattle.updr_told.specs.Telling.{IsAnswer, IsCutShort, TakesAll, Tells}
use Rattle.updr_words.specs.Jobs.{IsJob, Job}
use Rattle.updr_words.proofs.OneJob.{one_job}
use Rattle.updr_table.specs.Commands.{AreSound, AsksNothing, Command, IsNamed, IsSound, MayEnd, MayEndBy}
use Rattle.updr_table.specs.Outside.{Reading}
use Rattle.updr_table.specs.Rows.{Contents, Ends, Row}
use Rattle.updr_table.specs.Table.{Answers, AreComplete, AreTabled, Call, Completes, IsDecided, IsInPlace, IsOneOf, IsReadFault, IsServed, IsTabled, IsTelling, IsTold, IsUsage, IsWriteFault, NoneRefuses}
use Rattle.updr_table.proofs.Deciding.{decides, is_one}
use Rattle.updr_table.proofs.EndLaws.{IsOwn, IsProper, ends_proper, file_status, not_reserved, row_reserved}
use Rattle.updr_table.proofs.LongFiles.{good_read, good_same, long_end, read_fault}

-- how a call of which an end was meant came out
pub data Course {L : Type 0} (Meant : End L → Type 0) (call : Call L) : Type 0 where
  whole : (e : End L) → Meant e → call.number ≡ number_of e.status → IsTold call e → Course Meant call
  no_memory : call.number ≡ 16 → TakesAll call.out [] → call.left ≡ None → Course Meant call
  cut : (e : End L) → call.number ≡ 15 → IsCutShort e.text e.line call.out call.err → Course Meant call

module _ {L : Type 0} (call : Call L) where
  pub course : (Meant : End L → Type 0) → IsAnswer Meant call.out call.err call.number call.left → Course Meant call
  course Meant a = of a.comes a.told
    where
      of : Meant a.meant ⊎ (a.meant ≡ out_of_memory) → Tells a.meant call.out call.err call.number → Course Meant call
      of (inl comes) (inl (is, text, line)) = whole a.meant comes is (record { text = text; line = line; handed_on = a.handed_on })
      of (inr none) (inl (is, text, line)) =
          no_memory (is ∙ ap (λ (e : End L). number_of e.status) none) (subst (λ (e : End L). TakesAll call.out e.text) none text) (a.handed_on ∙ ap (λ (e : End L). e.left) none)
      of _ (inr (is, short)) = cut a.meant is short

  narrower : (P Q : End L → Type 0) → ((e : End L) → P e → Q e) → Course P call → Course Q call
  narrower P Q so (whole e meant is told) = whole e (so e meant) is told
  narrower P Q so (no_memory is text left) = no_memory is text left
  narrower P Q so (cut e is short) = cut e is short

  -- ---- one command

  module _ (c : Command L) (sound : IsSound c) (words : List (List ℕ)) where
    usage_number : Course (MayEndBy c call.files words) call → AsksNothing c words → IsUsage call.number
    usage_number (whole e (inl (_, end)) is told) nothing = inl (is ∙ ap (λ (x : End L). number_of x.status) end)
    usage_number (whole e (inr (job, asked, _)) is told) nothing = absurd (nothing job asked)
    usage_number (no_memory is _ _) nothing = inr (inr is)
    usage_number (cut e is _) nothing = inr (inl is)

    module _ (job : Job) (asked : IsJob c.form words job) where
      -- the end is one of this job's
      of_job : Course (MayEndBy c call.files words) call → Course (Reading call.files job.files (Ends (c.rows job))) call
      of_job = narrower _ _ of
        where
          of : (e : End L) → MayEndBy c call.files words e → Reading call.files job.files (Ends (c.rows job)) e
          of e (inl (nothing, _)) = absurd (nothing job asked)
          of e (inr (other, too, h)) = subst (λ (j : Job). Reading call.files j.files (Ends (c.rows j)) e) (one_job c.form words other job too asked) h

      own : (e : End L) (contents : Contents) → Ends (c.rows job) contents e → IsOwn (number_of e.status)
      own e contents h = not_reserved e.status (row_reserved (c.rows job) contents e (sound.table job) h)

      tabled : Course (Reading call.files job.files (Ends (c.rows job))) call → IsTabled c job call
      tabled (whole e (inl refused) is told) =
          let eleven : call.number ≡ 11 = is ∙ ap number_of (file_status call.files refused.name e refused.told) in
          record {
            decided = inl eleven;
            no_usage = λ ten. absurd (omega arith);
            read_fault = λ _. read_fault call job.files e told refused;
            too_long = λ long h. inl (eleven, subst (λ (x : End L). IsTold call x) (long_end call.files job.files (Ends (c.rows job)) long e h (inl refused)) told);
          }
      tabled (whole e (inr (contents, are, h)) is told) =
          let free = own e contents h in
          record {
            decided = inr (inr (record {
              contents = contents;
              are = are;
              each = decides contents e call is told (c.rows job) (sound.table job) (sound.exclusive job contents) h;
              one = is_one contents e call is told (c.rows job) h;
            }));
            no_usage = λ ten. free.no_usage (sym is ∙ ten);
            read_fault = λ eleven. absurd (free.no_read_fault (sym is ∙ eleven));
            too_long = λ long g.
                let end : e ≡ is_longer long = long_end call.files job.files (Ends (c.rows job)) long e g (inr (contents, are, h)) in
                absurd (free.no_read_fault (ap (λ (x : End L). number_of x.status) end));
          }
      tabled (no_memory is _ _) = record {
        decided = inr (inl (inr is));
        no_usage = λ ten. absurd (omega arith);
        read_fault = λ eleven. absurd (omega arith);
        too_long = λ long h. inr (inr is);
      }
      tabled (cut e is _) = record {
        decided = inr (inl (inl is));
        no_usage = λ ten. absurd (omega arith);
        read_fault = λ eleven. absurd (omega arith);
        too_long = λ long h. inr (inl is);
      }

  -- ---- completeness

  answered : (rows : List (Row Contents L)) (contents : Contents) (n : ℕ) → NoneRefuses rows contents → IsOneOf rows contents n → (n < 10) × IsOneOf rows contents n
  answered [] contents n none h = absurd h
  answered (r ∷ rs) contents n none (inl (comes, is)) = (low, inl (comes, is))
    where
      low : n < 10
      low = elim (cases_lt (number_of r.status) 10) [
        | inl below ↦ omega arith
        | inr above ↦ absurd (none.0 above comes)
      ]
  answered (r ∷ rs) contents n none (inr h) = let more = answered rs contents n none.1 h in (more.0, inr more.1)

  -- a write fault comes only where a count rose, and wherever one is greater
  module _ (write : IsWriteFault call) where
    completes : (c : Command L) (words : List (List ℕ)) → ((job : Job) → IsJob c.form words job → IsTabled c job call) → Completes c words call
    completes c words table job asked contents free = of (table job asked).decided
      where
        of : (call.number ≡ 11) ⊎ IsInPlace call.number ⊎ IsDecided (c.rows job) job.files call → (call.number ≡ 16) ⊎ ((call.number < 10) × IsOneOf (c.rows job) contents call.number)
        of (inl eleven) = absurd (unread ((table job asked).read_fault eleven))
          where
            unread : IsReadFault call job.files → ⊥
            unread (name, reached, inl (cause, _)) = free.good.quiet cause.rose
            unread (name, reached, inr (cause, _)) = good_read call.files {L = L} job.files contents name (is_longer name) free.good.told free.good.quiet reached (inr (cause, refl))
        of (inr (inl (inl fifteen))) = elim (write.only fifteen) [ inl rose ↦ absurd (free.out_quiet rose) | inr rose ↦ absurd (free.err_quiet rose) ]
        of (inr (inl (inr sixteen))) = inl sixteen
        of (inr (inr d)) =
            let same = good_same call.files job.files contents d.contents free.good.told d.are in
            inr (answered (c.rows job) contents call.number free.unrefused (subst (λ (x : Contents). IsOneOf (c.rows job) x call.number) same d.one))

  -- ---- all commands

  pub all_tabled : (cs : List (Command L)) (words : List (List ℕ)) → AreSound cs → Course (MayEnd cs call.files words) call → AreTabled cs words call
  all_tabled [] words sound (whole e end is told) = inl (is ∙ ap (λ (x : End L). number_of x.status) end)
  all_tabled [] words sound (no_memory is _ _) = inr (inr is)
  all_tabled [] words sound (cut e is _) = inr (inl is)
  all_tabled (c ∷ cs) words sound h = (own_table, λ other. all_tabled cs words sound.1 (narrower _ _ (passed other) h))
    where
      passed : ¬ IsNamed c words → (e : End L) → MayEnd (c ∷ cs) call.files words e → MayEnd cs call.files words e
      passed other e (inl (named, _)) = absurd (other named)
      passed other e (inr (_, more)) = more

      taken : IsNamed c words → (e : End L) → MayEnd (c ∷ cs) call.files words e → MayEndBy c call.files words e
      taken named e (inl (_, mine)) = mine
      taken named e (inr (other, _)) = absurd (other named)

      own_table : IsNamed c words → IsServed c words call
      own_table named =
          let mine = narrower _ _ (taken named) h in
          record {
            unread = usage_number c sound.0 words mine;
            read = λ job asked. tabled c sound.0 words job asked (of_job c sound.0 words job asked mine);
          }

  pub all_complete : (cs : List (Command L)) (words : List (List ℕ)) → IsWriteFault call → AreTabled cs words call → AreComplete cs words call
  all_complete [] words write h = tt
  all_complete (c ∷ cs) words write h = (λ named. completes write c words (h.0 named).read, λ other. all_complete cs words write (h.1 other))

  -- ---- every call

  none_greater : (a b x y : ℕ) → a ≡ b → x ≡ y → (b < a) ⊎ (y < x) → ⊥
  none_greater a b x y i j (inl l) = omega arith
  none_greater a b x y i j (inr l) = omega arith

  cut_rose : (e : End L) → IsCutShort e.text e.line call.out call.err → Rose call.out.faults call.out.faults_after ⊎ Rose call.err.faults call.err.faults_after
  cut_rose e (inl (part, _)) = inl part.rose
  cut_rose e (inr (_, part)) = inr part.rose

  pub telling : (Meant : End L → Type 0) → ((e : End L) → Meant e → IsProper e) → IsAnswer Meant call.out call.err call.number call.left → IsTelling call
  telling Meant proper a = record { silent = silent (course Meant a); nothing = nothing (course Meant a); write_fault = write a.told }
    where
      silent : Course Meant call → call.number < 10 → TakesAll call.err []
      silent (whole e meant is told) low = subst (λ (line : List ℕ). TakesAll call.err line) ((proper e meant).shaped.silent (subst (λ (n : ℕ). n < 10) is low)) told.line
      silent (no_memory is _ _) low = absurd (omega arith)
      silent (cut e is _) low = absurd (omega arith)

      nothing : Course Meant call → 10 ≤ call.number → ¬ (call.number ≡ 15) → TakesAll call.out [] × (call.left ≡ None)
      nothing (whole e meant is told) high other =
          let none = (proper e meant).shaped.nothing (subst (λ (n : ℕ). 10 ≤ n) is high) in
          (subst (λ (text : List ℕ). TakesAll call.out text) none.0 told.text, told.handed_on ∙ none.1)
      nothing (no_memory is text left) high other = (text, left)
      nothing (cut e is _) high other = absurd (other is)

      no_fifteen : Meant a.meant ⊎ (a.meant ≡ out_of_memory) → ¬ (number_of a.meant.status ≡ 15)
      no_fifteen (inl comes) = (proper a.meant comes).no_write_fault
      no_fifteen (inr none) = λ is. let sixteen : number_of a.meant.status ≡ 16 = ap (λ (e : End L). number_of e.status) none in omega arith

      write : Tells a.meant call.out call.err call.number → IsWriteFault call
      write (inl (is, text, line)) = record {
        wherever = λ greater. absurd (none_greater _ _ _ _ text.quiet line.quiet greater);
        only = λ fifteen. absurd (no_fifteen a.comes (sym is ∙ fifteen));
      }
      write (inr (is, short)) = record { wherever = λ _. is; only = λ _. cut_rose a.meant short }

  pub answers : (cs : List (Command L)) (words : List (List ℕ)) → AreSound cs → IsAnswer (MayEnd cs call.files words) call.out call.err call.number call.left → Answers cs words call
  answers cs words sound a =
      let table = all_tabled cs words sound (course (MayEnd cs call.files words) a) in
      let told = telling (MayEnd cs call.files words) (λ e h. ends_proper cs call.files words e sound h) a in
      record { answer = a; table = table; telling = told; complete = all_complete cs words told.write_fault table }
