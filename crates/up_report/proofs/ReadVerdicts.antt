-- Verdicts are read exactly.
use Rattle.std.proofs.Common.{◌≡◌, ℕ, true, zero, suc, ◌+◌, ◌-◌, ◌^◌, ◌<◌, ◌≤◌, List, [], ◌∷◌, ◌++◌, length, flat_map, codes, Ok, refl, sym, ap, subst, ◌∙◌, append_assoc, arith}
use Rattle.std.specs.Prelude.{slice_index_or}
use Rattle.std.specs.List.{AllByRecursion}
use Rattle.std.proofs.lemmas.List.{append-nil}
use Rattle.std.proofs.lemmas.List.Elements.{All-from_recursion, recursion_from_All}
use Rattle.fo_core.specs.declared.names.Names.{Names}
use Rattle.fo_core.specs.declared.signature.Sig.{Sig}
use Rattle.fo_core.specs.declared.world.World.{World}
use Rattle.fo_core.specs.Sorted.{IsSig}
use Rattle.fo_text.specs.Parts.{IsBetween, number_text}
use Rattle.fo_text.specs.Reading.{Read, ◌>>=◌, literal_at, number_at}
use Rattle.fo_text.specs.Texts.{NamesEach, text_of}
use Rattle.fo_text.proofs.Choices.{are_apart, exact_choice}
use Rattle.fo_text.proofs.Exact.{Exact, exact_done, exact_map, exact_then, exact_after, exact_words, exact_pair}
use Rattle.fo_text.proofs.Many.{many_text, many_words, exact_many}
use Rattle.fo_text.proofs.Numbers.{exact_number}
use Rattle.up_claims.specs.declared.kind.Kind.{Kind}
use Rattle.up_claims.specs.declared.kind.Kind.TheVariants.{Seed, Root, Before, Block, Push, Unroll}
use Rattle.up_claims.specs.declared.verdict.Kept.{Kept}
use Rattle.up_claims.specs.declared.verdict.Leave.{Leave}
use Rattle.up_claims.specs.declared.verdict.Link.{Link}
use Rattle.up_claims.specs.declared.verdict.Verdict.{Verdict}
use Rattle.up_claims.specs.declared.verdict.Verdict.TheVariants.{Safe, Unsafe, NoUniversal, Bounded, Spent, Over, NoRun}
use Rattle.up_report.specs.ClauseReading.{clause_at}
use Rattle.up_report.specs.ClauseTexts.{CanName, HasClause, clause_text}
use Rattle.up_report.specs.Ranges.{HasCopies, HasLeaves, HasVerdict}
use Rattle.up_report.specs.Reading.{links_at, clauses_at, one_clause_at, some_clauses_at, all_leaves_at, safe_at, unsafe_at, chain_at, frames_at, bounded_at, spent_at, kind_words, kind_of, over_at, no_run_at, verdict_words, other_at, ended_at, told_at, word_at, verdict_at}
use Rattle.up_report.specs.Texts.{clauses_text, links_text, leaves_text, kind_word, verdict_word, told_text}
use Rattle.fo_text.specs.Reading.{choice_at, world_of_copies_at}
use Rattle.up_report.proofs.ClauseExact.{exact_clause}
use Rattle.up_report.proofs.ReadLinks.{LinksFit, exact_world_of_copies, exact_links, to_links, from_links}
use Rattle.up_report.proofs.ReadLeaves.{LeavesFit, from_number, exact_all_leaves, all_leaves_words}

-- the place of the verdict's word
abbrev pub number_of : Verdict → ℕ
number_of (Safe frame clauses) = 0
number_of (Unsafe run) = 1
number_of (NoUniversal links) = 2
number_of (Bounded last clauses leaves) = 3
number_of (Spent steps) = 4
number_of (Over kind weight) = 5
number_of (NoRun steps) = 6

pub word_is : (v : Verdict) → verdict_word v ≡ slice_index_or verdict_words (number_of v) []
word_is (Safe frame clauses) = refl
word_is (Unsafe run) = refl
word_is (NoUniversal links) = refl
word_is (Bounded last clauses leaves) = refl
word_is (Spent steps) = refl
word_is (Over kind weight) = refl
word_is (NoRun steps) = refl

pub number_small : (v : Verdict) → number_of v < 7
number_small (Safe frame clauses) = omega arith
number_small (Unsafe run) = omega arith
number_small (NoUniversal links) = omega arith
number_small (Bounded last clauses leaves) = omega arith
number_small (Spent steps) = omega arith
number_small (Over kind weight) = omega arith
number_small (NoRun steps) = omega arith

abbrev kind_number : Kind → ℕ
kind_number Seed = 0
kind_number Root = 1
kind_number Before = 2
kind_number Block = 3
kind_number Push = 4
kind_number Unroll = 5

kind_small : (kind : Kind) → kind_number kind < 6
kind_small Seed = omega arith
kind_small Root = omega arith
kind_small Before = omega arith
kind_small Block = omega arith
kind_small Push = omega arith
kind_small Unroll = omega arith

kind_is : (kind : Kind) → kind_of (kind_number kind) ≡ kind
kind_is Seed = refl
kind_is Root = refl
kind_is Before = refl
kind_is Block = refl
kind_is Push = refl
kind_is Unroll = refl

kind_words_are : (k : ℕ) → k < 6 → (t : List ℕ) → kind_word (kind_of k) ++ (32 ∷ t) ≡ slice_index_or kind_words k [] ++ t
kind_words_are zero h t = refl
kind_words_are (suc zero) h t = refl
kind_words_are (suc (suc zero)) h t = refl
kind_words_are (suc (suc (suc zero))) h t = refl
kind_words_are (suc (suc (suc (suc zero)))) h t = refl
kind_words_are (suc (suc (suc (suc (suc zero))))) h t = refl
kind_words_are (suc (suc (suc (suc (suc (suc k)))))) h t = absurd (omega (arith, h))

exact_steps : (least most : ℕ) → least ≤ most → most < 2 ^ 64 → Exact (IsBetween least most) (number_text 10) (number_at least most 10)
exact_steps least most range small = exact_number least most 10 (record { range = range; small = small; ends = omega arith })

module _ (sig : Sig) (names : Names) (is_sig : IsSig sig) (can : CanName sig names) where
  named : NamesEach sig names
  named = record { sorts = can.sorts.one_each; symbols = can.symbols.one_each }

  -- a verdict of the word of this number, with a text
  abbrev pub Of : ℕ → Verdict → Type 0
  Of k v = (number_of v ≡ k) × HasVerdict sig v

  -- ---- clauses

  abbrev pub Clauses : ℕ → ℕ → List Kept → Type 0
  Clauses least most cs = AllByRecursion (HasClause sig least most) cs

  abbrev pub apart : List ℕ → Type 0
  apart stop = are_apart (stop ∷ codes "clause " ∷ []) ≡ true

  exact_clauses : (least most : ℕ) (stop : List ℕ) → least ≤ most → most < 2 ^ 64 → apart stop → Exact (Clauses least most) (λ cs. clauses_text names cs ++ stop) (clauses_at sig names least most stop)
  exact_clauses least most stop range small differ =
      let Fits : Kept → Type 0 = HasClause sig least most in
      let text : Kept → List ℕ = clause_text names in
      let item : List ℕ → Read Kept = clause_at sig names least most in
      let go = codes "clause " in
      exact_words (Clauses least most) (Clauses least most) (many_text Fits text item stop go) (λ cs. clauses_text names cs ++ stop) (clauses_at sig names least most stop) (clauses_at sig names least most stop)
      (λ bytes. refl) (λ cs h. (h, sym (many_words Fits text item stop go cs))) (λ cs h. h)
      (exact_many Fits text item stop go differ (exact_clause sig names can least most range small))

  record OneClause (least most : ℕ) (cs : List Kept) : Type 0 where
    pub one : length cs ≡ 1
    pub are : Clauses least most cs

  exact_one_clause : (least most : ℕ) → least ≤ most → most < 2 ^ 64 → Exact (OneClause least most) (clauses_text names) (one_clause_at sig names least most)
  unfolding one_clause_at
  exact_one_clause least most range small =
      let item : List ℕ → Read (List Kept) = λ bytes. clause_at sig names least most bytes >>= λ x. Ok (x.0 ∷ [], x.1) in
      let text : List Kept → List ℕ = λ cs. flat_map (clause_text names) cs in
      let made = exact_map (HasClause sig least most) (clause_text names) (clause_at sig names least most) (OneClause least most) text item (λ kept. kept ∷ [])
      (λ bytes. refl) (λ kept h. (record { one = refl; are = (h, tt) }, append-nil (clause_text names kept))) back (exact_clause sig names can least most range small) in
      exact_words (OneClause least most) (OneClause least most) (λ cs. codes "clause " ++ text cs) (clauses_text names) (one_clause_at sig names least most) (one_clause_at sig names least most) (λ bytes. refl)
      (λ cs h. (h, words cs h.one)) (λ cs h. h) (exact_after (OneClause least most) text item (codes "clause ") made)
    where
      back : (cs : List Kept) → OneClause least most cs → (kept : Kept) × HasClause sig least most kept × (kept ∷ [] ≡ cs)
      back [] h = absurd (omega (arith, h.one))
      back (kept ∷ []) h = (kept, h.are.0, refl)
      back (kept ∷ other ∷ cs) h = absurd (omega (arith, h.one))

      words : (cs : List Kept) → length cs ≡ 1 → clauses_text names cs ≡ codes "clause " ++ flat_map (clause_text names) cs
      words [] h = absurd (omega (arith, h))
      words (kept ∷ []) h = append_assoc (codes "clause ") (clause_text names kept) []
      words (kept ∷ other ∷ cs) h = absurd (omega (arith, h))

  pub record SomeClauses (least most : ℕ) (cs : List Kept) : Type 0 where
    pub some : 1 ≤ length cs
    pub are : Clauses least most cs

  pub exact_some_clauses : (least most : ℕ) (stop : List ℕ) → least ≤ most → most < 2 ^ 64 → apart stop → Exact (SomeClauses least most) (λ cs. clauses_text names cs ++ stop) (some_clauses_at sig names least most stop)
  unfolding some_clauses_at
  exact_some_clauses least most stop range small differ =
      exact_pair (OneClause least most) (clauses_text names) (one_clause_at sig names least most) (λ one. Clauses least most) (λ one cs. clauses_text names cs ++ stop) (λ one. clauses_at sig names least most stop)
      (SomeClauses least most) (λ cs. clauses_text names cs ++ stop) (some_clauses_at sig names least most stop) (λ one cs. one ++ cs)
      (λ bytes. refl) fits back (exact_one_clause least most range small) (λ one h. exact_clauses least most stop range small differ)
    where
      fits : (one cs : List Kept) → OneClause least most one → Clauses least most cs → SomeClauses least most (one ++ cs) × (clauses_text names (one ++ cs) ++ stop ≡ clauses_text names one ++ (clauses_text names cs ++ stop))
      fits [] cs h k = absurd (omega (arith, h.one))
      fits (kept ∷ []) cs h k =
          let line = codes "clause " ++ clause_text names kept in
          (record { some = omega arith; are = (h.are.0, k) }, append_assoc line (clauses_text names cs) stop ∙ ap (λ (l : List ℕ). l ++ (clauses_text names cs ++ stop)) (sym (append-nil line)))
      fits (kept ∷ other ∷ more) cs h k = absurd (omega (arith, h.one))

      back : (cs : List Kept) → SomeClauses least most cs → (one : List Kept) × (more : List Kept) × OneClause least most one × Clauses least most more × (one ++ more ≡ cs)
      back [] h = absurd (omega (arith, h.some))
      back (kept ∷ cs) h = (kept ∷ [], cs, record { one = refl; are = (h.are.0, tt) }, h.are.1, refl)

  pub some_are_read : (last : ℕ) → last ≤ 64 → (bytes : List ℕ) (cs : List Kept) (rest : List ℕ) → some_clauses_at sig names 1 (last + 1) (codes "leave 1 ") bytes ≡ Ok (cs, rest) → 1 ≤ length cs
  some_are_read last few bytes cs rest e = ((exact_some_clauses 1 (last + 1) (codes "leave 1 ") (omega arith) (omega (arith, few)) refl).takes bytes cs rest e).1.some

  -- ---- safe

  -- up to the word of the last lines
  abbrev ended : Verdict → List ℕ
  ended v = told_text sig names v ++ codes "numbers "

  exact_safe : Exact (Of 0) ended (safe_at sig names)
  unfolding safe_at
  exact_safe =
      exact_pair (IsBetween 1 64) (number_text 10) (number_at 1 64 10) (λ frame. Clauses (frame + 1) 65) (λ frame cs. clauses_text names cs ++ codes "numbers ") (λ frame. clauses_at sig names (frame + 1) 65 (codes "numbers "))
      (Of 0) ended (safe_at sig names) Safe
      (λ bytes. refl) (λ frame cs h k. ((refl, (h, All-from_recursion (HasClause sig (frame + 1) 65) cs k)), append_assoc (number_text 10 frame) (clauses_text names cs) (codes "numbers ")))
      back (exact_steps 1 64 (omega arith) (omega arith)) (λ frame h. exact_clauses (frame + 1) 65 (codes "numbers ") (omega (arith, h.1)) (omega arith) refl)
    where
      back : (v : Verdict) → Of 0 v → (frame : ℕ) × (cs : List Kept) × IsBetween 1 64 frame × Clauses (frame + 1) 65 cs × (Safe frame cs ≡ v)
      back (Safe frame cs) h = (frame, cs, h.1.0, recursion_from_All (HasClause sig (frame + 1) 65) cs h.1.1, refl)
      back other h = absurd (omega (arith, h.0))

  -- ---- unsafe

  exact_unsafe : Exact (Of 1) (told_text sig names) (unsafe_at sig names)
  unfolding unsafe_at
  exact_unsafe =
      exact_pair (IsBetween 0 64) (number_text 10) (number_at 0 64 10) (λ steps. HasCopies sig (steps + 1)) (λ steps. text_of sig names) (λ steps. world_of_copies_at sig names (steps + 1))
      (Of 1) (told_text sig names) (unsafe_at sig names) (λ steps. Unsafe)
      (λ bytes. refl) fits back (exact_steps 0 64 (omega arith) (omega arith)) (λ steps h. exact_world_of_copies sig names is_sig named (steps + 1) (omega arith) (omega (arith, h.1)))
    where
      fits : (steps : ℕ) (run : World) → IsBetween 0 64 steps → HasCopies sig (steps + 1) run → Of 1 (Unsafe run) × (told_text sig names (Unsafe run) ≡ number_text 10 steps ++ text_of sig names run)
      fits steps run h k =
          let e : length run.copies - 1 ≡ steps = omega (arith, k.1) in
          ((refl, (k.0, omega (arith, h.1, k.1))), ap (λ (n : ℕ). number_text 10 n ++ text_of sig names run) e)

      back : (v : Verdict) → Of 1 v → (steps : ℕ) × (run : World) × IsBetween 0 64 steps × HasCopies sig (steps + 1) run × (Unsafe run ≡ v)
      back (Unsafe run) h = (length run.copies - 1, run, (omega arith, omega (arith, h.1.1)), (h.1.0, omega (arith, h.1.0.fits.some_copy)), refl)
      back other h = absurd (omega (arith, h.0))

  -- ---- a chain

  exact_chain : Exact (Of 2) (told_text sig names) (chain_at sig names)
  unfolding chain_at
  exact_chain =
      exact_pair (IsBetween 0 64) (number_text 10) (number_at 0 64 10) (λ steps. LinksFit sig (steps + 1) 1) (λ steps. links_text sig names) (λ steps. links_at sig names (steps + 1) 1)
      (Of 2) (told_text sig names) (chain_at sig names) (λ steps. NoUniversal)
      (λ bytes. refl) fits back (exact_steps 0 64 (omega arith) (omega arith)) (λ steps h. exact_links sig names is_sig named (steps + 1) 1 (omega arith) (omega arith))
    where
      fits : (steps : ℕ) (links : List Link) → IsBetween 0 64 steps → LinksFit sig (steps + 1) 1 links → Of 2 (NoUniversal links) × (told_text sig names (NoUniversal links) ≡ number_text 10 steps ++ links_text sig names links)
      fits steps links h k =
          let t = to_links sig names is_sig named (steps + 1) links (omega arith) k in
          let e : length links - 1 ≡ steps = omega (arith, t.1) in
          ((refl, (t.0, omega (arith, h.1, t.1))), ap (λ (n : ℕ). number_text 10 n ++ links_text sig names links) e)

      back : (v : Verdict) → Of 2 v → (steps : ℕ) × (links : List Link) × IsBetween 0 64 steps × LinksFit sig (steps + 1) 1 links × (NoUniversal links ≡ v)
      back (NoUniversal links) h =
          let t = from_links sig names is_sig named links h.1.0 in
          let e : length links ≡ length links - 1 + 1 = omega (arith, t.0) in
          (length links - 1, links, (omega arith, omega (arith, h.1.1)), subst (λ (n : ℕ). LinksFit sig n 1 links) e t.1, refl)
      back other h = absurd (omega (arith, h.0))

  -- ---- frames

  -- the clauses and leaves of the frames up to this one
  abbrev FramesFit : ℕ → Verdict → Type 0
  FramesFit last (Bounded n cs leaves) = (n ≡ last) × SomeClauses 1 (last + 1) cs × LeavesFit sig (length cs) last 1 leaves
  FramesFit last _ = ⊥

  abbrev frames_text : Verdict → List ℕ
  frames_text (Bounded n cs leaves) = clauses_text names cs ++ leaves_text sig names leaves
  frames_text _ = []

  exact_frames : (last : ℕ) → IsBetween 1 64 last → Exact (FramesFit last) frames_text (frames_at sig names last)
  unfolding frames_at
  exact_frames last range =
      exact_pair (SomeClauses 1 (last + 1)) (λ cs. clauses_text names cs ++ codes "leave 1 ") (some_clauses_at sig names 1 (last + 1) (codes "leave 1 "))
      (λ cs. LeavesFit sig (length cs) last 1) (λ cs. from_number sig names) (λ cs. all_leaves_at sig names (length cs) last)
      (FramesFit last) frames_text (frames_at sig names last) (Bounded last)
      (λ bytes. refl) fits back (exact_some_clauses 1 (last + 1) (codes "leave 1 ") (omega arith) (omega (arith, range.1)) refl) (λ cs h. exact_all_leaves sig names is_sig named (length cs) h.some last range.0)
    where
      fits : (cs : List Kept) (leaves : List Leave) → SomeClauses 1 (last + 1) cs → LeavesFit sig (length cs) last 1 leaves → FramesFit last (Bounded last cs leaves) × (clauses_text names cs ++ leaves_text sig names leaves ≡ (clauses_text names cs ++ codes "leave 1 ") ++ from_number sig names leaves)
      fits cs leaves h k = (
        (refl, h, k),
        ap (λ (l : List ℕ). clauses_text names cs ++ l) (all_leaves_words sig names is_sig named (length cs) h.some leaves (omega (arith, k.0, range.0)) k.1)
            ∙ sym (append_assoc (clauses_text names cs) (codes "leave 1 ") (from_number sig names leaves)),
      )

      back : (v : Verdict) → FramesFit last v → (cs : List Kept) × (leaves : List Leave) × SomeClauses 1 (last + 1) cs × LeavesFit sig (length cs) last 1 leaves × (Bounded last cs leaves ≡ v)
      back (Bounded n cs leaves) h = (cs, leaves, h.1, h.2, ap (λ (m : ℕ). Bounded m cs leaves) (sym h.0))
      back other h = absurd h

  some_clause : (count : ℕ) (leaves : List Leave) → 1 ≤ length leaves → HasLeaves sig count 1 leaves → 1 ≤ count
  some_clause count [] h k = absurd (omega (arith, h))
  some_clause count (leave ∷ leaves) h k = omega (arith, k.0.clause)

  exact_bounded : Exact (Of 3) (told_text sig names) (bounded_at sig names)
  unfolding bounded_at
  exact_bounded =
      exact_then (IsBetween 1 64) (number_text 10) (number_at 1 64 10) FramesFit (λ last. frames_text) (frames_at sig names)
      (Of 3) (told_text sig names) (bounded_at sig names) (λ bytes. refl) joins parts (exact_steps 1 64 (omega arith) (omega arith)) exact_frames
    where
      joins : (last : ℕ) (v : Verdict) → IsBetween 1 64 last → FramesFit last v → Of 3 v × (told_text sig names v ≡ number_text 10 last ++ frames_text v)
      joins last (Bounded n cs leaves) range h =
          subst (λ (m : ℕ). Of 3 (Bounded m cs leaves) × (told_text sig names (Bounded m cs leaves) ≡ number_text 10 last ++ frames_text (Bounded m cs leaves))) (sym h.0)
          ((refl, record { last_is = range; clauses_are = All-from_recursion (HasClause sig 1 (last + 1)) cs h.1.are; one_each = h.2.0; leaves_are = h.2.1 }), refl)
      joins last other range h = absurd h

      parts : (v : Verdict) → Of 3 v → (last : ℕ) × IsBetween 1 64 last × FramesFit last v
      parts (Bounded n cs leaves) h =
          let f = h.1 in
          let some = some_clause (length cs) leaves (omega (arith, f.one_each, f.last_is.0)) f.leaves_are in
          (n, f.last_is, (refl, record { some = some; are = recursion_from_All (HasClause sig 1 (n + 1)) cs f.clauses_are }, (f.one_each, f.leaves_are)))
      parts other h = absurd (omega (arith, h.0))

  -- ---- spent, over, no run

  exact_spent : Exact (Of 4) (told_text sig names) spent_at
  unfolding spent_at
  exact_spent =
      exact_map (IsBetween 0 (2 ^ 32 - 1)) (number_text 10) (number_at 0 (2 ^ 32 - 1) 10) (Of 4) (told_text sig names) spent_at Spent
      (λ bytes. refl) (λ n h. ((refl, omega (arith, h.1)), refl)) back (exact_steps 0 (2 ^ 32 - 1) (omega arith) (omega arith))
    where
      back : (v : Verdict) → Of 4 v → (n : ℕ) × IsBetween 0 (2 ^ 32 - 1) n × (Spent n ≡ v)
      back (Spent steps) h = (steps, (omega arith, omega (arith, h.1)), refl)
      back other h = absurd (omega (arith, h.0))

  exact_over : Exact (Of 5) (told_text sig names) over_at
  unfolding over_at
  exact_over =
      exact_pair (λ k. k < 6) (λ k. slice_index_or kind_words k []) (choice_at [] [] kind_words) (λ k. IsBetween 0 (2 ^ 64 - 1)) (λ k. number_text 10) (λ k. number_at 0 (2 ^ 64 - 1) 10)
      (Of 5) (told_text sig names) over_at (λ k. Over (kind_of k))
      (λ bytes. refl) (λ k weight h g. ((refl, omega (arith, g.1)), kind_words_are k h (number_text 10 weight))) back
      (exact_choice (codes "seed ") (codes "root " ∷ codes "before " ∷ codes "block " ∷ codes "push " ∷ codes "unroll " ∷ []) refl) (λ k h. exact_steps 0 (2 ^ 64 - 1) (omega arith) (omega arith))
    where
      back : (v : Verdict) → Of 5 v → (k : ℕ) × (weight : ℕ) × (k < 6) × IsBetween 0 (2 ^ 64 - 1) weight × (Over (kind_of k) weight ≡ v)
      back (Over kind weight) h = (kind_number kind, weight, kind_small kind, (omega arith, omega (arith, h.1)), ap (λ (k : Kind). Over k weight) (kind_is kind))
      back other h = absurd (omega (arith, h.0))

  exact_no_run : Exact (Of 6) (told_text sig names) no_run_at
  unfolding no_run_at
  exact_no_run =
      exact_map (IsBetween 0 64) (number_text 10) (number_at 0 64 10) (Of 6) (told_text sig names) no_run_at NoRun
      (λ bytes. refl) (λ n h. ((refl, h.1), refl)) back (exact_steps 0 64 (omega arith) (omega arith))
    where
      back : (v : Verdict) → Of 6 v → (n : ℕ) × IsBetween 0 64 n × (NoRun n ≡ v)
      back (NoRun steps) h = (steps, (omega arith, h.1), refl)
      back other h = absurd (omega (arith, h.0))

  -- ---- all

  abbrev closed : (List ℕ → Read Verdict) → List ℕ → Read Verdict
  closed read bytes = read bytes >>= λ told. literal_at (codes "numbers ") told.1 >>= λ rest. Ok (told.0, rest)

  exact_closed : (Fits : Verdict → Type 0) (read : List ℕ → Read Verdict) → Exact Fits (told_text sig names) read → Exact Fits ended (closed read)
  exact_closed Fits read exact =
      exact_then Fits (told_text sig names) read (λ v w. w ≡ v) (λ v w. codes "numbers " ++ []) (λ v bytes. literal_at (codes "numbers ") bytes >>= λ rest. Ok (v, rest))
      Fits ended (closed read) (λ bytes. refl)
      (λ v w h e. (subst Fits (sym e) h, ap ended e)) (λ v h. (v, h, refl))
      exact (λ v h. exact_after (λ w. w ≡ v) (λ w. []) (λ bytes. Ok (v, bytes)) (codes "numbers ") (exact_done v))

  exact_told : (k : ℕ) → k < 7 → Exact (Of k) ended (told_at sig names k)
  unfolding told_at ended_at other_at
  exact_told zero h = exact_safe
  exact_told (suc zero) h = exact_closed (Of 1) (unsafe_at sig names) exact_unsafe
  exact_told (suc (suc zero)) h = exact_closed (Of 2) (chain_at sig names) exact_chain
  exact_told (suc (suc (suc zero))) h = exact_closed (Of 3) (bounded_at sig names) exact_bounded
  exact_told (suc (suc (suc (suc zero)))) h = exact_closed (Of 4) spent_at exact_spent
  exact_told (suc (suc (suc (suc (suc zero))))) h = exact_closed (Of 5) over_at exact_over
  exact_told (suc (suc (suc (suc (suc (suc zero)))))) h = exact_closed (Of 6) no_run_at exact_no_run
  exact_told (suc (suc (suc (suc (suc (suc (suc k))))))) h = absurd (omega (arith, h))

  -- from the first line up to the word of the last ones
  abbrev pub to_numbers : Verdict → List ℕ
  to_numbers v = codes "report 1\nverdict " ++ (verdict_word v ++ ended v)

  pub exact_verdict : Exact (HasVerdict sig) to_numbers (verdict_at sig names)
  unfolding verdict_at word_at
  exact_verdict =
      let words : Verdict → List ℕ = λ v. verdict_word v ++ ended v in
      let read : List ℕ → Read Verdict = λ bytes. choice_at [] [] verdict_words bytes >>= λ kind. told_at sig names kind.0 kind.1 in
      let told = exact_then (λ k. k < 7) (λ k. slice_index_or verdict_words k []) (choice_at [] [] verdict_words) Of (λ k. ended) (told_at sig names)
      (HasVerdict sig) words read (λ bytes. refl) joins (λ v h. (number_of v, number_small v, (refl, h))) (exact_choice (codes "safe ") (codes "unsafe " ∷ codes "nouniversal " ∷ codes "bounded " ∷ codes "spent " ∷ codes "over " ∷ codes "norun " ∷ []) refl) exact_told in
      exact_words (HasVerdict sig) (HasVerdict sig) (λ v. codes "report 1\nverdict " ++ words v) to_numbers (verdict_at sig names) (verdict_at sig names) (λ bytes. refl) (λ v h. (h, refl)) (λ v h. h)
      (exact_after (HasVerdict sig) words read (codes "report 1\nverdict ") told)
    where
      joins : (k : ℕ) (v : Verdict) → k < 7 → Of k v → HasVerdict sig v × (verdict_word v ++ ended v ≡ slice_index_or verdict_words k [] ++ ended v)
      joins k v h o = (o.1, ap (λ (l : List ℕ). l ++ ended v) (word_is v ∙ ap (λ (n : ℕ). slice_index_or verdict_words n []) o.0))
